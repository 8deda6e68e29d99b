-- Lines and events, there and back.
use Rattle.std.proofs.Common.{◌≡◌, ℕ, true, false, ◌==◌, List, [], ◌∷◌, ◌++◌, Some, None, refl, sym, ap, ◌∙◌, cond}
use Rattle.std.specs.List.{list_all, list_any, before_first, after_first}
use Rattle.std.proofs.lemmas.Bool.{eqb-true, and_parts, and_from, not-true}
use Rattle.std.proofs.lemmas.List.Folds.{list_all-append}
use Rattle.spec_document.proofs.First.{before_first-at, after_first-at, before_first-none, after_first-none}
use Rattle.spec_document.specs.declared.event.Event.{Event}
use Rattle.spec_document.specs.declared.event.Event.TheVariants.{Start, Attribute, Data, Instruction, End, Comment}
use Rattle.spec_document.specs.Character.{is_char}
use Rattle.spec_document.specs.Pyx.{escape, escaped, unescaped, is_blank, event_of, event_behind, line_of, IsWritable}

-- a test that came out true tells the character
known : {A : Type 0} (f : ℕ → A) (c d : ℕ) → (c == d) ≡ true → f d ≡ f c
known f c d e = ap f (sym (eqb-true c d e))

-- one character, escaped and read
escape_reads_back : (c : ℕ) (rest : List ℕ) → unescaped (escape c ++ rest) ≡ c ∷ unescaped rest
escape_reads_back c rest =
    elim (c == 0xA) as (λ b. (c == 0xA) ≡ b
    → unescaped (cond b (0x5C ∷ 0x6E ∷ [])
    (cond (c == 0x9) (0x5C ∷ 0x74 ∷ []) (cond (c == 0xD) (0x5C ∷ 0x72 ∷ []) (cond (c == 0x5C) (0x5C ∷ 0x5C ∷ []) (c ∷ [])))) ++ rest)
    ≡ c ∷ unescaped rest) [
      | true ↦ λ e. known (λ x. x ∷ unescaped rest) c 0xA e
      | false ↦ λ _. elim (c == 0x9) as (λ b. (c == 0x9) ≡ b
          → unescaped (cond b (0x5C ∷ 0x74 ∷ []) (cond (c == 0xD) (0x5C ∷ 0x72 ∷ []) (cond (c == 0x5C) (0x5C ∷ 0x5C ∷ []) (c ∷ []))) ++ rest)
          ≡ c ∷ unescaped rest) [
            | true ↦ λ e. known (λ x. x ∷ unescaped rest) c 0x9 e
            | false ↦ λ _. elim (c == 0xD) as (λ b. (c == 0xD) ≡ b
                → unescaped (cond b (0x5C ∷ 0x72 ∷ []) (cond (c == 0x5C) (0x5C ∷ 0x5C ∷ []) (c ∷ [])) ++ rest) ≡ c ∷ unescaped rest) [
                  | true ↦ λ e. known (λ x. x ∷ unescaped rest) c 0xD e
                  | false ↦ λ _. elim (c == 0x5C) as (λ b. (c == 0x5C) ≡ b
                      → unescaped (cond b (0x5C ∷ 0x5C ∷ []) (c ∷ []) ++ rest) ≡ c ∷ unescaped rest) [
                        | true ↦ λ e. known (λ x. x ∷ unescaped rest) c 0x5C e
                        | false ↦ λ e. rw e refl
                      ] refl
                ] refl
          ] refl
    ] refl

pub unescaped-escaped : (text : List ℕ) → unescaped (escaped text) ≡ text
unescaped-escaped [] = refl
unescaped-escaped (c ∷ cs) = escape_reads_back c (escaped cs) ∙ ap (λ xs. c ∷ xs) (unescaped-escaped cs)

-- an escape is made of XML Chars
escape_chars : (c : ℕ) → is_char c ≡ true → list_all is_char (escape c) ≡ true
unfolding is_char
escape_chars c h =
    elim (c == 0xA) as (λ b. list_all is_char
    (cond b (0x5C ∷ 0x6E ∷ [])
    (cond (c == 0x9) (0x5C ∷ 0x74 ∷ []) (cond (c == 0xD) (0x5C ∷ 0x72 ∷ []) (cond (c == 0x5C) (0x5C ∷ 0x5C ∷ []) (c ∷ []))))) ≡ true) [
      | true ↦ refl
      | false ↦ elim (c == 0x9) as (λ b. list_all is_char
          (cond b (0x5C ∷ 0x74 ∷ []) (cond (c == 0xD) (0x5C ∷ 0x72 ∷ []) (cond (c == 0x5C) (0x5C ∷ 0x5C ∷ []) (c ∷ [])))) ≡ true) [
            | true ↦ refl
            | false ↦ elim (c == 0xD) as (λ b. list_all is_char (cond b (0x5C ∷ 0x72 ∷ []) (cond (c == 0x5C) (0x5C ∷ 0x5C ∷ []) (c ∷ [])))
                ≡ true) [
                  | true ↦ refl
                  | false ↦ elim (c == 0x5C) as (λ b. list_all is_char (cond b (0x5C ∷ 0x5C ∷ []) (c ∷ [])) ≡ true) [
                    | true ↦ refl
                    | false ↦ and_from (is_char c) true h refl
                  ]
                ]
          ]
    ]

pub escaped_chars : (text : List ℕ) → list_all is_char text ≡ true → list_all is_char (escaped text) ≡ true
escaped_chars [] h = refl
escaped_chars (c ∷ cs) h =
    let parts = and_parts (is_char c) (list_all is_char cs) h in
    list_all-append is_char (escape c) (escaped cs)
    ∙ and_from (list_all is_char (escape c)) (list_all is_char (escaped cs)) (escape_chars c parts.0) (escaped_chars cs parts.1)

-- a line of XML Chars has the event that its first character says
read_line : (sign : ℕ) (rest : List ℕ) → is_char sign ≡ true → list_all is_char rest ≡ true
    → event_of (sign ∷ rest) ≡ event_behind sign rest
read_line sign rest s h = ap (λ b. cond b (event_behind sign rest) None) (and_from (is_char sign) (list_all is_char rest) s h)

-- a name, a space and an escaped text
named_chars : (name text : List ℕ) → list_all is_char name ≡ true → list_all is_char text ≡ true
    → list_all is_char (name ++ 0x20 ∷ escaped text) ≡ true
unfolding is_char
named_chars name text n t =
    list_all-append is_char name (0x20 ∷ escaped text)
    ∙ and_from (list_all is_char name) (list_all is_char (0x20 ∷ escaped text)) n
    (and_from (is_char 0x20) (list_all is_char (escaped text)) refl (escaped_chars text t))

named_reads_back : {X : Type 0} (make : List ℕ → List ℕ → X) (name text : List ℕ) → list_any is_blank name ≡ false
    → make (before_first is_blank (name ++ 0x20 ∷ escaped text)) (unescaped (after_first is_blank (name ++ 0x20 ∷ escaped text))) ≡ make name text
named_reads_back make name text h =
    ap (λ x. make x (unescaped (after_first is_blank (name ++ 0x20 ∷ escaped text)))) (before_first-at is_blank name 0x20 (escaped text) h refl)
    ∙ ap (λ x. make name x) (ap unescaped (after_first-at is_blank name 0x20 (escaped text) h refl) ∙ unescaped-escaped text)

lone_reads_back : {X : Type 0} (make : List ℕ → List ℕ → X) (name : List ℕ) → list_any is_blank name ≡ false
    → make (before_first is_blank name) (unescaped (after_first is_blank name)) ≡ make name []
lone_reads_back make name h =
    ap (λ x. make x (unescaped (after_first is_blank name))) (before_first-none is_blank name h)
    ∙ ap (λ x. make name x) (ap unescaped (after_first-none is_blank name h))

pub event_of-line_of : (event : Event (List ℕ)) → IsWritable event → event_of (line_of event) ≡ Some event
unfolding is_char
event_of-line_of (Start name) w = read_line 0x28 name refl w
event_of-line_of (Attribute name value) w =
    read_line 0x41 (name ++ 0x20 ∷ escaped value) refl (named_chars name value w.0 w.1)
    ∙ named_reads_back (λ a b. Some (Attribute a b)) name value (not-true _ w.2)
event_of-line_of (Data text) w =
    read_line 0x2D (escaped text) refl (escaped_chars text w) ∙ ap (λ x. Some (Data x)) (unescaped-escaped text)
event_of-line_of (Instruction target []) w =
    read_line 0x3F target refl w.0 ∙ lone_reads_back (λ a b. Some (Instruction a b)) target (not-true _ w.2)
event_of-line_of (Instruction target (c ∷ cs)) w =
    read_line 0x3F (target ++ 0x20 ∷ escaped (c ∷ cs)) refl (named_chars target (c ∷ cs) w.0 w.1)
    ∙ named_reads_back (λ a b. Some (Instruction a b)) target (c ∷ cs) (not-true _ w.2)
event_of-line_of (End name) w = read_line 0x29 name refl w
event_of-line_of (Comment text) w =
    read_line 0x43 (escaped text) refl (escaped_chars text w) ∙ ap (λ x. Some (Comment x)) (unescaped-escaped text)
