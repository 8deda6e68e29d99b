-- What is read from lines is made of XML Chars.
use Rattle.std.proofs.Common.{◌≡◌, ℕ, ◌+◌, true, false, ◌==◌, Bool, cond, List, [], ◌∷◌, ◌++◌, map, take, drop, Option, Some, None, refl, sym}
use Rattle.std.proofs.Common.{ap, ◌∙◌, subst}
use Rattle.std.specs.Prelude.{IsTrue, Ok}
use Rattle.std.specs.Option.{option_map}
use Rattle.std.specs.List.{list_all, after_first, position_or_len, filter_map, cons_option}
use Rattle.std.proofs.lemmas.Bool.{and_parts, and_from}
use Rattle.std.proofs.lemmas.List.{take-append-drop}
use Rattle.std.proofs.lemmas.List.Folds.{list_all-append}
use Rattle.spec_document.specs.declared.event.Event.{Event}
use Rattle.spec_document.specs.declared.event.Event.TheVariants.{Start, Attribute, Data, Instruction as InstructionEvent, End}
use Rattle.spec_document.specs.declared.event.Event.TheVariants.{Comment as CommentEvent}
use Rattle.spec_document.specs.declared.parent.Parent.{Parent}
use Rattle.spec_document.specs.Scope.{Scope}
use Rattle.spec_document.specs.Character.{is_char}
use Rattle.spec_document.specs.Pyx.{Line, unescape, unescaped, behind_backslash, is_blank, event_of, event_behind}
use Rattle.spec_document.specs.Forest.{Written, Element, Text, Comment, Instruction, Forest, Empty, Node, Document, Plain, plain, with_text}
use Rattle.spec_document.specs.Forest.{attribute_event}
use Rattle.spec_document.specs.Forest.{IsForestOf, is_empty, is_element, is_text, is_comment, is_instruction}
use Rattle.spec_document.specs.Balance.{LineNumbers, forest_of}
use Rattle.spec_document.specs.Body.{event_at, events_at, texts_of}
use Rattle.spec_document.specs.Top.{without_texts, kept}
use Rattle.spec_document.specs.Document.{document_of, nodes_of, elements_beside}
use Rattle.spec_document.proofs.Reading.{computed_is_forest}
use Rattle.spec_edit.proofs.Beginning.{begun}
use Rattle.spec_edit.proofs.Numbers.{read_nodes}
use Rattle.spec_afresh.specs.Characters.{HasChars}
use Rattle.spec_afresh.proofs.Characters.{chars-of-plain, chars-numbered, chars-without, chars-kept}

-- ---- Texts

unescape-chars : (c : ℕ) → is_char c ≡ true → list_all is_char (unescape c) ≡ true
unfolding is_char
unescape-chars c h =
    elim (c == 0x6E) as (λ b. list_all is_char
    (cond b (0xA ∷ []) (cond (c == 0x74) (0x9 ∷ []) (cond (c == 0x72) (0xD ∷ []) (cond (c == 0x5C) (0x5C ∷ []) (0x5C ∷ c ∷ []))))) ≡ true) [
      | true ↦ refl
      | false ↦ elim (c == 0x74) as (λ b. list_all is_char
          (cond b (0x9 ∷ []) (cond (c == 0x72) (0xD ∷ []) (cond (c == 0x5C) (0x5C ∷ []) (0x5C ∷ c ∷ [])))) ≡ true) [
            | true ↦ refl
            | false ↦ elim (c == 0x72) as (λ b. list_all is_char (cond b (0xD ∷ []) (cond (c == 0x5C) (0x5C ∷ []) (0x5C ∷ c ∷ []))) ≡ true) [
              | true ↦ refl
              | false ↦ elim (c == 0x5C) as (λ b. list_all is_char (cond b (0x5C ∷ []) (0x5C ∷ c ∷ [])) ≡ true) [
                | true ↦ refl
                | false ↦ and_from (is_char c) true h refl
              ]
            ]
          ]
    ]

mutual
  unfolding is_char

  unescaped-chars : (text : List ℕ) → list_all is_char text ≡ true → list_all is_char (unescaped text) ≡ true
  unescaped-chars [] h = refl
  unescaped-chars (c ∷ cs) h =
      let parts = and_parts (is_char c) (list_all is_char cs) h in
      elim (c == 0x5C) as (λ b. list_all is_char (cond b (behind_backslash cs) (c ∷ unescaped cs)) ≡ true) [
        | true ↦ behind-chars cs parts.1
        | false ↦ and_from (is_char c) (list_all is_char (unescaped cs)) parts.0 (unescaped-chars cs parts.1)
      ]

  behind-chars : (text : List ℕ) → list_all is_char text ≡ true → list_all is_char (behind_backslash text) ≡ true
  behind-chars [] h = refl
  behind-chars (c ∷ cs) h =
      let parts = and_parts (is_char c) (list_all is_char cs) h in
      list_all-append is_char (unescape c) (unescaped cs)
      ∙ and_from (list_all is_char (unescape c)) (list_all is_char (unescaped cs)) (unescape-chars c parts.0) (unescaped-chars cs parts.1)

value-chars : (rest : List ℕ) → list_all is_char rest ≡ true → list_all is_char (unescaped (after_first is_blank rest)) ≡ true
value-chars rest h =
    let n = position_or_len is_blank rest + 1 in
    unescaped-chars (after_first is_blank rest) (and_parts (list_all is_char (take n rest)) (list_all is_char (drop n rest))
    (sym (list_all-append is_char (take n rest) (drop n rest)) ∙ ap (list_all is_char) (take-append-drop n rest) ∙ h)).1

-- ---- Events

-- what an event has besides a name
abbrev event_has_chars : Event (List ℕ) → Bool
event_has_chars (Start name) = true
event_has_chars (Attribute name value) = list_all is_char value
event_has_chars (Data text) = list_all is_char text
event_has_chars (InstructionEvent target text) = list_all is_char text
event_has_chars (End name) = true
event_has_chars (CommentEvent text) = list_all is_char text

abbrev HaveChars : List (Event (List ℕ)) → Type 0
HaveChars [] = Unit {0}
HaveChars (e ∷ events) = IsTrue (event_has_chars e) × HaveChars events

abbrev IfRead : Option (Event (List ℕ)) → Type 0
IfRead None = Unit {0}
IfRead (Some e) = IsTrue (event_has_chars e)

either : (b : Bool) (x y : Option (Event (List ℕ))) → IfRead x → IfRead y → IfRead (cond b x y)
either true x y h k = h
either false x y h k = k

behind-read : (sign : ℕ) (rest : Line) → list_all is_char rest ≡ true → IfRead (event_behind sign rest)
behind-read sign rest h =
    either (sign == 0x28) _ _ refl
    (either (sign == 0x41) _ _ (value-chars rest h)
    (either (sign == 0x2D) _ _ (unescaped-chars rest h)
    (either (sign == 0x3F) _ _ (value-chars rest h)
    (either (sign == 0x29) _ _ refl
    (either (sign == 0x43) _ _ (unescaped-chars rest h) tt)))))

line-read : (line : Line) → IfRead (event_of line)
line-read [] = tt
line-read (sign ∷ rest) = by (list_all is_char (sign ∷ rest)) refl
  where
    by : (b : Bool) → list_all is_char (sign ∷ rest) ≡ b → IfRead (cond b (event_behind sign rest) None)
    by true h = behind-read sign rest (and_parts (is_char sign) (list_all is_char rest) h).1
    by false h = tt

lines-read : (lines : List (ℕ × Line)) → HaveChars (map (λ e. e.1) (filter_map event_at lines))
lines-read [] = tt
lines-read (line ∷ lines) = by (event_of line.1) (line-read line.1) (lines-read lines)
  where
    by : (o : Option (Event (List ℕ))) → IfRead o → HaveChars (map (λ e. e.1) (filter_map event_at lines))
        → HaveChars (map (λ e. e.1) (cons_option (option_map (λ event. (line.0, event)) o) (filter_map event_at lines)))
    by None h more = more
    by (Some e) h more = (h, more)

-- ---- The forest that they are

parts-have : (xs ys : List (Event (List ℕ))) → HaveChars (xs ++ ys) → HaveChars xs × HaveChars ys
parts-have [] ys h = (tt, h)
parts-have (x ∷ xs) ys h = let parts = parts-have xs ys h.1 in ((h.0, parts.0), parts.1)

attributes-have : (attributes : List Written) → HaveChars (map attribute_event attributes)
    → list_all (λ a. list_all is_char a.value) attributes ≡ true
attributes-have [] h = refl
attributes-have (a ∷ attributes) h =
    and_from (list_all is_char a.value) (list_all (λ b. list_all is_char b.value) attributes) h.0 (attributes-have attributes h.1)

text-chars : (text : List ℕ) (f : Plain) → list_all is_char text ≡ true → HasChars f → HasChars (with_text text f)
text-chars [] f own h = h
text-chars (c ∷ cs) Empty own h = (own, tt, tt)
text-chars (c ∷ cs) (Node l (Text t) f s) own h =
    (list_all-append is_char (c ∷ cs) t ∙ and_from (list_all is_char (c ∷ cs)) (list_all is_char t) own h.0, h.1, h.2)
text-chars (c ∷ cs) (Node l (Element n a) f s) own h = (own, tt, h)
text-chars (c ∷ cs) (Node l (Comment t) f s) own h = (own, tt, h)
text-chars (c ∷ cs) (Node l (Instruction n t) f s) own h = (own, tt, h)

forest-chars : (events : List (Event (List ℕ))) (f : Plain) → IsForestOf events f → HaveChars events → HasChars f
forest-chars events f is_empty h = tt
forest-chars events f (is_element {inner = inner} {rest = rest} {children = children} {siblings = siblings} name attributes split below behind) h =
    let whole = subst HaveChars split h in
    let outer = parts-have (map attribute_event attributes ++ inner) (End name ∷ rest) whole.1 in
    let front = parts-have (map attribute_event attributes) inner outer.0 in
    (attributes-have attributes front.0, forest-chars inner children below front.1, forest-chars rest siblings behind outer.1.1)
forest-chars events f (is_text {rest = rest} {siblings = siblings} text behind is) h =
    subst HasChars (sym is) (text-chars text siblings h.0 (forest-chars rest siblings behind h.1))
forest-chars events f (is_comment {rest = rest} {siblings = siblings} text behind) h = (h.0, tt, forest-chars rest siblings behind h.1)
forest-chars events f (is_instruction {rest = rest} {siblings = siblings} target text behind) h =
    (h.0, tt, forest-chars rest siblings behind h.1)

body-chars : (body : List (List ℕ)) (f : Forest LineNumbers) → forest_of (events_at body) ≡ Some f → HasChars f
body-chars body f e =
    chars-of-plain f (forest-chars (map (λ e. e.1) (events_at body)) (plain f)
    (computed_is_forest (events_at body) (plain f) (ap (option_map plain) e)) (lines-read (texts_of body)))

pub document-chars : (scope : Scope) (first : ℕ) (body : List (List ℕ)) (document : Document ℕ) → document_of scope first body ≡ Ok document
    → HasChars document.nodes
document-chars scope first body document e =
    let b = begun scope first body document e in
    subst (λ (d : Document ℕ). HasChars d.nodes) b.is
    (chars-numbered (first + 1) (without_texts b.forest) (chars-without b.forest (body-chars body b.forest b.balanced)))

pub nodes-chars : (scope : Scope) (first : ℕ) (parent : Parent) (body : List (List ℕ)) (nodes : Forest ℕ)
    → nodes_of scope first parent body ≡ Ok nodes → HasChars nodes
nodes-chars scope first parent body nodes e =
    let r = read_nodes scope first parent body nodes e in
    let others = elements_beside parent in
    subst HasChars r.nodes_are (chars-numbered first (kept others r.forest) (chars-kept others r.forest (body-chars body r.forest r.balanced)))
