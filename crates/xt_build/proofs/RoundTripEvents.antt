-- Every event that is read from a line can be written, and so can those of the forest that they are.
use Rattle.std.proofs.Common.{◌≡◌, ℕ, ◌+◌, suc, Bool, true, false, not, ◌==◌, cond, List, [], ◌∷◌, ◌++◌, map, take, drop, Option}
use Rattle.std.proofs.Common.{Some, None, refl, sym, ap, ◌∙◌, subst, arith}
use Rattle.std.specs.Option.{option_map}
use Rattle.std.specs.List.{list_all, list_any, before_first, after_first, position_or_len, filter_map, cons_option}
use Rattle.std.proofs.lemmas.Bool.{and_parts, and_from}
use Rattle.std.proofs.lemmas.List.{take-append-drop}
use Rattle.std.proofs.lemmas.List.Folds.{list_all-append}
use Rattle.spec_document.specs.declared.event.Event.{Event}
use Rattle.spec_document.specs.declared.event.Event.TheVariants.{Start, Attribute, Data, Instruction as InstructionEvent, End, Comment as CommentEvent}
use Rattle.spec_document.specs.Character.{is_char}
use Rattle.spec_document.specs.Pyx.{Line, unescape, unescaped, behind_backslash, is_blank, event_of, event_behind, IsWritable}
use Rattle.spec_document.specs.Forest.{Element, Text, Comment, Instruction, Empty, Node, Plain, with_text, attribute_event, IsForestOf, is_empty, is_element}
use Rattle.spec_document.specs.Forest.{is_text, is_comment, is_instruction, written}
use Rattle.spec_document.specs.Body.{event_at}
use Rattle.spec_document.specs.Top.{without_texts}

-- all can be written
abbrev pub AreWritable : List (Event (List ℕ)) → Type 0
AreWritable [] = Unit {0}
AreWritable (e ∷ events) = IsWritable e × AreWritable events

-- ---- Parts of a list

split_chars : (xs ys : List ℕ) → list_all is_char (xs ++ ys) ≡ true → (list_all is_char xs ≡ true) × (list_all is_char ys ≡ true)
split_chars xs ys h = and_parts (list_all is_char xs) (list_all is_char ys) (sym (list_all-append is_char xs ys) ∙ h)

taken_chars : (n : ℕ) (xs : List ℕ) → list_all is_char xs ≡ true
    → (list_all is_char (take n xs) ≡ true) × (list_all is_char (drop n xs) ≡ true)
taken_chars n xs h = split_chars (take n xs) (drop n xs) (ap (list_all is_char) (take-append-drop n xs) ∙ h)

-- nothing before the first element that passes a test passes it
none_before : (p : ℕ → Bool) (xs : List ℕ) → list_any p (before_first p xs) ≡ false
none_before p [] = refl
none_before p (x ∷ xs) =
    elim (p x) as (λ b. p x ≡ b → list_any p (take (cond (not b) (1 + position_or_len p xs) 0) (x ∷ xs)) ≡ false) [
      | true ↦ λ _. refl
      | false ↦ λ e.
          let more : 1 + position_or_len p xs ≡ suc (position_or_len p xs) = omega arith in
          ap (λ n. list_any p (take n (x ∷ xs))) more ∙ rw e (none_before p xs)
    ] refl

-- ---- What is read is made of XML Chars

unescape_chars : (c : ℕ) → is_char c ≡ true → list_all is_char (unescape c) ≡ true
unfolding is_char
unescape_chars c h =
    elim (c == 0x6E) as (λ b. list_all is_char
    (cond b (0xA ∷ []) (cond (c == 0x74) (0x9 ∷ []) (cond (c == 0x72) (0xD ∷ []) (cond (c == 0x5C) (0x5C ∷ []) (0x5C ∷ c ∷ []))))) ≡ true) [
      | true ↦ refl
      | false ↦ elim (c == 0x74) as (λ b. list_all is_char
          (cond b (0x9 ∷ []) (cond (c == 0x72) (0xD ∷ []) (cond (c == 0x5C) (0x5C ∷ []) (0x5C ∷ c ∷ [])))) ≡ true) [
            | true ↦ refl
            | false ↦ elim (c == 0x72) as (λ b. list_all is_char (cond b (0xD ∷ []) (cond (c == 0x5C) (0x5C ∷ []) (0x5C ∷ c ∷ []))) ≡ true) [
              | true ↦ refl
              | false ↦ elim (c == 0x5C) as (λ b. list_all is_char (cond b (0x5C ∷ []) (0x5C ∷ c ∷ [])) ≡ true) [
                | true ↦ refl
                | false ↦ and_from (is_char c) true h refl
              ]
            ]
          ]
    ]

mutual
  unfolding is_char

  unescaped_chars : (text : List ℕ) → list_all is_char text ≡ true → list_all is_char (unescaped text) ≡ true
  unescaped_chars [] h = refl
  unescaped_chars (c ∷ cs) h =
      let parts = and_parts (is_char c) (list_all is_char cs) h in
      elim (c == 0x5C) as (λ b. list_all is_char (cond b (behind_backslash cs) (c ∷ unescaped cs)) ≡ true) [
        | true ↦ behind_chars cs parts.1
        | false ↦ and_from (is_char c) (list_all is_char (unescaped cs)) parts.0 (unescaped_chars cs parts.1)
      ]

  behind_chars : (text : List ℕ) → list_all is_char text ≡ true → list_all is_char (behind_backslash text) ≡ true
  behind_chars [] h = refl
  behind_chars (c ∷ cs) h =
      let parts = and_parts (is_char c) (list_all is_char cs) h in
      list_all-append is_char (unescape c) (unescaped cs)
      ∙ and_from (list_all is_char (unescape c)) (list_all is_char (unescaped cs)) (unescape_chars c parts.0) (unescaped_chars cs parts.1)

name_chars : (rest : List ℕ) → list_all is_char rest ≡ true → list_all is_char (before_first is_blank rest) ≡ true
name_chars rest h = (taken_chars (position_or_len is_blank rest) rest h).0

value_chars : (rest : List ℕ) → list_all is_char rest ≡ true → list_all is_char (unescaped (after_first is_blank rest)) ≡ true
value_chars rest h = unescaped_chars (after_first is_blank rest) (taken_chars (position_or_len is_blank rest + 1) rest h).1

-- ---- What is read can be written

written_if : (x e : Event (List ℕ)) → IsWritable x → Some x ≡ Some e → IsWritable e
written_if x e w s = subst IsWritable (ap (λ o. elim o [ Some z ↦ z | None ↦ x ]) s) w

either : (b : Bool) (x y : Option (Event (List ℕ))) (e : Event (List ℕ)) → (x ≡ Some e → IsWritable e) → (y ≡ Some e → IsWritable e)
    → cond b x y ≡ Some e → IsWritable e
either true x y e f g = f
either false x y e f g = g

none_read : (e : Event (List ℕ)) → None ≡ Some e → IsWritable e
none_read e h = absurd (cc)

behind_writable : (sign : ℕ) (rest : Line) (e : Event (List ℕ)) → list_all is_char rest ≡ true → event_behind sign rest ≡ Some e → IsWritable e
behind_writable sign rest e h =
    let name = before_first is_blank rest in
    let value = unescaped (after_first is_blank rest) in
    let apart = ap not (none_before is_blank rest) in
    either (sign == 0x28) _ _ e (written_if (Start rest) e h)
    (either (sign == 0x41) _ _ e (written_if (Attribute name value) e (name_chars rest h, value_chars rest h, apart))
    (either (sign == 0x2D) _ _ e (written_if (Data (unescaped rest)) e (unescaped_chars rest h))
    (either (sign == 0x3F) _ _ e (written_if (InstructionEvent name value) e (name_chars rest h, value_chars rest h, apart))
    (either (sign == 0x29) _ _ e (written_if (End rest) e h)
    (either (sign == 0x43) _ _ e (written_if (CommentEvent (unescaped rest)) e (unescaped_chars rest h)) (none_read e))))))

pub read_writable : (line : Line) (e : Event (List ℕ)) → event_of line ≡ Some e → IsWritable e
read_writable [] e is = absurd (cc)
read_writable (sign ∷ rest) e is =
    elim (list_all is_char (sign ∷ rest)) as (λ b. list_all is_char (sign ∷ rest) ≡ b → cond b (event_behind sign rest) None ≡ Some e
    → IsWritable e) [
      | false ↦ λ _ none. absurd (cc)
      | true ↦ λ h made. behind_writable sign rest e (and_parts (is_char sign) (list_all is_char rest) h).1 made
    ] refl is

pub all_read_writable : (lines : List (ℕ × Line)) → AreWritable (map (λ e. e.1) (filter_map event_at lines))
all_read_writable [] = tt
all_read_writable (line ∷ lines) =
    elim (event_of line.1) as (λ o. event_of line.1 ≡ o
    → AreWritable (map (λ e. e.1) (cons_option (option_map (λ event. (line.0, event)) o) (filter_map event_at lines)))) [
      | None ↦ λ _. all_read_writable lines
      | Some e ↦ λ is. (read_writable line.1 e is, all_read_writable lines)
    ] refl

-- ---- The events of the forest that they are

pub both_writable : (xs ys : List (Event (List ℕ))) → AreWritable xs → AreWritable ys → AreWritable (xs ++ ys)
both_writable [] ys v w = w
both_writable (x ∷ xs) ys v w = (v.0, both_writable xs ys v.1 w)

pub parts_writable : (xs ys : List (Event (List ℕ))) → AreWritable (xs ++ ys) → AreWritable xs × AreWritable ys
parts_writable [] ys w = (tt, w)
parts_writable (x ∷ xs) ys w = let parts = parts_writable xs ys w.1 in ((w.0, parts.0), parts.1)

text_writable : (text : List ℕ) (f : Plain) → list_all is_char text ≡ true → AreWritable (written f) → AreWritable (written (with_text text f))
text_writable [] f h w = w
text_writable (c ∷ cs) Empty h w = (h, w)
text_writable (c ∷ cs) (Node l (Text t) children siblings) h w =
    (list_all-append is_char (c ∷ cs) t ∙ and_from (list_all is_char (c ∷ cs)) (list_all is_char t) h w.0, w.1)
text_writable (c ∷ cs) (Node l (Element n a) children siblings) h w = (h, w)
text_writable (c ∷ cs) (Node l (Comment t) children siblings) h w = (h, w)
text_writable (c ∷ cs) (Node l (Instruction n t) children siblings) h w = (h, w)

pub forest_writable : (events : List (Event (List ℕ))) (f : Plain) → IsForestOf events f → AreWritable events → AreWritable (written f)
forest_writable events f is_empty w = tt
forest_writable events f (is_element {inner = inner} {rest = rest} {children = children} {siblings = siblings} name attributes split below behind) w =
    let whole = subst AreWritable split w in
    let outer = parts_writable (map attribute_event attributes ++ inner) (End name ∷ rest) whole.1 in
    let front = parts_writable (map attribute_event attributes) inner outer.0 in (
      whole.0,
      both_writable (map attribute_event attributes ++ written children) (End name ∷ written siblings)
          (both_writable (map attribute_event attributes) (written children) front.0 (forest_writable inner children below front.1))
          (outer.1.0, forest_writable rest siblings behind outer.1.1),
    )
forest_writable events f (is_text {rest = rest} {siblings = siblings} text behind is) w =
    subst (λ g. AreWritable (written g)) (sym is) (text_writable text siblings w.0 (forest_writable rest siblings behind w.1))
forest_writable events f (is_comment {rest = rest} {siblings = siblings} text behind) w = (w.0, forest_writable rest siblings behind w.1)
forest_writable events f (is_instruction {rest = rest} {siblings = siblings} target text behind) w = (w.0, forest_writable rest siblings behind w.1)

-- without the texts at the top too
pub kept_writable : (f : Plain) → AreWritable (written f) → AreWritable (written (without_texts f))
kept_writable Empty w = w
kept_writable (Node l (Text t) children siblings) w = kept_writable siblings w.1
kept_writable (Node l (Element name attributes) children siblings) w =
    let parts = parts_writable (map attribute_event attributes ++ written children) (End name ∷ written siblings) w.1 in (
      w.0,
      both_writable (map attribute_event attributes ++ written children) (End name ∷ written (without_texts siblings)) parts.0
          (parts.1.0, kept_writable siblings parts.1.1),
    )
kept_writable (Node l (Comment t) children siblings) w = (w.0, kept_writable siblings w.1)
kept_writable (Node l (Instruction n t) children siblings) w = (w.0, kept_writable siblings w.1)
