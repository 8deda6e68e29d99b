-- Names are made of XML Chars, and have no space and no end of a line in them.
use Rattle.std.proofs.Common.{◌≡◌, ◌≤◌, arith, ℕ, ◌+◌, suc, Bool, true, false, not, ◌||◌, ◌==◌, cond, List, [], ◌∷◌, take, drop, Option, None, Some}
use Rattle.std.proofs.Common.{refl, sym, ap, ◌∙◌}
use Rattle.std.specs.Prelude.{IsTrue, is_none, ◌&&◌}
use Rattle.std.specs.Option.{option_and_then}
use Rattle.std.specs.List.{list_all, list_any, before_first, after_first, position_or_len}
use Rattle.std.proofs.lemmas.Bool.{and_parts, and_from, eqb-true}
use Rattle.spec_document.specs.declared.usage.AttributeUse.TheVariants.{NoName}
use Rattle.spec_document.specs.Character.{is_between, is_char, is_name_start, is_name_part}
use Rattle.spec_document.specs.Pyx.{is_blank}
use Rattle.spec_document.specs.Name.{QName, is_ncname, is_colon, qname_of}
use Rattle.spec_document.specs.Scope.{Scope}
use Rattle.spec_document.specs.Declaration.{use_of, use_of_qname, element_name, is_reserved_target}
use Rattle.spec_document.specs.NodeFaults.{is_wrong_use, is_wrong_element, is_wrong_target}

-- ---- Characters of names

-- a test, and what follows where it holds
record Test (F : Type 0) : Type 0 where
  holds : Bool
  gives : holds ≡ true → F

-- one test after another, behind a first
abbrev any_of : {F : Type 0} → Bool → List (Test F) → Bool
any_of first [] = first
any_of first (t ∷ tests) = any_of (first || t.holds) tests

given : {F : Type 0} (first : Bool) → (first ≡ true → F) → (tests : List (Test F)) → any_of first tests ≡ true → F
given {F = F} first own [] h = own h
given {F = F} first own (t ∷ tests) h = given (first || t.holds) (by first t.holds own t.gives) tests h
  where
    by : (a b : Bool) → (a ≡ true → F) → (b ≡ true → F) → (a || b) ≡ true → F
    by true b own next h = own refl
    by false b own next h = next h

low-char : (c low high : ℕ) → 0x20 ≤ low → high ≤ 0xD7FF → is_between low high c ≡ true → is_char c ≡ true
unfolding is_char
low-char c low high from to h = grind arith

middle-char : (c low high : ℕ) → 0xE000 ≤ low → high ≤ 0xFFFD → is_between low high c ≡ true → is_char c ≡ true
unfolding is_char
middle-char c low high from to h = grind arith

high-char : (c low high : ℕ) → 0x1_0000 ≤ low → high ≤ 0x10_FFFF → is_between low high c ≡ true → is_char c ≡ true
unfolding is_char
high-char c low high from to h = grind arith

-- characters in a range, and one
abbrev IsCharTest : ℕ → Type 0
IsCharTest c = Test (is_char c ≡ true)

abbrev low_test : (c low high : ℕ) → 0x20 ≤ low → high ≤ 0xD7FF → IsCharTest c
low_test c low high from to = record { holds = is_between low high c; gives = low-char c low high from to }

abbrev middle_test : (c low high : ℕ) → 0xE000 ≤ low → high ≤ 0xFFFD → IsCharTest c
middle_test c low high from to = record { holds = is_between low high c; gives = middle-char c low high from to }

abbrev one_test : (c d : ℕ) → is_char d ≡ true → IsCharTest c
one_test c d h = record { holds = c == d; gives = λ e. ap is_char (eqb-true c d e) ∙ h }

abbrev high_test : (c low high : ℕ) → 0x1_0000 ≤ low → high ≤ 0x10_FFFF → IsCharTest c
high_test c low high from to = record { holds = is_between low high c; gives = high-char c low high from to }

start-char : (c : ℕ) → is_name_start c ≡ true → is_char c ≡ true
unfolding is_char is_name_start
start-char c h =
    given (is_between 0x41 0x5A c) (low-char c 0x41 0x5A (omega arith) (omega arith))
    (one_test c 0x5F refl
    ∷ low_test c 0x61 0x7A (omega arith) (omega arith)
    ∷ low_test c 0xC0 0xD6 (omega arith) (omega arith)
    ∷ low_test c 0xD8 0xF6 (omega arith) (omega arith)
    ∷ low_test c 0xF8 0x2FF (omega arith) (omega arith)
    ∷ low_test c 0x370 0x37D (omega arith) (omega arith)
    ∷ low_test c 0x37F 0x1FFF (omega arith) (omega arith)
    ∷ low_test c 0x200C 0x200D (omega arith) (omega arith)
    ∷ low_test c 0x2070 0x218F (omega arith) (omega arith)
    ∷ low_test c 0x2C00 0x2FEF (omega arith) (omega arith)
    ∷ low_test c 0x3001 0xD7FF (omega arith) (omega arith)
    ∷ middle_test c 0xF900 0xFDCF (omega arith) (omega arith)
    ∷ middle_test c 0xFDF0 0xFFFD (omega arith) (omega arith)
    ∷ high_test c 0x1_0000 0xE_FFFF (omega arith) (omega arith)
    ∷ []) h

part-char : (c : ℕ) → is_name_part c ≡ true → is_char c ≡ true
unfolding is_char is_name_part
part-char c h =
    given (is_name_start c) (start-char c)
    (one_test c 0x2D refl
    ∷ one_test c 0x2E refl
    ∷ low_test c 0x30 0x39 (omega arith) (omega arith)
    ∷ one_test c 0xB7 refl
    ∷ low_test c 0x300 0x36F (omega arith) (omega arith)
    ∷ low_test c 0x203F 0x2040 (omega arith) (omega arith)
    ∷ []) h

part-blank : (c : ℕ) → is_name_part c ≡ true → not (is_blank c) ≡ true
unfolding is_name_start is_name_part
part-blank c h = by (c == 0x20) refl
  where
    by : (b : Bool) → (c == 0x20) ≡ b → not b ≡ true
    by true e = absurd (let no : is_name_part 0x20 ≡ true = ap is_name_part (sym (eqb-true c 0x20 e)) ∙ h in cc)
    by false e = refl

-- neither LF nor CR
abbrev pub ends_no_line : ℕ → Bool
ends_no_line c = not ((c == 0xA) || (c == 0xD))

part-line : (c : ℕ) → is_name_part c ≡ true → ends_no_line c ≡ true
unfolding is_name_start is_name_part
part-line c h = by (c == 0xA) (c == 0xD) refl refl
  where
    by : (a b : Bool) → (c == 0xA) ≡ a → (c == 0xD) ≡ b → not (a || b) ≡ true
    by true b e d = absurd (let no : is_name_part 0xA ≡ true = ap is_name_part (sym (eqb-true c 0xA e)) ∙ h in cc)
    by false true e d = absurd (let no : is_name_part 0xD ≡ true = ap is_name_part (sym (eqb-true c 0xD d)) ∙ h in cc)
    by false false e d = refl

start-part : (c : ℕ) → is_name_start c ≡ true → is_name_part c ≡ true
unfolding is_name_part
start-part c h = rw h refl

-- ---- Names

-- what holds of all characters of names, and of the colon, holds of all of a QName
module _ (p : ℕ → Bool) (of_part : (c : ℕ) → is_name_part c ≡ true → p c ≡ true) (of_colon : p 0x3A ≡ true) where
  parts-all : (cs : List ℕ) → list_all is_name_part cs ≡ true → list_all p cs ≡ true
  parts-all [] h = refl
  parts-all (c ∷ cs) h =
      let parts = and_parts (is_name_part c) (list_all is_name_part cs) h in
      and_from (p c) (list_all p cs) (of_part c parts.0) (parts-all cs parts.1)

  pub ncname-all : (text : List ℕ) → is_ncname text ≡ true → list_all p text ≡ true
  ncname-all [] h = absurd (cc)
  ncname-all (c ∷ cs) h =
      let parts = and_parts (is_name_start c) (list_all is_name_part cs) h in
      and_from (p c) (list_all p cs) (of_part c (start-part c parts.0)) (parts-all cs parts.1)

  -- before and after the first colon
  around-all : (cs : List ℕ) → list_all p (before_first is_colon cs) ≡ true → list_all p (after_first is_colon cs) ≡ true → list_all p cs ≡ true
  around-all [] h k = refl
  around-all (c ∷ cs) h k = by (is_colon c) refl h k (around-all cs)
    where
      by : (b : Bool) → is_colon c ≡ b → list_all p (take (cond (not b) (1 + position_or_len is_colon cs) 0) (c ∷ cs)) ≡ true
          → list_all p (drop (cond (not b) (1 + position_or_len is_colon cs) 0 + 1) (c ∷ cs)) ≡ true
          → (list_all p (before_first is_colon cs) ≡ true → list_all p (after_first is_colon cs) ≡ true → list_all p cs ≡ true)
          → list_all p (c ∷ cs) ≡ true
      by true e h k more = and_from (p c) (list_all p cs) (ap p (eqb-true c 0x3A e) ∙ of_colon) k
      by false e h k more =
          let n = position_or_len is_colon cs in
          let one : 1 + n ≡ suc n = omega arith in
          let two : 1 + n + 1 ≡ suc (n + 1) = omega arith in
          let parts = and_parts (p c) (list_all p (take n cs)) (ap (λ m. list_all p (take m (c ∷ cs))) (sym one) ∙ h) in
          and_from (p c) (list_all p cs) parts.0 (more parts.1 (ap (λ m. list_all p (drop m (c ∷ cs))) (sym two) ∙ k))

  pub qname-all : (text : List ℕ) → is_none (qname_of text) ≡ false → list_all p text ≡ true
  qname-all text h = whole (is_ncname text) refl h
    where
      before : List ℕ
      before = before_first is_colon text

      after : List ℕ
      after = after_first is_colon text

      two : (b : Bool) → (is_ncname before && is_ncname after) ≡ b
          → is_none {T = QName} (cond b (Some (record { prefix = Some before; local = after })) None) ≡ false → list_all p text ≡ true
      two true e h =
          let parts = and_parts (is_ncname before) (is_ncname after) e in
          around-all text (ncname-all before parts.0) (ncname-all after parts.1)
      two false e h = absurd (cc)

      whole : (b : Bool) → is_ncname text ≡ b
          → is_none {T = QName} (cond b (Some (record { prefix = None; local = text })) (cond (is_ncname before && is_ncname after)
          (Some (record { prefix = Some before; local = after })) None)) ≡ false → list_all p text ≡ true
      whole true e h = ncname-all text e
      whole false e h = two (is_ncname before && is_ncname after) refl h

-- a name that can be written, in front of a value too
pub record IsWritableName (name : List ℕ) : Type 0 where
  pub chars : IsTrue (list_all is_char name)
  pub no_blank : IsTrue (not (list_any is_blank name))
  pub one_line : IsTrue (list_all ends_no_line name)

none-any : (p : ℕ → Bool) (xs : List ℕ) → list_all (λ x. not (p x)) xs ≡ true → not (list_any p xs) ≡ true
none-any p [] h = refl
none-any p (x ∷ xs) h =
    let parts = and_parts (not (p x)) (list_all (λ y. not (p y)) xs) h in
    by (p x) parts.0 (none-any p xs parts.1)
  where
    by : (b : Bool) → not b ≡ true → not (list_any p xs) ≡ true → not (b || list_any p xs) ≡ true
    by true own more = absurd (cc)
    by false own more = more

qname-writable : (name : List ℕ) → is_none (qname_of name) ≡ false → IsWritableName name
unfolding is_char
qname-writable name h =
    record {
      chars = qname-all is_char part-char refl name h;
      no_blank = none-any is_blank name (qname-all (λ c. not (is_blank c)) part-blank refl name h);
      one_line = qname-all ends_no_line part-line refl name h;
    }

-- ---- Names without faults

pub element-name : (scope : Scope) (name : List ℕ) → is_wrong_element scope name ≡ false → IsWritableName name
element-name scope name h = qname-writable name (by (qname_of name) h)
  where
    by : (o : Option QName) → is_none (option_and_then (element_name scope) o) ≡ false → is_none o ≡ false
    by None h = h
    by (Some q) h = refl

pub attribute-name : (scope : Scope) (name value : List ℕ) → is_wrong_use scope (use_of name) value ≡ false → IsWritableName name
attribute-name scope name value h = qname-writable name (by (qname_of name) h)
  where
    by : (o : Option QName) → is_wrong_use scope (elim o [ None ↦ NoName | Some q ↦ use_of_qname q ]) value ≡ false → is_none o ≡ false
    by None h = absurd (cc)
    by (Some q) h = refl

pub target-name : (target : List ℕ) → is_wrong_target target ≡ false → IsWritableName target
unfolding is_char
target-name target h = by (is_ncname target) refl h
  where
    by : (b : Bool) → is_ncname target ≡ b → (not b || is_reserved_target target) ≡ false → IsWritableName target
    by true e h =
        record {
          chars = ncname-all is_char part-char refl target e;
          no_blank = none-any is_blank target (ncname-all (λ c. not (is_blank c)) part-blank refl target e);
          one_line = ncname-all ends_no_line part-line refl target e;
        }
    by false e h = absurd (cc)
