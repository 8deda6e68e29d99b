use Rattle.std.proofs.Common.{◌≡◌, ◌∙◌, ◌+◌, ◌&&◌, ℕ, ℤ, pos, ◌+ℤ◌, ◌≤ℤ◌, true, Option, Some, sym, refl, arith, rules}
use Rattle.std.proofs.Common.{w64, FitsSigned, to_z, of_z}
use Rattle.std.specs.Int.{w128}
use Rattle.std.specs.Prelude.{int_le, int_lt}
use Rattle.std.proofs.lemmas.Int.{ints}
use Rattle.spec_expression.specs.Number.{Number, Whole, NaN, value_of}
use Rattle.spec_expression.specs.Strings.{is_selected}
use Rattle.xp_text.proofs.positions.is_selected.Goals as goal

is_from_true : (a b : ℤ) → a ≤ℤ b → int_le a b ≡ true
is_from_true a b h = grind (arith, ints)

tested : (a b x y : ℤ) (p : ℕ) → a ≤ℤ pos p → x ≡ pos p → y ≡ a +ℤ b → int_lt x y ≡ (int_le a (pos p) && int_lt (pos p) (a +ℤ b))
tested a b x y p h e f = rw (e, f, is_from_true a (pos p) h) refl

whole_from : (n : Number) (a : ℤ) → Some a ≡ value_of n → n ≡ Whole a
whole_from (Whole z) a e = cc
whole_from NaN a e = absurd (cc)

selected_by :
    (start number : Number) (count : Option Number) (a b x y : ℤ) (p : ℕ) → Some a ≡ value_of start → count ≡ Some number
    → Some b ≡ value_of number → a ≤ℤ pos p → x ≡ pos p
    → y ≡ a +ℤ b → int_lt x y ≡ is_selected start count p
selected_by start number count a b x y p from is by h e f =
    tested a b x y p h e f ∙ sym (rw (is, whole_from start a from, whole_from number b by) refl)

pub returns-in-Some-get : goal.returns-in-Some-get
returns-in-Some-get c =
    let from = c.in-Some.ensures.value in
    let by = c.in-Some-get.ensures.value in
    let a : FitsSigned w64 c.in-Some.start = search rules in
    let b : FitsSigned w64 c.in-Some-get.count = search rules in
    let x : ℤ = to_z w128 (of_z w128 (to_z w128 (of_z w128 c.from-position.result) +ℤ pos 1)) in
    let y : ℤ = to_z w128 (of_z w128 (to_z w128 (of_z w128 c.from-in-Some-get.result) +ℤ to_z w128 (of_z w128 c.from-in-Some-get-2.result))) in
    let low : c.in-Some.start ≤ℤ pos (c.args.passed + 1) = omega (arith, ints) in
    let position : x ≡ pos (c.args.passed + 1) = omega (arith, ints) in
    let end : y ≡ c.in-Some.start +ℤ c.in-Some-get.count = omega (arith, ints) in
    selected_by c.args.start c.in-Some-count.count c.args.count.now c.in-Some.start c.in-Some-get.count x y (c.args.passed + 1) from c.in-Some-count.is by
    low position end
