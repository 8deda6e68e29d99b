-- What `{:02}` writes of a code's number.
use Rattle.std.proofs.Common.{◌≡◌, ℕ, ◌<◌, ◌≤◌, ◌^◌, ◌-◌, ◌+◌, ◌/◌, ◌%◌, List, [], ◌∷◌, length, true, false, inl, inr, refl, arith, append-nil}
use Rattle.std.specs.Prelude.{decimal, nat_lt}
use Rattle.std.specs.Fmt.{padded_integral, format_spec, char_count}
use Rattle.std.proofs.lemmas.Bool.{cases_lt}
use Rattle.std.proofs.lemmas.Bool.Decides.{nat_tests}
use Rattle.std.proofs.lemmas.List.{length-append}
use Rattle.std.proofs.lemmas.Fmt.{decimal_digit, decimal_nonempty, decimal_step}
use Rattle.spec_expression.specs.Code.{two_digits}

abbrev padded : List ℕ → List ℕ
padded digits = padded_integral (format_spec 32 0 4 2 (2 ^ 64 - 1)) false [] digits

wide_enough : (ds : List ℕ) → 2 ≤ length ds → padded ds ≡ ds
unfolding padded_integral char_count
wide_enough ds h =
    let none : 2 - length ds ≡ 0 = omega arith in
    rw none (append-nil ds)

two_or_more : (n : ℕ) → 10 ≤ n → n < 2 ^ 64 → 2 ≤ length (decimal n)
two_or_more n large small =
    let front = decimal_nonempty (n / 10) (omega arith) in
    rw (decimal_step n large small, length-append (decimal (n / 10)) ((48 + n % 10) ∷ [])) (omega (arith, front))

pub padded-two_digits : (n : ℕ) → n < 2 ^ 64 → padded_integral (format_spec 32 0 4 2 (2 ^ 64 - 1)) false [] (decimal n) ≡ two_digits n
unfolding padded_integral char_count
padded-two_digits n h = elim (cases_lt n 10) [
  | inl small ↦
      let l : nat_lt n 10 ≡ true = grind (arith, nat_tests) in
      rw (l, decimal_digit n small) refl
  | inr large ↦
      let l : nat_lt n 10 ≡ false = grind (arith, nat_tests) in
      rw l (wide_enough (decimal n) (two_or_more n large h))
]
