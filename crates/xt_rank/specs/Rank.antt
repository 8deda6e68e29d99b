-- Rules by their ranks.
use Rattle.std.specs.Prelude.{◌≡◌, ℕ, ℤ, ◌+◌, ◌≤◌, List, [], ◌∷◌, map}
use Rattle.std.specs.Map.{values_of}
use Rattle.std.specs.declared.cmp.Reverse.{Reverse}
use Rattle.spec_stylesheet.specs.Sheet as sheet
use Rattle.xt_syntax.specs.SheetView.{rule_of}
use Rattle.xt_syntax.specs.declared.rule.Rule.{Rule}

-- each has the number of its place, from this one on
abbrev pub AreNumbered : ℕ → List sheet.Rule → Type 0
AreNumbered n [] = Unit {0}
AreNumbered n (r ∷ rs) = (r.order ≡ n) × AreNumbered (n + 1) rs

abbrev pub Rank : Type 0
Rank = Reverse ℕ × Reverse ℤ × Reverse ℕ

abbrev pub ranked_rules : List (Rank × Rule) → List sheet.Rule
ranked_rules es = map rule_of (values_of es)

-- each rule stands under its rank, and has this number at least
pub record IsRanked (n : ℕ) (rank : Rank) (rule : Rule) : Type 0 where
  pub precedence : rank.0.0 ≡ rule.precedence
  pub priority : rank.1.0 ≡ rule.priority
  pub order : rank.2.0 ≡ rule.order
  pub behind : n ≤ rule.order

abbrev pub AreRanked : ℕ → List (Rank × Rule) → Type 0
AreRanked n [] = Unit {0}
AreRanked n (e ∷ es) = IsRanked n e.0 e.1 × AreRanked n es
