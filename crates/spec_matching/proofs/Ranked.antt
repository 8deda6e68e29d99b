-- The rules of a stylesheet stand ranked: what is put among ranked rules by the definition of their order leaves them ranked.
use Rattle.std.proofs.Common.{◌≡◌, ℕ, ℤ, Bool, true, false, List, [], ◌∷◌, Option, None, Some, Result, Ok, Err, refl, sym, subst, arith}
use Rattle.std.specs.Prelude.{not, nat_lt, ◌==◌, int_lt, int_le, ◌||◌, ◌&&◌, if◌then◌else◌}
use Rattle.std.specs.Ordering.{int_cmp}
use Rattle.std.specs.declared.cmp.Ordering.TheVariants.{Less, Equal, Greater}
use Rattle.std.specs.List.{list_all}
use Rattle.std.proofs.lemmas.Bool.Decides.{nat_tests}
use Rattle.std.proofs.lemmas.Int.{ints}
use Rattle.spec_stylesheet.specs.Sheet.{Rule, Sheet}
use Rattle.spec_structure.specs.Modules.{Modules}
use Rattle.spec_compile.specs.Scoping.{Ranked, violations_of}
use Rattle.spec_compile.specs.Sheet.{is_greater, put_rule, in_rank, rules_from, ranked_from, sheet_of, first_violation, Refusal, IsSheet, refused, read}
use Rattle.spec_transform.specs.Choice.{counts_more, IsRanked}

-- ---- The order, over numbers

abbrev more : (p : ℕ) (i : ℤ) (n : ℕ) (q : ℕ) (j : ℤ) (m : ℕ) → Bool
more p i n q j m = nat_lt q p || (p == q && (int_lt j i || (int_le j i && nat_lt m n)))

alike : (p : ℕ) (i : ℤ) (n : ℕ) (q : ℕ) (j : ℤ) (m : ℕ)
    → (nat_lt q p || ((p == q) && elim (int_cmp i j) [ Greater ↦ true | Less ↦ false | Equal ↦ nat_lt m n ])) ≡ more p i n q j m
alike p i n q j m = grind (arith, ints, nat_tests)

asymmetric : (p : ℕ) (i : ℤ) (n : ℕ) (q : ℕ) (j : ℤ) (m : ℕ) → more p i n q j m ≡ true → more q j m p i n ≡ false
asymmetric p i n q j m h = grind (arith, ints, nat_tests)

no_more : (p : ℕ) (i : ℤ) (n : ℕ) (q : ℕ) (j : ℤ) (m : ℕ) (r : ℕ) (k : ℤ) (l : ℕ) → more p i n q j m ≡ true → more r k l q j m ≡ false
    → more r k l p i n ≡ false
no_more p i n q j m r k l h g = grind (arith, ints, nat_tests)

-- ---- The order of rules

greater : (a b : Rule) → is_greater a b ≡ counts_more a b
greater a b = alike a.precedence a.priority a.order b.precedence b.priority b.order

-- ---- What is put among ranked rules

both : (a b : Bool) → a ≡ true → b ≡ true → (a && b) ≡ true
both true b h g = g
both false b h g = absurd (cc)

none_and : (a b : Bool) → (not a && b) ≡ true → (a ≡ false) × (b ≡ true)
none_and false b h = (refl, h)
none_and true b h = absurd (cc)

negated : (a : Bool) → a ≡ false → not a ≡ true
negated false h = refl
negated true h = absurd (cc)

-- that no rule of these counts for more than one
abbrev NoneAbove : Rule → List Rule → Type 0
NoneAbove rule others = list_all (λ other. not (counts_more other rule)) others ≡ true

none_above_one_more : (rule other : Rule) (others : List Rule) → counts_more other rule ≡ false → NoneAbove rule others → NoneAbove rule (other ∷ others)
none_above_one_more rule other others h g = both (not (counts_more other rule)) _ (negated (counts_more other rule) h) g

-- a rule that counts for more than one above which there is none
none_above_greater : (rule less : Rule) (others : List Rule) → counts_more rule less ≡ true → NoneAbove less others → NoneAbove rule others
none_above_greater rule less [] h g = refl
none_above_greater rule less (other ∷ others) h g =
    let parts = none_and (counts_more other less) (list_all (λ o. not (counts_more o less)) others) g in
    none_above_one_more rule other others
    (no_more rule.precedence rule.priority rule.order less.precedence less.priority less.order other.precedence other.priority other.order h parts.0)
    (none_above_greater rule less others h parts.1)

put_not_above : (rule put : Rule) (others : List Rule) → counts_more put rule ≡ false → NoneAbove rule others → NoneAbove rule (put_rule put others)
put_not_above rule put [] h g = none_above_one_more rule put [] h refl
put_not_above rule put (other ∷ others) h g =
    go (is_greater put other) (none_and (counts_more other rule) (list_all (λ o. not (counts_more o rule)) others) g)
    (put_not_above rule put others h)
  where
    go : (b : Bool) → (counts_more other rule ≡ false) × NoneAbove rule others → (NoneAbove rule others → NoneAbove rule (put_rule put others))
        → NoneAbove rule (if b then put ∷ other ∷ others else other ∷ put_rule put others)
    go true parts more = none_above_one_more rule put (other ∷ others) h (none_above_one_more rule other others parts.0 parts.1)
    go false parts more = none_above_one_more rule other (put_rule put others) parts.0 (more parts.1)

ranked_put : (rule : Rule) (others : List Rule) → IsRanked others → IsRanked (put_rule rule others)
ranked_put rule [] h = (refl, tt)
ranked_put rule (other ∷ others) h = go (is_greater rule other) (greater rule other) (ranked_put rule others h.1)
  where
    go : (b : Bool) → b ≡ counts_more rule other → IsRanked (put_rule rule others) → IsRanked (if b then rule ∷ other ∷ others else other ∷ put_rule rule others)
    go true is more = (
      none_above_one_more rule other others
          (asymmetric rule.precedence rule.priority rule.order other.precedence other.priority other.order (sym is))
          (none_above_greater rule other others (sym is) h.0),
      h,
    )
    go false is more = (put_not_above other rule others (sym is) h.0, more)

pub ranked_all : (rules : List Rule) → IsRanked (in_rank rules)
ranked_all [] = tt
ranked_all (rule ∷ rules) = ranked_put rule (in_rank rules) (ranked_all rules)

-- ---- The stylesheet that modules are

ranked_unless_refused : (why : Option Refusal) (rs : List Ranked) (sheet : Sheet)
    → (elim why as (λ (o : Option Refusal). Result Sheet Refusal) [ None ↦ Ok (sheet_of rs) | Some found ↦ Err found ]) ≡ Ok sheet
    → IsRanked sheet.rules.rules
ranked_unless_refused None rs sheet e =
    let same : sheet_of rs ≡ sheet = cc in subst (λ (s : Sheet). IsRanked s.rules.rules) same (ranked_all (rules_from 0 0 rs))
ranked_unless_refused (Some why) rs sheet e = absurd (cc)

ranked_result : {modules : Modules} {main : List ℕ} {r : Result Sheet Refusal} → IsSheet modules main r → (sheet : Sheet) → r ≡ Ok sheet
    → IsRanked sheet.rules.rules
ranked_result (refused o h) sheet e = absurd (cc)
ranked_result (read {order = order} {said = said} {stylesheets = stylesheets} o h q) sheet e =
    let rs = ranked_from said 0 stylesheets in ranked_unless_refused (first_violation order (violations_of rs)) rs sheet e

pub ranked_sheet : (modules : Modules) (main : List ℕ) (sheet : Sheet) → IsSheet modules main (Ok sheet) → IsRanked sheet.rules.rules
ranked_sheet modules main sheet h = ranked_result h sheet refl
