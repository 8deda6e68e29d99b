use Rattle.std.proofs.Common.{rules, ◌≡◌, sym, ap, ◌∙◌, refl, subst}
use Rattle.std.specs.Ordering.{is_lt, eq_by_cmp}
use Rattle.std.specs.List.{list_any}
use Rattle.std.specs.List.Sorted.{IsStrictlySortedBy, IsSorted}
use Rattle.std.proofs.lemmas.Fn.{dedup_same}
use Rattle.std.proofs.lemmas.List.Kept.{IsStrictlySortedBy-dedup}
use Rattle.std.proofs.lemmas.List.Sorted.{ranks_by, answers_always, list_any-IsPermutation}
use Rattle.xp_axes.specs.Placed.{placed_cmp}
use Rattle.xp_axes.proofs.Placing.{placed_total}
use Rattle.xp_axes.proofs.Kept.{any_dedup, alike}
use Rattle.xp_axes.proofs.ordered.in_order.Goals as goal

pub returns-clause-order : goal.returns-clause-order
returns-clause-order c =
    let sorted : IsSorted placed_cmp c.sort_unstable_by.new.self.items =
    c.sort_unstable_by.ensures.sorted (λ p q. is_lt (placed_cmp p q)) (ranks_by placed_total (λ p. p))
    (answers_always _ _ _ (λ f a r f' k. ap is_lt (let is : r ≡ placed_cmp a.0.now a.1.0.now = search rules in is))) in
    subst (IsStrictlySortedBy placed_cmp)
    (sym (dedup_same _ (eq_by_cmp placed_cmp) _ (λ x y b f' x' y' k. search rules) _ _ c.dedup_by.ensures.filtered))
    (IsStrictlySortedBy-dedup placed_total (λ x y. refl) c.sort_unstable_by.new.self.items sorted)

pub returns-clause-same : goal.returns-clause-same
returns-clause-same c = λ p.
    ap (list_any (eq_by_cmp placed_cmp p))
    (dedup_same _ (eq_by_cmp placed_cmp) _ (λ x y b f' x' y' k. search rules) _ _ c.dedup_by.ensures.filtered)
    ∙ any_dedup (eq_by_cmp placed_cmp) (eq_by_cmp placed_cmp p) (alike p) c.sort_unstable_by.new.self.items
    ∙ sym (list_any-IsPermutation (eq_by_cmp placed_cmp p) c.args.placed.items c.sort_unstable_by.new.self.items c.sort_unstable_by.ensures.permutation)
