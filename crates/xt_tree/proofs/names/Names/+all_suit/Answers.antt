use Rattle.std.proofs.Common.{ℕ, ◌≡◌, ◌+◌, ◌∷◌, Bool, true, false, drop, refl, sym, ap, ◌∙◌, arith}
use Rattle.std.specs.Prelude.{◌&&◌}
use Rattle.std.proofs.lemmas.List.{at_drop_more, at_drop_all}
use Rattle.xt_tree.specs.Kept.{kept_at}
use Rattle.xt_tree.specs.Room.{all_suit, suits}
use Rattle.xt_tree.specs.View.{content_of, forest_of, tree_of}
use Rattle.xt_tree.proofs.names.Names.+all_suit.Goals as goal
use Rattle.xt_tree.proofs.names.Names.+all_suit.Goals.{After-suits}

not_first : (a b c : Bool) → a ≡ false → (a && b && c) ≡ false
not_first true b c h = absurd (cc)
not_first false b c h = refl

not_second : (a b c : Bool) → b ≡ false → (a && b && c) ≡ false
not_second true b c h = ap (λ x. x && c) h
not_second false b c h = refl

only_third : (a b c : Bool) → a ≡ true → b ≡ true → (a && b && c) ≡ c
only_third a b c h k = ap (λ x. x && b && c) h ∙ ap (λ x. x && c) k

-- the next sibling, and the others
ahead : (t : ℕ) (c : After-suits t)
    → all_suit (kept_at c.args.self.now) (forest_of (c.sibling-item.result ∷ drop (c.loop-sibling.sibling-index + 1) c.args.siblings.now))
    ≡ all_suit (kept_at c.args.self.now) (forest_of c.args.siblings.now)
ahead t c =
    let kept = kept_at c.args.self.now in
    let at = sym (at_drop_more (λ rest. all_suit kept (forest_of rest)) c.args.siblings.now c.loop-sibling.sibling-index c.sibling-item.result (omega arith))
    ∙ c.loop-sibling.invariant in
    rw (← c.sibling-item.is) at at

own : (t : ℕ) (c : After-suits t)
    → suits (tree_of c.sibling-item.result.value).content (kept_at c.args.self.now (tree_of c.sibling-item.result.value).number) ≡ c.suits.result
own t c =
    let kept = kept_at c.args.self.now in
    let content = (tree_of c.sibling-item.result.value).content in
    sym (c.suits.ensures ∙ ap (λ o. suits (content_of c.content.result.now) o) c.get.ensures
    ∙ ap (λ x. suits x (kept c.id.result.number)) (c.content.ensures ∙ ap (λ n. (tree_of n).content) c.deref.ensures)
    ∙ ap (λ n. suits content (kept n)) (c.id.ensures ∙ ap (λ n. (tree_of n).number) c.deref-in-loop-sibling.ensures))

pub returns-then-not-suits : goal.returns-then-not-suits
returns-then-not-suits t c =
    let at = (goal.at.returns-then-not-suits t c).After-suits in
    sym (sym (ahead t at) ∙ not_first _ _ _ (own t at ∙ c.if-not-suits.true))

pub returns-then-not-all_suit : goal.returns-then-not-all_suit
returns-then-not-all_suit t c =
    let at = (goal.at.returns-then-not-all_suit t c).After-suits in
    let kept = kept_at c.args.self.now in
    let below = ap (all_suit kept) (sym (c.children.ensures.forest ∙ ap (λ n. (tree_of n).children) c.deref-in-loop-sibling-2.ensures))
    ∙ sym c.all_suit.ensures ∙ c.if-not-all_suit.true in
    sym (sym (ahead t at) ∙ not_second _ _ _ below)

pub loop-sibling-preserved : goal.loop-sibling-preserved
loop-sibling-preserved t c =
    let at = (goal.at.loop-sibling-preserved t c).After-suits in
    let kept = kept_at c.args.self.now in
    let below = ap (all_suit kept) (sym (c.children.ensures.forest ∙ ap (λ n. (tree_of n).children) c.deref-in-loop-sibling-2.ensures))
    ∙ sym c.all_suit.ensures ∙ c.if-not-all_suit.false in
    sym (only_third _ _ _ (own t at ∙ c.if-not-suits.false) below) ∙ ahead t at

pub returns : goal.returns
returns t c =
    let kept = kept_at c.args.self.now in
    sym (at_drop_all (λ rest. all_suit kept (forest_of rest)) c.args.siblings.now c.loop-sibling.sibling-index (omega arith)) ∙ c.loop-sibling.invariant
