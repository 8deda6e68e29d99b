use Rattle.std.proofs.Common.{◌∙◌, sym, ap, arith}
use Rattle.std.proofs.lemmas.List.{at_drop_more, at_drop_all}
use Rattle.spec_meaning.specs.Stream.{followed}
use Rattle.xp_axes.proofs.Kept.{some_same}
use Rattle.xt_tree.specs.View.{forest_of}
use Rattle.xt_copy.specs.Copied.{copied_in, copied_from}
use Rattle.xt_copy.proofs.Among.{reached_from_root}
use Rattle.xt_copy.proofs.Onward.{no_step}
use Rattle.xt_copy.proofs.way.copy_at.Goals as goal

pub returns-in-None : goal.returns-in-None
returns-in-None c x e =
    let chosen = copied_in c.loop-position.outer (forest_of c.loop-position.chosen.now) in
    let inner = c.loop-position.inner in
    let below = forest_of c.loop-position.below.now in
    let at = sym (at_drop_more (λ rest. copied_from rest chosen inner below) c.positions-position-items.result.now c.loop-position.position-index 0
    (omega arith)) ∙ c.loop-position.invariant in
    let none = sym (no_step _ _ chosen inner below c.in-None.ensures) ∙ at ∙ reached_from_root c.args.document.now c.args.path.now x e in
    absurd (cc)

pub returns : goal.returns
returns c x e =
    let chosen = copied_in c.loop-position.outer (forest_of c.loop-position.chosen.now) in
    let at = sym (at_drop_all (λ rest. copied_from rest chosen c.loop-position.inner (forest_of c.loop-position.below.now)) c.positions-position-items.result.now
    c.loop-position.position-index (omega arith)) ∙ c.loop-position.invariant in
    c.in_ok-push_copies.ensures ∙ ap (λ s. followed s chosen) c.new-items.ensures
    ∙ some_same _ _ (at ∙ reached_from_root c.args.document.now c.args.path.now x e)
