use Rattle.std.proofs.Common.{sym, ap, ◌∙◌, arith}
use Rattle.std.proofs.lemmas.List.{at_drop_all, take_rest}
use Rattle.spec_change.specs.Change.{is_among}
use Rattle.xt_tree.specs.View.{forest_of}
use Rattle.xt_touch.specs.Missing.{missing_among}
use Rattle.xt_touch.proofs.Siblings.{front_turn}
use Rattle.xt_touch.proofs.sight.past_common_front.Goals as goal

pub returns-then-not-is_at : goal.returns-then-not-is_at
returns-then-not-is_at c =
    λ numbers told. ap (λ xs. missing_among numbers (forest_of xs)) (take_rest c.args.siblings.now c.loop-count.count)
    ∙ c.loop-count.invariant.same numbers told

pub loop-count-preserved : goal.loop-count-preserved
loop-count-preserved c =
    record {
      within = omega arith;
      same = λ numbers told. front_turn numbers c.args.siblings.now c.loop-count.count c.index-siblings-count.result _ (omega arith) c.index-siblings-count.is
          (ap (is_among numbers) (sym c.id_of.ensures) ∙ c.is_at.ensures.told numbers told c.if-not-is_at.false) (c.loop-count.invariant.same numbers told);
    }

pub returns : goal.returns
returns c =
    λ numbers told. sym (at_drop_all (λ xs. missing_among numbers (forest_of xs)) c.args.siblings.now c.loop-count.count (omega arith))
    ∙ c.loop-count.invariant.same numbers told
