use Rattle.std.proofs.Common.{◌≡◌, ◌+◌, ◌-◌, take, sym, ap, ◌∙◌, arith}
use Rattle.spec_change.specs.Change.{is_among}
use Rattle.xt_tree.specs.View.{forest_of}
use Rattle.xt_touch.specs.Missing.{missing_among}
use Rattle.xt_touch.proofs.Siblings.{end_turn}
use Rattle.xt_touch.proofs.sight.before_common_end.Goals as goal

pub loop-left-preserved : goal.loop-left-preserved
loop-left-preserved c =
    let left = c.loop-left.left in
    let same : left - 1 + 1 ≡ left = omega arith in
    record {
      within = omega arith;
      within_others = omega arith;
      same = λ numbers told. end_turn numbers c.args.siblings.now (left - 1) c.index-siblings-left.result _ (omega arith) c.index-siblings-left.is
          (ap (is_among numbers) (sym c.id_of.ensures) ∙ c.is_at.ensures.told numbers told c.if-not-is_at.false)
          (ap (λ k. missing_among numbers (forest_of (take k c.args.siblings.now))) same ∙ c.loop-left.invariant.same numbers told);
    }
