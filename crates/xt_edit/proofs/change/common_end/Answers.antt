use Rattle.std.proofs.Common.{sym, ◌∙◌, arith, length, reverse, ◌≡◌}
use Rattle.std.proofs.lemmas.List.{length-reverse}
use Rattle.xt_edit.specs.Telling.{number_of}
use Rattle.xt_edit.proofs.Edges.{past_end, last_same, last_differ}
use Rattle.xt_edit.proofs.change.common_end.Goals as goal

pub returns-then-not-is_same-clause-rests : goal.returns-then-not-is_same-clause-rests
returns-then-not-is_same-clause-rests c =
    sym c.loop-count.invariant.rests
    ∙ last_differ number_of c.args.old.now c.args.new.now c.loop-count.count c.index-old-old.result c.index-new-new.result (omega arith) (omega arith)
    c.index-old-old.is c.index-new-new.is (sym c.is_same.ensures ∙ c.if-not-is_same.true)

pub loop-count-preserved : goal.loop-count-preserved
loop-count-preserved c =
    record {
      within_old = omega arith;
      within_new = omega arith;
      rests = sym (last_same number_of c.args.old.now c.args.new.now c.loop-count.count c.index-old-old.result c.index-new-new.result (omega arith)
          (omega arith) c.index-old-old.is c.index-new-new.is (sym c.is_same.ensures ∙ c.if-not-is_same.false))
          ∙ c.loop-count.invariant.rests;
    }

pub returns-else-count-new-clause-rests : goal.returns-else-count-new-clause-rests
returns-else-count-new-clause-rests c =
    let new = c.args.new.now in
    let same : length (reverse new) ≡ length new = length-reverse new in
    sym c.loop-count.invariant.rests ∙ past_end number_of (reverse c.args.old.now) (reverse new) c.loop-count.count (omega arith)
