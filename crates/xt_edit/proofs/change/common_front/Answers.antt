use Rattle.std.proofs.Common.{sym, ◌∙◌, arith}
use Rattle.xt_edit.specs.Telling.{number_of}
use Rattle.xt_edit.proofs.Edges.{past_end}
use Rattle.xt_edit.proofs.change.common_front.Goals as goal

pub returns-else-count-new-clause-rests : goal.returns-else-count-new-clause-rests
returns-else-count-new-clause-rests c =
    sym c.loop-count.invariant.rests ∙ past_end number_of c.args.old.now c.args.new.now c.loop-count.count (omega arith)
