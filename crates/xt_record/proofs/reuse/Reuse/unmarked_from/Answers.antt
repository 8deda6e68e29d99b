use Rattle.xt_record.proofs.Quiet.{none_in_tree}
use Rattle.xt_touch.specs.View.{since_of}
use Rattle.xt_record.proofs.reuse.Reuse.unmarked_from.Goals as goal

pub returns-clause-quiet : goal.returns-clause-quiet
returns-clause-quiet c = λ trees.
    let self = c.args.self.now in
    none_in_tree (since_of self.spared.now.since.now) self.last.now c.args.turn c.first_of.result c.in_ok-whole.whole.now c.whole_at.ensures.paired c.requires
    c.in_ok-whole.ensures.tree c.first_of.ensures.first trees (c.marks_none.ensures c.if-not-marks_none.false)
