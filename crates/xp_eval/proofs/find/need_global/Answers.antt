use Rattle.std.proofs.Common.{sym}
use Rattle.spec_meaning.specs.Supplies.{at_hand}
use Rattle.xt_questions.specs.View.{supplies_of}
use Rattle.xp_eval.proofs.find.need_global.Goals as goal

pub returns-in-Some-clause-runs : goal.returns-in-Some-clause-runs
returns-in-Some-clause-runs g c =
    let found = rw (c.in-Some.is, c.as_slice.ensures.value) at c.in_ok-find_global.ensures in
    (rw c.in_ok-wanted.ensures at (c.see_global.ensures.runs (at_hand (supplies_of c.args.supplies.now) c.args.depth))) (sym found)
