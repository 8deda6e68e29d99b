use Rattle.xt_spared.specs.View.{owns_of}
use Rattle.xt_world.specs.View.{truth_in}
use Rattle.xt_own.proofs.Keeping.{added}
use Rattle.xt_own.proofs.moved.add_once.Goals as goal

pub returns-in-Some-clause-decided : goal.returns-in-Some-clause-decided
returns-in-Some-clause-decided c = λ parameters document is are.
    let decided = rw c.in-Some.is at (c.in_ok-made.ensures.decided parameters document is) in
    added c.add.result c.args.stylesheet.now (truth_in c.args.stylesheet.now parameters document) (owns_of c.args.choices.now) _ _
    c.add.ensures are decided
