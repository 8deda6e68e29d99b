use Rattle.xt_spared.specs.View.{owns_of}
use Rattle.xt_world.specs.View.{truth_in}
use Rattle.xt_own.proofs.Keeping.{added}
use Rattle.xt_own.proofs.gathering.gather_choice.Goals as goal

pub returns-in-Some-clause-decided : goal.returns-in-Some-clause-decided
returns-in-Some-clause-decided c = λ parameters document is carries are.
    let decided = rw c.in-Some.is at (c.in_ok-carried_or_made.ensures.decided parameters document is carries) in
    added c.add_choice.result c.args.stylesheet.now (truth_in c.args.stylesheet.now parameters document) (owns_of c.args.choices.now) _ _
    c.add_choice.ensures are decided
