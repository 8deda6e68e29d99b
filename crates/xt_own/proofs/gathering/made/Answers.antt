use Rattle.xt_world.specs.View.{truth_in}
use Rattle.xt_own.proofs.Keeping.{shared_decided}
use Rattle.xt_own.proofs.gathering.made.Goals as goal

pub returns-in_ok-own_choice-in-Choice-clause-decided : goal.returns-in_ok-own_choice-in-Choice-clause-decided
returns-in_ok-own_choice-in-Choice-clause-decided c = λ parameters document is.
    shared_decided c.shared.result _ c.args.stylesheet.now (truth_in c.args.stylesheet.now parameters document) c.shared.ensures
    (c.in_ok-own_choice-in-Choice.ensures.decided parameters document is)
