use Rattle.std.proofs.Common.{List, sym, subst}
use Rattle.xt_spared.specs.View.{Own}
use Rattle.xt_world.specs.View.{truth_in}
use Rattle.xt_own.specs.View.{AllDecide}
use Rattle.xt_own.proofs.moved.choices_made_now.Goals as goal

pub returns-in-Ok : goal.returns-in-Ok
returns-in-Ok c = λ parameters.
    let s = c.args.stylesheet.now in
    let ask = truth_in s parameters c.args.document.now in
    rw c.in-Ok.is at (c.add_choices-added.ensures parameters (subst (λ (owns : List Own). AllDecide s ask owns) (sym c.new-choices.ensures) tt))
