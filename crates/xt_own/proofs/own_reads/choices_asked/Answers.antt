use Rattle.std.proofs.Common.{List, sym, subst}
use Rattle.xt_spared.specs.View.{Own}
use Rattle.xt_world.specs.View.{truth_in}
use Rattle.xt_own.specs.View.{AllDecide}
use Rattle.xt_own.proofs.own_reads.choices_asked.Goals as goal

pub returns-in-Ok : goal.returns-in-Ok
returns-in-Ok c = λ parameters carries.
    let s = c.args.stylesheet.now in
    let ask = truth_in s parameters c.args.document.now in
    rw c.in-Ok.is at (c.gather_choices-gathered.ensures parameters carries (subst (λ (owns : List Own). AllDecide s ask owns) (sym c.new-choices.ensures) tt))
