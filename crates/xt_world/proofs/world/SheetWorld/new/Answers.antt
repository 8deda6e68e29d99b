use Rattle.xt_syntax.specs.SheetView.{rules_of}
use Rattle.xt_world.specs.ParameterView.{parameters_of}
use Rattle.xt_world.specs.View.{truth_with}
use Rattle.xt_world.proofs.Holding.{found_before}
use Rattle.xt_world.proofs.world.SheetWorld.new.Goals as goal

pub returns : goal.returns
returns c =
    let s = c.args.stylesheet.now in
    let document = c.args.document.now in
    let source = found_before s document c.args.keys.items c.requires in
    let rules = c.new-table.ensures in
    λ i. truth_with (source i) (rules_of (rules i)).rules s (parameters_of c.args.parameters.now) document
