use Rattle.std.proofs.Common.{arith, map}
use Rattle.xt_syntax.specs.SheetView.{unit_of}
use Rattle.xt_held.specs.Called.{numbered_modules, numbers_among}
use Rattle.xt_held.proofs.Calling.{one_more}
use Rattle.xt_held.proofs.stylesheet.numbers_of.Goals as goal

pub loop-unit-preserved : goal.loop-unit-preserved
loop-unit-preserved c =
    let numbered = numbered_modules c.args.modules.now.entries in
    one_more numbered c.args.units.now c.loop-unit.unit-index c.unit-item.result c.loop-unit.numbers.items c.push_number.new.numbers.items
    c.number_at.result (numbers_among numbered (map unit_of c.args.units.now)) (omega arith) c.unit-item.is c.in_ok-push_number.ensures
    c.number_at.ensures c.loop-unit.invariant
