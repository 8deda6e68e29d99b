use Rattle.std.proofs.Common.{map, take, arith}
use Rattle.xt_scoping.specs.View.{violation_in}
use Rattle.xt_compile.proofs.Faults.{next_faulty, none_faulty}
use Rattle.xt_compile.proofs.between.faulty_modules.Goals as goal

pub loop-violation-init : goal.loop-violation-init
loop-violation-init c = none_faulty _

pub loop-violation-preserved : goal.loop-violation-preserved
loop-violation-preserved c =
    let vs = c.args.violations.now in
    let i = c.loop-violation.violation-index in
    next_faulty vs i c.violation-item.result c.add_module.new.faulty.keys (omega arith) c.violation-item.is
    ((c.in_ok-add_module.ensures {u = tt}) (map violation_in (take i vs)) c.loop-violation.invariant)
