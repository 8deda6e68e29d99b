use Rattle.std.proofs.Common.{Ok, Err, sym, ap, ◌∙◌, arith}
use Rattle.xt_structure.specs.View.{fault_in, in_force, visit_in}
use Rattle.xt_structure.proofs.Siblings.{turn}
use Rattle.xt_structure.proofs.walk.+fault_among.Goals as goal

pub fault_among-returns-in-Fault : goal.fault_among-returns-in-Fault
fault_among-returns-in-Fault t c =
    let said = rw c.deref.ensures at c.in_ok-fault.ensures in
    turn (in_force c.args.inside.now) c.loop-i.kind c.args.path.now c.args.siblings.now c.loop-i.i c.index-siblings-i.result (Err (fault_in c.in-Fault.fault)) _
    (omega arith) c.index-siblings-i.is (ap visit_in (sym c.in-Fault.is) ∙ said) c.loop-i.invariant

pub fault_among-loop-i-preserved : goal.fault_among-loop-i-preserved
fault_among-loop-i-preserved t c =
    let said = rw c.deref.ensures at c.in_ok-fault.ensures in
    turn (in_force c.args.inside.now) c.loop-i.kind c.args.path.now c.args.siblings.now c.loop-i.i c.index-siblings-i.result (Ok c.in-Next.next) _
    (omega arith) c.index-siblings-i.is (ap visit_in (sym c.in-Next.is) ∙ said) c.loop-i.invariant
