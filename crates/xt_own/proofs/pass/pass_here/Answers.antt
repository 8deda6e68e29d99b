use Rattle.std.proofs.Common.{arith, ◌+◌, drop}
use Rattle.xt_own.proofs.SideBySide.{front_passed}
use Rattle.xt_own.proofs.pass.pass_here.Goals as goal

pub returns-then-branch-clause-goes : goal.returns-then-branch-clause-goes
returns-then-branch-clause-goes c = λ was parameters answer agrees passed.
    c.in_ok-pass_same.ensures.goes c.if-branch.true (drop (c.args.next + 1) c.args.before.now) was parameters answer agrees
    (front_passed _ was _ _ answer _ c.args.before.now _ c.args.next c.index-before-next.result (omega arith) c.index-before-next.is passed)

pub returns-then-branch-2-clause-goes : goal.returns-then-branch-2-clause-goes
returns-then-branch-2-clause-goes c = c.in_ok-pass_new.ensures.goes c.if-branch-2.true (drop c.args.next c.args.before.now)
