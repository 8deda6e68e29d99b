use Rattle.std.proofs.Common.{arith, drop}
use Rattle.xt_tree.proofs.Declared.{skipped_on}
use Rattle.xt_tree.proofs.declarations.place_behind.Goals as goal

pub returns-then-place-limit : goal.returns-then-place-limit
returns-then-place-limit c =
    let place = c.loop-declaration.place in
    let on = skipped_on (drop c.loop-declaration.declaration-index c.args.declarations.now) place in
    let is = c.loop-declaration.invariant in
    omega (arith, on, is, c.if-place-limit.true)
