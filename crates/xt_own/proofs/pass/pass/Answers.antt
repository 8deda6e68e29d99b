use Rattle.std.proofs.Common.{ℕ, drop}
use Rattle.xt_own.specs.Keys.{Goes}
use Rattle.xt_own.proofs.SideBySide.{ok_some_weaker, some_is}
use Rattle.xt_own.proofs.pass.pass.Goals as goal

pub returns-in-Some-clause-goes : goal.returns-in-Some-clause-goes
returns-in-Some-clause-goes c =
    let s = c.args.scene.now.stylesheet.now in
    let d = c.args.scene.now.document.now in
    let since = c.args.scene.now.since.now in
    let name = c.args.scene.now.name.now in
    let before = c.args.before.now in
    let old = c.args.found.now.items in
    let new = c.pass_here.new.found.items in
    let first = c.args.but.now.items in
    let between = c.past_gone.new.but.items in
    let last = c.pass_here.new.but.items in
    let weaker : (after : ℕ) → Goes s d since name between (drop c.in-Some.next before) old last (drop after before) new
    → Goes s d since name first (drop c.args.passed before) old last (drop after before) new =
    λ after goes was parameters answer agrees passed.
    goes was parameters answer agrees (some_is _ c.in-Some.is c.in_ok-past_gone.ensures.skips s was _ name answer old passed) in
    ok_some_weaker _ weaker c.pass_here.ensures.goes
