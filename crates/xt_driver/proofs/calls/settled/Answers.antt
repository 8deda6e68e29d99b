use Rattle.std.proofs.Common.{◌≡◌, subst, sym}
use Rattle.spec_run.specs.Meaning.{settled}
use Rattle.xt_engine.specs.View.{call_of}
use Rattle.xt_engine.specs.declared.call.Call.{Call}
use Rattle.xt_driver.proofs.calls.settled.Goals as goal

pub returns-then-says_all : goal.returns-then-says_all
returns-then-says_all c =
    let outer = call_of c.args.outer.now in
    let Settled : Call → Type 0 = λ x. call_of x ≡ settled outer (call_of x) in
    subst Settled c.deref.ensures (sym (c.says_all.ensures c.if-says_all.true outer))
