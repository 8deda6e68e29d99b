use Rattle.std.proofs.Common.{Option, sym, ap, subst}
use Rattle.std.specs.Prelude.{Box}
use Rattle.std.specs.declared.alloc.Global.{Global}
use Rattle.xt_engine.specs.declared.event.Ran.{Ran}
use Rattle.xt_engine.specs.View.{call_of}
use Rattle.xt_record.specs.Grown.{values_of}
use Rattle.xt_record.specs.declared.index.Index.{Index}
use Rattle.xt_record.specs.declared.pool.Pool.{Pool}
use Rattle.xt_driver.specs.Made.{MadeHolds}
use Rattle.xt_driver.specs.Counted.{IsMadeToo}
use Rattle.xt_driver.proofs.keep.keep_ended.Goals as goal

pub returns-in_ok-keep_run-in-Some-clause-sure : goal.returns-in_ok-keep_run-in-Some-clause-sure
returns-in_ok-keep_run-in-Some-clause-sure c = λ ask before asks.
    let P : Option (Box Ran Global) → Type 0 = λ r. MadeHolds ask r in
    c.in_ok-keep_run-in-Some.ensures.sure ask before (subst P c.in-Some.is asks)

pub returns-in_ok-keep_run-in-Some-clause-kept : goal.returns-in_ok-keep_run-in-Some-clause-kept
returns-in_ok-keep_run-in-Some-clause-kept c =
    let P : Option (Box Ran Global) → Type 0 = λ r. IsMadeToo c.args.reuse.now c.keep_run.new.reuse (call_of c.args.call.now) r in
    subst P (sym c.in-Some.is) c.in_ok-keep_run-in-Some.ensures.kept

pub returns-in-None-clause-sure : goal.returns-in-None-clause-sure
returns-in-None-clause-sure c = λ ask sure holds. c.leave.ensures.sure ask sure

pub returns-in-None-clause-kept : goal.returns-in-None-clause-kept
returns-in-None-clause-kept c =
    let Made : Option (Box Ran Global) → Type 0 = λ o. IsMadeToo c.args.reuse.now c.leave.new.self (call_of c.args.call.now) o in
    subst Made (sym c.in-None.is) (record {
      kept = ap (λ (x : Index). x.records.items) c.leave.ensures.stays.kept;
      next = ap (λ (x : Pool). values_of x.records.items) c.leave.ensures.next;
    })
