use Rattle.std.proofs.Common.{◌≡◌, Option, get_or, subst}
use Rattle.std.specs.Prelude.{IfSome}
use Rattle.std.specs.declared.rc.Rc.{Rc}
use Rattle.std.specs.declared.alloc.Global.{Global}
use Rattle.spec_reuse.specs.Serving.{IsOf}
use Rattle.xt_engine.specs.View.{call_of}
use Rattle.xt_record.specs.View.{kept_in}
use Rattle.xt_record.specs.declared.record.Record.{Record}
use Rattle.xt_record.proofs.Saying.{tree_said}
use Rattle.xt_record.proofs.reuse.said_by.Goals as goal

pub returns-in-Some : goal.returns-in-Some
returns-in-Some c =
    let pool = c.args.last.now in
    let rs = pool.records.items in
    let turn = c.args.turn in
    let call = call_of c.args.call.now in
    let k = c.in_ok-suiting.ensures in
    let Of : Option (Rc Record Global) → Type 0 = λ o. IfSome o (λ r. IsOf call (kept_in r.value)) in
    let At : Option (Rc Record Global) → Type 0 = λ o. IfSome o (λ r. r.value ≡ (get_or rs turn r).value) in
    record {
      said = λ ask trees holds. tree_said ask pool turn c.args.levels call c.args.whole.now c.in_ok-copy.copy c.in-Some.record k.paired c.requires.within
          c.requires.tree c.in_ok-copy.ensures.cases c.requires.room (subst Of c.in-Some.is k.of_call) (subst At c.in-Some.is k.at) trees holds;
    }
