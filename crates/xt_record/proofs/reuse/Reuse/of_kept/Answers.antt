use Rattle.std.proofs.Common.{◌≡◌, ◌<◌, ◌≤◌, Option, length, get_or, subst}
use Rattle.std.specs.Prelude.{IfSome}
use Rattle.std.specs.declared.rc.Rc.{Rc}
use Rattle.std.specs.declared.alloc.Global.{Global}
use Rattle.spec_reuse.specs.Serving.{IsOf}
use Rattle.xt_engine.specs.View.{call_of}
use Rattle.xt_record.specs.View.{kept_in}
use Rattle.xt_record.specs.declared.record.Record.{Record}
use Rattle.xt_record.proofs.Judging.{all_at, is_at}
use Rattle.xt_record.proofs.reuse.Reuse.of_kept.Goals as goal

pub returns-in-Some-clause-serves : goal.returns-in-Some-clause-serves
returns-in-Some-clause-serves c = λ ask sure.
    let rs = c.args.self.now.kept.records.items in
    let call = call_of c.args.call.now in
    let turn = c.args.turn in
    let k = c.in_ok-suiting.ensures in
    let Of : Option (Rc Record Global) → Type 0 = λ o. IfSome o (λ r. IsOf call (kept_in r.value)) in
    let Levels : Option (Rc Record Global) → Type 0 = λ o. IfSome o (λ r. r.value.ran.height ≤ c.args.below) in
    let Within : Option (Rc Record Global) → Type 0 = λ o. IfSome o (λ r. turn < length rs) in
    let At : Option (Rc Record Global) → Type 0 = λ o. IfSome o (λ r. r.value ≡ (get_or rs turn r).value) in
    record {
      of_call = subst Of c.in-Some.is k.of_call;
      levels = subst Levels c.in-Some.is k.levels;
      asks = all_at ask rs turn c.in-Some.kept (subst Within c.in-Some.is k.within) (subst At c.in-Some.is k.at) sure.kept;
    }

pub returns-in-Some-clause-at : goal.returns-in-Some-clause-at
returns-in-Some-clause-at c =
    let rs = c.args.self.now.kept.records.items in
    let turn = c.args.turn in
    let k = c.in_ok-suiting.ensures in
    let Within : Option (Rc Record Global) → Type 0 = λ o. IfSome o (λ r. turn < length rs) in
    let At : Option (Rc Record Global) → Type 0 = λ o. IfSome o (λ r. r.value ≡ (get_or rs turn r).value) in
    is_at rs turn c.in-Some.kept (subst Within c.in-Some.is k.within) (subst At c.in-Some.is k.at)
