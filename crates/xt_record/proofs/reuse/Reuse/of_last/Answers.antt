use Rattle.std.proofs.Common.{◌≡◌, ◌<◌, Option, length, get_or, subst}
use Rattle.std.specs.Prelude.{IfSome}
use Rattle.std.specs.declared.rc.Rc.{Rc}
use Rattle.std.specs.declared.alloc.Global.{Global}
use Rattle.xt_record.specs.declared.record.Record.{Record}
use Rattle.xt_record.proofs.Judging.{is_at}
use Rattle.xt_record.proofs.reuse.Reuse.of_last.Goals as goal

pub returns-clause-at : goal.returns-clause-at
returns-clause-at g c =
    let rs = c.args.self.now.last.now.records.items in
    let turn = c.args.turn in
    let k = c.in_ok-record.ensures in
    let Within : Option (Rc Record Global) → Type 0 = λ o. IfSome o (λ r. turn < length rs) in
    let At : Option (Rc Record Global) → Type 0 = λ o. IfSome o (λ r. r.value ≡ (get_or rs turn r).value) in
    is_at rs turn c.in-Some.record (subst Within c.in-Some.is k.within) (subst At c.in-Some.is k.at)
