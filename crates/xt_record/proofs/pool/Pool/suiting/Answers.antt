use Rattle.std.proofs.Common.{◌∙◌, sym, ap}
use Rattle.std.proofs.lemmas.Option.{get_or_from_slice_get}
use Rattle.std.specs.declared.rc.Rc.{Rc}
use Rattle.std.specs.declared.alloc.Global.{Global}
use Rattle.xt_record.specs.declared.record.Record.{Record}
use Rattle.xt_record.proofs.pool.Pool.suiting.Goals as goal

pub returns-clause-at : goal.returns-clause-at
returns-clause-at c =
    c.in_ok-clone.ensures.cases ∙ ap (λ (x : Rc Record Global). x.value)
    (sym (get_or_from_slice_get c.args.self.now.records.items c.args.turn c.record_at-record.result.now c.in_ok-clone.field-0 c.record_at-record.ensures))
