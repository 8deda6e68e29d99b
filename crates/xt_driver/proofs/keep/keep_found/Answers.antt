use Rattle.std.proofs.Common.{ap, arith}
use Rattle.xt_record.specs.declared.index.Index.{Index}
use Rattle.xt_record.proofs.Ok.{on_both}
use Rattle.xt_driver.specs.Counted.{kept_before, kept_now}
use Rattle.xt_driver.proofs.Coming.{on_all}
use Rattle.xt_driver.proofs.keep.keep_found.Goals as goal

pub returns-then-found-le-LAST_KEPT-clause-kept : goal.returns-then-found-le-LAST_KEPT-clause-kept
returns-then-found-le-LAST_KEPT-clause-kept c =
    let kept = ap (λ (x : Index). x.records.items) c.plant.ensures.stays.kept in
    on_all c.plant.result c.plant.ensures.next (λ next. kept_before (omega arith) (record { kept = kept; next = next }))

pub returns-clause-kept : goal.returns-clause-kept
returns-clause-kept c =
    on_all c.keep.result (on_both _ _ c.keep.result c.keep.ensures.kept c.keep.ensures.next) (λ e. kept_now (record { kept = e.0; next = e.1 }))
