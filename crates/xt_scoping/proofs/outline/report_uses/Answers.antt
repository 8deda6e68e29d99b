use Rattle.std.proofs.lemmas.Result.{on_ok_weaker}
use Rattle.xt_scoping.proofs.Adding.{thrice}
use Rattle.xt_scoping.proofs.outline.report_uses.Goals as goal

pub returns : goal.returns
returns c =
    let first = rw c.as_slice.ensures.value at c.in_ok-report_unbound.ensures in
    let second = rw c.as_slice-2.ensures.value at c.in_ok-report_missing.ensures in
    let last = rw c.as_slice-3.ensures.value at c.report_missing-2.ensures in
    on_ok_weaker c.report_missing-2.result (λ third. thrice _ _ _ _ _ _ _ first second third) last
