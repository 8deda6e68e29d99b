use Rattle.std.proofs.Common.{◌≡◌, length, arith}
use Rattle.xt_frames.specs.declared.frame.Frame.TheVariants as frames
use Rattle.xt_frames.proofs.Lefts.{if_ok, if_both}
use Rattle.xt_instructions.proofs.Askings.{asks_at, steps_asked, steps_halted, steps_in, steps_lacking}
use Rattle.xt_instructions.proofs.sorting.go_on_sorting.Goals as goal

pub returns-in-Is-clause-does : goal.returns-in-Is-clause-does
returns-in-Is-clause-does g c =
    if_ok c.go_on_rows.result c.go_on_rows.ensures.does (λ next h. steps_asked (rw c.in-Is.is at c.in-Ok.ensures.asks) (steps_in (frames.Sorting c.ask_criteria.new.sorting) c.ask_criteria.ensures.truth h))

pub returns-in-Halts-clause-does : goal.returns-in-Halts-clause-does
returns-in-Halts-clause-does g c = steps_halted c.in-Halts.why (rw c.in-Halts.is at c.in-Ok.ensures.asks)

pub returns-in-Lacks-clause-does : goal.returns-in-Lacks-clause-does
returns-in-Lacks-clause-does g c =
    let s = c.ask_criteria.new.sorting in
    let n : length s.criteria.items ≡ c.len-number.result = omega (arith, c.len-number.ensures, s.criteria.ok.0) in
    let asks = rw c.in-Lacks.is at c.in-Ok.ensures.asks in
    if_both c.lack_at.result c.lack_at.ensures.needs c.lack_at.ensures.pushed (λ next e back. steps_lacking next (asks_at n asks) e back)
