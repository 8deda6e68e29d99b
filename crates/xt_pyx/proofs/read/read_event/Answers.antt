use Rattle.std.proofs.Common.{sym, ◌∙◌}
use Rattle.xt_pyx.proofs.Events.{event_by_sign}
use Rattle.xt_pyx.proofs.read.read_event.Goals as goal

pub returns-clause-event : goal.returns-clause-event
returns-clause-event c =
    let by_sign = event_by_sign c.args.line.now _ _ c.as_str.result.now c.in-Some.sign c.utf8.line c.chars-characters.ensures.rest c.in-Some.ensures.steps.0
    c.as_str.ensures (sym c.has_only_chars.ensures ∙ c.if-not-has_only_chars.false) in
    rw by_sign c.read_behind.ensures.event

pub returns-clause-bad : goal.returns-clause-bad
returns-clause-bad c =
    let by_sign = event_by_sign c.args.line.now _ _ c.as_str.result.now c.in-Some.sign c.utf8.line c.chars-characters.ensures.rest c.in-Some.ensures.steps.0
    c.as_str.ensures (sym c.has_only_chars.ensures ∙ c.if-not-has_only_chars.false) in
    rw by_sign c.read_behind.ensures.bad
