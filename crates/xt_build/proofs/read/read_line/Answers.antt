use Rattle.std.proofs.Common.{List, ℕ, length, refl, sym, ◌∙◌, ap}
use Rattle.std.specs.Prelude.{◌==◌}
use Rattle.std.specs.Str.{chars}
use Rattle.std.proofs.lemmas.Str.{is_utf8-from_IsUtf8}
use Rattle.spec_document.specs.Pyx.{event_of}
use Rattle.xt_build.proofs.Reading.{is_not_utf8, bad_line}
use Rattle.xt_build.proofs.read.read_line.Goals as goal

pub returns-in_default : goal.returns-in_default
returns-in_default c = is_not_utf8 c.args.bytes.now c.in_default.ensures.cases.0

pub returns-in-Ok-read_event : goal.returns-in-Ok-read_event
returns-in-Ok-read_event c =
    let read = c.in-Ok.ensures.cases in
    (is_utf8-from_IsUtf8 c.args.bytes.now read.1, ap (λ (bytes : List ℕ). event_of (chars bytes)) (sym read.0) ∙ c.in-Ok-read_event.ensures.event)

pub returns-in-Err-Bad : goal.returns-in-Err-Bad
returns-in-Err-Bad c =
    let read = c.in-Ok.ensures.cases in
    let some = ap (λ (bytes : List ℕ). length bytes == 0) (sym read.0) ∙ sym c.is_empty.ensures ∙ c.if-is_empty.false in
    let none = ap (λ (bytes : List ℕ). event_of (chars bytes)) (sym read.0) ∙ (rw c.in-Err-Bad.field-0-is at c.in-Err-Bad.ensures).bad.0 refl in
    (is_utf8-from_IsUtf8 c.args.bytes.now read.1, bad_line c.args.bytes.now read.1 some none)
