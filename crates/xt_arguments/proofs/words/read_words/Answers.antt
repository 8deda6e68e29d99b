use Rattle.std.proofs.Common.{map, string_bytes, ◌∙◌}
use Rattle.clap.specs.Words.{app_of}
use Rattle.xt_arguments.proofs.Reading.{clap_reads, matched, refused}
use Rattle.xt_arguments.proofs.words.read_words.Goals as goal

pub returns-in-Ok-clause-asked : goal.returns-in-Ok-clause-asked
returns-in-Ok-clause-asked c =
    let words = map string_bytes c.args.words.now in
    matched (app_of c.in_ok-command.field-0) words c.in-Ok.matches c.asked_in.result c.in_ok-command.ensures c.in-Ok.ensures.matches c.in-Ok.ensures.kinds
    c.asked_in.ensures ∙ clap_reads words

pub returns : goal.returns
returns c =
    let words = map string_bytes c.args.words.now in
    let nothing = refused (app_of c.in_ok-command.field-0) words c.in-Err.error c.in_ok-command.ensures c.in-Err.ensures.kinds
    (λ e. c.in_default.not-OutOfMemory (c.kind.ensures ∙ e)) in
    record { asked = nothing ∙ clap_reads words; clap = nothing }
