use Rattle.std.proofs.Common.{◌∙◌, ◌+◌, ap, sym, map}
use Rattle.xt_questions.specs.View.{read_of}
use Rattle.xt_questions.specs.Change.{asked_in, asked_until}
use Rattle.xt_questions.proofs.Standing.{take-map}
use Rattle.xt_questions.proofs.hold.count_until.Goals as goal

pub returns-in-Some : goal.returns-in-Some
returns-in-Some c =
    c.count_asked-in-Some.ensures ∙ ap asked_in (take-map read_of c.args.reads.now (c.in-Some.index + 1))
    ∙ ap (asked_until (map read_of c.args.reads.now)) (sym c.in-Some.is)
