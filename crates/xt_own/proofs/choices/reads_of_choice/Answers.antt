use Rattle.std.proofs.Common.{List, Some, map, ap, ◌∙◌}
use Rattle.xt_questions.specs.View.{candidates_of, known_of, read_of}
use Rattle.xt_questions.specs.declared.context.Known.{Known}
use Rattle.xt_questions.specs.declared.read.Read.{Read as CodeRead}
use Rattle.xt_questions.proofs.Steps.{runs_keeps}
use Rattle.xt_syntax.specs.SheetView.{rules_of}
use Rattle.xt_world.specs.SourceView.{source_of}
use Rattle.xt_own.specs.Asking.{asked_of, choice_among}
use Rattle.xt_own.proofs.Logging.{kept_are, nothing, reads_are}
use Rattle.xt_own.proofs.choices.reads_of_choice.Goals as goal

pub returns-clause-reads : goal.returns-clause-reads
returns-clause-reads c =
    let asking = asked_of c.args.choosing.now in
    let choice = choice_among asking.rules c.args.stylesheet.now c.args.node c.args.mode.now (candidates_of c.args.candidates) in
    let given = ap (λ (known : List Known). record nothing { globals = map known_of known }) c.new.ensures.items in
    let runs = rw c.as_slice-units.ensures.value at c.choose-chosen.ensures.runs in
    let some = λ (reads : List CodeRead). Some (map read_of reads) in
    kept_are c.kept_if_made.result c.take_reads-reads.result c.choose-chosen.result _ c.kept_if_made.ensures
    (λ made. reads_are asking.source choice _ _ _ c.choose-chosen.result _ (ap source_of c.take_reads.ensures.source)
    (ap some c.take_reads.ensures.none) given runs made (ap some c.take_reads-reads.ensures.reads))

pub returns-clause-same : goal.returns-clause-same
returns-clause-same c =
    let source = ap source_of c.take_reads-reads.ensures.source ∙ runs_keeps c.choose-chosen.ensures.runs ∙ ap source_of c.take_reads.ensures.source in
    let rules = c.choose-chosen.ensures.same in
    λ i. record { source = source i; rules = (rules_of (rules i)).rules }
