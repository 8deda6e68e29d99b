use Rattle.std.proofs.Common.{Option, ap, sym, ◌∙◌}
use Rattle.spec_meaning.specs.Question.{Chosen, ChosenRule}
use Rattle.xt_syntax.specs.SheetView.{rules_of}
use Rattle.xt_questions.specs.View.{candidates_of}
use Rattle.xt_document_world.proofs.Told.{told_any, told_none}
use Rattle.spec_node.specs.declared.node_ref.NodeRef.{NodeRef}
use Rattle.xt_world.specs.SourceView.{source_of}
use Rattle.xt_world.specs.View.{rule_held, said_by}
use Rattle.xt_world.proofs.world.chosen.Goals as goal

pub returns-then-not-branch-clause-answer : goal.returns-then-not-branch-clause-answer
returns-then-not-branch-clause-answer c =
    let s = c.args.stylesheet.now in
    sym (told_none c.args.document.now c.distinct_numbers.ensures c.args.node
    (λ e. rule_held s (said_by (source_of c.args.source.now) (rules_of c.args.table.now.rules.now).rules s c.args.node c.args.mode.now (candidates_of c.args.candidates)))
    (sym c.in_ok-has.ensures ∙ c.if-not-branch.true))

pub returns-clause-answer : goal.returns-clause-answer
returns-clause-answer c =
    let s = c.args.stylesheet.now in
    let document = c.args.document.now in
    let said = said_by (source_of c.args.source.now) (rules_of c.args.table.now.rules.now).rules s c.args.node c.args.mode.now (candidates_of c.args.candidates) in
    let told = told_any document c.distinct_numbers.ensures c.args.node (rule_held s said) (sym c.in_ok-has.ensures ∙ c.if-not-branch.false) in
    ap (λ (rule : Option (ChosenRule NodeRef)). Chosen rule) c.rule_numbered.ensures ∙ sym (told ∙ c.in_ok-number.ensures.number)
