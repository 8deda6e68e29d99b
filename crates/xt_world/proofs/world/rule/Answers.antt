use Rattle.std.proofs.Common.{◌≡◌, ℕ, List, Option, map, refl, ap}
use Rattle.std.proofs.lemmas.Result.{IfOk-weaker}
use Rattle.spec_meaning.specs.Program.{Gives}
use Rattle.xt_syntax.specs.SheetView.{rules_of}
use Rattle.xt_questions.specs.View.{candidates_of, known_of}
use Rattle.xt_questions.specs.declared.context.Known.{Known}
use Rattle.xt_questions.proofs.Steps.{runs_keeps}
use Rattle.xt_world.specs.SourceView.{source_of}
use Rattle.xt_world.specs.View.{GivesNumber, rule_held, said_by}
use Rattle.xt_world.proofs.Choosing.{chosen_is, nothing}
use Rattle.xt_world.proofs.world.rule.Goals as goal

pub returns-clause-number : goal.returns-clause-number
returns-clause-number c =
    let s = c.args.stylesheet.now in
    let source = source_of c.args.source.now in
    let given = ap (λ (known : List Known). record nothing { globals = map known_of known }) c.new.ensures.items in
    let runs = rw c.as_slice-units.ensures.value at c.choose-chosen.ensures.runs in
    IfOk-weaker c.number_of.result (GivesNumber c.choose-chosen.result)
    (λ (number : Option ℕ). rule_held s (said_by source (rules_of c.args.table.now.rules.now).rules s c.args.node c.args.mode.now (candidates_of c.args.candidates)) ≡ rule_held s (Gives number))
    (λ number is. chosen_is s source _ _ _ _ c.choose-chosen.result number refl given runs is) c.number_of.ensures

pub returns-clause-same : goal.returns-clause-same
returns-clause-same c = runs_keeps c.choose-chosen.ensures.runs
