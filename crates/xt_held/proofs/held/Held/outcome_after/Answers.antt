use Rattle.std.proofs.Common.{Option, subst, sym}
use Rattle.std.specs.Prelude.{IfOk, IfSome}
use Rattle.std.specs.Option.{option_copied}
use Rattle.xt_touch.specs.View.{since_of}
use Rattle.xt_world.specs.ParameterView.{parameters_of}
use Rattle.xt_held.specs.RunView.{KeptHolds, KeptSpared}
use Rattle.xt_held.specs.StylesheetView.{AreCompiled}
use Rattle.xt_held.specs.declared.stylesheet.Compiled.{Compiled}
use Rattle.xt_held.proofs.Left.{left_so, run_spared}
use Rattle.xt_held.specs.Complete.{KeepsWhere}
use Rattle.xt_held.specs.Cost.{CostsRun}
use Rattle.xt_held.proofs.Asking.{came_asked}
use Rattle.xt_held.proofs.held.Held.outcome_after.Goals as goal

pub outcome_of-requires : goal.outcome_of-requires
outcome_of-requires c =
    let held = c.args.self.now in
    let given = parameters_of held.parameters in
    let source = option_copied c.args.source in
    let changes = since_of c.args.since in
    subst (λ (o : Option Compiled). KeptSpared o given source held.last.kept changes) (sym c.as_ref-compiled.ensures.value)
    (run_spared held.compiled held.last.before given source held.last.kept changes c.requires.spared)

pub returns-clause-outcome : goal.returns-clause-outcome
returns-clause-outcome c = λ modules are.
    c.outcome_of.ensures.outcome modules (subst (λ (o : Option Compiled). AreCompiled modules o) (sym c.as_ref-compiled.ensures.value) are)

pub returns-clause-last : goal.returns-clause-last
returns-clause-last c =
    let held = c.args.self.now in
    let given = parameters_of held.parameters in
    let source = option_copied c.args.source in
    left_so held.compiled held.last.before given source held.last (since_of c.args.since) c.outcome_of.result c.outcome_of.ensures.fits
    (subst (λ (o : Option Compiled). IfOk c.outcome_of.result (λ came. IfSome came.kept (KeptHolds o given source))) c.as_ref-compiled.ensures.value
    c.outcome_of.ensures.last)
    c.outcome_of.ensures.since c.requires.spared c.requires.answers c.requires.faultless

pub returns-clause-cost : goal.returns-clause-cost
returns-clause-cost c =
    let held = c.args.self.now in
    subst (λ (o : Option Compiled). IfOk c.outcome_of.result (λ came. CostsRun o (parameters_of held.parameters) (option_copied c.args.source)
    held.last.kept.records came.counts)) c.as_ref-compiled.ensures.value c.outcome_of.ensures.cost

pub returns-clause-keeps : goal.returns-clause-keeps
returns-clause-keeps c =
    let held = c.args.self.now in
    subst (λ (o : Option Compiled). IfOk c.outcome_of.result (λ came. KeepsWhere o (parameters_of held.parameters) (option_copied c.args.source) came.kept))
    c.as_ref-compiled.ensures.value c.outcome_of.ensures.keeps

pub returns-clause-asks : goal.returns-clause-asks
returns-clause-asks c = λ marks told.
    came_asked marks (since_of c.args.since) c.args.self.now.last.kept.records c.outcome_of.result told c.outcome_of.ensures.asked
    c.outcome_of.ensures.least c.outcome_of.ensures.since
