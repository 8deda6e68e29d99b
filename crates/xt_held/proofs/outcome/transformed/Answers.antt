use Rattle.std.proofs.Common.{Some, subst, sym, ◌≤◌, arith}
use Rattle.std.specs.Prelude.{IfOk, IfSome}
use Rattle.xt_driver.specs.View.{whole_of}
use Rattle.xt_import.specs.View.{plain_of}
use Rattle.xt_touch.specs.View.{since_of}
use Rattle.xt_world.specs.ParameterView.{parameters_of}
use Rattle.xt_held.specs.RunView.{KeptHolds, KeptSpared}
use Rattle.xt_held.specs.declared.last_run.Kept.{Kept}
use Rattle.xt_held.specs.declared.stylesheet.Compiled.{Compiled}
use Rattle.xt_held.specs.declared.stylesheet.Compiled.TheVariants.{Stylesheet}
use Rattle.xt_held.proofs.Coming.{ended_so, none_kept, runs_so}
use Rattle.xt_held.specs.Complete.{KeepsWhere}
use Rattle.xt_held.specs.Cost.{CostsRun, setting_seen}
use Rattle.xt_held.specs.declared.counts.Counts.{Counts}
use Rattle.xt_held.proofs.Completing.{ended_keeps}
use Rattle.xt_held.proofs.Costing.{came_cost}
use Rattle.xt_held.proofs.Least.{came_least, none_least}
use Rattle.xt_record.specs.Asked.{marked_of}
use Rattle.xt_held.specs.OutcomeView.{no_counts}
use Rattle.xt_held.proofs.outcome.transformed.Goals as goal

pub returns-in-Ok-clause-outcome : goal.returns-in-Ok-clause-outcome
returns-in-Ok-clause-outcome c modules main h =
    runs_so c.items_change_no_outcome.ensures modules (parameters_of c.args.parameters.now) main (plain_of c.args.source.now) c.args.compiled.now c.in-Stylesheet.stylesheet c.in-Stylesheet.space_rules
    c.in-Stylesheet.method c.in-Ok.method (whole_of c.in_ok-over-in-Stylesheet.over.whole) c.ended.result c.in-Stylesheet.is
    c.in-Ok.ensures c.in_ok-over-in-Stylesheet.ensures.run c.ended.ensures.outcome h

pub whole_of_seen-requires : goal.whole_of_seen-requires
whole_of_seen-requires c =
    let known = subst (λ (compiled : Compiled). KeptSpared (Some compiled) (parameters_of c.args.parameters.now) (Some c.args.source.now) c.args.last.now
    (since_of c.args.since)) c.in-Stylesheet.is c.requires in
    record { was = known.was; answered = known.answered; agrees = known.agreed.agrees; own = known.agreed.own }

pub returns-in-Ok-clause-last : goal.returns-in-Ok-clause-last
returns-in-Ok-clause-last c =
    let Holds : Compiled → Kept → Type 0 = λ compiled kept. KeptHolds (Some compiled) (parameters_of c.args.parameters.now) (Some c.args.source.now) kept in
    subst (λ (compiled : Compiled). IfOk c.ended.result (λ came. IfSome came.kept (Holds compiled))) (sym c.in-Stylesheet.is)
    (ended_so c.ended.result c.in_ok-over-in-Stylesheet.over.kept
    (Holds (Stylesheet c.in-Stylesheet.stylesheet c.in-Stylesheet.space_rules c.in-Stylesheet.method)) c.ended.ensures.kept
    c.in_ok-over-in-Stylesheet.ensures.kept)

pub returns-in-Refused-clause-last : goal.returns-in-Refused-clause-last
returns-in-Refused-clause-last c =
    none_kept c.refused.result (KeptHolds (Some c.args.compiled.now) (parameters_of c.args.parameters.now) (Some c.args.source.now)) c.refused.ensures.kept

pub returns-in-Ok-clause-cost : goal.returns-in-Ok-clause-cost
returns-in-Ok-clause-cost c =
    let Cost : Compiled → Counts → Type 0
    = λ compiled counts. CostsRun (Some compiled) (parameters_of c.args.parameters.now) (Some c.args.source.now) c.args.last.now.records counts in
    subst (λ (compiled : Compiled). IfOk c.ended.result (λ came. Cost compiled came.counts)) (sym c.in-Stylesheet.is)
    (came_cost (Cost (Stylesheet c.in-Stylesheet.stylesheet c.in-Stylesheet.space_rules c.in-Stylesheet.method)) c.in_ok-over-in-Stylesheet.over.counts
    c.ended.result c.ended.ensures.counts c.in_ok-over-in-Stylesheet.ensures.cost)

pub returns-in-Refused-clause-cost : goal.returns-in-Refused-clause-cost
returns-in-Refused-clause-cost c =
    subst (λ (compiled : Compiled). IfOk c.refused.result (λ came. CostsRun (Some compiled) (parameters_of c.args.parameters.now) (Some c.args.source.now)
    c.args.last.now.records came.counts)) (sym c.in-Refused.is) c.refused.ensures.counts

pub returns-in-Ok-clause-keeps : goal.returns-in-Ok-clause-keeps
returns-in-Ok-clause-keeps c =
    let given = parameters_of c.args.parameters.now in
    let sheet = c.in-Stylesheet.stylesheet in
    subst (λ (compiled : Compiled). IfOk c.ended.result (λ came. KeepsWhere (Some compiled) given (Some c.args.source.now) came.kept)) (sym c.in-Stylesheet.is)
    (ended_keeps (setting_seen sheet c.in-Stylesheet.space_rules given c.args.source.now) c.in-Ok.method c.in_ok-over-in-Stylesheet.over c.ended.result
    c.in_ok-over-in-Stylesheet.ensures.complete c.ended.ensures.outcome c.ended.ensures.fits c.ended.ensures.kept)

pub returns-in-Refused-clause-keeps : goal.returns-in-Refused-clause-keeps
returns-in-Refused-clause-keeps c =
    subst (λ (compiled : Compiled). IfOk c.refused.result (λ came. KeepsWhere (Some compiled) (parameters_of c.args.parameters.now) (Some c.args.source.now)
    came.kept)) (sym c.in-Refused.is) c.refused.ensures.kept

pub returns-in-Ok-clause-asked : goal.returns-in-Ok-clause-asked
returns-in-Ok-clause-asked c =
    let Asked : Counts → Type 0 = λ counts. counts.asked ≤ marked_of (since_of c.args.since) c.args.last.now.records in
    came_cost Asked c.in_ok-over-in-Stylesheet.over.counts c.ended.result c.ended.ensures.counts c.in_ok-over-in-Stylesheet.ensures.asked

pub returns-in-Refused-clause-asked : goal.returns-in-Refused-clause-asked
returns-in-Refused-clause-asked c =
    let Asked : Counts → Type 0 = λ counts. counts.asked ≤ marked_of (since_of c.args.since) c.args.last.now.records in
    came_cost Asked no_counts c.refused.result c.refused.ensures.counts (omega arith)

pub returns-in-Ok-clause-least : goal.returns-in-Ok-clause-least
returns-in-Ok-clause-least c =
    came_least (since_of c.args.since) c.args.last.now.records c.in_ok-over-in-Stylesheet.over.counts c.ended.result c.ended.ensures.counts
    c.in_ok-over-in-Stylesheet.ensures.least

pub returns-in-Refused-clause-least : goal.returns-in-Refused-clause-least
returns-in-Refused-clause-least c = none_least (since_of c.args.since) c.args.last.now.records c.refused.result c.refused.ensures.kept
