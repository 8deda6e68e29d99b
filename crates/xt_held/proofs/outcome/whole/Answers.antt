use Rattle.std.proofs.Common.{◌≤◌, List, subst}
use Rattle.xt_world.specs.ParameterView.{parameters_of}
use Rattle.xt_world.specs.View.{truth_in}
use Rattle.xt_held.proofs.Coming.{holds_so, whole_so}
use Rattle.xt_touch.specs.View.{since_of}
use Rattle.xt_held.specs.Cost.{Costs, setting_on}
use Rattle.xt_held.specs.Marked.{AsksLeast}
use Rattle.xt_held.specs.declared.counts.Counts.{Counts}
use Rattle.xt_record.specs.Asked.{marked_of}
use Rattle.xt_touch.specs.declared.since.Since.{Since}
use Rattle.spec_touch.specs.Marks.{WorldChange}
use Rattle.xt_held.proofs.Completing.{over_complete}
use Rattle.xt_held.proofs.Costing.{over_counts}
use Rattle.xt_held.proofs.outcome.whole.Goals as goal

pub run_recorded-requires : goal.run_recorded-requires
run_recorded-requires c =
    let known = c.requires in
    let given = parameters_of c.args.parameters.now in
    record {
      spares = record {
        was = known.was;
        answered = known.answered;
        spares = (c.in_ok-prepared.ensures.spares known.was given known.own known.agrees).0;
      };
      found = c.in_ok-prepared.ensures.found known.was given known.own known.agrees;
    }

pub returns-clause-run : goal.returns-clause-run
returns-clause-run c = λ sheet answers.
    whole_so c.in-Ok.recorded c.with_own.result _ c.with_own.ensures.run (c.in-Ok.ensures.run sheet answers)

pub returns-clause-kept : goal.returns-clause-kept
returns-clause-kept c =
    let known = c.requires in
    let given = parameters_of c.args.parameters.now in
    let carries = (c.in_ok-prepared.ensures.spares known.was given known.own known.agrees).1 in
    holds_so c.args.stylesheet.now (truth_in c.args.stylesheet.now given c.args.source.now) c.in-Ok.recorded c.with_own.result c.with_own.ensures.records
    (c.with_own.ensures.own given carries) c.in-Ok.ensures.records

pub returns-clause-cost : goal.returns-clause-cost
returns-clause-cost c =
    let setting = setting_on c.args.stylesheet.now (parameters_of c.args.parameters.now) c.args.source.now in
    over_counts (λ (counts : Counts). Costs setting c.args.last.now.records counts) c.in-Ok.recorded c.with_own.result c.with_own.ensures.counts
    c.in-Ok.ensures.cost

pub returns-clause-asked : goal.returns-clause-asked
returns-clause-asked c =
    let Asked : List WorldChange → Counts → Type 0 = λ changes counts. counts.asked ≤ marked_of changes c.args.last.now.records in
    over_counts (Asked (since_of c.args.since.now)) c.in-Ok.recorded c.with_own.result c.with_own.ensures.counts
    (subst (λ (since : Since). Asked (since_of since) c.in-Ok.recorded.counts) c.in_ok-prepared.ensures.since c.in-Ok.ensures.asked)

pub returns-clause-least : goal.returns-clause-least
returns-clause-least c =
    let Least : List WorldChange → Counts → Type 0 = λ changes counts. AsksLeast changes c.args.last.now.records counts in
    over_counts (Least (since_of c.args.since.now)) c.in-Ok.recorded c.with_own.result c.with_own.ensures.counts
    (subst (λ (since : Since). Least (since_of since) c.in-Ok.recorded.counts) c.in_ok-prepared.ensures.since c.in-Ok.ensures.least)

pub returns-clause-complete : goal.returns-clause-complete
returns-clause-complete c =
    over_complete (setting_on c.args.stylesheet.now (parameters_of c.args.parameters.now) c.args.source.now) c.in-Ok.recorded c.with_own.result
    c.with_own.ensures.run c.with_own.ensures.records c.in-Ok.ensures.complete
