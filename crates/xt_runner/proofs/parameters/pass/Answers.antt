use Rattle.std.proofs.Common.{ap, sym, ◌∙◌}
use Rattle.xt_questions.specs.View.{bindings_of}
use Rattle.xt_frames.specs.declared.frame.Application.{Application}
use Rattle.xt_frames.specs.declared.frame.Items.{Items}
use Rattle.xt_frames.specs.declared.frame.Passing.{Passing}
use Rattle.xt_frames.specs.declared.frame.Passing.TheVariants as passings
use Rattle.xt_frames.specs.View.{passed_to}
use Rattle.xt_frames.specs.Left.{left_in}
use Rattle.xt_frames.proofs.Lefts.{if_ok}
use Rattle.xt_runner.proofs.Passed.{steps_as, want_does}
use Rattle.xt_runner.proofs.parameters.pass.Goals as goal

pub returns-in-Rules-clause-does : goal.returns-in-Rules-clause-does
returns-in-Rules-clause-does g c =
    let after = left_in c.args.run.now in
    let with = ap (λ (a : Application). passed_to (passings.Rules a) (bindings_of a.parameters) after) c.with_parameters-left.ensures in
    let whole = ap (λ (t : Passing). passed_to t (bindings_of c.args.parameters) after) c.in-Rules.is in
    if_ok c.go_on_application.result c.go_on_application.ensures.does (λ next h. steps_as (with ∙ sym whole) h)

pub returns-in-Sorted-clause-does : goal.returns-in-Sorted-clause-does
returns-in-Sorted-clause-does g c =
    let after = left_in c.args.run.now in
    let with = ap (λ (a : Application). passed_to (passings.Sorted c.in-Sorted.keys c.in-Sorted.here a) (bindings_of a.parameters) after) c.with_parameters-left-in-Sorted.ensures in
    let whole = ap (λ (t : Passing). passed_to t (bindings_of c.args.parameters) after) c.in-Sorted.is in
    if_ok c.sort.result c.sort.ensures.does (λ next h. steps_as (with ∙ sym whole) h)

pub returns-in-Items-clause-does : goal.returns-in-Items-clause-does
returns-in-Items-clause-does g c =
    let after = left_in c.args.run.now in
    let with = ap (λ (i : Items). passed_to (passings.Items c.in-Items.keys c.in-Items.here i) (bindings_of i.parameters) after) c.items_with-left.ensures in
    let whole = ap (λ (t : Passing). passed_to t (bindings_of c.args.parameters) after) c.in-Items.is in
    if_ok c.sort_items.result c.sort_items.ensures.does (λ next h. steps_as (with ∙ sym whole) h)

pub returns-in-Template-clause-does : goal.returns-in-Template-clause-does
returns-in-Template-clause-does g c =
    want_does _ _ _ c.args.run.now _ c.in-Template.depth (ap (λ t. passed_to t (bindings_of c.args.parameters) (left_in c.args.run.now)) c.in-Template.is)
