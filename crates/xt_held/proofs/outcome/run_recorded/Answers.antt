use Rattle.std.proofs.Common.{◌∙◌, ap, subst, sym}
use Rattle.std.specs.Prelude.{OnOk}
use Rattle.xt_record.specs.Sure.{IsSure}
use Rattle.xt_world.specs.Numbered.{ref_to}
use Rattle.xt_world.specs.ParameterView.{parameters_of}
use Rattle.xt_world.specs.View.{truth_in}
use Rattle.xt_world.specs.WorldView.{truth_at}
use Rattle.xt_held.specs.RunView.{Ask}
use Rattle.xt_held.proofs.Coming.{kept_so, recorded_so, run_so}
use Rattle.xt_spared.specs.declared.spared.Spared.{Spared}
use Rattle.xt_record.specs.declared.pool.Pool.{Pool}
use Rattle.xt_touch.specs.View.{since_of}
use Rattle.xt_held.specs.Cost.{setting_on}
use Rattle.xt_held.proofs.Completing.{begun_within, recorded_complete}
use Rattle.xt_held.proofs.Least.{left_least, left_next, left_ran, left_run}
use Rattle.xt_held.proofs.Costing.{Begins, counted_on, recorded_asked, recorded_cost}
use denote.Ref.{Bor}
use Rattle.xt_held.proofs.outcome.run_recorded.Goals as goal

pub new-world-requires : goal.new-world-requires
new-world-requires c = c.requires.found

pub run-whole-requires : goal.run-whole-requires
run-whole-requires c =
    subst (λ (ask : Ask). IsSure ask c.in_ok-reuse.reuse) (sym c.new-world.ensures)
    (c.in_ok-reuse.ensures.sure c.requires.spares.was (truth_in c.args.stylesheet.now (parameters_of c.args.parameters.now) c.args.source.now) c.requires.spares.answered
    c.requires.spares.spares)

pub returns-clause-run : goal.returns-clause-run
returns-clause-run c = λ sheet answers.
    recorded_so c.run-whole.result c.with_records.result _ (left_run c.run-whole.result c.with_what_is_left-whole.result c.with_records.result
    c.with_what_is_left-whole.ensures.whole c.with_records.ensures.run)
    (run_so c.same_run.ensures (parameters_of c.args.parameters.now) c.args.source.now c.distinct_numbers.ensures c.args.stylesheet.now sheet answers
    c.of-root.result (c.of-root.ensures ∙ ap ref_to c.root.ensures) c.as_slice.result.now c.as_slice.ensures.value (truth_at c.new-world.result) c.new-world.ensures
    c.run-whole.result c.run-whole.ensures.run)

pub returns-clause-records : goal.returns-clause-records
returns-clause-records c =
    let ask = truth_in c.args.stylesheet.now (parameters_of c.args.parameters.now) c.args.source.now in
    kept_so c.with_what_is_left-whole.result c.with_records.result c.with_what_is_left-whole.new.reuse ask c.with_records.ensures.run
    c.with_records.ensures.records
    (subst (λ (ask : Ask). OnOk c.with_what_is_left-whole.result (IsSure ask c.with_what_is_left-whole.new.reuse))
    (c.run-whole.ensures.truth ∙ c.new-world.ensures) c.with_what_is_left-whole.ensures.sure)

pub returns-clause-cost : goal.returns-clause-cost
returns-clause-cost c =
    let held = c.args.stylesheet.now in
    let given = parameters_of c.args.parameters.now in
    let document = c.args.source.now in
    let began = c.in_ok-reuse.ensures in
    let begins : Begins c.args.last.now c.in_ok-reuse.reuse = record { last = began.last; kept = began.kept; ran = began.ran } in
    recorded_cost (setting_on held given document) c.args.last.now c.in_ok-reuse.reuse c.run-whole.new.reuse c.run-whole.result c.with_records.result begins
    (counted_on held given document c.of-root.result (c.of-root.ensures ∙ ap ref_to c.root.ensures) c.as_slice.result.now c.as_slice.ensures.value
    (truth_at c.new-world.result) c.new-world.ensures c.run-whole.result c.in_ok-reuse.reuse c.run-whole.new.reuse
    (c.run-whole.ensures.counts (begun_within c.in_ok-reuse.reuse c.in_ok-reuse.ensures.next)))
    (left_run c.run-whole.result c.with_what_is_left-whole.result c.with_records.result c.with_what_is_left-whole.ensures.whole c.with_records.ensures.run)
    (left_ran c.run-whole.new.reuse c.with_what_is_left-whole.new.reuse c.with_records.result c.with_what_is_left-whole.ensures.judges
    c.with_records.ensures.ran)

pub returns-clause-asked : goal.returns-clause-asked
returns-clause-asked c =
    let ask = truth_in c.args.stylesheet.now (parameters_of c.args.parameters.now) c.args.source.now in
    let began = c.in_ok-reuse.ensures in
    let left = c.with_what_is_left-whole.ensures in
    recorded_asked c.args.last.now (since_of c.args.spared.now.since.now) ask c.with_what_is_left-whole.new.reuse c.with_what_is_left-whole.result
    c.with_records.result
    (ap (λ (pool : Bor Pool). pool.now) (left.judges.last ∙ c.run-whole.ensures.last) ∙ began.last)
    (ap (λ (spared : Bor Spared). since_of spared.now.since.now) (left.judges.spared ∙ c.run-whole.ensures.spared)
    ∙ ap (λ (spared : Spared). since_of spared.since.now) began.spared)
    (subst (λ (ask : Ask). OnOk c.with_what_is_left-whole.result (IsSure ask c.with_what_is_left-whole.new.reuse))
    (c.run-whole.ensures.truth ∙ c.new-world.ensures) left.sure)
    c.with_records.ensures.run c.with_records.ensures.asked

pub returns-clause-least : goal.returns-clause-least
returns-clause-least c =
    let began = c.in_ok-reuse.ensures in
    left_least c.args.last.now (since_of c.args.spared.now.since.now) c.run-whole.new.reuse c.with_what_is_left-whole.new.reuse
    c.with_what_is_left-whole.result c.with_records.result
    (ap (λ (pool : Bor Pool). pool.now) c.run-whole.ensures.last ∙ began.last)
    (ap (λ (spared : Bor Spared). since_of spared.now.since.now) c.run-whole.ensures.spared ∙ ap (λ (spared : Spared). since_of spared.since.now) began.spared)
    c.with_what_is_left-whole.ensures.least c.with_records.ensures.run c.with_records.ensures.ran c.with_records.ensures.steps

pub with_what_is_left-whole-requires : goal.with_what_is_left-whole-requires
with_what_is_left-whole-requires c =
    subst (λ (ask : Ask). OnOk c.run-whole.result (IsSure ask c.run-whole.new.reuse)) (sym c.run-whole.ensures.truth) c.run-whole.ensures.sure

pub returns-clause-complete : goal.returns-clause-complete
returns-clause-complete c =
    let within = begun_within c.in_ok-reuse.reuse c.in_ok-reuse.ensures.next in
    recorded_complete c.args.stylesheet.now (parameters_of c.args.parameters.now) c.args.source.now c.of-root.result (c.of-root.ensures ∙ ap ref_to c.root.ensures)
    c.as_slice.result.now c.as_slice.ensures.value (truth_at c.new-world.result) c.new-world.ensures c.in_ok-reuse.reuse c.run-whole.new.reuse
    c.in_ok-reuse.ensures.next c.run-whole.result c.with_records.result
    (left_run c.run-whole.result c.with_what_is_left-whole.result c.with_records.result c.with_what_is_left-whole.ensures.whole c.with_records.ensures.run)
    (left_next c.run-whole.new.reuse c.with_what_is_left-whole.new.reuse c.with_records.result c.with_what_is_left-whole.ensures.judges
    c.with_records.ensures.next) c.run-whole.ensures.run
    (c.run-whole.ensures.kept within) (c.run-whole.ensures.only within)
