use Rattle.std.proofs.Common.{ℕ, map, ap, subst, sym}
use Rattle.std.specs.Prelude.{IfOk}
use Rattle.spec_document.specs.Forest.{Document}
use Rattle.spec_stylesheet.specs.Sheet as plain
use Rattle.xt_syntax.specs.SheetView.{space_rule_of}
use Rattle.xt_touch.specs.View.{since_of}
use Rattle.xt_world.specs.ParameterView.{parameters_of}
use Rattle.xt_world.specs.View.{truth_in}
use Rattle.xt_held.specs.RunView.{HoldsWith, SparedIn}
use Rattle.xt_held.proofs.Coming.{seen_so}
use Rattle.xt_held.specs.Complete.{Completes}
use Rattle.xt_held.specs.Cost.{Costs, setting_on}
use Rattle.xt_held.proofs.outcome.whole_of_seen.Goals as goal

pub whole-requires : goal.whole-requires
whole-requires c =
    subst (λ (source : Document ℕ). SparedIn c.args.stylesheet.now (truth_in c.args.stylesheet.now (parameters_of c.args.parameters.now) source) c.args.last.now
    (since_of c.args.since.now))
    (sym c.in_ok-seen.ensures) c.requires

pub returns-clause-run : goal.returns-clause-run
returns-clause-run c = λ sheet answers rules.
    seen_so c.labels_do_not_matter.ensures sheet (parameters_of c.args.parameters.now) c.args.source.now c.in_ok-seen.seen
    (map space_rule_of c.args.space_rules.now.rules.items) (ap (λ (rs : plain.SpaceRules). rs.rules) rules) c.in_ok-seen.ensures c.whole.result
    (c.whole.ensures.run sheet answers)

pub returns-clause-kept : goal.returns-clause-kept
returns-clause-kept c =
    subst (λ (source : Document ℕ). IfOk c.whole.result (λ over. HoldsWith c.args.stylesheet.now
    (truth_in c.args.stylesheet.now (parameters_of c.args.parameters.now) source) over.kept))
    c.in_ok-seen.ensures c.whole.ensures.kept

pub returns-clause-cost : goal.returns-clause-cost
returns-clause-cost c =
    subst (λ (source : Document ℕ). IfOk c.whole.result (λ over. Costs (setting_on c.args.stylesheet.now (parameters_of c.args.parameters.now) source)
    c.args.last.now.records over.counts))
    c.in_ok-seen.ensures c.whole.ensures.cost

pub returns-clause-complete : goal.returns-clause-complete
returns-clause-complete c =
    subst (λ (source : Document ℕ). IfOk c.whole.result (λ over. Completes (setting_on c.args.stylesheet.now (parameters_of c.args.parameters.now) source)
    over.whole over.kept.records))
    c.in_ok-seen.ensures c.whole.ensures.complete
