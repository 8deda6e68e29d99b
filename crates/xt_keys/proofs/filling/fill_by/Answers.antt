use Rattle.std.proofs.Common.{true, false, sym, ap, ◌∙◌}
use Rattle.spec_transform.specs.Key.{key_in}
use Rattle.xt_syntax.specs.SheetView.{declared_of, unit_of}
use Rattle.xt_keys.specs.View.{key_at}
use Rattle.xt_keys.proofs.Programs.{fills_none, fills_one, its_key}
use Rattle.xt_keys.proofs.filling.fill_by.Goals as goal

pub returns-then-same-clause-runs : goal.returns-then-same-clause-runs
returns-then-same-clause-runs g c =
    fills_one c.args.nodes.now (key_at c.args.unit.now.site c.in-Key.key) _
    (its_key c.args.name.now c.args.unit.now c.in-Key.key true c.in-Key.is (sym c.same.ensures ∙ c.if-same.true)) c.fill.ensures.runs

pub returns-else-same-clause-runs : goal.returns-else-same-clause-runs
returns-else-same-clause-runs g c =
    fills_none c.args.nodes.now _ (its_key c.args.name.now c.args.unit.now c.in-Key.key false c.in-Key.is (sym c.same.ensures ∙ c.if-same.false))

pub returns-in-Template-clause-runs : goal.returns-in-Template-clause-runs
returns-in-Template-clause-runs g c = fills_none c.args.nodes.now _ (ap (λ d. key_in c.args.name.now (unit_of c.args.unit.now) (declared_of d)) c.in-Template.is)

pub returns-in-Global-clause-runs : goal.returns-in-Global-clause-runs
returns-in-Global-clause-runs g c = fills_none c.args.nodes.now _ (ap (λ d. key_in c.args.name.now (unit_of c.args.unit.now) (declared_of d)) c.in-Global.is)

pub returns-in-AttributeSet-clause-runs : goal.returns-in-AttributeSet-clause-runs
returns-in-AttributeSet-clause-runs g c =
    fills_none c.args.nodes.now _ (ap (λ d. key_in c.args.name.now (unit_of c.args.unit.now) (declared_of d)) c.in-AttributeSet.is)
