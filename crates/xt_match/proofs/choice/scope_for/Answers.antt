use Rattle.xt_syntax.specs.SheetView.{rule_of}
use Rattle.xt_match.proofs.Scopes.{scope_found, scope_missing}
use Rattle.xt_match.proofs.choice.scope_for.Goals as goal

pub returns-in-Some : goal.returns-in-Some
returns-in-Some c =
    rw (scope_found c.args.units.now (rule_of c.args.rule.now) c.in-Some.resolved.now c.in-Some.ensures.lookup.3.0 c.in-Some.ensures.lookup.1) (rw (c.deref-in-Some.ensures, c.deref.ensures) at c.copy.ensures)

pub returns-in-None : goal.returns-in-None
returns-in-None c = rw (scope_missing c.args.units.now (rule_of c.args.rule.now) c.in-None.ensures.lookup.3) c.root.ensures
