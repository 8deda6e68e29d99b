use Rattle.std.proofs.Common.{◌≡◌, map, drop}
use Rattle.spec_expression.specs.Syntax.{exprs}
use Rattle.spec_transform.specs.Position.{read_no_position}
use Rattle.xt_syntax.specs.View.{expr_of}
use Rattle.xt_match.proofs.position.read_no_position.Given as goal

abbrev pub invariant-loop-predicate : goal.invariant-loop-predicate
invariant-loop-predicate l = read_no_position (exprs (map expr_of (drop l.predicate-index l.predicates))) ≡ read_no_position (exprs (map expr_of l.predicates))
