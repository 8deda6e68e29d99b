use Rattle.std.proofs.Common.{◌≡◌, ◌==◌, List, [], ◌∷◌, length, map, refl, ◌∙◌}
use Rattle.std.proofs.Math.Dec.{eqb-suc-zero}
use Rattle.spec_expression.specs.Syntax.{exprs}
use Rattle.spec_touch.specs.Plain.{are_none}
use Rattle.xt_syntax.specs.View.{expr_of}
use Rattle.xt_syntax.specs.declared.expr.Expr.{Expr}
use Rattle.xt_touch.proofs.modes.are_none.Goals as goal

none_if_empty : (es : List Expr) → (length es == 0) ≡ are_none (exprs (map expr_of es))
none_if_empty [] = refl
none_if_empty (e ∷ es) = eqb-suc-zero (length es)

pub returns : goal.returns
returns c = c.is_empty.ensures ∙ none_if_empty c.args.predicates.now
