-- How many arguments there are, and what a look-up of a function says.
use Rattle.std.proofs.Common.{◌≡◌, List, [], ◌∷◌, length, map, Option, None, Some, not, refl, arith}
use Rattle.std.specs.Option.{is_some}
use Rattle.std.specs.Result.{is_err}
use Rattle.spec_compile.specs.Walk.{count_of}
use Rattle.spec_expression.specs.Syntax.{exprs}
use Rattle.spec_meaning.specs.declared.function.Function.{Function}
use Rattle.xp_functions.specs.Found.{found_or_refused}
use Rattle.xt_syntax.specs.View.{expr_of}
use Rattle.xt_syntax.specs.declared.expr.Expr.{Expr}

pub count_is : (xs : List Expr) → length xs ≡ count_of (exprs (map expr_of xs))
count_is [] = refl
count_is (x ∷ xs) = omega (arith, count_is xs)

pub no_function : (o : Option Function) → is_err (found_or_refused o) ≡ not (is_some o)
no_function None = refl
no_function (Some function) = refl
