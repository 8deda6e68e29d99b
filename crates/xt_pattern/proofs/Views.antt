-- Steps, as the trees that they stand for.
use Rattle.std.proofs.Common.{◌≡◌, false, List, [], ◌∷◌, length, map, refl, ap, rules}
use Rattle.std.specs.Prelude.{◌==◌}
use Rattle.spec_static.specs.PatternGrammar.{step_priority, half}
use Rattle.spec_expression.specs.Syntax as plain
use Rattle.spec_expression.specs.Syntax.{exprs}
use Rattle.xt_syntax.specs.declared.expr.Expr.{Expr, the_lemmas}
use Rattle.xt_syntax.specs.declared.expr.Step.{Step}
use Rattle.xt_syntax.specs.View.{expr_of, step_of, test_of}

pub view-Step : (s : Step) → step_of s ≡ record { axis = s.axis; test = test_of s.test; predicates = exprs (map expr_of s.predicates.items) }
view-Step s = search (rules, the_lemmas)

pub axis-of : (s : Step) → (step_of s).axis ≡ s.axis
axis-of s = ap (λ (t : plain.Step). t.axis) (view-Step s)

pub test-of : (s : Step) → (step_of s).test ≡ test_of s.test
test-of s = ap (λ (t : plain.Step). t.test) (view-Step s)

pub predicates-of : (s : Step) → (step_of s).predicates ≡ exprs (map expr_of s.predicates.items)
predicates-of s = ap (λ (t : plain.Step). t.predicates) (view-Step s)

-- a step with predicates is no lone test
pub no_lone_test : (s : plain.Step) (items : List Expr) → s.predicates ≡ exprs (map expr_of items) → (length items == 0) ≡ false → step_priority s ≡ half
no_lone_test s [] e h = cc
no_lone_test s (x ∷ xs) e h = rw e refl
