-- What operators make of two values that only `|` takes apart.
use Rattle.std.proofs.Common.{◌≡◌, ◌≢◌, ℕ, true, false, Result, refl, subst}
use Rattle.spec_expression.specs.declared.Operator.{Operator}
use Rattle.spec_expression.specs.declared.Operator.TheVariants as op
use Rattle.spec_meaning.specs.Program.{State, Supply}
use Rattle.spec_meaning.specs.Value.{Value}
use Rattle.spec_meaning.specs.Operation.{combined, comparison, arithmetic}
use Rattle.xt_tree.specs.ValueView.{value_of}
use Rattle.spec_node.specs.declared.node_ref.NodeRef.{NodeRef}
use Rattle.xt_tree.specs.declared.value.Value as code
use Rattle.xt_questions.specs.declared.fault.EvalFault.{EvalFault}
use Rattle.xt_questions.specs.Runs.{Runs}
use Rattle.xp_values.specs.View.{is_comparison}

comparison_is : {N : Type 0} (operator : Operator) (v w : Value N) → is_comparison operator ≡ true → comparison operator v w ≡ combined operator v w
comparison_is op.Equal v w h = refl
comparison_is op.NotEqual v w h = refl
comparison_is op.Less v w h = refl
comparison_is op.LessOrEqual v w h = refl
comparison_is op.Greater v w h = refl
comparison_is op.GreaterOrEqual v w h = refl
comparison_is op.Add v w h = absurd (cc)
comparison_is op.Subtract v w h = absurd (cc)
comparison_is op.Multiply v w h = absurd (cc)
comparison_is op.Divide v w h = absurd (cc)
comparison_is op.Modulo v w h = absurd (cc)
comparison_is op.Or v w h = absurd (cc)
comparison_is op.And v w h = absurd (cc)
comparison_is op.Union v w h = absurd (cc)

arithmetic_is : {N : Type 0} (operator : Operator) (v w : Value N) → is_comparison operator ≡ false → operator ≢ op.Or → operator ≢ op.And → operator ≢ op.Union → arithmetic operator v w ≡ combined operator v w
arithmetic_is op.Add v w h or and union = refl
arithmetic_is op.Subtract v w h or and union = refl
arithmetic_is op.Multiply v w h or and union = refl
arithmetic_is op.Divide v w h or and union = refl
arithmetic_is op.Modulo v w h or and union = refl
arithmetic_is op.Or v w h or and union = absurd (or refl)
arithmetic_is op.And v w h or and union = absurd (and refl)
arithmetic_is op.Union v w h or and union = absurd (union refl)
arithmetic_is op.Equal v w h or and union = absurd (cc)
arithmetic_is op.NotEqual v w h or and union = absurd (cc)
arithmetic_is op.Less v w h or and union = absurd (cc)
arithmetic_is op.LessOrEqual v w h or and union = absurd (cc)
arithmetic_is op.Greater v w h or and union = absurd (cc)
arithmetic_is op.GreaterOrEqual v w h or and union = absurd (cc)

-- what a call of the one or the other makes is what is combined
pub comparison_so : {supply : Supply NodeRef} {depth : ℕ} {s t : State NodeRef} {r : Result code.Value EvalFault} (operator : Operator) (v w : Value NodeRef)
    → is_comparison operator ≡ true → Runs value_of supply depth (comparison operator v w) s t r → Runs value_of supply depth (combined operator v w) s t r
comparison_so {supply = supply} {depth = depth} {s = s} {t = t} {r = r} operator v w h k = subst (λ p. Runs value_of supply depth p s t r) (comparison_is operator v w h) k

pub arithmetic_so : {supply : Supply NodeRef} {depth : ℕ} {s t : State NodeRef} {r : Result code.Value EvalFault} (operator : Operator) (v w : Value NodeRef)
    → is_comparison operator ≡ false → operator ≢ op.Or → operator ≢ op.And → operator ≢ op.Union
    → Runs value_of supply depth (arithmetic operator v w) s t r → Runs value_of supply depth (combined operator v w) s t r
arithmetic_so {supply = supply} {depth = depth} {s = s} {t = t} {r = r} operator v w h or and union k =
    subst (λ p. Runs value_of supply depth p s t r) (arithmetic_is operator v w h or and union) k
