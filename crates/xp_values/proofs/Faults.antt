-- The results of arithmetic are those of the definitions.
use Rattle.std.proofs.Common.{◌≡◌, ℕ, sym, subst, Result, Ok, Err}
use Rattle.spec_expression.specs.Number.{Number, Fault}
use Rattle.spec_meaning.specs.Program.{State, Supply}
use Rattle.spec_meaning.specs.Convert.{given}
use Rattle.xt_base.specs.Fault.{Gives}
use Rattle.xt_base.specs.declared.num.NumFault.{NumFault}
use Rattle.spec_node.specs.declared.node_ref.NodeRef.{NodeRef}
use Rattle.xt_questions.specs.declared.fault.EvalFault.{EvalFault}
use Rattle.xt_questions.specs.Runs.{Runs, itself}
use Rattle.xp_values.specs.View.{result_of}

given_is : (r : Result Number NumFault) (answer : Result Number Fault) → Gives r answer → result_of r ≡ answer
given_is (Ok number) answer h = sym h
given_is (Err fault) answer h = sym h

-- what is given of a result is what is given of the defined answer
pub given_so : {supply : Supply NodeRef} {depth : ℕ} {s t : State NodeRef} {x : Result Number EvalFault}
    (r : Result Number NumFault) (answer : Result Number Fault) → Gives r answer
    → Runs itself supply depth (given (result_of r)) s t x → Runs itself supply depth (given answer) s t x
given_so {supply = supply} {depth = depth} {s = s} {t = t} {x = x} r answer h k =
    subst (λ a. Runs itself supply depth (given a) s t x) (given_is r answer h) k
