-- What operators make of two values (XPath 1.0, sections 3.3 to 3.5). Both operands were evaluated; the left one is converted first.
use Rattle.std.specs.Prelude.{◌++◌, Bool, true, false, ◌&&◌, ◌||◌, List, Result, if◌then◌else◌}
use Rattle.spec_expression.specs.declared.Operator.{Operator}
use Rattle.spec_expression.specs.declared.Operator.TheVariants as op
use Rattle.spec_expression.specs.Number.{Number, sum_of, difference_of, product_of, quotient_of, remainder_of, Fault}
use Rattle.std.specs.Prelude.{Ok}
use Rattle.spec_meaning.specs.Value as value
use Rattle.spec_meaning.specs.Value.{Value}
use Rattle.spec_meaning.specs.Question.{Order, nodes_in}
use Rattle.spec_meaning.specs.Program.{Program, Give, Ask, ◌>>=◌}
use Rattle.spec_meaning.specs.Convert.{given, to_number, to_boolean, to_nodes}
use Rattle.spec_meaning.specs.Compare.{compared}

-- `+`, `-`, `*`, `div` and `mod`
abbrev pub computed : Operator → Number → Number → Result Number Fault
computed op.Subtract a b = difference_of a b
computed op.Multiply a b = product_of a b
computed op.Divide a b = quotient_of a b
computed op.Modulo a b = Ok (remainder_of a b)
computed _ a b = sum_of a b

abbrev pub arithmetic : {N : Type 0} → Operator → Value N → Value N → Program N (Value N)
arithmetic operator v w = to_number v >>= λ a. to_number w >>= λ b. given (computed operator a b) >>= λ n. Give (value.Number n)

-- nodes in document order, each once
abbrev pub in_order : {N : Type 0} → List N → Program N (List N)
in_order nodes = Ask (Order nodes) (λ a. Give (nodes_in a))

abbrev pub united : {N : Type 0} → Value N → Value N → Program N (Value N)
united v w = to_nodes v >>= λ ms. to_nodes w >>= λ ns. in_order (ms ++ ns) >>= λ all. Give (value.Nodes all)

abbrev pub comparison : {N : Type 0} → Operator → Value N → Value N → Program N (Value N)
comparison operator v w = compared operator v w >>= λ b. Give (value.Boolean b)

abbrev pub combined : {N : Type 0} → Operator → Value N → Value N → Program N (Value N)
combined op.Or v w = Give (value.Boolean (to_boolean v || to_boolean w))
combined op.And v w = Give (value.Boolean (to_boolean v && to_boolean w))
combined op.Union v w = united v w
combined op.Equal v w = comparison op.Equal v w
combined op.NotEqual v w = comparison op.NotEqual v w
combined op.Less v w = comparison op.Less v w
combined op.LessOrEqual v w = comparison op.LessOrEqual v w
combined op.Greater v w = comparison op.Greater v w
combined op.GreaterOrEqual v w = comparison op.GreaterOrEqual v w
combined op.Add v w = arithmetic op.Add v w
combined op.Subtract v w = arithmetic op.Subtract v w
combined op.Multiply v w = arithmetic op.Multiply v w
combined op.Divide v w = arithmetic op.Divide v w
combined op.Modulo v w = arithmetic op.Modulo v w

-- whether the left operand decides, so that the right one is left alone
abbrev pub is_decided : {N : Type 0} → Operator → Value N → Bool
is_decided op.Or v = to_boolean v
is_decided op.And v = if to_boolean v then false else true
is_decided _ v = false

-- the left value and what the right operand means
abbrev pub linked : {N : Type 0} → Operator → Value N → Program N (Value N) → Program N (Value N)
linked operator v right = if is_decided operator v then Give (value.Boolean (to_boolean v)) else (right >>= λ w. combined operator v w)
