-- The node of a node-set that is the first in document order (XPath 1.0, sections 4.1 and 4.2), whatever the list is that it is kept as.
use Rattle.std.specs.Prelude.{◌≡◌, ℕ, Bool, List, [], ◌∷◌, IsTrue}
use Rattle.spec_expression.specs.Number.{Number, number_of}
use Rattle.spec_expression.specs.Syntax.{Expr, call, expr, no_exprs}
use Rattle.spec_meaning.specs.Program.{Program, ◌>>=◌}
use Rattle.spec_meaning.specs.Convert.{given, text_at}

pub data IsOneOf {N : Type 0} (n : N) : List N → Type 0 where
  at_the_front : {ns : List N} → IsOneOf n (n ∷ ns)
  further_on : {m : N} {ns : List N} → IsOneOf n ns → IsOneOf n (m ∷ ns)

-- one of the nodes, which comes before each other one of them
pub record IsFirst {N : Type 0} (before : N → N → Bool) (n : N) (ns : List N) : Type 0 where
  pub is_one : IsOneOf n ns
  pub comes_before : (m : N) → IsOneOf m ns → ¬ (m ≡ n) → IsTrue (before n m)

-- the number of the string-value of a node
abbrev pub number_at : {N : Type 0} → N → Program N Number
number_at n = text_at n >>= λ text. given (number_of text)

-- the call of a function on one expression
abbrev pub call_on : (name : List ℕ) → Expr → Expr
call_on name e = call (record { uri = []; local = name }) (expr e no_exprs)
