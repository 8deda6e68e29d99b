-- What an expression, or the content of a variable, has as its value (XPath 1.0, section 1; XSLT 1.0, section 11.1).
use Rattle.std.specs.Prelude.{ℕ, Bool, List}
use Rattle.spec_expression.specs.Number as number
use Rattle.spec_meaning.specs.Stream.{Stream}

-- nodes are named by an N
pub data Value (N : Type 0) : Type 0 where
  Number : (number : number.Number) → Value N
  Text : (text : List ℕ) → Value N
  Boolean : (is_true : Bool) → Value N
  Nodes : (nodes : List N) → Value N
  -- a result tree fragment
  Fragment : (stream : Stream) → Value N
