-- Where an expression stands (XPath 1.0, section 1; XSLT 1.0, section 4).
use Rattle.std.specs.Prelude.{ℕ, List, [], ◌∷◌, Option, None, Some, if◌then◌else◌}
use Rattle.spec_document.specs.Name.{Expanded, same_name}
use Rattle.spec_document.specs.Scope.{Scope}
use Rattle.spec_meaning.specs.Value.{Value}

-- a local variable or parameter
pub record Bound (N : Type 0) : Type 0 where
  pub name : Expanded
  pub value : Value N

pub record Context (N : Type 0) : Type 0 where
  -- the context node, and the node that current() gives
  pub node : N
  pub current : N
  -- where they are known; else they are those of the instantiation
  pub position : Option ℕ
  pub size : Option ℕ
  -- the local variables in scope, innermost first
  pub bindings : List (Bound N)
  -- the namespaces in scope at the element
  pub scope : Scope

-- the context of a predicate for one of its nodes
abbrev pub at_node : {N : Type 0} → Context N → N → (position size : ℕ) → Context N
at_node c node position size =
    record { node = node; current = c.current; position = Some position; size = Some size; bindings = c.bindings; scope = c.scope }

abbrev pub binding_of : {N : Type 0} → Expanded → List (Bound N) → Option (Value N)
binding_of name [] = None
binding_of name (b ∷ bs) = if same_name b.name name then Some b.value else binding_of name bs
