-- Which instantiations of a run are of units and nodes that another run has not: what a change has made, say.
use Rattle.std.specs.Prelude.{List, [], ◌∷◌}
use Rattle.spec_run.specs.Meaning.{Setting}
use Rattle.spec_node.specs.declared.node_ref.NodeRef.{NodeRef}
use Rattle.spec_reuse.specs.Among.{IsIn}
use Rattle.spec_reuse.specs.Instantiation.{Instantiation, instantiations}
use Rattle.spec_reuse.specs.Ledger.{HasLike}

-- no two of these are of one unit and one node
abbrev pub NoneAlike : List (Instantiation NodeRef) → Type 0
NoneAlike [] = Unit {0}
NoneAlike (i ∷ is) = (¬ (HasLike is i.call)) × NoneAlike is

-- all of these are of the second run, and the first has none of their units and nodes
abbrev pub AreNewIn : (s t : Setting NodeRef) → List (Instantiation NodeRef) → Type 0
AreNewIn s t new = (i : Instantiation NodeRef) → IsIn i new → IsIn i (instantiations t) × ¬ (HasLike (instantiations s) i.call)
