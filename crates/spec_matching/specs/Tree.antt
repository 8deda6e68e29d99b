-- Answers as a document gives them, in what matching needs of them: which node is whose parent, and what follows of that for the other axes.
use Rattle.std.specs.Prelude.{◌≡◌, ℕ, Bool, true, false, ◌&&◌, List, [], ◌∷◌}
use Rattle.spec_document.specs.declared.axis.Axis.{Axis}
use Rattle.spec_document.specs.declared.axis.Axis.TheVariants as axis
use Rattle.spec_document.specs.Name.{Expanded}
use Rattle.spec_expression.specs.Syntax.{Test}
use Rattle.spec_static.specs.PatternGrammar.{is_pattern_axis}
use Rattle.spec_meaning.specs.Question as question
use Rattle.spec_meaning.specs.Question.{Question, Answer, Named, nodes_in}
use Rattle.spec_meaning.specs.Meaning.{last_of}
use Rattle.spec_transform.specs.Match.{passes, is_root}
use Rattle.spec_matching.specs.Asked.{TellsApart, is_among, nodes_on}

abbrev pub is_named : {N : Type 0} → Answer N → Bool
is_named (Named kind name written) = true
is_named _ = false

-- whether a node is there
abbrev pub is_there : {N : Type 0} → (Question N → Answer N) → N → Bool
is_there ask n = is_named (ask (question.Name n))

-- a world that answers so for keys, and for all else as another
abbrev pub answering_keys : {N : Type 0} → (Expanded → List ℕ → Answer N) → (Question N → Answer N) → Question N → Answer N
answering_keys keys ask (question.Key name value) = keys name value
answering_keys keys ask q = ask q

-- each of some nodes stands there once
abbrev pub IsEachOnce : {N : Type 0} → (N → N → Bool) → List N → Type 0
IsEachOnce same [] = Unit {0}
IsEachOnce same (n ∷ ns) = (is_among same n ns ≡ false) × IsEachOnce same ns

pub record IsTree {N : Type 0} (same : N → N → Bool) (ask : Question N → Answer N) : Type 0 where
  pub apart : TellsApart same
  -- only nodes that are there stand on an axis
  pub there : (x : Axis) (n m : N) → is_among same m (nodes_on ask x n) ≡ true → is_there ask m ≡ true
  -- what passes a step along the axis of children or of attributes has one parent
  pub one_parent : (n : N) (x : Axis) (test : Test) → is_pattern_axis x ≡ true → passes x test (ask (question.Name n)) ≡ true
      → (parent : N) × (nodes_on ask axis.Parent n ≡ parent ∷ [])
  -- such a step leads from a node to those that pass it and of which the node is the parent, to each once
  pub steps : (n parent : N) (x : Axis) (test : Test) → is_pattern_axis x ≡ true
      → is_among same n (nodes_in (ask (question.Step parent x test)))
      ≡ (is_among same parent (nodes_on ask axis.Parent n) && passes x test (ask (question.Name n)))
  pub once : (n : N) (x : Axis) (test : Test) → is_pattern_axis x ≡ true → IsEachOnce same (nodes_in (ask (question.Step n x test)))
  -- the ancestors of a node are those from which its parent is a descendant, or is the node itself
  pub below : (n parent m : N) → is_among same parent (nodes_on ask axis.Parent n) ≡ true
      → is_among same m (nodes_on ask axis.Ancestor n) ≡ is_among same parent (nodes_on ask axis.DescendantOrSelf m)
  pub parent_above : (n parent : N) → is_among same parent (nodes_on ask axis.Parent n) ≡ true → is_among same parent (nodes_on ask axis.Ancestor n) ≡ true
  -- a node is one of its ancestors-or-self, and so are those of an ancestor
  pub itself : (n : N) → is_there ask n ≡ true → is_among same n (nodes_on ask axis.AncestorOrSelf n) ≡ true
  pub above : (n m other : N) → is_among same m (nodes_on ask axis.Ancestor n) ≡ true → is_among same other (nodes_on ask axis.AncestorOrSelf m) ≡ true
      → is_among same other (nodes_on ask axis.AncestorOrSelf n) ≡ true
  -- the last of them is the root
  pub root : (n m : N) → is_there ask n ≡ true → is_there ask m ≡ true
      → is_among same m (last_of (nodes_on ask axis.AncestorOrSelf n)) ≡ is_root (ask (question.Name m))
  -- nodes in document order are those nodes
  pub order : (n : N) (nodes : List N) → is_there ask n ≡ true → is_among same n (nodes_in (ask (question.Order nodes))) ≡ is_among same n nodes
