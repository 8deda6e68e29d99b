-- Node-sets in document order (XPath 1.0, sections 2.2, 3.3 and 5): what that means of a list of nodes, of a value, of the answers of a world, and of
-- what is at hand. `before` says of two nodes whether the first comes before the second in document order.
use Rattle.std.specs.Prelude.{◌≡◌, Bool, false, List, [], ◌∷◌, Some, IsTrue}
use Rattle.spec_document.specs.Axis.{in_axis_order}
use Rattle.spec_document.specs.Order.{comes_before}
use Rattle.spec_meaning.specs.Value as value
use Rattle.spec_meaning.specs.Value.{Value}
use Rattle.spec_meaning.specs.Question as question
use Rattle.spec_meaning.specs.Question.{Question, Answer, nodes_in}
use Rattle.spec_meaning.specs.Program.{Wanted, Given, value_in, Supply}
use Rattle.spec_meaning.specs.Context.{Bound}
use Rattle.spec_run.specs.World.{Node, InSource, InModule}

-- a node comes before all of these
abbrev pub ComesBeforeAll : {N : Type 0} → (N → N → Bool) → N → List N → Type 0
ComesBeforeAll before n [] = Unit {0}
ComesBeforeAll before n (m ∷ ms) = IsTrue (before n m) × ComesBeforeAll before n ms

-- each comes before all that stand after it: they are in document order, and each stands there once
abbrev pub AreInOrder : {N : Type 0} → (N → N → Bool) → List N → Type 0
AreInOrder before [] = Unit {0}
AreInOrder before (n ∷ ns) = ComesBeforeAll before n ns × AreInOrder before ns

-- a value that is a node-set has its nodes in order; of any other there is nothing to say
abbrev pub IsInOrder : {N : Type 0} → (N → N → Bool) → Value N → Type 0
IsInOrder before (value.Nodes nodes) = AreInOrder before nodes
IsInOrder before (value.Number number) = Unit {0}
IsInOrder before (value.Text text) = Unit {0}
IsInOrder before (value.Boolean truth) = Unit {0}
IsInOrder before (value.Fragment stream) = Unit {0}

-- A world that answers in order: a step is answered by nodes in document order, read in the order of its axis; nodes that are to be put in order,
-- and those of a key, by nodes in document order. No other answer gives a node-set
abbrev pub AnswersInOrder : {N : Type 0} → (N → N → Bool) → Question N → Answer N → Type 0
AnswersInOrder {N = N} before (question.Step node axis test) a =
    (nodes : List N) × (nodes_in a ≡ in_axis_order axis nodes) × AreInOrder before nodes
AnswersInOrder before (question.Order nodes) a = AreInOrder before (nodes_in a)
AnswersInOrder before (question.Key name text) a = AreInOrder before (nodes_in a)
AnswersInOrder before (question.Text node) a = Unit {0}
AnswersInOrder before (question.Name node) a = Unit {0}
AnswersInOrder before (question.Place node) a = Unit {0}
AnswersInOrder before (question.Choice node mode candidates) a = Unit {0}
AnswersInOrder before (question.Copy node) a = Unit {0}
AnswersInOrder before (question.Unit element) a = Unit {0}
AnswersInOrder before (question.External name) a = Unit {0}

abbrev pub WorldIsInOrder : {N : Type 0} → (N → N → Bool) → (Question N → Answer N) → Type 0
WorldIsInOrder {N = N} before ask = (q : Question N) → AnswersInOrder before q (ask q)

-- the globals that are at hand, and the local variables in scope, have values in order
abbrev pub SuppliesAreInOrder : {N : Type 0} → (N → N → Bool) → Supply N → Type 0
SuppliesAreInOrder {N = N} before supply = (w : Wanted) (g : Given N) → supply w ≡ Some g → IsInOrder before (value_in g)

abbrev pub VariablesAreInOrder : {N : Type 0} → (N → N → Bool) → List (Bound N) → Type 0
VariablesAreInOrder before [] = Unit {0}
VariablesAreInOrder before (b ∷ bs) = IsInOrder before b.value × VariablesAreInOrder before bs

-- ---- Document order of the nodes of a source. The elements of a stylesheet are in no node-set, so no order is said of them
abbrev pub precedes : Node → Node → Bool
precedes (InSource p) (InSource q) = comes_before p q
precedes (InSource p) (InModule e) = false
precedes (InModule e) n = false
