-- How much of a document is asked for a step of a pattern: the node alone, or all nodes that the step leads to from its parent.
use Rattle.std.specs.Prelude.{◌≡◌, ℕ, Bool, true, List, None}
use Rattle.std.specs.List.{list_any}
use Rattle.spec_document.specs.declared.axis.Axis.{Axis}
use Rattle.spec_document.specs.declared.axis.Axis.TheVariants as axis
use Rattle.spec_expression.specs.declared.NodeType.TheVariants as type
use Rattle.spec_expression.specs.Syntax.{OfType, Exprs, no_exprs, expr, Step}
use Rattle.spec_meaning.specs.Question as question
use Rattle.spec_meaning.specs.Question.{Question, Answer, nodes_in}
use Rattle.spec_meaning.specs.Program.{Wanted, Program, Ask, Supply, Gives, outcome_of}
use Rattle.spec_meaning.specs.Context.{Context}
use Rattle.spec_transform.specs.Match.{is_kept, is_given_below, holds_of_one}

-- ---- Nodes by their names

-- a test that tells by their names whether two nodes are the same
abbrev pub TellsApart : {N : Type 0} → (N → N → Bool) → Type 0
TellsApart {N = N} same = (n m : N) → (same n n ≡ true) × (same n m ≡ true → n ≡ m)

abbrev pub is_among : {N : Type 0} → (N → N → Bool) → N → List N → Bool
is_among same n nodes = list_any (same n) nodes

-- ---- What a world answers of the tree

-- the nodes on an axis of a node
abbrev pub nodes_on : {N : Type 0} → (Question N → Answer N) → Axis → N → List N
nodes_on ask axis n = nodes_in (ask (question.Step n axis (OfType type.Node)))

-- the nodes that a step leads to from a node, before its predicates
abbrev pub led_to : {N : Type 0} → (Question N → Answer N) → Step → N → List N
led_to ask s n = nodes_in (ask (question.Step n s.axis s.test))

-- ---- A step, asked of all nodes

-- whether a node is one of those that a step with its predicates gives from its parent: each predicate but the last is asked of all nodes that
-- the step leads to from there, whatever it reads
abbrev pub passes_among : {N : Type 0} → (N → N → Bool) → Context N → Step → N → Program N Bool
passes_among same c s n = Ask (question.Step n axis.Parent (OfType type.Node)) (λ a. holds_of_one (is_given_below same c s n) (nodes_in a))

-- ---- That nothing is lacking

-- a program that ends with a value, where these are the answers and this is at hand
abbrev pub IsAnswered : {N A : Type 0} → (Question N → Answer N) → Supply N → Program N A → Type 0
IsAnswered {A = A} ask supply program = (value : A) × (outcome_of ask supply program ≡ Gives value)

-- predicates that say of each node at each position whether they keep it: so none of them needs anything of the run that is not at hand, since
-- what is refused is false
abbrev pub AreAnswered : {N : Type 0} → (Question N → Answer N) → Supply N → Context N → Exprs → Type 0
AreAnswered ask supply c no_exprs = Unit {0}
AreAnswered {N = N} ask supply c (expr p ps) =
    ((n : N) (size position : ℕ) → IsAnswered ask supply (is_kept p c size position n)) × AreAnswered ask supply c ps

-- all that may be needed of the run is at hand
abbrev pub AllIsAtHand : {N : Type 0} → Supply N → Type 0
AllIsAtHand supply = (w : Wanted) → ¬ (supply w ≡ None)
