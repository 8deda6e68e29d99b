-- Which choices of a template rule a change of the source leaves as they were. A pattern such as `para`, `chapter//title`, `@id` or `/` is
-- decided by what a node and the nodes above it are called. A node that stays has the same nodes above it, and each is called as before; so
-- where all rules of a mode have such patterns, no change chooses another one for it. A predicate asks more (`item[@new]`, `item[2]`), and so
-- does key().
--     AreAsking      the modes that have a rule with another pattern
--     spared         whether a change spares a question, where these are such modes: it is the choice of a rule as above
--     spared_by_move whether a move does
--     TellsApart     what it takes that a node above one that stays is not taken for one that goes or comes
use Rattle.std.specs.Prelude.{ℕ, ◌≡◌, Bool, true, false, not, ◌&&◌, ◌||◌, List, ◌∷◌, Option, IsTrue}
use Rattle.std.specs.List.{list_all, list_any}
use Rattle.spec_document.specs.Name.{Expanded}
use Rattle.spec_document.specs.Forest.{Document, labels}
use Rattle.spec_expression.specs.Syntax.{Exprs, no_exprs, expr}
use Rattle.spec_stylesheet.specs.declared.pattern.Start.{Start}
use Rattle.spec_stylesheet.specs.declared.pattern.Start.TheVariants.{Anywhere, Root, Id, Key as ByKey}
use Rattle.spec_stylesheet.specs.Pattern.{PatternStep, Alternative, Pattern}
use Rattle.spec_stylesheet.specs.Sheet.{Rule}
use Rattle.spec_meaning.specs.Question.{Question, Step, Text, Name, Place, Order, Key, Choice, Copy, Unit, External}
use Rattle.spec_transform.specs.Choice.{same_mode}
use Rattle.spec_change.specs.Change.{Change, is_among}
use Rattle.spec_move.specs.Changed.{MoveChange, in_order, between}
use Rattle.spec_node.specs.declared.node_ref.NodeRef.{NodeRef}
use Rattle.spec_touch.specs.Touched.{goes_or_comes}

-- ---- Patterns without predicates and key()

abbrev pub are_none : Exprs → Bool
are_none no_exprs = true
are_none (expr predicate predicates) = false

abbrev pub is_plain_step : PatternStep → Bool
is_plain_step s = are_none s.step.predicates

abbrev pub is_plain_start : Start (List ℕ) Expanded → Bool
is_plain_start Anywhere = true
is_plain_start Root = true
is_plain_start (Id text) = true
is_plain_start (ByKey name value) = false

abbrev pub is_plain_alternative : Alternative → Bool
is_plain_alternative a = is_plain_start a.start && list_all is_plain_step a.steps

abbrev pub is_plain_pattern : Pattern → Bool
is_plain_pattern pattern = list_all is_plain_alternative pattern.alternatives

-- a rule of another mode may have any pattern
abbrev pub is_plain_in : Option Expanded → Rule → Bool
is_plain_in mode rule = not (same_mode mode rule.mode) || is_plain_pattern rule.pattern

abbrev pub are_plain_in : Option Expanded → List Rule → Bool
are_plain_in mode rules = list_all (is_plain_in mode) rules

-- ---- Modes

abbrev pub is_mode_among : List (Option Expanded) → Option Expanded → Bool
is_mode_among modes mode = list_any (same_mode mode) modes

-- all rules of every other mode have such patterns
abbrev pub AreAsking : (modes : List (Option Expanded)) → List Rule → Type 0
AreAsking modes rules = (mode : Option Expanded) → is_mode_among modes mode ≡ false → are_plain_in mode rules ≡ true

-- ---- Questions

-- the choice of a rule for a node that stays, in a mode that is none of these
abbrev pub spared : (asking : List (Option Expanded)) → Change → Question NodeRef → Bool
spared asking change (Step node axis test) = false
spared asking change (Text node) = false
spared asking change (Name node) = false
spared asking change (Place node) = false
spared asking change (Order nodes) = false
spared asking change (Key name value) = false
spared asking change (Choice node mode candidates) = not (goes_or_comes change node) && not (is_mode_among asking mode)
spared asking change (Copy node) = false
spared asking change (Unit element) = false
spared asking change (External name) = false

-- with a move: a node that moves to another parent has others above it, so neither it nor what is below it stays
abbrev pub spared_by_move : (asking : List (Option Expanded)) → MoveChange → Question NodeRef → Bool
spared_by_move asking (in_order change) question = spared asking change question
spared_by_move asking (between left entered) question = spared asking left question && spared asking entered question

-- no node that is there after the change has a number that is told to be gone, and none that was there before has one that is told to be brought.
-- It is so of an edit of a document whose nodes have numbers of their own
pub record TellsApart (change : Change) (old new : Document ℕ) : Type 0 where
  pub gone : IsTrue (list_all (λ n. not (is_among change.gone n)) (new.root ∷ labels new.nodes))
  pub brought : IsTrue (list_all (λ n. not (is_among change.brought n)) (old.root ∷ labels old.nodes))
