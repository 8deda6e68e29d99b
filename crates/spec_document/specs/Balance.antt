-- Which forest the events of a body are, where they are balanced; else the line of the first that may not follow.
use Rattle.std.specs.Prelude.{◌≡◌, ◌++◌, IsSome, ℕ, Bool, true, false, List, [], ◌∷◌, map, drop, Option, None, Some, if◌then◌else◌}
use Rattle.std.specs.Prelude.{bytes_eq}
use Rattle.std.specs.Option.{option_and_then}
use Rattle.spec_document.specs.declared.event.Event.{Event}
use Rattle.spec_document.specs.declared.event.Event.TheVariants.{Start, Attribute, Data, Instruction as InstructionEvent, End, Comment as CommentEvent}
use Rattle.spec_document.specs.Forest.{Written, Element, Comment, Instruction, Forest, Empty, Node, joined}

-- where a node stands: the line that it begins with, and the lines of an element's attributes in their order
pub record LineNumbers : Type 0 where
  pub first : ℕ
  pub attributes : List ℕ

-- what the events of a list say where the list may be the rest of a longer one: attributes of a start before it, the siblings
-- that it goes on with, and behind each end whose start stands before it, the name there and the siblings that follow
pub record Rest : Type 0 where
  pub attributes : List (ℕ × Written)
  pub siblings : Forest LineNumbers
  pub behind : List (List ℕ × Forest LineNumbers)

abbrev pub alone : ℕ → LineNumbers
alone line = record { first = line; attributes = [] }

-- an attribute stands directly behind a start or another attribute, so nothing else may stand before one
abbrev pub unless_attributes : Rest → Option Rest → Option Rest
unless_attributes rest front = elim rest.attributes [ [] ↦ front | a ∷ more ↦ None ]

-- a start needs the end of its name: what stands before that end is below it
abbrev pub started : ℕ → List ℕ → List (ℕ × Written) → Forest LineNumbers → List (List ℕ × Forest LineNumbers) → Option Rest
started line name attributes children [] = None
started line name attributes children (end ∷ behind) =
    if bytes_eq name end.0 then Some (record {
      attributes = [];
      siblings = Node (record { first = line; attributes = map (λ a. a.0) attributes }) (Element name (map (λ a. a.1) attributes)) children end.1;
      behind = behind;
    })
    else None

-- what is said with one event more in front
abbrev pub with_event : ℕ → Event (List ℕ) → Rest → Option Rest
with_event line (Start name) rest = started line name rest.attributes rest.siblings rest.behind
with_event line (Attribute name value) rest = Some (record rest { attributes = (line, record { name = name; value = value }) ∷ rest.attributes })
with_event line (Data text) rest = unless_attributes rest (Some (record rest { siblings = joined (alone line) text rest.siblings }))
with_event line (InstructionEvent target text) rest =
    unless_attributes rest (Some (record rest { siblings = Node (alone line) (Instruction target text) Empty rest.siblings }))
with_event line (End name) rest =
    unless_attributes rest (Some (record { attributes = []; siblings = Empty; behind = (name, rest.siblings) ∷ rest.behind }))
with_event line (CommentEvent text) rest = unless_attributes rest (Some (record rest { siblings = Node (alone line) (Comment text) Empty rest.siblings }))

abbrev pub rest_of : List (ℕ × Event (List ℕ)) → Option Rest
rest_of [] = Some (record { attributes = []; siblings = Empty; behind = [] })
rest_of (e ∷ events) = option_and_then (with_event e.0 e.1) (rest_of events)

-- the forest, where no start and no end is left over, and no attribute
abbrev pub closed : List (ℕ × Written) → Forest LineNumbers → List (List ℕ × Forest LineNumbers) → Option (Forest LineNumbers)
closed [] siblings [] = Some siblings
closed _ siblings _ = None

abbrev pub forest_of : List (ℕ × Event (List ℕ)) → Option (Forest LineNumbers)
forest_of events = option_and_then (λ rest. closed rest.attributes rest.siblings rest.behind) (rest_of events)

-- the names of the elements that are open, the innermost first, behind one event more
abbrev pub open_behind : Event (List ℕ) → List (List ℕ) → List (List ℕ)
open_behind (Start name) names = name ∷ names
open_behind (Attribute name value) names = names
open_behind (Data text) names = names
open_behind (InstructionEvent target text) names = names
open_behind (End name) names = drop 1 names
open_behind (CommentEvent text) names = names

abbrev pub takes_attributes : Option (Event (List ℕ)) → Bool
takes_attributes (Some (Start name)) = true
takes_attributes (Some (Attribute name value)) = true
takes_attributes _ = false

abbrev pub is_innermost : List ℕ → List (List ℕ) → Bool
is_innermost name [] = false
is_innermost name (innermost ∷ names) = bytes_eq name innermost

-- whether an event may follow: an end has the name of the innermost element that is open, an attribute follows a start or an attribute
abbrev pub may_follow : Option (Event (List ℕ)) → List (List ℕ) → Event (List ℕ) → Bool
may_follow before names (End name) = is_innermost name names
may_follow before names (Attribute name value) = takes_attributes before
may_follow before names _ = true

-- 9: where the events are not balanced, the line of the first that may not follow those before it; where there is none,
-- an end is missing, which is no line's
abbrev pub unbalanced_line : Option (Event (List ℕ)) → List (List ℕ) → List (ℕ × Event (List ℕ)) → ℕ
unbalanced_line before names [] = 0
unbalanced_line before names (e ∷ events) = if may_follow before names e.1 then unbalanced_line (Some e.1) (open_behind e.1 names) events else e.0

-- events that can go on to those of a forest
abbrev pub CanGoOn : List (ℕ × Event (List ℕ)) → Type 0
CanGoOn events = (more : List (ℕ × Event (List ℕ))) × IsSome (forest_of (events ++ more))

-- which line is at fault: that of the first event with which they cannot go on, or none where they can
pub data IsUnbalanced (events : List (ℕ × Event (List ℕ))) (line : ℕ) : Type 0 where
  refused : (before after : List (ℕ × Event (List ℕ))) → (event : Event (List ℕ)) → events ≡ before ++ (line, event) ∷ after
      → CanGoOn before
      → (CanGoOn (before ++ (line, event) ∷ []) → ⊥) → IsUnbalanced events line
  unended : line ≡ 0 → CanGoOn events → IsUnbalanced events line
