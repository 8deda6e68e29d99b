-- What is remembered of globals that were evaluated before their turn, and where it holds.
use Rattle.std.specs.Prelude.{◌≡◌, ℕ, ◌≤◌, false, List, [], ◌∷◌, ◌++◌, Option, None, Some, if◌then◌else◌}
use Rattle.std.specs.List.{list_any}
use Rattle.spec_document.specs.Name.{Expanded, same_name}
use Rattle.spec_stylesheet.specs.Place.{Place}
use Rattle.spec_meaning.specs.Stream.{Stream}
use Rattle.spec_meaning.specs.Value as value
use Rattle.spec_meaning.specs.Value.{Value}
use Rattle.spec_meaning.specs.Context.{Bound}
use Rattle.spec_meaning.specs.Program.{Valued}
use Rattle.spec_run.specs.Plan.{Call}
use Rattle.spec_run.specs.Direct.{Known, Outcome}
use Rattle.spec_run.specs.Hold.{GoesOn}
use Rattle.spec_run.specs.Meaning.{Setting, Past, going_into, global_call, held_by, element_named, referred, meaning}

-- a global by its element, where there is one of this name; its value, what its content writes, and with how many levels left it comes to that
pub record Entry (N : Type 0) : Type 0 where
  pub name : Expanded
  pub element : Option N
  pub levels : ℕ
  pub value : Value N
  pub content : Stream

-- the value of a global whose turn is past
abbrev pub first_named : {N : Type 0} → Expanded → List (Bound N) → Option (Value N)
first_named name [] = None
first_named name (b ∷ bs) = if same_name b.name name then Some b.value else first_named name bs

abbrev pub IsIfThere : {V : Type 0} → Option V → V → Type 0
IsIfThere None v = Unit {0}
IsIfThere (Some w) v = w ≡ v

-- none of them is being evaluated, and where the turn of one is past, it has the value that is remembered
abbrev pub Fits : {N : Type 0} → List (Entry N) → Past N → Type 0
Fits [] past = Unit {0}
Fits (e ∷ es) past = ((list_any (same_name e.name) past.under ≡ false) × IsIfThere (first_named e.name past.values) e.value) × Fits es past

-- where the turns of these are past, and perhaps of more
pub record Suits {N : Type 0} (values : List (Bound N)) (all : List (Entry N)) (past : Past N) : Type 0 where
  pub more : List (Bound N)
  pub same : past.values ≡ values ++ more
  pub fits : Fits all past

-- an evaluation of it comes to that
pub record Comes {N : Type 0} (e : Entry N) (o : Outcome N) : Type 0 where
  pub held : held_by o ≡ Known (Valued e.value)
  pub content : o.content ≡ e.content

-- in all those places, from its levels on
abbrev pub HoldsAt : {N : Type 0} → Setting N → List (Bound N) → List (Entry N) → Entry N → Option N → Type 0
HoldsAt s values all e None = e.value ≡ value.Text []
HoldsAt {N = N} s values all e (Some element) =
    (r : ℕ) (past : Past N) (place : Place) → e.levels ≤ r → Suits values all past → Comes e (meaning s r (going_into e.name past) 0 (global_call s.root element place))

pub record Holds {N : Type 0} (s : Setting N) (values : List (Bound N)) (all : List (Entry N)) (e : Entry N) : Type 0 where
  pub element_is : element_named e.name s.globals ≡ e.element
  pub at : HoldsAt s values all e e.element

abbrev pub AllHold : {N : Type 0} → Setting N → List (Bound N) → List (Entry N) → List (Entry N) → Type 0
AllHold s values all [] = Unit {0}
AllHold s values all (e ∷ es) = Holds s values all e × AllHold s values all es

-- all of them hold, and this is a place where they do
pub record Remembers {N : Type 0} (s : Setting N) (past : Past N) (all : List (Entry N)) : Type 0 where
  pub hold : AllHold s past.values all all
  pub fits : Fits all past

-- after it was so of the old ones, it is so of the new ones, which are more
pub record Keeps {N : Type 0} (s : Setting N) (past : Past N) (old new : List (Entry N)) : Type 0 where
  pub remembers : Remembers s past new
  pub more : (other : Past N) → Fits new other → Fits old other

-- where a call goes on, it comes to this in all those places, from so many levels on
pub record Lasts {N : Type 0} (s : Setting N) (past : Past N) (levels : ℕ) (all : List (Entry N)) (c : Call N) (o : Outcome N) : Type 0 where
  pub so : GoesOn o.ending → (r : ℕ) (other : Past N) → levels ≤ r → Suits past.values all other → meaning s r other 0 c ≡ o

-- and so does a reference
abbrev pub GivesAlways : {N : Type 0} → Setting N → List (Bound N) → List (Entry N) → Expanded → ℕ → Value N → Type 0
GivesAlways {N = N} s values all name levels v =
    (r : ℕ) (past : Past N) (place : Place) → levels ≤ r → Suits values all past → referred s (meaning s r) past name 0 place ≡ Known (Valued v)

-- a reference to it evaluates the global of this element
pub record IsAnew {N : Type 0} (s : Setting N) (past : Past N) (name : Expanded) (element : N) : Type 0 where
  pub element_is : element_named name s.globals ≡ Some element
  pub not_past : first_named name past.values ≡ None
  pub apart : list_any (same_name name) past.under ≡ false

-- none of them has this name
abbrev pub Unnamed : {N : Type 0} → Expanded → List (Entry N) → Type 0
Unnamed name [] = Unit {0}
Unnamed name (e ∷ es) = (same_name e.name name ≡ false) × Unnamed name es

-- what is set aside while a global of this name is evaluated, and what stays
pub data IsAside {N : Type 0} (name : Expanded) : (aside old new : List (Entry N)) → Type 0 where
  all_aside : {old : List (Entry N)} → IsAside name old old []
  none_aside : {old : List (Entry N)} → Unnamed name old → IsAside name [] old old

pub record Forgets {N : Type 0} (name : Expanded) (old new : List (Entry N)) : Type 0 where
  pub aside : List (Entry N)
  pub is : IsAside name aside old new
