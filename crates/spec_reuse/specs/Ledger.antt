-- What a run enters by itself where records serve the rest, told as it is gone over part by part: which instantiations of a part are counted, and
-- which records are at hand behind it. A part may be gone over again: what came to its end in between is served then.
use Rattle.std.specs.Prelude.{◌≡◌, ◌⊎◌, ℕ, List, [], ◌∷◌, ◌++◌, drop, Bool, Option, None, Some, if◌then◌else◌}
use Rattle.spec_document.specs.Name.{Expanded}
use Rattle.spec_stylesheet.specs.Place.{Place}
use Rattle.spec_meaning.specs.Stream.{Stream}
use Rattle.spec_meaning.specs.Question.{Question, Answer}
use Rattle.spec_meaning.specs.Program.{Wanted, Position, Size, Rule, Global, Given}
use Rattle.spec_run.specs.Plan.{Refused, Target, Call, Plan, End, Yield, Stop, Inquire, Use, Put, Begin, Wrap, Take, Deep, Enter}
use Rattle.spec_run.specs.Direct.{Failed}
use Rattle.spec_run.specs.Going.{Event, Asked, Saw, Entered, Held}
use Rattle.spec_run.specs.Hold.{GoesOn, Hold, came}
use Rattle.spec_run.specs.Trail.{Kept}
use Rattle.spec_run.specs.Meaning.{Setting, settled}
use Rattle.spec_reuse.specs.Among.{IsIn, AreSomeOf}
use Rattle.spec_reuse.specs.Instantiation.{Instantiation, given_to, meant_below, own_of, entered_along, for_reference, entered, instantiations}
use Rattle.spec_reuse.specs.Serving.{Fits, Serves}
use Rattle.spec_reuse.specs.Cost.{NoneRepeats}

-- ---- What an instantiation enters

-- along these events
abbrev pub nested_along : {N : Type 0} → Setting N → Instantiation N → List (Event N) → List (Instantiation N)
nested_along s i es =
    entered_along (λ depth inner. entered s i.below i.past depth (settled i.call inner)) (for_reference s (entered s i.below) i.past) es

-- in all: it stands behind these itself
abbrev pub nested_in : {N : Type 0} → Setting N → Instantiation N → List (Instantiation N)
nested_in s i = nested_along s i (own_of s i).going.trace

abbrev pub unless_known : {N : Type 0} → (is_known : Expanded → ℕ → Place → Bool) → (Expanded → ℕ → Place → List (Instantiation N)) → Expanded → ℕ
    → Place → List (Instantiation N)
unless_known is_known for_global name depth place = if is_known name depth place then [] else for_global name depth place

-- along these events, but for references of which it is known what they give
abbrev pub nested_but : {N : Type 0} → Setting N → Instantiation N → (is_known : Expanded → ℕ → Place → Bool) → List (Event N)
    → List (Instantiation N)
nested_but s i is_known es =
    entered_along (λ depth inner. entered s i.below i.past depth (settled i.call inner))
    (unless_known is_known (for_reference s (entered s i.below) i.past)) es

abbrev pub AllEnd : {N : Type 0} → Setting N → List (Instantiation N) → Type 0
AllEnd {N = N} s is = (i : Instantiation N) → IsIn i is → GoesOn (own_of s i).ending

abbrev pub AreOfRun : {N : Type 0} → Setting N → List (Instantiation N) → Type 0
AreOfRun {N = N} s is = (i : Instantiation N) → IsIn i is → IsIn i (instantiations s)

-- ---- Along a front of a record

-- what was done, as it is done now, after these streams
abbrev pub now_of : {N : Type 0} → Setting N → Instantiation N → List Stream → Event N → Event N
now_of s i streams (Asked question answer) = Asked question (s.ask question)
now_of s i streams (Saw wanted depth place supplied) = Saw wanted depth place (given_to s i wanted depth place)
now_of s i streams (Entered call depth) = Entered call depth
now_of s i streams (Held first contents) = Held first (drop first streams)

-- what was given or entered then is refused now
abbrev pub IsRefusedAt : {N : Type 0} → Setting N → Instantiation N → Event N → Type 0
IsRefusedAt s i (Asked question answer) = ⊥
IsRefusedAt s i (Saw wanted depth place supplied) = (why : Refused) × (given_to s i wanted depth place ≡ Failed why)
IsRefusedAt s i (Entered call depth) = ¬ (GoesOn (meant_below s i depth call).ending)
IsRefusedAt s i (Held first contents) = ⊥

-- it does the first, and then this as it is now, which is the last that it does where it is refused
pub record GoesTo {N : Type 0} (s : Setting N) (i : Instantiation N) (front : List (Event N)) (event : Event N) : Type 0 where
  pub more : List (Event N)
  pub is : (own_of s i).going.trace ≡ front ++ now_of s i (came (meant_below s i) front) event ∷ more
  pub last : IsRefusedAt s i event → more ≡ []

-- ---- Along a run that goes on from where it stopped

-- what was at hand is so still
abbrev pub IsMoreAtHand : {N : Type 0} → (hand more : ℕ → Wanted → Option (Given N)) → Type 0
IsMoreAtHand {N = N} hand more = (depth : ℕ) (wanted : Wanted) (x : Given N) → hand depth wanted ≡ Some x → more depth wanted ≡ Some x

-- it does not go on from here by itself
abbrev pub IsStuck : {N : Type 0} → (hand : ℕ → Wanted → Option (Given N)) → Plan N → Type 0
IsStuck hand End = Unit {0}
IsStuck hand (Yield value) = Unit {0}
IsStuck hand (Stop why) = Unit {0}
IsStuck hand (Inquire question next) = ⊥
IsStuck hand (Use wanted depth place next) = hand depth wanted ≡ None
IsStuck hand (Put items next) = ⊥
IsStuck hand (Begin next) = ⊥
IsStuck hand (Wrap how next) = ⊥
IsStuck hand (Take next) = ⊥
IsStuck hand (Deep depth place next) = ⊥
IsStuck hand (Enter call depth next) = Unit {0}

-- ---- Records that are found

-- each question among what was done has its answer
abbrev pub AsksHold : {N : Type 0} → (Question N → Answer N) → List (Event N) → Type 0
AsksHold ask [] = Unit {0}
AsksHold ask (Asked question answer ∷ es) = (ask question ≡ answer) × AsksHold ask es
AsksHold ask (Saw wanted depth place supplied ∷ es) = AsksHold ask es
AsksHold ask (Entered call depth ∷ es) = AsksHold ask es
AsksHold ask (Held first contents ∷ es) = AsksHold ask es

-- One of these serves it, and all of its questions have their answers. What comes to its end asks them all; so it is of what is refused alone that
-- more may serve
abbrev pub IsFound : {N : Type 0} → Setting N → List (Kept N) → Instantiation N → Type 0
IsFound {N = N} s records i = (k : Kept N) × IsIn k records × Serves s i k × AsksHold s.ask k.trace

abbrev pub AllFound : {N : Type 0} → Setting N → List (Kept N) → List (Instantiation N) → Type 0
AllFound {N = N} s records is = (i : Instantiation N) → IsIn i is → IsFound s records i

-- ---- What is counted

-- one of these is of the unit and the node of a call
abbrev pub HasLike : {N : Type 0} → List (Instantiation N) → Call N → Type 0
HasLike {N = N} list c = (i : Instantiation N) × IsIn i list × (i.call.target ≡ c.target) × (i.call.node ≡ c.node)

-- one of these records is
abbrev pub HasRecord : {N : Type 0} → List (Kept N) → Call N → Type 0
HasRecord {N = N} records c = (k : Kept N) × IsIn k records × (k.call.target ≡ c.target) × (k.call.node ≡ c.node)

-- Going over these enters the list, where these are the records at hand before it, and those after it
pub record Enters {N : Type 0} (s : Setting N) (before : List (Kept N)) (list is : List (Instantiation N)) (after : List (Kept N)) : Type 0 where
  pub some : AreSomeOf list is
  pub new : (i : Instantiation N) → IsIn i list → ¬ (IsFound s before i)
  pub once : NoneRepeats s list
  -- of what comes to its end there is a record from then on
  pub stays : (k : Kept N) → IsIn k before → IsIn k after
  pub found : (i : Instantiation N) → IsIn i is → GoesOn (own_of s i).ending → IsFound s after i
  -- of a unit and a node of which there was no record, one is counted
  pub told : (i : Instantiation N) → IsIn i is → HasRecord before i.call ⊎ HasLike list i.call
  pub added : (k : Kept N) → IsIn k after → HasRecord before k.call ⊎ HasLike list k.call

-- going over a front of these alone, all of which comes to its end
pub record EntersFront {N : Type 0} (s : Setting N) (before : List (Kept N)) (list is : List (Instantiation N)) (after : List (Kept N)) : Type 0 where
  pub front : List (Instantiation N)
  pub rest : List (Instantiation N)
  pub parts : is ≡ front ++ rest
  pub ended : AllEnd s front
  pub enters : Enters s before list front after

-- ---- Step by step

-- what is no call
abbrev pub IsRead : {N : Type 0} → Event N → Type 0
IsRead (Asked question answer) = Unit {0}
IsRead (Saw wanted depth place supplied) = Unit {0}
IsRead (Entered call depth) = ⊥
IsRead (Held first contents) = Unit {0}

-- and no reference to a global
abbrev pub EntersNone : {N : Type 0} → Event N → Type 0
EntersNone (Asked question answer) = Unit {0}
EntersNone (Saw Position depth place supplied) = Unit {0}
EntersNone (Saw Size depth place supplied) = Unit {0}
EntersNone (Saw Rule depth place supplied) = Unit {0}
EntersNone (Saw (Global name) depth place supplied) = ⊥
EntersNone (Entered call depth) = ⊥
EntersNone (Held first contents) = Unit {0}

-- Of a record that fits this was gone along, which holds, and this is left; so the list was entered
pub record IsAlong {N : Type 0} (s : Setting N) (i : Instantiation N) (k : Kept N) (done rest : List (Event N)) (before : List (Kept N))
    (list : List (Instantiation N)) (after : List (Kept N)) : Type 0 where
  pub of_run : IsIn i (instantiations s)
  pub fits : Fits s i k
  pub parts : k.trace ≡ done ++ rest
  pub holds : Hold s.ask (given_to s i) (meant_below s i) [] done
  pub enters : Enters s before list (nested_along s i done) after

-- By a run this was done, where it is known what some references give; so the list was entered
pub record IsRun {N : Type 0} (s : Setting N) (i : Instantiation N) (is_known : Expanded → ℕ → Place → Bool) (done : List (Event N))
    (before : List (Kept N)) (list : List (Instantiation N)) (after : List (Kept N)) : Type 0 where
  pub of_run : IsIn i (instantiations s)
  pub more : List (Event N)
  pub parts : (own_of s i).going.trace ≡ done ++ more
  pub enters : Enters s before list (nested_but s i is_known done) after

-- ---- The whole run

-- These are counted of a run, where these are the records of the last finished one: as `AreEntered`, but that a record counts whose questions all have
-- their answers
pub record AreCounted {N : Type 0} (s : Setting N) (records : List (Kept N)) (IsMade : Target N → N → Type 0) (list : List (Instantiation N)) : Type 0 where
  pub of_run : AreSomeOf list (instantiations s)
  pub new : (i : Instantiation N) → IsIn i list → ¬ (IsFound s records i)
  pub once : NoneRepeats s list
  pub made : (i : Instantiation N) → IsIn i (instantiations s) → IsMade i.call.target i.call.node → HasLike list i.call
