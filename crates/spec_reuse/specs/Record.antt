-- What is kept of a run: the record of an instantiation with those of what it entered, as a tree. When a tree is what a call enters, and where it
-- stays that. Globals that are referred to stand beside it, and not in it.
use Rattle.std.specs.Prelude.{◌≡◌, ◌+◌, ◌<◌, List, [], ◌∷◌, ◌++◌, drop, Some, unwrap_or}
use Rattle.spec_meaning.specs.Stream.{Stream, filled}
use Rattle.spec_meaning.specs.Value.{Value}
use Rattle.spec_meaning.specs.Program.{Wanted, Position, Size, Rule, Global, Counted, Ruled, Valued}
use Rattle.spec_meaning.specs.Context.{binding_of}
use Rattle.spec_run.specs.Direct.{Supplied, Known, Outcome}
use Rattle.spec_run.specs.Going.{Event, Asked, Saw, Entered, Held}
use Rattle.spec_run.specs.Trail.{Kept}
use Rattle.spec_run.specs.Meaning.{Setting, current_by}
use Rattle.spec_reuse.specs.Instantiation.{Instantiation, inside, given_to, kept_of}
use Rattle.spec_reuse.specs.Serving.{IsOf, taken_for, Fits}

-- records side by side, each with those below it
pub data Runs (N : Type 0) : Type 0 where
  none : Runs N
  ran : (kept : Kept N) → (below rest : Runs N) → Runs N

-- all of them, each after those below it
abbrev pub records_in : {N : Type 0} → Runs N → List (Kept N)
records_in none = []
records_in (ran kept below rest) = records_in below ++ kept ∷ records_in rest

-- the streams of those side by side, each with those below it in place of its holes
abbrev pub streams_in : {N : Type 0} → Runs N → List Stream
streams_in none = []
streams_in (ran kept below rest) = filled kept.content (streams_in below) ∷ streams_in rest

-- what a record with those below it comes to
abbrev pub outcome_of : {N : Type 0} → Kept N → (below : Runs N) → Outcome N
outcome_of kept below = record { content = filled kept.content (streams_in below); ending = kept.ending }

-- ---- When they are what is entered

-- Along what an instantiation did, which all holds: these are what it entered, after streams of those before them
abbrev pub AreRunsAlong : {N : Type 0} → Setting N → Instantiation N → List (Event N) → List Stream → Runs N → Type 0
AreRunsAlong s i [] streams none = Unit {0}
AreRunsAlong s i [] streams (ran kept below rest) = ⊥
AreRunsAlong s i (Asked question answer ∷ es) streams runs = (s.ask question ≡ answer) × AreRunsAlong s i es streams runs
AreRunsAlong s i (Saw wanted depth place supplied ∷ es) streams runs = (given_to s i wanted depth place ≡ supplied) × AreRunsAlong s i es streams runs
AreRunsAlong s i (Held first contents ∷ es) streams runs = (drop first streams ≡ contents) × AreRunsAlong s i es streams runs
AreRunsAlong s i (Entered call depth ∷ es) streams none = ⊥
AreRunsAlong s i (Entered call depth ∷ es) streams (ran kept below rest) =
    (depth < i.below) × Fits s (inside i depth call) kept × AreRunsAlong s (inside i depth call) kept.trace [] below
    × AreRunsAlong s i es (streams ++ filled kept.content (streams_in below) ∷ []) rest

-- a record with those below it is the run of an instantiation
pub record IsRunOf {N : Type 0} (s : Setting N) (i : Instantiation N) (kept : Kept N) (below : Runs N) : Type 0 where
  pub fits : Fits s i kept
  pub entered : AreRunsAlong s i kept.trace [] below

-- the record is what is kept of the instantiation, but that what is no read may differ in its call
pub record IsRecordOf {N : Type 0} (s : Setting N) (i : Instantiation N) (kept : Kept N) : Type 0 where
  pub of_call : IsOf i.call kept
  pub same : taken_for i.call kept ≡ kept_of s i

-- ---- Where they stay that: in another world, and at another place of a run in which the turn of each global that was seen is past

-- the run gives this; a global has its turn behind it
abbrev pub IsPast : {N : Type 0} → Instantiation N → Wanted → Supplied N → Type 0
IsPast i Position supplied = Known (Counted (unwrap_or i.call.position 1)) ≡ supplied
IsPast i Size supplied = Known (Counted (unwrap_or i.call.size 1)) ≡ supplied
IsPast i Rule supplied = Known (Ruled (current_by i.call.ruling)) ≡ supplied
IsPast {N = N} i (Global name) supplied = (v : Value N) × (binding_of name i.past.values ≡ Some v) × (Known (Valued v) ≡ supplied)

-- each question has its answer, what is given is past, and there are the levels for each record
abbrev pub StayAlong : {N : Type 0} → Setting N → Instantiation N → List (Event N) → Runs N → Type 0
StayAlong s i [] runs = Unit {0}
StayAlong s i (Asked question answer ∷ es) runs = (s.ask question ≡ answer) × StayAlong s i es runs
StayAlong s i (Saw wanted depth place supplied ∷ es) runs = IsPast i wanted supplied × StayAlong s i es runs
StayAlong s i (Held first contents ∷ es) runs = StayAlong s i es runs
StayAlong s i (Entered call depth ∷ es) none = Unit {0}
StayAlong s i (Entered call depth ∷ es) (ran kept below rest) =
    (depth + kept.height < i.below) × StayAlong s (inside i depth call) kept.trace below × StayAlong s i es rest
