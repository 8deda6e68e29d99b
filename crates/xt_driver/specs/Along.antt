-- One turn along a record.
use Rattle.std.specs.Prelude.{◌≡◌, ℕ, ◌-◌, ◌≤◌, List, [], ◌∷◌, ◌++◌, Bool, true, false, Result, Ok, Err, Box, drop, unwrap_or}
use Rattle.std.specs.declared.alloc.Global.{Global as Allocator}
use Rattle.spec_document.specs.Name.{Expanded}
use Rattle.spec_stylesheet.specs.Place.{Place}
use Rattle.spec_meaning.specs.Stream.{Stream}
use Rattle.spec_meaning.specs.Program.{Wanted, Position, Size, Rule, Global, Counted, Ruled, Valued}
use Rattle.spec_run.specs.Plan.{Call}
use Rattle.spec_run.specs.Direct.{Supplied, Known, Ending, Finished, Gave, Halted}
use Rattle.spec_run.specs.Going.{Event, Asked, Saw, Entered, Held}
use Rattle.spec_run.specs.Meaning.{current_by, settled}
use Rattle.spec_node.specs.declared.node_ref.NodeRef.{NodeRef}
use Rattle.xt_syntax.specs.PartView.{place_of}
use Rattle.xt_tree.specs.ValueView.{value_of}
use Rattle.xt_tree.specs.StreamView.{streams_of}
use Rattle.xt_engine.specs.View.{call_of}
use Rattle.xt_record.specs.View.{AreWhole}
use Rattle.xt_engine.specs.declared.turn.Entered.{Entered as Given}
use Rattle.xt_engine.specs.declared.turn.Entered.TheVariants as given
use Rattle.xt_text.specs.declared.memory.Memory.{Memory}
use Rattle.xt_driver.specs.declared.follow.Gone.{Gone}
use Rattle.xt_driver.specs.declared.follow.Gone.TheVariants as gone
use Rattle.xt_driver.specs.declared.follow.Next.{Next}
use Rattle.xt_driver.specs.declared.follow.Next.TheVariants as next
use Rattle.xt_driver.specs.declared.way.Way.{Way}
use Rattle.xt_driver.specs.declared.level.Needed.{Needed}
use Rattle.xt_driver.specs.declared.lost.Lost.{Lost}
use Rattle.xt_driver.specs.declared.lost.Lost.TheVariants as lost
use Rattle.xt_driver.specs.declared.memo.Referred.{Referred}
use Rattle.xt_driver.specs.declared.came.Outcome.{Outcome}
use Rattle.xt_driver.specs.View.{outcome_of}

abbrev pub halts : Ending NodeRef → Bool
halts Finished = false
halts (Gave value) = false
halts (Halted why) = true

-- ---- What was done next

-- it says whether this holds
abbrev pub HoldsIf : Next → Type 0 → Type 0
HoldsIf next.Holds P = P
HoldsIf next.Differs P = ¬ P
HoldsIf (next.Enter inner left) P = ⊥
HoldsIf (next.Refer needed left) P = ⊥

-- it says whether these are the same streams; of those that have holes it may say that they differ
abbrev pub IsHeld : Next → (now then : List Stream) → Type 0
IsHeld next.Holds now then = now ≡ then
IsHeld next.Differs now then = AreWhole now → ¬ (now ≡ then)
IsHeld (next.Enter inner left) now then = ⊥
IsHeld (next.Refer needed left) now then = ⊥

-- a reference to a global, from this element and with so many levels left
abbrev pub IsReferred : Next → ℕ → Expanded → Place → Type 0
IsReferred (next.Refer needed left) levels name place = (needed.value.name ≡ name) × (place_of needed.value.place ≡ place) × (left ≡ levels)
IsReferred (next.Enter inner left) levels name place = ⊥
IsReferred next.Holds levels name place = ⊥
IsReferred next.Differs levels name place = ⊥

-- this call, with so many levels left
abbrev pub IsEntered : Next → ℕ → Call NodeRef → Type 0
IsEntered (next.Enter inner left) levels c = (call_of inner.value ≡ c) × (left ≡ levels)
IsEntered (next.Refer needed left) levels c = ⊥
IsEntered next.Holds levels c = ⊥
IsEntered next.Differs levels c = ⊥

-- what was needed of the run of a call, from this element and with so many levels left
abbrev pub IsSeen : Next → Call NodeRef → ℕ → Wanted → Place → Supplied NodeRef → Type 0
IsSeen n c left Position place supplied = HoldsIf n (Known (Counted (unwrap_or c.position 1)) ≡ supplied)
IsSeen n c left Size place supplied = HoldsIf n (Known (Counted (unwrap_or c.size 1)) ≡ supplied)
IsSeen n c left Rule place supplied = HoldsIf n (Known (Ruled (current_by c.ruling)) ≡ supplied)
IsSeen n c left (Global name) place supplied = IsReferred n left name place

-- this event, for a call with so many levels below its own, where these are the streams of what was entered before
abbrev pub IsNext : Next → Call NodeRef → ℕ → List Stream → Event NodeRef → Type 0
IsNext n c below streams (Asked question answer) = HoldsIf n (Unit {0})
IsNext n c below streams (Saw wanted depth place supplied) = IsSeen n c (below - depth) wanted place supplied
IsNext n c below streams (Entered call depth) = IsEntered n (below - depth) (settled c call)
IsNext n c below streams (Held first contents) = IsHeld n (drop first streams) contents

-- ---- What came of it

-- it goes on, with one stream more
pub record IsTaken (o : Outcome) (old new : Way) : Type 0 where
  pub on : halts (outcome_of o).ending ≡ false
  pub streams : streams_of new.parts.items ≡ streams_of old.parts.items ++ (outcome_of o).content ∷ []
  pub spare : new.spare ≤ old.spare
  pub inner : new.spare ≤ o.spare

-- it is refused, and its stream is the last
pub record IsStopped (o : Outcome) (old new : Way) : Type 0 where
  pub stops : halts (outcome_of o).ending ≡ true
  pub streams : streams_of new.parts.items ≡ streams_of old.parts.items ++ (outcome_of o).content ∷ []

-- of the call that was entered
abbrev pub TakesSo : Gone → Outcome → Way → Way → Type 0
TakesSo gone.On o old new = IsTaken o old new
TakesSo (gone.Not l) o old new = ⊥
TakesSo (gone.Refused x) o old new = (x.value ≡ o) × IsStopped o old new

abbrev pub Takes : Gone → Result (Box Outcome Allocator) Memory → Way → Way → Type 0
Takes x (Ok o) old new = TakesSo x o.value old new
Takes x (Err memory) old new = ⊥

-- the global had this value
abbrev pub IsSeenAs : Event NodeRef → Given → Type 0
IsSeenAs (Saw wanted depth place supplied) (given.Value value) = Known (Valued (value_of value)) ≡ supplied
IsSeenAs _ _ = ⊥

pub record IsTakenAs (event : Event NodeRef) (r : Referred) (old new : Way) : Type 0 where
  pub seen : IsSeenAs event r.entered
  pub parts : new.parts ≡ old.parts
  pub spare : new.spare ≤ old.spare
  pub inner : new.spare ≤ r.spare

-- what is given refuses the call that needs it
abbrev pub refuses : Given → Bool
refuses (given.Refused why content) = true
refuses (given.Value value) = false
refuses (given.Stream content) = false
refuses given.UnderWay = false

-- what was refused is lost; else another value was seen
abbrev pub IsLostAs : Lost → Referred → Event NodeRef → Needed → ℕ → Type 0
IsLostAs lost.Nothing r event needed levels = (refuses r.entered ≡ false) × (¬ (IsSeenAs event r.entered))
IsLostAs (lost.Reference l) r event needed levels =
    (l.value.needed.value ≡ needed) × (l.value.levels ≡ levels) × (l.value.referred.value ≡ r) × (refuses r.entered ≡ true)

-- of the global that was needed; or it is lost, or another value than what was seen
abbrev pub TakesReferenceSo : Gone → Referred → Event NodeRef → Needed → ℕ → Way → Way → Type 0
TakesReferenceSo gone.On r event needed levels old new = IsTakenAs event r old new
TakesReferenceSo (gone.Not l) r event needed levels old new = IsLostAs l r event needed levels
TakesReferenceSo (gone.Refused x) r event needed levels old new = ⊥

abbrev pub TakesReference : Gone → Result (Box Referred Allocator) Memory → Event NodeRef → Needed → ℕ → Way → Way → Type 0
TakesReference x (Ok r) event needed levels old new = TakesReferenceSo x r.value event needed levels old new
TakesReference x (Err memory) event needed levels old new = ⊥
