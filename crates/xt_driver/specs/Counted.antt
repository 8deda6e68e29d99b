-- What a run counts as it goes on, and what it keeps.
--     Hand            the records that a run may reuse, how many instantiations it counted, and what it remembers
--     KeepsAll        of these that come to their ends there are records among those that this run keeps for the next
--     KeepsOnly       each record that this run keeps for the next is of the unit and the node of one that it has
--     Counted         going over these, so many more are counted
--     CountedFront    going over a front of these, which comes to its end
--     CountedAlong    going along a record
--     CountedRun      running a call, which counts too
use Rattle.std.specs.Prelude.{◌≡◌, ◌≤◌, ℕ, suc, ◌+◌, ◌-◌, ◌^◌, List, [], ◌∷◌, ◌++◌, length, map, min, Bool, true, Option, Some, None, Result, Ok, Err}
use Rattle.std.specs.Prelude.{Box, if◌then◌else◌}
use Rattle.std.specs.declared.alloc.Global.{Global as Allocator}
use Rattle.std.specs.declared.rc.Rc.{Rc}
use Rattle.spec_document.specs.Name.{Expanded, same_name}
use Rattle.spec_stylesheet.specs.Place.{Place}
use Rattle.spec_meaning.specs.Stream.{Stream}
use Rattle.spec_meaning.specs.Question.{Question, Answer}
use Rattle.spec_meaning.specs.Context.{Bound}
use Rattle.spec_run.specs.Plan.{Call, nowhere}
use Rattle.spec_run.specs.Going.{Event}
use Rattle.spec_run.specs.Hold.{GoesOn, came}
use Rattle.spec_run.specs.Trail.{Kept}
use Rattle.spec_run.specs.Meaning.{Setting, Past, NamedGlobal, going_into, global_call}
use Rattle.spec_reuse.specs.Among.{IsIn}
use Rattle.spec_reuse.specs.Instantiation.{Instantiation, meant_below, own_of, kept_of, for_reference, entered, instantiations}
use Rattle.spec_reuse.specs.Serving.{Serves}
use Rattle.spec_reuse.specs.Ledger.{nested_along, nested_in, nested_but, AllEnd, AllFound, AreOfRun, Enters, EntersFront, HasLike, IsAlong, IsFound}
use Rattle.spec_node.specs.declared.node_ref.NodeRef.{NodeRef}
use Rattle.xt_engine.specs.declared.event.Ran.{Ran}
use Rattle.xt_engine.specs.declared.turn.Entered.{Entered as Given}
use Rattle.xt_engine.specs.declared.turn.Entered.TheVariants as given
use Rattle.xt_engine.specs.Advances.{ran_of}
use Rattle.xt_record.specs.Kept.{kept_with}
use Rattle.xt_record.specs.Search.{most, next_of, StandOn}
use Rattle.xt_record.specs.View.{kept_in, AsksHold}
use Rattle.xt_record.specs.declared.record.Record.{Record}
use Rattle.xt_record.specs.declared.reuse.Found.{Found}
use Rattle.xt_record.specs.declared.reuse.Reuse.{Reuse}
use Rattle.xt_text.specs.declared.memory.Memory.{Memory}
use Rattle.xt_driver.specs.declared.drive.Served.{Served}
use Rattle.xt_driver.specs.declared.drive.Served.TheVariants as served
use Rattle.xt_driver.specs.declared.follow.Gone.{Gone}
use Rattle.xt_driver.specs.declared.follow.Gone.TheVariants as gone
use Rattle.xt_driver.specs.declared.lost.Lost.{Lost}
use Rattle.xt_driver.specs.declared.lost.Lost.TheVariants as lost
use Rattle.xt_driver.specs.declared.memo.Memo.{Memo}
use Rattle.xt_driver.specs.declared.memo.Referred.{Referred}
use Rattle.xt_driver.specs.declared.globals.Globals.{Globals}
use Rattle.xt_driver.specs.declared.globals.Reference.{Reference}
use Rattle.xt_driver.specs.declared.globals.Reference.TheVariants as references
use Rattle.xt_driver.specs.View.{setting_of, past_of}
use Rattle.xt_driver.specs.Remembered.{Entry, Remembers}
use Rattle.xt_driver.specs.Referring.{entries_of, IsValue}
use Rattle.xt_driver.specs.declared.memo.Turned.{Turned}
use Rattle.xt_driver.specs.Turning.{HeldAs}
use Rattle.xt_driver.specs.Lost.{is_lost}

-- ---- What is at hand

pub record Hand : Type 0 where
  pub reuse : Reuse
  pub entries : List (Entry NodeRef)

abbrev pub hand_of : Reuse → Memo → Hand
hand_of reuse memo = record { reuse = reuse; entries = entries_of memo }

abbrev pub kept_at : Rc Record Allocator → Kept NodeRef
kept_at r = kept_in r.value

-- the records that this run keeps for the next
abbrev pub kept_by : Reuse → List (Kept NodeRef)
kept_by reuse = map kept_in (next_of reuse)

-- the records of the last finished run, and then those that this run finds again by their calls
abbrev pub records_of : Reuse → List (Kept NodeRef)
records_of reuse = map kept_at reuse.last.now.records.items ++ map kept_at reuse.kept.records.items

-- what is kept for the next run is at hand
abbrev pub IsWithin : Reuse → Type 0
IsWithin reuse = (k : Kept NodeRef) → IsIn k (kept_by reuse) → IsIn k (records_of reuse)

-- and stays kept
abbrev pub KeepsOn : (before after : Reuse) → Type 0
KeepsOn before after = (k : Kept NodeRef) → IsIn k (kept_by before) → IsIn k (kept_by after)

-- ---- What is kept

-- nothing more is, for calls after this one and for the next run
pub record KeepsSame (before after : Reuse) : Type 0 where
  pub kept : after.kept.records.items ≡ before.kept.records.items
  pub next : next_of after ≡ next_of before

-- this record is, for both
pub record KeepsToo (before after : Reuse) (r : Rc Record Allocator) : Type 0 where
  pub kept : after.kept.records.items ≡ before.kept.records.items ++ r ∷ []
  pub next : next_of after ≡ next_of before ++ r.value ∷ []

-- it is kept for the next run alone
pub record KeepsNext (before after : Reuse) (r : Rc Record Allocator) : Type 0 where
  pub kept : after.kept.records.items ≡ before.kept.records.items
  pub next : next_of after ≡ next_of before ++ r.value ∷ []

-- the record that was found is, for the next run alone where it stands among those that this run kept for calls
pub data IsKept (before after : Reuse) (found : Found) : Type 0 where
  kept_before : found.next ≤ most → KeepsNext before after found.record → IsKept before after found
  kept_now : KeepsToo before after found.record → IsKept before after found

-- where it served
abbrev pub IsKeptToo : Result Served Memory → (before after : Reuse) → Found → Type 0
IsKeptToo (Ok (served.As o)) before after found = IsKept before after found
IsKeptToo (Ok (served.Not l)) before after found = KeepsSame before after
IsKeptToo (Err memory) before after found = Unit {0}

-- what an engine made of the call too, if it came to its end
abbrev pub IsMadeToo : (before after : Reuse) → Call NodeRef → Option (Box Ran Allocator) → Type 0
IsMadeToo before after c None = KeepsSame before after
IsMadeToo before after c (Some ran) =
    (r : Rc Record Allocator) × KeepsToo before after r × (kept_in r.value ≡ kept_with c (ran_of ran.value))

-- it serves, or something was lost on the way
abbrev pub IsAnswer : Served → Type 0
IsAnswer (served.As o) = Unit {0}
IsAnswer (served.Not lost.Nothing) = ⊥
IsAnswer (served.Not (lost.Reference l)) = Unit {0}

-- it did not serve, and nothing was lost
abbrev pub IsUnserved : Result Served Memory → Type 0
IsUnserved (Ok (served.As o)) = ⊥
IsUnserved (Ok (served.Not lost.Nothing)) = Unit {0}
IsUnserved (Ok (served.Not (lost.Reference l))) = ⊥
IsUnserved (Err memory) = ⊥

-- it came to its end, and so was made; or it did not
abbrev pub IsMadeOf : Setting NodeRef → Instantiation NodeRef → Option (Box Ran Allocator) → Type 0
IsMadeOf s i None = ¬ (GoesOn (own_of s i).ending)
IsMadeOf s i (Some ran) = kept_with i.call (ran_of ran.value) ≡ kept_of s i

-- of each of these that comes to its end there is a record among those that this run keeps for the next
pub record KeepsAll (s : Setting NodeRef) (is : List (Instantiation NodeRef)) (reuse : Reuse) : Type 0 where
  pub found : (i : Instantiation NodeRef) → IsIn i is → GoesOn (own_of s i).ending → IsFound s (kept_by reuse) i

-- each of these records is of the unit and the node of one that the run has
abbrev pub AreLikeRun : Setting NodeRef → List (Kept NodeRef) → Type 0
AreLikeRun s records = (k : Kept NodeRef) → IsIn k records → HasLike (instantiations s) k.call

-- where those that this run keeps for the next were so, they still are
abbrev pub StaysLikeRun : Setting NodeRef → (before after : Reuse) → Type 0
StaysLikeRun s before after = AreLikeRun s (kept_by before) → AreLikeRun s (kept_by after)

-- the same as a fact of its own: a caller that compares the function computed comes to the limit of steps
pub record KeepsOnly (s : Setting NodeRef) (before after : Reuse) : Type 0 where
  pub so : StaysLikeRun s before after

-- ---- What is remembered

-- the evaluation that it is of is one of the run, at no later turn, and of all that it entered and of itself there are records
pub record IsRecordedOf (s : Setting NodeRef) (values : List (Bound NodeRef)) (records : List (Kept NodeRef)) (element : NodeRef) : Type 0 where
  pub evaluation : Instantiation NodeRef
  pub place : Place
  pub more : List (Bound NodeRef)
  pub call : evaluation.call ≡ global_call s.root element place
  pub of_run : IsIn evaluation (instantiations s)
  pub since : values ≡ evaluation.past.values ++ more
  pub ends : GoesOn (own_of s evaluation).ending
  pub found : AllFound s records (nested_in s evaluation ++ evaluation ∷ [])

abbrev pub IsRecorded : Setting NodeRef → List (Bound NodeRef) → List (Kept NodeRef) → Option NodeRef → Type 0
IsRecorded s values records None = Unit {0}
IsRecorded s values records (Some element) = IsRecordedOf s values records element

abbrev pub AreRecorded : Setting NodeRef → List (Bound NodeRef) → List (Kept NodeRef) → List (Entry NodeRef) → Type 0
AreRecorded s values records [] = Unit {0}
AreRecorded s values records (e ∷ es) = IsRecorded s values records e.element × AreRecorded s values records es

-- there are records of all that is remembered among those that this run keeps for the next, and these are at hand
pub record IsReady (s : Setting NodeRef) (values : List (Bound NodeRef)) (hand : Hand) : Type 0 where
  pub recorded : AreRecorded s values (kept_by hand.reuse) hand.entries
  pub within : IsWithin hand.reuse

-- ---- What is counted

-- no more can be counted
abbrev pub most_counted : ℕ
most_counted = 2 ^ 64 - 1

-- so many more
abbrev pub IsCounted : ℕ → (before after : Hand) → Type 0
IsCounted n before after =
    before.reuse.steps.ran ≤ most_counted → after.reuse.steps.ran ≡ min (before.reuse.steps.ran + n) most_counted

pub record Counted (s : Setting NodeRef) (values : List (Bound NodeRef)) (is : List (Instantiation NodeRef)) (before after : Hand) : Type 0 where
  pub list : List (Instantiation NodeRef)
  pub enters : Enters s (records_of before.reuse) list is (records_of after.reuse)
  pub ran : IsCounted (length list) before after
  pub stands : StandOn before.reuse after.reuse
  pub more : KeepsOn before.reuse after.reuse
  pub only : StaysLikeRun s before.reuse after.reuse
  pub keeps : KeepsAll s is after.reuse
  pub ready : IsReady s values after

pub record CountedFront (s : Setting NodeRef) (values : List (Bound NodeRef)) (is : List (Instantiation NodeRef)) (before after : Hand) : Type 0 where
  pub list : List (Instantiation NodeRef)
  pub enters : EntersFront s (records_of before.reuse) list is (records_of after.reuse)
  pub ran : IsCounted (length list) before after
  pub stands : StandOn before.reuse after.reuse
  pub more : KeepsOn before.reuse after.reuse
  pub only : StaysLikeRun s before.reuse after.reuse
  pub ready : IsReady s values after

-- where they are of the run
abbrev pub CountsOver : Setting NodeRef → List (Bound NodeRef) → List (Instantiation NodeRef) → (before after : Hand) → Type 0
CountsOver s values is before after = AreOfRun s is → IsReady s values before → Counted s values is before after

-- nothing is entered for a reference to what is under way
abbrev pub IsIdle : Given → List (Instantiation NodeRef) → Type 0
IsIdle (given.Value value) is = Unit {0}
IsIdle (given.Stream content) is = Unit {0}
IsIdle (given.Refused why content) is = Unit {0}
IsIdle given.UnderWay is = is ≡ []

-- for a reference, unless it is known what it gives
abbrev pub CountsFor : Setting NodeRef → Past NodeRef → Lost → Expanded → ℕ → Place → (before after : Hand) → Type 0
CountsFor s past l name levels place before after =
    CountsOver s past.values (if is_lost l name levels place then [] else for_reference s (entered s levels) past name 0 place) before after

-- what is given for a reference enters nothing of which there is no record, or its global is to be evaluated
abbrev pub CountsLooked : Reference → Globals → Expanded → ℕ → (old new : List (Entry NodeRef)) → Type 0
CountsLooked (references.Evaluated element) globals name levels old new = Unit {0}
CountsLooked (references.Given r) globals name levels old new =
    (ask : Question NodeRef → Answer NodeRef) (reuse : Reuse) (place : Place) → Remembers (setting_of ask globals) (past_of globals) old
    → CountsOver (setting_of ask globals) (past_of globals).values
    (for_reference (setting_of ask globals) (entered (setting_of ask globals) levels) (past_of globals) name 0 place)
    (record { reuse = reuse; entries = old }) (record { reuse = reuse; entries = new })
    × IsIdle r.value.entered (for_reference (setting_of ask globals) (entered (setting_of ask globals) levels) (past_of globals) name 0 place)

-- what is recalled is of an entry with this name
pub record IsFrom (r : Referred) (name : Expanded) (all : List (Entry NodeRef)) : Type 0 where
  pub entry : Entry NodeRef
  pub among : IsIn entry all
  pub named : same_name entry.name name ≡ true
  pub value : IsValue r.entered entry

-- ---- Along a record

-- where these are the streams of what was entered
pub record CountedAlong (s : Setting NodeRef) (i : Instantiation NodeRef) (k : Kept NodeRef) (done rest : List (Event NodeRef)) (streams : List Stream)
    (before after : Hand) : Type 0 where
  pub list : List (Instantiation NodeRef)
  pub along : IsAlong s i k done rest (records_of before.reuse) list (records_of after.reuse)
  pub came_so : streams ≡ came (meant_below s i) done
  pub asks : AsksHold s.ask rest
  pub ran : IsCounted (length list) before after
  pub stands : StandOn before.reuse after.reuse
  pub more : KeepsOn before.reuse after.reuse
  pub only : StaysLikeRun s before.reuse after.reuse
  pub keeps : KeepsAll s (nested_along s i done) after.reuse
  pub ready : IsReady s i.past.values after

-- what was lost is known, with so many levels below those of the call
abbrev pub known_by : Lost → ℕ → Expanded → ℕ → Place → Bool
known_by l below name depth place = is_lost l name (below - depth) place

-- a global is refused, so that no record serves, and all else comes to its end
pub record CountedLost (s : Setting NodeRef) (i : Instantiation NodeRef) (l : Lost) (before after : Hand) : Type 0 where
  pub counted : Counted s i.past.values (nested_in s i) before after
  pub none : (k : Kept NodeRef) → ¬ (Serves s i k)
  pub ends : AllEnd s (nested_but s i (known_by l i.below) (own_of s i).going.trace)

-- it does not serve
abbrev pub CountsLost : Setting NodeRef → Instantiation NodeRef → Kept NodeRef → Lost → (before after : Hand) → Type 0
CountsLost s i k lost.Nothing before after = CountedFront s i.past.values (nested_in s i) before after × (¬ (Serves s i k))
CountsLost s i k (lost.Reference l) before after = CountedLost s i (lost.Reference l) before after

-- one event further, or at its end
abbrev pub CountsGone : Gone → Setting NodeRef → Instantiation NodeRef → Kept NodeRef → (done rest : List (Event NodeRef)) → Event NodeRef → List Stream
    → (before after : Hand) → Type 0
CountsGone gone.On s i k done rest e streams before after = CountedAlong s i k (done ++ e ∷ []) rest streams before after
CountsGone (gone.Not l) s i k done rest e streams before after = CountsLost s i k l before after
CountsGone (gone.Refused o) s i k done rest e streams before after = Counted s i.past.values (nested_in s i) before after × Serves s i k

abbrev pub CountsOn : Gone → Setting NodeRef → Instantiation NodeRef → Event NodeRef → (streams later : List Stream) → (before after : Hand) → Type 0
CountsOn x s i e streams later before after =
    (first : Hand) (k : Kept NodeRef) (done rest : List (Event NodeRef)) → CountedAlong s i k done (e ∷ rest) streams first before
    → CountsGone x s i k done rest e later first after

-- the whole record
abbrev pub CountsFollowed : Served → Setting NodeRef → Instantiation NodeRef → Kept NodeRef → (before after : Hand) → Type 0
CountsFollowed (served.As o) s i k before after = Counted s i.past.values (nested_in s i) before after × Serves s i k
CountsFollowed (served.Not l) s i k before after = CountsLost s i k l before after

-- ---- A call

-- with all that it enters, where a record serves it
abbrev pub CountsServed : Served → Setting NodeRef → Instantiation NodeRef → (before after : Hand) → Type 0
CountsServed (served.As o) s i before after = Counted s i.past.values (nested_in s i ++ i ∷ []) before after
CountsServed (served.Not lost.Nothing) s i before after =
    CountedFront s i.past.values (nested_in s i) before after × (¬ (IsFound s (records_of before.reuse) i))
CountsServed (served.Not (lost.Reference l)) s i before after = CountedLost s i (lost.Reference l) before after

-- where it is run: what it enters, but for what is known, and one more
pub record CountedRun (s : Setting NodeRef) (i : Instantiation NodeRef) (l : Lost) (before after : Hand) : Type 0 where
  pub list : List (Instantiation NodeRef)
  pub enters : Enters s (records_of before.reuse) list (nested_but s i (known_by l i.below) (own_of s i).going.trace) (records_of after.reuse)
  pub ran : IsCounted (suc (length list)) before after
  pub stands : StandOn before.reuse after.reuse
  pub more : KeepsOn before.reuse after.reuse
  pub only : StaysLikeRun s before.reuse after.reuse
  pub keeps : KeepsAll s (nested_but s i (known_by l i.below) (own_of s i).going.trace) after.reuse
  pub ready : IsReady s i.past.values after

-- of an instantiation of the run
abbrev pub OfRun : Setting NodeRef → Instantiation NodeRef → Hand → Type 0 → Type 0
OfRun s i before Says = IsIn i (instantiations s) → IsReady s i.past.values before → Says

-- ---- A whole run

-- what is recalled at the turn of a global is of an entry of its element
pub record IsOfTurn (t : Turned) (element : NodeRef) (all : List (Entry NodeRef)) : Type 0 where
  pub entry : Entry NodeRef
  pub among : IsIn entry all
  pub element_is : entry.element ≡ Some element
  pub held : HeldAs t.held entry

-- the evaluation of a global at its turn
abbrev pub for_turn : Setting NodeRef → Past NodeRef → NamedGlobal NodeRef → ℕ → List (Instantiation NodeRef)
for_turn s past g levels = entered s levels (going_into g.name past) 0 (global_call s.root g.element nowhere)

pub record CountedWhole (s : Setting NodeRef) (is : List (Instantiation NodeRef)) (before after : Reuse) : Type 0 where
  pub list : List (Instantiation NodeRef)
  pub enters : Enters s (records_of before) list is (records_of after)
  pub ran : before.steps.ran ≤ most_counted → after.steps.ran ≡ min (before.steps.ran + length list) most_counted
