-- Where it stands along a record: how far its reads hold, here and wherever what is remembered of globals holds.
use Rattle.std.specs.Prelude.{◌≡◌, ℕ, suc, ◌+◌, ◌-◌, ◌<◌, ◌≤◌, true, List, [], ◌∷◌, length}
use Rattle.spec_meaning.specs.Stream.{Stream, filled, holes}
use Rattle.spec_run.specs.Plan.{Call}
use Rattle.spec_run.specs.Direct.{Ending, Outcome}
use Rattle.spec_run.specs.Going.{Event, Asked, Saw, Entered, Held}
use Rattle.spec_run.specs.Cut.{cut}
use Rattle.spec_run.specs.Trail.{Kept, IsTrue}
use Rattle.spec_run.specs.Meaning.{Setting, Past, meaning}
use Rattle.spec_reuse.specs.Instantiation.{Instantiation, given_to, meant_below}
use Rattle.spec_reuse.specs.Serving.{IsOf, ReadsHold, comes_along}
use Rattle.spec_node.specs.declared.node_ref.NodeRef.{NodeRef}
use Rattle.xt_tree.specs.StreamView.{streams_of}
use Rattle.xt_record.specs.View.{AsksHold}
use Rattle.xt_driver.specs.declared.follow.Gone.{Gone}
use Rattle.xt_driver.specs.declared.follow.Gone.TheVariants as gone
use Rattle.xt_driver.specs.declared.way.Way.{Way}
use Rattle.xt_driver.specs.View.{outcome_of}
use Rattle.xt_driver.specs.Remembered.{Entry, Suits, Keeps}
use Rattle.xt_driver.specs.Along.{halts}
use Rattle.xt_driver.specs.Lost.{IsLost}

abbrev pub instance_of : Call NodeRef → ℕ → Past NodeRef → Instantiation NodeRef
instance_of call below past = record { call = call; below = below; past = past }

-- how many calls were entered
abbrev pub entered_in : List (Event NodeRef) → ℕ
entered_in [] = 0
entered_in (Asked question answer ∷ es) = entered_in es
entered_in (Saw wanted depth place supplied ∷ es) = entered_in es
entered_in (Entered call depth ∷ es) = suc (entered_in es)
entered_in (Held first contents ∷ es) = entered_in es

-- ---- At one place

-- what is left of its reads is all that is left to hold, after these streams
pub record IsAlong (s : Setting NodeRef) (i : Instantiation NodeRef) (k : Kept NodeRef) (ss : List Stream) (es : List (Event NodeRef)) : Type 0 where
  pub reads : ReadsHold s.ask (given_to s i) (meant_below s i) ss es → ReadsHold s.ask (given_to s i) (meant_below s i) [] k.trace
  pub comes : comes_along k.content k.ending (meant_below s i) [] k.trace ≡ comes_along k.content k.ending (meant_below s i) ss es

-- ---- Wherever what is remembered holds

-- the same call with so many levels below its own, in another past
abbrev pub at_place : Instantiation NodeRef → ℕ → Past NodeRef → Instantiation NodeRef
at_place i below past = record { call = i.call; below = below; past = past }

-- What is left after what was gone along, with so many levels to spare; of what was remembered first this is left. As many streams came as there are
-- holes for what was entered
pub record IsFollowed (s : Setting NodeRef) (i : Instantiation NodeRef) (first all : List (Entry NodeRef)) (spare : ℕ) (k : Kept NodeRef) (ss : List Stream)
    (es : List (Event NodeRef)) : Type 0 where
  pub keeps : Keeps s i.past first all
  pub along : (below : ℕ) (past : Past NodeRef) → i.below - spare ≤ below → Suits i.past.values all past → IsAlong s (at_place i below past) k ss es
  pub asks : AsksHold s.ask es
  pub even : holes k.content ≡ length ss + entered_in es

-- ---- Where what was entered is refused

-- what was written up to the last of these streams, and how it ended
abbrev pub cut_with : Kept NodeRef → List Stream → Ending NodeRef → Outcome NodeRef
cut_with k ss e = record { content = filled (cut (length ss - 1) k.content) ss; ending = e }

-- the last of these streams is that of what is refused so, and the call is refused with it, if the record is one of it
pub record EndsWith (s : Setting NodeRef) (i : Instantiation NodeRef) (k : Kept NodeRef) (ss : List Stream) (e : Ending NodeRef) : Type 0 where
  pub some : 0 < length ss
  pub fit : length ss ≤ holes k.content
  pub stops : halts e ≡ true
  pub means : IsTrue s.same k → IsOf i.call k → k.height ≤ i.below → meaning s (suc i.below) i.past 0 i.call ≡ cut_with k ss e

-- ---- One event further

-- it stands there behind the event, whatever record it is, and whatever is left of it; or this was lost; or it ends there
abbrev pub IsGone : Gone → Setting NodeRef → Instantiation NodeRef → (old new : List (Entry NodeRef)) → (before after : Way) → Event NodeRef → Type 0
IsGone gone.On s i old new before after e =
    (first : List (Entry NodeRef)) (k : Kept NodeRef) (es : List (Event NodeRef))
    → IsFollowed s i first old before.spare k (streams_of before.parts.items) (e ∷ es)
    → IsFollowed s i first new after.spare k (streams_of after.parts.items) es
IsGone (gone.Not l) s i old new before after e = IsLost s i.past l
IsGone (gone.Refused o) s i old new before after e =
    (first : List (Entry NodeRef)) (k : Kept NodeRef) (es : List (Event NodeRef))
    → IsFollowed s i first old before.spare k (streams_of before.parts.items) (e ∷ es)
    → EndsWith s i k (streams_of after.parts.items) (outcome_of o.value).ending
