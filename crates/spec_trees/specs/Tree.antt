-- When a tree of records says by itself what its call comes to: wherever all of its questions have their answers, whatever else the world answers, and
-- at any place of a run.
--     AllAsksHold   the questions of each of these records have their answers
--     Says          a tree is what a call enters, and is so whatever comes before it in a run
--     SaysAlong     what is below a call, along what was done
--     SaysAll       a whole tree
--     AreAtHand     records that are at hand, and hold
use Rattle.std.specs.Prelude.{◌≡◌, ℕ, ◌≤◌, Bool, List, [], ◌∷◌}
use Rattle.spec_meaning.specs.Stream.{Stream}
use Rattle.spec_meaning.specs.Question.{Question, Answer}
use Rattle.spec_run.specs.Going.{Event}
use Rattle.spec_run.specs.Hold.{GoesOn}
use Rattle.spec_run.specs.Trail.{Kept, IsTrue}
use Rattle.spec_run.specs.Meaning.{Setting}
use Rattle.spec_reuse.specs.Among.{IsIn}
use Rattle.spec_reuse.specs.Instantiation.{Instantiation}
use Rattle.spec_reuse.specs.Serving.{IsOf}
use Rattle.spec_reuse.specs.Ledger.{AsksHold}
use Rattle.spec_reuse.specs.Record.{Runs, none, ran, records_in, AreRunsAlong, IsRunOf, StayAlong}

-- the questions of each of these records have their answers
abbrev pub AllAsksHold : {N : Type 0} → (Question N → Answer N) → List (Kept N) → Type 0
AllAsksHold ask [] = Unit {0}
AllAsksHold ask (k ∷ ks) = AsksHold ask k.trace × AllAsksHold ask ks

-- the record with those below it is the run of the instantiation, and stays it whatever is past
pub record Says {N : Type 0} (s : Setting N) (i : Instantiation N) (k : Kept N) (runs : Runs N) : Type 0 where
  pub is_run : IsRunOf s i k runs
  pub stays : StayAlong s i k.trace runs

-- Along what was done by any instantiation that has so many levels, these are what it entered, and stay that, where their questions and those along the
-- way have their answers
abbrev pub SaysAlong : {N : Type 0} → (N → N → Bool) → List (Event N) → Runs N → (levels : ℕ) → Type 0
SaysAlong {N = N} same es runs levels =
    (s : Setting N) (i : Instantiation N) (streams : List Stream) → s.same ≡ same → levels ≤ i.below → AsksHold s.ask es
    → AllAsksHold s.ask (records_in runs) → AreRunsAlong s i es streams runs × StayAlong s i es runs

-- the record with those below it says all of each instantiation that it is of and that has so many levels, where all of their questions have their answers
pub record SaysAll {N : Type 0} (same : N → N → Bool) (k : Kept N) (runs : Runs N) (levels : ℕ) : Type 0 where
  pub height : k.height ≤ levels
  pub says : (s : Setting N) (i : Instantiation N) → s.same ≡ same → IsOf i.call k → levels ≤ i.below
      → AllAsksHold s.ask (records_in (ran k runs none)) → Says s i k runs

-- it is at hand, its questions have their answers, and it is the record of what came to its end
pub record IsAtHand {N : Type 0} (s : Setting N) (hand : List (Kept N)) (k : Kept N) : Type 0 where
  pub among : IsIn k hand
  pub lasting : IsTrue s.same k
  pub ends : GoesOn k.ending
  pub asks : AsksHold s.ask k.trace

-- each of these is
abbrev pub AreAtHand : {N : Type 0} → Setting N → (hand records : List (Kept N)) → Type 0
AreAtHand s hand [] = Unit {0}
AreAtHand s hand (k ∷ ks) = IsAtHand s hand k × AreAtHand s hand ks
