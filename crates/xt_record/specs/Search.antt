-- Where records stand in a search, and what a search passes over.
--     kept_place, last_place   where the record of a turn stands, of those that this run kept and of those of the last run
--     Stands                   the record at a place
--     PassedAmong, PassedOver  none that was passed over may serve
--     StandOn                  what stood at a place still does
--     next_of                  what the next run is given
use Rattle.std.specs.Prelude.{◌≡◌, ℕ, ◌-◌, ◌*◌, ◌^◌, ◌<◌, List, Option, IfSome}
use Rattle.std.specs.declared.rc.Rc.{Rc}
use Rattle.std.specs.declared.alloc.Global.{Global}
use Rattle.spec_meaning.specs.Question.{Question, Answer}
use Rattle.spec_run.specs.Plan.{Call}
use Rattle.spec_node.specs.declared.node_ref.NodeRef.{NodeRef}
use Rattle.xt_record.specs.View.{kept_in, DoesNotServe, IsAt, MayServe}
use Rattle.xt_record.specs.Grown.{values_of}
use Rattle.xt_record.specs.declared.record.Record.{Record}
use Rattle.xt_record.specs.declared.reuse.Found.{Found}
use Rattle.xt_record.specs.declared.reuse.Reuse.{Reuse}

-- no list is longer
abbrev pub most : ℕ
most = 2 ^ 63 - 1

-- Those that this run kept come first, and in both the latest. A place is above 0, and no two stand at one
abbrev pub kept_place : ℕ → ℕ
kept_place turn = most - turn

abbrev pub last_place : ℕ → ℕ
last_place turn = 2 * most - turn

-- one of these stands at the place
pub record StandsAmong (place : ℕ → ℕ) (rs : List (Rc Record Global)) (at : ℕ) (r : Record) : Type 0 where
  pub turn : ℕ
  pub here : IsAt rs turn r
  pub stands : at ≡ place turn

-- the record that stands at a place
pub data Stands (reuse : Reuse) (at : ℕ) (r : Record) : Type 0 where
  InKept : StandsAmong kept_place reuse.kept.records.items at r → Stands reuse at r
  InLast : StandsAmong last_place reuse.last.now.records.items at r → Stands reuse at r

-- none that stands at a later place than this, and before that of the one that was found, may serve
abbrev pub PassedAmong : (Question NodeRef → Answer NodeRef) → Call NodeRef → ℕ → (ℕ → ℕ) → List (Rc Record Global) → ℕ → Option Found → Type 0
PassedAmong ask call below place rs from found =
    (turn : ℕ) → from < place turn → IfSome found (λ f. place turn < f.next) → DoesNotServe ask call below rs turn

abbrev pub PassedOver : (Question NodeRef → Answer NodeRef) → Call NodeRef → ℕ → Reuse → ℕ → Option Found → Type 0
PassedOver ask call below reuse from found =
    (at : ℕ) (r : Record) → Stands reuse at r → from < at → IfSome found (λ f. at < f.next) → MayServe ask call below (kept_in r) → ⊥

-- ---- What stays

-- each record stands where it stood
abbrev pub StandOn : Reuse → Reuse → Type 0
StandOn before after = (at : ℕ) (r : Record) → Stands before at r → Stands after at r

-- ---- What goes on

-- the records that the next run is given
abbrev pub next_of : Reuse → List Record
next_of reuse = values_of reuse.next.records.items
