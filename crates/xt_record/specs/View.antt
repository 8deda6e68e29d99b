-- What records stand for, and when one may serve a call.
use Rattle.std.specs.Prelude.{◌≡◌, ℕ, ◌≤◌, List, [], ◌∷◌, slice_get, Some}
use Rattle.std.specs.declared.rc.Rc.{Rc}
use Rattle.std.specs.declared.alloc.Global.{Global}
use Rattle.spec_meaning.specs.Stream.{Stream, holes}
use Rattle.spec_meaning.specs.Question.{Question, Answer}
use Rattle.spec_run.specs.Plan.{Call}
use Rattle.spec_run.specs.Going.{Event, Asked, Saw, Entered, Held}
use Rattle.spec_run.specs.Trail.{Kept}
use Rattle.spec_reuse.specs.Serving.{IsOf}
use Rattle.spec_node.specs.declared.node_ref.NodeRef.{NodeRef}
use Rattle.xt_engine.specs.View.{call_of}
use Rattle.xt_engine.specs.Advances.{ran_of}
use Rattle.xt_record.specs.Kept.{kept_with}
use Rattle.xt_record.specs.declared.record.Record.{Record}

abbrev pub kept_in : Record → Kept NodeRef
kept_in r = kept_with (call_of r.call) (ran_of r.ran)

-- each question among what was done has its answer
abbrev pub AsksHold : {N : Type 0} → (Question N → Answer N) → List (Event N) → Type 0
AsksHold ask [] = Unit {0}
AsksHold ask (Asked question answer ∷ es) = (ask question ≡ answer) × AsksHold ask es
AsksHold ask (Saw wanted depth place supplied ∷ es) = AsksHold ask es
AsksHold ask (Entered call depth ∷ es) = AsksHold ask es
AsksHold ask (Held first contents ∷ es) = AsksHold ask es

-- It is of the unit, the node and the declared parameters of this call, there are the levels for it, and its questions have their answers. Whether it
-- serves is left to what it read of the run and to what it holds of what it enters
pub record MayServe (ask : Question NodeRef → Answer NodeRef) (call : Call NodeRef) (below : ℕ) (kept : Kept NodeRef) : Type 0 where
  pub of_call : IsOf call kept
  pub levels : kept.height ≤ below
  pub asks : AsksHold ask kept.trace

-- ---- Of a list of records

pub record IsAt (rs : List (Rc Record Global)) (turn : ℕ) (r : Record) : Type 0 where
  pub handle : Rc Record Global
  pub here : slice_get rs turn ≡ Some handle
  pub is : handle.value ≡ r

-- the one at this turn, if there is one, is not of this call or there are not the levels for it
abbrev pub DoesNotSuit : Call NodeRef → ℕ → List (Rc Record Global) → ℕ → Type 0
DoesNotSuit call below rs turn =
    (r : Rc Record Global) → slice_get rs turn ≡ Some r → IsOf call (kept_in r.value) → r.value.ran.height ≤ below → ⊥

-- it may not serve this call
abbrev pub DoesNotServe : (Question NodeRef → Answer NodeRef) → Call NodeRef → ℕ → List (Rc Record Global) → ℕ → Type 0
DoesNotServe ask call below rs turn = (r : Rc Record Global) → slice_get rs turn ≡ Some r → MayServe ask call below (kept_in r.value) → ⊥

-- ---- Of streams

-- none of these has holes
abbrev pub AreWhole : List Stream → Type 0
AreWhole [] = Unit {0}
AreWhole (stream ∷ streams) = (holes stream ≡ 0) × AreWhole streams
