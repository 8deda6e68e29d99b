-- A world whose reads are noted in a list, and the events that they are at an element.
use Rattle.std.specs.Prelude.{◌≡◌, List, Some, map, ◌++◌, Result, Ok, Err}
use Rattle.spec_stylesheet.specs.Place.{Place}
use Rattle.spec_meaning.specs.Question.{Question, Answer}
use Rattle.spec_meaning.specs.Program as program
use Rattle.spec_meaning.specs.Program.{State}
use Rattle.spec_run.specs.Plan.{located}
use Rattle.spec_run.specs.Direct.{Known}
use Rattle.spec_run.specs.Going.{Event, Asked, Saw, Going}
use Rattle.spec_node.specs.declared.node_ref.NodeRef.{NodeRef}
use Rattle.xt_questions.specs.declared.read.Read.{Read}
use Rattle.xt_questions.specs.declared.fault.EvalFault.{EvalFault}
use Rattle.xt_questions.specs.declared.fault.EvalFault.TheVariants as faults
use Rattle.xt_questions.specs.View.{read_of, refusal_of}
use Rattle.xt_engine.specs.View.{refused_of}
use Rattle.xt_frames.specs.declared.run.Came.{Came}
use Rattle.xt_frames.specs.declared.run.Came.TheVariants as came

abbrev pub noted_in : (Question NodeRef → Answer NodeRef) → List Read → State NodeRef
noted_in truth reads = record { truth = truth; reads = Some (map read_of reads) }

-- what is read at an element
abbrev pub event_at : {N : Type 0} → Place → program.Read N → Event N
event_at place (program.Asked question answer) = Asked question answer
event_at place (program.Saw wanted depth given) = Saw wanted depth place (Known given)

-- the same with other events
abbrev pub traced : {N : Type 0} → List (Event N) → Going N → Going N
traced events g = record { top = g.top; outer = g.outer; trace = events; height = g.height; streams = g.streams }

abbrev pub read_in : {N : Type 0} → Place → List (program.Read N) → Going N → Going N
read_in place reads g = traced (g.trace ++ map (event_at place) reads) g

-- what an evaluation at an element comes to: its reads count where there is a value
abbrev pub SettledSo : {X : Type 0} → Place → Going NodeRef → Going NodeRef → List Read → Result X EvalFault → Came X → Type 0
SettledSo place old new reads (Ok x) (came.Is y) = (y ≡ x) × (new ≡ read_in place (map read_of reads) old)
SettledSo place old new reads (Err (faults.Refused why)) (came.Halts w) = (refused_of w ≡ located place (refusal_of why)) × (new ≡ old)
SettledSo place old new reads (Err (faults.Wants name)) (came.Lacks n) = (n ≡ name) × (new ≡ old)
SettledSo place old new reads _ _ = ⊥

pub record Settled {X : Type 0} (place : Place) (old new : Going NodeRef) (reads : List Read) (found : Result X EvalFault) (came : Came X) : Type 0 where
  pub so : SettledSo place old new reads found came
