-- The run of one instantiation to its end, turn by turn, as engines make it.
use Rattle.std.specs.Prelude.{ℕ, Option, Some, Ok}
use Rattle.spec_meaning.specs.Stream.{Stream}
use Rattle.spec_meaning.specs.Question.{Question, Answer}
use Rattle.spec_meaning.specs.Value.{Value}
use Rattle.spec_run.specs.Plan.{Call}
use Rattle.spec_run.specs.Direct.{Outcome}
use Rattle.spec_run.specs.Trail.{Kept}
use Rattle.spec_run.specs.Meaning.{Setting, Past, settled, meaning}
use Rattle.spec_node.specs.declared.node_ref.NodeRef.{NodeRef}
use Rattle.xt_engine.specs.declared.turn.Turn.TheVariants.{Want, WantGlobal, Done}
use Rattle.xt_engine.specs.Progress.{Progress, Gift, Streamed, Evaluated}
use Rattle.xt_engine.specs.Advances.{Advances, Made, ran_of}

-- from this progress on, with what it is given: it waits for an instantiation and is given what that writes, or for a global and is given its
-- value, until it makes this
pub data Turns (ask : Question NodeRef → Answer NodeRef) : Progress → Option (Gift NodeRef) → Made NodeRef → Type 0 where
  ends : {old new : Progress} {gift : Option (Gift NodeRef)} {ran : _} → Advances ask gift old new (Ok (Done ran)) → Turns ask old gift (ran_of ran)
  enters : {old new : Progress} {gift : Option (Gift NodeRef)} {call depth : _} {m : Made NodeRef} (content : Stream)
      → Advances ask gift old new (Ok (Want call depth)) → Turns ask new (Some (Streamed content)) m → Turns ask old gift m
  needs : {old new : Progress} {gift : Option (Gift NodeRef)} {name depth place : _} {m : Made NodeRef} (value : Value NodeRef)
      → Advances ask gift old new (Ok (WantGlobal name depth place)) → Turns ask new (Some (Evaluated value)) m → Turns ask old gift m

-- what is kept of it
abbrev pub kept_of : Call NodeRef → Made NodeRef → Kept NodeRef
kept_of call m = record { call = call; trace = m.trace; content = m.content; height = m.height; ending = m.ending }

-- what a call enters means this, where so many levels are below that of the call
abbrev pub entered_by : {N : Type 0} → Setting N → (levels : ℕ) → Past N → Call N → (depth : ℕ) → (inner : Call N) → Outcome N
entered_by s levels past call depth inner = meaning s levels past depth (settled call inner)
