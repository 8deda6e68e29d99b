-- What an engine made of a call that came to its end.
use Rattle.std.specs.Prelude.{Option, Some, None, Box}
use Rattle.std.specs.declared.alloc.Global.{Global as Allocator}
use Rattle.spec_meaning.specs.Question.{Question, Answer}
use Rattle.spec_run.specs.Plan.{Call}
use Rattle.spec_run.specs.Trail.{IsTrue}
use Rattle.spec_node.specs.Naming.{same_ref}
use Rattle.spec_node.specs.declared.node_ref.NodeRef.{NodeRef}
use Rattle.xt_engine.specs.declared.event.Ran.{Ran}
use Rattle.xt_engine.specs.Advances.{ran_of}
use Rattle.xt_record.specs.Kept.{kept_with}
use Rattle.xt_record.specs.View.{AsksHold}

-- it goes along the plan of the call
abbrev pub IsMade : Call NodeRef → Option (Box Ran Allocator) → Type 0
IsMade c None = Unit {0}
IsMade c (Some ran) = IsTrue same_ref (kept_with c (ran_of ran.value))

-- its questions have their answers
abbrev pub MadeHolds : (Question NodeRef → Answer NodeRef) → Option (Box Ran Allocator) → Type 0
MadeHolds ask None = Unit {0}
MadeHolds ask (Some ran) = AsksHold ask (ran_of ran.value).trace
