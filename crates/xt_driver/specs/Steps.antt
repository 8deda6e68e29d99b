-- The steps of one level.
use Rattle.std.specs.Prelude.{◌≡◌, ℕ, ◌-◌, Option, Ok, Err}
use Rattle.std.specs.declared.rc.Rc.{Rc}
use Rattle.std.specs.declared.alloc.Global.{Global}
use Rattle.spec_meaning.specs.Question.{Question, Answer}
use Rattle.spec_run.specs.Plan.{Call}
use Rattle.spec_run.specs.Meaning.{settled}
use Rattle.spec_node.specs.declared.node_ref.NodeRef.{NodeRef}
use Rattle.xt_engine.specs.declared.call.Call.{Call as CodeCall}
use Rattle.xt_engine.specs.declared.turn.Turn.TheVariants.{Want, WantGlobal, Done}
use Rattle.xt_engine.specs.View.{call_of}
use Rattle.xt_engine.specs.Progress.{Progress, Gift}
use Rattle.xt_engine.specs.Advances.{Advances}
use Rattle.xt_driver.specs.declared.level.Needed.{Needed}
use Rattle.xt_driver.specs.declared.level.Step.{Step}
use Rattle.xt_driver.specs.declared.level.Step.TheVariants as steps

-- its run wants an instantiation, which it enters so, with so many levels left
pub record Enters (ask : Question NodeRef → Answer NodeRef) (gift : Option (Gift NodeRef)) (old new : Progress) (outer : Call NodeRef) (below : ℕ) (inner : CodeCall) (left : ℕ) : Type 0 where
  pub wanted : Rc CodeCall Global
  pub depth : ℕ
  pub advances : Advances ask gift old new (Ok (Want wanted depth))
  pub call : call_of inner ≡ settled outer (call_of wanted.value)
  pub levels : left ≡ below - depth

-- its run wants a global, with so many levels left
pub record Needs (ask : Question NodeRef → Answer NodeRef) (gift : Option (Gift NodeRef)) (old new : Progress) (below : ℕ) (needed : Needed) (left : ℕ) : Type 0 where
  pub depth : ℕ
  pub advances : Advances ask gift old new (Ok (WantGlobal needed.name depth needed.place))
  pub levels : left ≡ below - depth

-- its run goes on so, with so many levels below its own
abbrev pub Steps : (Question NodeRef → Answer NodeRef) → Option (Gift NodeRef) → Progress → Progress → Call NodeRef → ℕ → Step → Type 0
Steps ask gift old new outer below (steps.Enter inner left) = Enters ask gift old new outer below inner.value left
Steps ask gift old new outer below (steps.Refer needed left) = Needs ask gift old new below needed.value left
Steps ask gift old new outer below (steps.Done ran) = Advances ask gift old new (Ok (Done ran.value))
Steps ask gift old new outer below (steps.Failed fault) = Advances ask gift old new (Err fault.value)
