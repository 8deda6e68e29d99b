-- How a run goes on from where it is, and what it wants.
use Rattle.std.specs.Prelude.{◌≡◌, ℕ, Result}
use Rattle.spec_meaning.specs.Question.{Question, Answer}
use Rattle.spec_node.specs.declared.node_ref.NodeRef.{NodeRef}
use Rattle.xt_engine.specs.Progress.{Progress, Start}
use Rattle.xt_engine.specs.Advances.{AdvancesSo}
use Rattle.xt_engine.specs.declared.call.Call.{Call}
use Rattle.xt_engine.specs.declared.turn.Turn.{Turn}
use Rattle.xt_engine.specs.declared.turn.Turn.TheVariants as turns
use Rattle.xt_engine.specs.declared.turn.RunFault.{RunFault}

pub record Onward (ask : Question NodeRef → Answer NodeRef) (old : Progress) (start : Start NodeRef) (new : Progress) (result : Result Turn RunFault) : Type 0 where
  pub so : AdvancesSo ask old start new result

-- it wants this call, from a content so deep
abbrev pub IsWant : Turn → Call → ℕ → Type 0
IsWant (turns.Want wanted d) call depth = (wanted.value ≡ call) × (d ≡ depth)
IsWant (turns.WantGlobal name d place) call depth = ⊥
IsWant (turns.Done ran) call depth = ⊥
