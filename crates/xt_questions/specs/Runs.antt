-- What a call does that runs a program in a world.
use Rattle.std.specs.Prelude.{◌≡◌, ℕ, Result, Ok, Err, List, Vec}
use Rattle.std.specs.Global.{Global as Allocator}
use Rattle.spec_meaning.specs.Program.{Global, Gives, Refuses, Lacks, Supply, Program, State, run}
use Rattle.spec_node.specs.declared.node_ref.NodeRef.{NodeRef}
use Rattle.xt_questions.specs.declared.fault.EvalFault.{EvalFault}
use Rattle.xt_questions.specs.declared.fault.EvalFault.TheVariants as faults
use Rattle.xt_questions.specs.View.{refusal_of}

-- how the program ends, if memory holds out; what is true stays in any case
abbrev pub RunsSo : {A X : Type 0} → (X → A) → Supply NodeRef → ℕ → Program NodeRef A → State NodeRef → State NodeRef → Result X EvalFault → Type 0
RunsSo view supply depth p old new (Ok x) = run supply depth p old ≡ record { said = Gives (view x); state = new }
RunsSo view supply depth p old new (Err (faults.Refused why)) = run supply depth p old ≡ record { said = Refuses (refusal_of why); state = new }
RunsSo view supply depth p old new (Err (faults.Wants name)) = run supply depth p old ≡ record { said = Lacks (Global name); state = new }
RunsSo view supply depth p old new (Err faults.Memory) = new.truth ≡ old.truth

-- with this at hand, in a content so deep, the result is what the program gives in the old world, and the new world is what it leaves
pub record Runs {A X : Type 0} (view : X → A) (supply : Supply NodeRef) (depth : ℕ) (p : Program NodeRef A) (old new : State NodeRef) (result : Result X EvalFault) : Type 0 where
  pub so : RunsSo view supply depth p old new result

-- what this program does from here on is what that one does from there on: what is left in a loop, and all of it
pub record Continues {A : Type 0} (supply : Supply NodeRef) (depth : ℕ) (p : Program NodeRef A) (s : State NodeRef) (q : Program NodeRef A) (t : State NodeRef) : Type 0 where
  pub same : run supply depth p s ≡ run supply depth q t

-- views of what stands for itself, and of a vector
abbrev pub itself : {A : Type 0} → A → A
itself a = a

abbrev pub items : {A : Type 0} → Vec A Allocator → List A
items v = v.items
