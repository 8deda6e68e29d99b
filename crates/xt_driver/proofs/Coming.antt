-- What is sure once something was taken that came of a call.
use Rattle.std.proofs.Common.{◌≡◌, ℕ, List, Option, Result, Ok, Err, subst}
use Rattle.std.specs.Prelude.{IfOk, IsOk, OnOk, Box}
use Rattle.std.specs.declared.alloc.Global.{Global as Allocator}
use Rattle.spec_document.specs.Name.{Expanded}
use Rattle.spec_meaning.specs.Stream.{Stream}
use Rattle.spec_meaning.specs.Question.{Question, Answer}
use Rattle.spec_run.specs.Going.{Event}
use Rattle.spec_node.specs.declared.node_ref.NodeRef.{NodeRef}
use Rattle.xt_engine.specs.declared.turn.Entered.{Entered}
use Rattle.xt_text.specs.declared.memory.Memory.{Memory}
use Rattle.xt_record.specs.declared.reuse.Reuse.{Reuse}
use Rattle.xt_record.specs.Sure.{IsSure}
use Rattle.xt_driver.specs.declared.drive.Served.{Served}
use Rattle.xt_driver.specs.declared.follow.Gone.{Gone}
use Rattle.xt_driver.specs.declared.way.Way.{Way}
use Rattle.xt_driver.specs.declared.level.Needed.{Needed}
use Rattle.xt_driver.specs.declared.memo.Referred.{Referred}
use Rattle.xt_driver.specs.declared.memo.Turned.{Turned}
use Rattle.xt_driver.specs.declared.came.Outcome.{Outcome}
use Rattle.xt_driver.specs.declared.whole.Whole.{Whole}
use Rattle.xt_driver.specs.View.{IsFinished, IsStreamed, IsTaken}
use Rattle.xt_driver.specs.Remembered.{Entry}
use Rattle.xt_driver.specs.Referring.{Evaluates}
use Rattle.xt_driver.specs.Turning.{TurnsAs}
use Rattle.xt_driver.specs.Along.{Takes, TakesReference}

abbrev pub Ask : Type 0
Ask = Question NodeRef → Answer NodeRef

-- in a world with the same truth
pub sure_there : {a b : Ask} {r : Reuse} → a ≡ b → IsSure a r → IsSure b r
sure_there {r = r} e h = let P : Ask → Type 0 = λ x. IsSure x r in subst P e h

-- ---- Of a call that came to something

pub of_streamed : {Q : Type 0} (e : Option Entered) (before after : List Stream) (came : Result (Box Outcome Allocator) Memory) → IsStreamed e came before after
    → OnOk came Q → Q
of_streamed e before after (Ok o) h q = q
of_streamed e before after (Err m) h q = absurd h

pub of_finished : {Q : Type 0} (w : Whole) (told : List (List ℕ)) (came : Result (Box Outcome Allocator) Memory) → IsFinished w told came → OnOk came Q → Q
of_finished w told (Ok o) h q = q
of_finished w told (Err m) h q = absurd h

pub of_taken : {Q : Type 0} (e : Option Entered) (came : Result (Box Referred Allocator) Memory) → IsTaken e came → OnOk came Q → Q
of_taken e (Ok r) h q = q
of_taken e (Err m) h q = absurd h

pub of_takes : {Q : Type 0} (x : Gone) (old new : Way) (came : Result (Box Outcome Allocator) Memory) → Takes x came old new → OnOk came Q → Q
of_takes x old new (Ok o) h q = q
of_takes x old new (Err m) h q = absurd h

pub of_reference : {Q : Type 0} (x : Gone) (e : Event NodeRef) (d : Needed) (n : ℕ) (old new : Way) (came : Result (Box Referred Allocator) Memory)
    → TakesReference x came e d n old new → OnOk came Q → Q
of_reference x e d n old new (Ok r) h q = q
of_reference x e d n old new (Err m) h q = absurd h

-- ---- Of a call that was served

pub as_served : (P : Served → Type 0) (s : Served) (came : Result Served Memory) → came ≡ Ok s → IfOk came P → P s
as_served P s came e h = let Q : Result Served Memory → Type 0 = λ r. IfOk r P in subst Q e h

pub on_served : {Q : Type 0} (s : Served) (came : Result Served Memory) → came ≡ Ok s → OnOk came Q → Q
on_served {Q = Q} s came e h = let R : Result Served Memory → Type 0 = λ r. OnOk r Q in subst R e h

pub on_all : {T E Q R : Type 0} (r : Result T E) → OnOk r Q → (Q → R) → OnOk r R
on_all (Ok x) h f = f h
on_all (Err e) h f = tt

pub on_is : {T E Q : Type 0} (r : Result T E) → IsOk r → OnOk r Q → Q
on_is (Ok x) h q = q
on_is (Err e) h q = absurd (cc)

pub of_evaluates : {Q : Type 0} (r : Referred) (came : Result (Box Outcome Allocator) Memory) (name : Expanded) (element : NodeRef) (levels : ℕ) (aside old new : List (Entry NodeRef)) → Evaluates r came name element levels aside old new → OnOk came Q → Q
of_evaluates r (Ok o) name element levels aside old new h q = q
of_evaluates r (Err m) name element levels aside old new h q = absurd h

pub of_turned : {Q : Type 0} (t : Turned) (came : Result (Box Outcome Allocator) Memory) → TurnsAs t came → OnOk came Q → Q
of_turned t (Ok o) h q = q
of_turned t (Err m) h q = absurd h
