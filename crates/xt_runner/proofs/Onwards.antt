-- How a run goes on, by what its last step came to.
use Rattle.std.proofs.Common.{◌≡◌, ℕ, suc, [], length, Ok, Err, Result, IfOk, refl, sym, ap, ◌∙◌, subst, arith}
use Rattle.spec_document.specs.Name.{Expanded}
use Rattle.spec_meaning.specs.Question.{Question, Answer}
use Rattle.spec_run.specs.Plan as plan
use Rattle.spec_run.specs.Plan.{Plan, End}
use Rattle.spec_run.specs.Direct as direct
use Rattle.spec_run.specs.Direct.{Ending, Finished}
use Rattle.spec_run.specs.Passes.{Passes, stays}
use Rattle.xt_syntax.specs.PartView.{place_of}
use Rattle.xt_base.specs.declared.place.Place.{Place}
use Rattle.spec_node.specs.declared.node_ref.NodeRef.{NodeRef}
use Rattle.xt_tree.specs.declared.value.Value.{Value}
use Rattle.xt_tree.specs.ValueView.{value_of}
use Rattle.xt_tree.specs.StreamView.{stream_of}
use Rattle.xt_questions.specs.View.{supplies_of}
use Rattle.xt_text.specs.declared.memory.Memory.{Memory}
use Rattle.xt_engine.specs.declared.call.Call.{Call}
use Rattle.xt_engine.specs.declared.call.Refused.{Refused}
use Rattle.xt_engine.specs.declared.event.Ran.{Ran}
use Rattle.xt_engine.specs.declared.turn.Turn.{Turn}
use Rattle.xt_engine.specs.declared.turn.Turn.TheVariants as turns
use Rattle.xt_engine.specs.declared.turn.RunFault.{RunFault}
use Rattle.xt_engine.specs.declared.turn.RunFault.TheVariants as faults
use Rattle.xt_engine.specs.View.{call_of, refused_of}
use Rattle.xt_engine.specs.Progress as progress
use Rattle.xt_engine.specs.Progress.{Goes}
use Rattle.xt_engine.specs.Advances.{Made, made, ran_of, ends, Ends, Stops, HaltsSo}
use Rattle.xt_progress.specs.View.{going_of}
use Rattle.xt_frames.specs.declared.frame.Frame.{Frame}
use Rattle.xt_frames.specs.declared.run.Waiting.{Waiting}
use Rattle.xt_frames.specs.declared.run.Run.{Run}
use Rattle.xt_frames.specs.declared.run.Next.{Next}
use Rattle.xt_frames.specs.declared.run.Next.TheVariants.{Went, Want, Needs, Done, Gave, Halt}
use Rattle.xt_frames.specs.View.{left_over}
use Rattle.xt_frames.specs.Left.{left_in, waiting_of, progress_of, hand, Comes, ComesSo, IsLeft, Steps, StepsFrom}
use Rattle.xt_frames.proofs.Passed.{passes_then}
use Rattle.xt_frames.proofs.Lefts.{comes_after, moved, misses_moved, stops_after, stops_moved, passes_at, if_ok}
use Rattle.xt_runner.specs.Onward.{IsWant, Onward}
use Rattle.xt_runner.specs.Counted.{counted}

-- where a run is, some steps on
pub record Come (ask : Question NodeRef → Answer NodeRef) (first now : Run) : Type 0 where
  pub passes : Passes ask (hand first) first.room (left_in first) (going_of first.going) (left_in now) (going_of now.going)
  pub room : now.room ≡ first.room
  pub supplies : now.supplies ≡ first.supplies

pub steps_in : {a b : Question NodeRef → Answer NodeRef} {p : Plan NodeRef} {k : ℕ} {old new : Run} {s t : Next} → a ≡ b → s ≡ t → Steps a p k old new s → Steps b p k old new t
steps_in {b = b} {p = p} {k = k} {old = old} {new = new} {s = s} e f h =
    let P : (Question NodeRef → Answer NodeRef) → Type 0 = λ a. Steps a p k old new s in
    let Q : Next → Type 0 = λ n. Steps b p k old new n in
    subst Q f (subst P e h)

pub come_went : {ask : Question NodeRef → Answer NodeRef} {first now new : Run} {k : ℕ} → Come ask first now → Steps ask (left_in now) k now new Went → Come ask first new
come_went {first = first} {now = now} c s = record { passes = passes_then c.passes (moved first now c.room c.supplies s.so.0); room = s.room ∙ c.room; supplies = s.supplies ∙ c.supplies }

abbrev pub from_first : Run → progress.Start NodeRef
from_first r = Goes (going_of r.going) (supplies_of r.supplies)

-- the same run, which waits for this
abbrev pub waiting_for : Waiting → Run → Run
waiting_for w r = record { room = r.room; supplies = r.supplies; waiting = w; frames = r.frames; going = r.going; did = r.did }

pub onward_want : {ask : Question NodeRef → Answer NodeRef} {first now new : Run} {k : ℕ} (call : Call) (d : ℕ) (w : Waiting) (turn : Turn) → Come ask first now → Steps ask (left_in now) k now new (Want call d) → IsWant turn call d
    → waiting_of w ≡ progress.ForCall (call_of call) d
    → Onward ask (progress_of first) (from_first first) (progress_of (waiting_for w new)) (Ok turn)
onward_want {ask = ask} {first = first} {now = now} {new = new} call d w (turns.Want wanted depth) c s is e =
    let P : Call → ℕ → Type 0 = λ x n. Passes ask (hand first) first.room (left_in first) (going_of first.going) (plan.Enter (call_of x) n (left_in new)) (going_of new.going) in
    let W : Call → ℕ → Type 0 = λ x n. waiting_of w ≡ progress.ForCall (call_of x) n in
    let passes = passes_then c.passes (moved first now c.room c.supplies s.so) in
    record {
      so = (
        subst (λ x. P x depth) (sym is.0) (subst (λ n. P call n) (sym is.1) passes),
        ap supplies_of (s.supplies ∙ c.supplies),
        subst (λ x. W x depth) (sym is.0) (subst (λ n. W call n) (sym is.1) e),
        s.room ∙ c.room,
      );
    }
onward_want call d w (turns.WantGlobal name depth place) c s is e = absurd is
onward_want call d w (turns.Done ran) c s is e = absurd is

pub onward_needs : {ask : Question NodeRef → Answer NodeRef} {first now new : Run} {k : ℕ} (name : Expanded) (d : ℕ) (place : Place) (w : Waiting) (turn : Turn) → Come ask first now → Steps ask (left_in now) k now new (Needs name d place) → turn ≡ turns.WantGlobal name d place → waiting_of w ≡ progress.ForGlobal name d (place_of place)
    → Onward ask (progress_of first) (from_first first) (progress_of (waiting_for w new)) (Ok turn)
onward_needs {ask = ask} {first = first} {now = now} {new = new} name d place w turn c s is_turn e =
    let P : Turn → Type 0 = λ t. Onward ask (progress_of first) (from_first first) (progress_of (waiting_for w new)) (Ok t) in
    subst P (sym is_turn) (record {
      so = (
        passes_then c.passes (moved first now c.room c.supplies s.so.passes),
        misses_moved first now c.room c.supplies s.so.misses,
        ap supplies_of (s.supplies ∙ c.supplies),
        e,
        s.room ∙ c.room,
      );
    })

-- the plan has come to its end
onward_ends : {ask : Question NodeRef → Answer NodeRef} {first now : Run} (new : Run) (fin : progress.Progress) (ran : Ran) (e : Ending NodeRef) → Come ask first now
    → Passes ask (hand now) now.room (left_in now) (going_of now.going) (ends e) (going_of new.going) → ran_of ran ≡ made (going_of new.going) e → Onward ask (progress_of first) (from_first first) fin (Ok (turns.Done ran))
onward_ends {ask = ask} {first = first} {now = now} new fin ran e c s is_ran =
    let P : Made NodeRef → Type 0 = λ m. Ends ask (hand first) first.room (left_in first) (going_of first.going) m in
    record { so = subst P (sym is_ran) (record { last = going_of new.going; passes = passes_then c.passes (moved first now c.room c.supplies s); same = refl }) }

pub onward_done : {ask : Question NodeRef → Answer NodeRef} {first now new : Run} {k : ℕ} (fin : progress.Progress) (ran : Ran) → Come ask first now → Steps ask (left_in now) k now new Done → ran_of ran ≡ made (going_of new.going) Finished
    → Onward ask (progress_of first) (from_first first) fin (Ok (turns.Done ran))
onward_done {new = new} fin ran c s e = onward_ends new fin ran Finished c s.so e

pub onward_gave : {ask : Question NodeRef → Answer NodeRef} {first now new : Run} {k : ℕ} (fin : progress.Progress) (ran : Ran) (value : Value) → Come ask first now → Steps ask (left_in now) k now new (Gave value) → ran_of ran ≡ made (going_of new.going) (direct.Gave (value_of value))
    → Onward ask (progress_of first) (from_first first) fin (Ok (turns.Done ran))
onward_gave {new = new} fin ran value c s e = onward_ends new fin ran (direct.Gave (value_of value)) c s.so e

pub onward_halt : {ask : Question NodeRef → Answer NodeRef} {first now new : Run} {k : ℕ} (fin : progress.Progress) (why : Refused) (fault : RunFault) → Come ask first now → Steps ask (left_in now) k now new (Halt why) → HaltsSo (refused_of why) (going_of new.going) (Err fault)
    → Onward ask (progress_of first) (from_first first) fin (Err fault)
onward_halt {ask = ask} {first = first} {now = now} {new = new} fin why (faults.Refused same before) c s e =
    let P : plan.Refused → Type 0 = λ w. Stops ask (hand first) first.room (left_in first) (going_of first.going) w (stream_of before.value) in
    let Q : _ → Type 0 = λ t. Stops ask (hand first) first.room (left_in first) (going_of first.going) (refused_of why) t in
    record { so = subst P (sym e.0) (subst Q (sym e.1) (stops_after c.passes (stops_moved first now c.room c.supplies s.so))) }
onward_halt fin why faults.Memory c s e = record { so = tt }

-- nothing is left
pub steps_none : (ask : Question NodeRef → Answer NodeRef) (old new : Run) → old.frames.items ≡ [] → new.going ≡ old.going → new.room ≡ old.room → new.supplies ≡ old.supplies → Steps ask (left_in old) (length old.frames.items) old new Done
steps_none ask old new none going room supplies =
    let e : End ≡ left_in old = ap (λ fs. left_over fs End) (sym none) in
    record { so = passes_at e (ap going_of going) stays; room = room; supplies = supplies }

-- of the same frame, where the step asks nothing
pub steps_of : {f g : Frame} (old new : Run) (ask : Question NodeRef → Answer NodeRef) (r : Result Next Memory) → f ≡ g → IfOk r (λ next. (ask : Question NodeRef → Answer NodeRef) → StepsFrom ask g old new next) → IfOk r (StepsFrom ask f old new)
steps_of old new ask r e h =
    let P : Frame → Type 0 = λ f. IfOk r (StepsFrom ask f old new) in
    subst P (sym e) (if_ok r h (λ next s. s ask))

-- a run that has counted what it performed
pub steps_counted : (ask : Question NodeRef → Answer NodeRef) (p : Plan NodeRef) (k : ℕ) (old new : Run) (n : ℕ) (next : Next) → Steps ask p k old new next → Steps ask p k old (counted n new) next
steps_counted ask p k old new n Went h = record { so = h.so; room = h.room; supplies = h.supplies }
steps_counted ask p k old new n (Want call depth) h = record { so = h.so; room = h.room; supplies = h.supplies }
steps_counted ask p k old new n (Needs name depth place) h = record { so = record { passes = h.so.passes; misses = h.so.misses }; room = h.room; supplies = h.supplies }
steps_counted ask p k old new n Done h = record { so = h.so; room = h.room; supplies = h.supplies }
steps_counted ask p k old new n (Gave value) h = record { so = h.so; room = h.room; supplies = h.supplies }
steps_counted ask p k old new n (Halt why) h = record { so = h.so; room = h.room; supplies = h.supplies }

-- with a frame more to begin with
pub steps_more : (ask : Question NodeRef → Answer NodeRef) (p : Plan NodeRef) (k : ℕ) (old new : Run) (next : Next) → Steps ask p k old new next → Steps ask p (suc k) old new next
steps_more ask p k old new next h = comes_after ask p p (suc k) k old old new next h stays (omega arith) refl refl (λ n d l b. b)
