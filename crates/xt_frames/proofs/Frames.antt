-- What comes of a frame that was taken off.
use Rattle.std.proofs.Common.{◌≡◌, ℕ, suc, [], ◌∷◌, ◌++◌, length, refl, sym, ap, subst, arith}
use Rattle.spec_meaning.specs.Question.{Question, Answer}
use Rattle.spec_run.specs.Plan.{Plan}
use Rattle.spec_run.specs.Passes.{Passes, stays}
use Rattle.spec_node.specs.declared.node_ref.NodeRef.{NodeRef}
use Rattle.xt_engine.specs.Advances.{Misses}
use Rattle.xt_progress.specs.View.{going_of}
use Rattle.xt_frames.specs.declared.frame.Frame.{Frame}
use Rattle.xt_frames.specs.declared.run.Run.{Run}
use Rattle.xt_frames.specs.declared.run.Next.{Next}
use Rattle.xt_frames.specs.declared.run.Next.TheVariants.{Went}
use Rattle.xt_frames.specs.View.{left_frame}
use Rattle.xt_frames.specs.Left.{left_in, hand, steps, Does, Performs, Steps, StepsFrom}
use Rattle.xt_frames.proofs.Passed.{passes_then}
use Rattle.xt_frames.proofs.Lefts.{pushed, one_more, steps_at, passes_at, comes_after, moved, misses_moved}
use Rattle.xt_frames.proofs.Performs.{does_performs}

pub does_steps : (ask : Question NodeRef → Answer NodeRef) (p : Plan NodeRef) (k : ℕ) (old new : Run) (next : Next) → Does ask p k old new next → Steps ask p k old new next
does_steps ask p k old new next does = comes_after ask p p k k old old new next does stays (omega arith) refl refl (λ n d l x. absurd x)

pub performs_steps : (ask : Question NodeRef → Answer NodeRef) (f : Frame) (p : Plan NodeRef) (old new : Run) (next : Next) → left_frame f (left_in old) ≡ p → Performs ask f p old new next → StepsFrom ask f old new next
performs_steps ask f p old new next e h =
    let P : Plan NodeRef → Type 0 = λ r. Steps ask r (suc (length old.frames.items)) old new next in
    subst P (sym e) (comes_after ask p p _ _ old old new next h stays (omega arith) refl refl (λ n d l b.
    let left = b.left e in
    let Q : Plan NodeRef → Type 0 = λ r. Misses ask (hand old) old.room r (going_of new.going) n d l in
    record { passes = passes_at left refl b.passes; misses = subst Q (sym left) b.misses }))

-- the same plan in another form
pub from_same : (ask : Question NodeRef → Answer NodeRef) (f : Frame) (p : Plan NodeRef) (old new : Run) (next : Next) → left_frame f (left_in old) ≡ p → Does ask p (suc (length old.frames.items)) old new next → StepsFrom ask f old new next
from_same ask f p old new next e does = performs_steps ask f p old new next e (does_performs ask p f old new next does)

-- nothing is left of it
pub at_end : (ask : Question NodeRef → Answer NodeRef) (f : Frame) (old : Run) → left_frame f (left_in old) ≡ left_in old → StepsFrom ask f old old Went
at_end ask f old e =
    let P : Plan NodeRef → Type 0 = λ p. Passes ask (hand old) old.room p (going_of old.going) (left_in old) (going_of old.going) in
    let s = ap (λ p. steps ask (hand old) old.room p (going_of old.going)) e in
    record { so = (subst P (sym e) stays, omega (arith, s)); room = refl; supplies = refl }

-- a frame was taken off, and this is all
pub from_popped : (ask : Question NodeRef → Answer NodeRef) (old mid new : Run) (f : Frame) (next : Next) → old.frames.items ≡ mid.frames.items ++ f ∷ [] → mid.going ≡ old.going → mid.room ≡ old.room → mid.supplies ≡ old.supplies → StepsFrom ask f mid new next
    → Steps ask (left_in old) (length old.frames.items) old new next
from_popped ask old mid new f next e going room supplies h =
    let same : left_frame f (left_in mid) ≡ left_in old = sym (pushed mid old f e) in
    let n = one_more mid.frames.items old.frames.items f e in
    let g = ap going_of going in
    let s = steps_at ask old mid room supplies same g in
    let here = passes_at same g stays in
    comes_after ask (left_in old) (left_frame f (left_in mid)) _ _ old mid new next h here (omega (arith, n, s)) room supplies (λ x d l b. record {
      passes = passes_then here (moved old mid room supplies b.passes);
      misses = misses_moved old mid room supplies b.misses;
    })
