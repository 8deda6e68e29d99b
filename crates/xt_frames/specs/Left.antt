-- What a run has left to do, and what its steps do with it.
use Rattle.std.specs.Prelude.{◌≡◌, ℕ, suc, ◌<◌, ◌+◌, ◌*◌, [], ◌∷◌, ◌++◌, length, nat_lt, if◌then◌else◌}
use Rattle.spec_document.specs.Name.{Expanded}
use Rattle.spec_stylesheet.specs.Place.{Place}
use Rattle.spec_meaning.specs.Stream.{Stream, filled}
use Rattle.spec_meaning.specs.Question.{Question, Answer}
use Rattle.spec_meaning.specs.Program.{Supply, if_given}
use Rattle.spec_meaning.specs.Supplies.{at_hand}
use Rattle.spec_run.specs.Plan.{Plan, End, Yield, Stop, Inquire, Use, Put, Begin, Wrap, Take, Deep, Enter}
use Rattle.spec_run.specs.Direct.{Known}
use Rattle.spec_run.specs.Going as plain
use Rattle.spec_run.specs.Going.{Asked, Saw, noted, put, begun, wrap, taken, aside, deepened, closed}
use Rattle.spec_run.specs.Passes.{Passes}
use Rattle.xt_syntax.specs.PartView.{place_of}
use Rattle.spec_node.specs.declared.node_ref.NodeRef.{NodeRef}
use Rattle.xt_tree.specs.ValueView.{value_of}
use Rattle.xt_questions.specs.View.{supplies_of}
use Rattle.xt_engine.specs.View.{call_of, refused_of}
use Rattle.xt_engine.specs.Progress as progress
use Rattle.xt_engine.specs.Progress.{Progress}
use Rattle.xt_engine.specs.Advances.{Stops, Misses}
use Rattle.xt_progress.specs.View.{going_of}
use Rattle.xt_frames.specs.declared.frame.Frame.{Frame}
use Rattle.xt_frames.specs.declared.run.Waiting.{Waiting}
use Rattle.xt_frames.specs.declared.run.Waiting.TheVariants as waits
use Rattle.xt_frames.specs.declared.run.Run.{Run}
use Rattle.xt_frames.specs.declared.run.Next.{Next}
use Rattle.xt_frames.specs.declared.run.Next.TheVariants.{Went, Want, Needs, Done, Gave, Halt}
use Rattle.xt_frames.specs.declared.run.Came.{Came}
use Rattle.xt_frames.specs.declared.run.Came.TheVariants as came
use Rattle.xt_frames.specs.View.{left_frame, left_over}

abbrev pub left_in : Run → Plan NodeRef
left_in r = left_over r.frames.items End

abbrev pub waiting_of : Waiting → progress.Waiting NodeRef
waiting_of waits.Nothing = progress.ForNothing
waiting_of (waits.ForCall call depth) = progress.ForCall (call_of call.value) depth
waiting_of (waits.ForGlobal name depth place) = progress.ForGlobal name depth (place_of place)

abbrev pub progress_of : Run → Progress
progress_of r = record { left = left_in r; going = going_of r.going; supplies = supplies_of r.supplies; waits = waiting_of r.waiting; room = r.room }

abbrev pub hand : Run → ℕ → Supply NodeRef
hand r = at_hand (supplies_of r.supplies)

-- how many steps a plan takes by itself
abbrev pub steps : (Question NodeRef → Answer NodeRef) → (ℕ → Supply NodeRef) → ℕ → Plan NodeRef → plain.Going NodeRef → ℕ
steps ask hand room End g = 0
steps ask hand room (Yield value) g = 0
steps ask hand room (Stop why) g = 0
steps ask hand room (Inquire q next) g = suc (steps ask hand room (next (ask q)) (noted (Asked q (ask q)) g))
steps ask hand room (Use w depth place next) g = if_given (λ x. suc (steps ask hand room (next x) (noted (Saw w depth place (Known x)) g))) 0 (hand depth w)
steps ask hand room (Put items next) g = suc (steps ask hand room next (put items g))
steps ask hand room (Begin next) g = suc (steps ask hand room next (begun g))
steps ask hand room (Wrap how next) g = suc (steps ask hand room next (wrap how g))
steps ask hand room (Take next) g = suc (steps ask hand room (next (taken g)) (aside g))
steps ask hand room (Deep depth place next) g = if nat_lt room depth then 0 else suc (steps ask hand room next (deepened depth g))
steps ask hand room (Enter call depth next) g = 0

-- a number that falls with each step of a run, where so many frames are left: a step adds at most three
abbrev pub weight : (Question NodeRef → Answer NodeRef) → Run → Plan NodeRef → ℕ → ℕ
weight ask r p frames = 4 * steps ask (hand r) r.room p (going_of r.going) + frames

-- what was written so far
abbrev pub written : Run → Stream
written r = filled (closed (going_of r.going)) (going_of r.going).streams

-- what comes of a plan, in a run with so many frames, where this holds if it needs a global
abbrev pub ComesSo : (Expanded → ℕ → Place → Type 0) → (Question NodeRef → Answer NodeRef) → Plan NodeRef → ℕ → Run → Run → Next → Type 0
ComesSo needs ask p k old new Went =
    Passes ask (hand old) old.room p (going_of old.going) (left_in new) (going_of new.going) × (weight ask new (left_in new) (length new.frames.items) < weight ask old p k)
ComesSo needs ask p k old new (Want call depth) = Passes ask (hand old) old.room p (going_of old.going) (Enter (call_of call) depth (left_in new)) (going_of new.going)
ComesSo needs ask p k old new (Needs name depth place) = needs name depth (place_of place)
ComesSo needs ask p k old new Done = Passes ask (hand old) old.room p (going_of old.going) End (going_of new.going)
ComesSo needs ask p k old new (Gave value) = Passes ask (hand old) old.room p (going_of old.going) (Yield (value_of value)) (going_of new.going)
ComesSo needs ask p k old new (Halt why) = Stops ask (hand old) old.room p (going_of old.going) (refused_of why) (written new)

pub record Comes (needs : Expanded → ℕ → Place → Type 0) (ask : Question NodeRef → Answer NodeRef) (p : Plan NodeRef) (k : ℕ) (old new : Run) (next : Next) : Type 0 where
  pub so : ComesSo needs ask p k old new next
  pub room : new.room ≡ old.room
  pub supplies : new.supplies ≡ old.supplies

-- it needs none
abbrev pub Does : (Question NodeRef → Answer NodeRef) → Plan NodeRef → ℕ → Run → Run → Next → Type 0
Does = Comes (λ name depth place. ⊥)

-- if it needs one, what is left in the place of this frame, where the plan is that of the frame, is where it came to by then
pub record IsBack (ask : Question NodeRef → Answer NodeRef) (f : Frame) (p : Plan NodeRef) (old new : Run) (name : Expanded) (depth : ℕ) (place : Place) : Type 0 where
  pub now : Plan NodeRef
  pub passes : Passes ask (hand old) old.room p (going_of old.going) now (going_of new.going)
  pub left : left_frame f (left_in old) ≡ p → left_in new ≡ now
  pub misses : Misses ask (hand old) old.room now (going_of new.going) name depth place

-- of a plan that stands in the place of this frame, which was taken off
abbrev pub Performs : (Question NodeRef → Answer NodeRef) → Frame → Plan NodeRef → Run → Run → Next → Type 0
Performs ask f p old new = Comes (IsBack ask f p old new) ask p (suc (length old.frames.items)) old new

-- if it needs one, this is left from where that is seen
pub record IsLeft (ask : Question NodeRef → Answer NodeRef) (p : Plan NodeRef) (old new : Run) (name : Expanded) (depth : ℕ) (place : Place) : Type 0 where
  pub passes : Passes ask (hand old) old.room p (going_of old.going) (left_in new) (going_of new.going)
  pub misses : Misses ask (hand old) old.room (left_in new) (going_of new.going) name depth place

abbrev pub Steps : (Question NodeRef → Answer NodeRef) → Plan NodeRef → ℕ → Run → Run → Next → Type 0
Steps ask p k old new = Comes (IsLeft ask p old new) ask p k old new

-- of a frame that was taken off
abbrev pub StepsFrom : (Question NodeRef → Answer NodeRef) → Frame → Run → Run → Next → Type 0
StepsFrom ask f old new = Steps ask (left_frame f (left_in old)) (suc (length old.frames.items)) old new

-- what an expression came to, before what follows it
abbrev pub FoundSo : {X A : Type 0} → (X → A) → (Question NodeRef → Answer NodeRef) → (ℕ → Supply NodeRef) → ℕ → Plan NodeRef → (A → Plan NodeRef) → ℕ → Place → plain.Going NodeRef → plain.Going NodeRef → Came X → Type 0
FoundSo view ask hand room p k depth place old new (came.Is x) = Passes ask hand room p old (k (view x)) new
FoundSo view ask hand room p k depth place old new (came.Halts why) = Stops ask hand room p old (refused_of why) (filled (closed old) old.streams) × (new ≡ old)
FoundSo view ask hand room p k depth place old new (came.Lacks name) = Misses ask hand room p old name depth place × (new ≡ old)

pub record Found {X A : Type 0} (view : X → A) (ask : Question NodeRef → Answer NodeRef) (hand : ℕ → Supply NodeRef) (room : ℕ) (p : Plan NodeRef) (k : A → Plan NodeRef) (depth : ℕ) (place : Place) (old new : plain.Going NodeRef) (result : Came X) : Type 0 where
  pub so : FoundSo view ask hand room p k depth place old new result

-- all but what was done stays
pub record IsStill (old new : Run) : Type 0 where
  pub frames : new.frames ≡ old.frames
  pub room : new.room ≡ old.room
  pub supplies : new.supplies ≡ old.supplies

-- a frame more, and nothing else
pub record Pushed (f : Frame) (old new : Run) : Type 0 where
  pub frames : new.frames.items ≡ old.frames.items ++ f ∷ []
  pub going : new.going ≡ old.going
  pub room : new.room ≡ old.room
  pub supplies : new.supplies ≡ old.supplies

-- that this global is needed at this element
abbrev pub NeedsSo : Expanded → ℕ → Place → Next → Type 0
NeedsSo name depth place (Needs n d p) = (n ≡ name) × (d ≡ depth) × (place_of p ≡ place)
NeedsSo name depth place _ = ⊥

pub record HasNeeds (name : Expanded) (depth : ℕ) (place : Place) (next : Next) : Type 0 where
  pub so : NeedsSo name depth place next
