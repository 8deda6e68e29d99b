-- One instantiation by itself, as it is run: with holes in place of what it enters, and with all that it read. Its streams in place of its
-- holes, it is what `direct` says.
use Rattle.std.specs.Prelude.{ℕ, ◌-◌, List, [], ◌∷◌, ◌++◌, length, drop, nat_lt, if◌then◌else◌}
use Rattle.spec_stylesheet.specs.Place.{Place}
use Rattle.spec_meaning.specs.Stream as stream
use Rattle.spec_meaning.specs.Stream.{Stream, followed, filled, holes}
use Rattle.spec_meaning.specs.Question.{Question, Answer}
use Rattle.spec_meaning.specs.Program.{Wanted, Given}
use Rattle.spec_run.specs.Plan.{Call, Wrapping, wrapped, aside_of, Plan, End, Yield, Stop, Inquire, Use, Put, Begin, Wrap, Take, Deep, Enter}
use Rattle.spec_run.specs.Direct.{quiet, Supplied, Known, Failed, Ending, Finished, Gave, Halted, Outcome, top_after, outer_after, closed_in, too_deep}

-- what it did that depends on anything, in its order
pub data Event (N : Type 0) : Type 0 where
  Asked : (question : Question N) → (answer : Answer N) → Event N
  -- what the run gave, or its refusal, at an element in a content so deep below the level
  Saw : (wanted : Wanted) → (depth : ℕ) → (place : Place) → (supplied : Supplied N) → Event N
  Entered : (call : Call N) → (depth : ℕ) → Event N
  -- the streams of the instantiations that it entered from this one on, where a variable or a parameter holds them
  Held : (first : ℕ) → (contents : List Stream) → Event N

-- how far it has come: the innermost sink, those around it, innermost first; what it did; how deep its contents went; and the streams of
-- those that it entered
pub record Going (N : Type 0) : Type 0 where
  pub top : Stream
  pub outer : List Stream
  pub trace : List (Event N)
  pub height : ℕ
  pub streams : List Stream

abbrev pub at_start : {N : Type 0} → Going N
at_start = record { top = stream.Ended; outer = []; trace = []; height = 0; streams = [] }

abbrev pub noted : {N : Type 0} → Event N → Going N → Going N
noted e g = record { top = g.top; outer = g.outer; trace = g.trace ++ e ∷ []; height = g.height; streams = g.streams }

-- holes are of what is entered alone: what is put has none
abbrev pub put : {N : Type 0} → Stream → Going N → Going N
put items g = record { top = followed g.top (filled items []); outer = g.outer; trace = g.trace; height = g.height; streams = g.streams }

abbrev pub begun : {N : Type 0} → Going N → Going N
begun g = record { top = stream.Ended; outer = g.top ∷ g.outer; trace = g.trace; height = g.height; streams = g.streams }

abbrev pub ended_as : {N : Type 0} → Stream → Going N → Going N
ended_as s g = record { top = top_after s g.top g.outer; outer = outer_after g.outer; trace = g.trace; height = g.height; streams = g.streams }

abbrev pub wrap : {N : Type 0} → Wrapping → Going N → Going N
wrap how g = ended_as (wrapped how g.top) g

-- the streams of the holes of the innermost sink: the last of all
abbrev pub of_top : {N : Type 0} → Going N → List Stream
of_top g = drop (length g.streams - holes g.top) g.streams

abbrev pub taken : {N : Type 0} → Going N → Stream
taken g = quiet (filled g.top (of_top g))

-- after the innermost sink was taken: its messages stay
abbrev pub aside : {N : Type 0} → Going N → Going N
aside g = ended_as (aside_of g.top) (noted (Held (length g.streams - holes g.top) (of_top g)) g)

abbrev pub higher : ℕ → ℕ → ℕ
higher height depth = if nat_lt height depth then depth else height

abbrev pub deepened : {N : Type 0} → ℕ → Going N → Going N
deepened depth g = record { top = g.top; outer = g.outer; trace = g.trace; height = higher g.height depth; streams = g.streams }

-- a hole for what is entered
abbrev pub opened : {N : Type 0} → Call N → ℕ → Going N → Going N
opened call depth g = record {
  top = followed g.top (stream.Hole stream.Ended);
  outer = g.outer;
  trace = g.trace ++ Entered call depth ∷ [];
  height = g.height;
  streams = g.streams;
}

-- the stream of what was entered last
abbrev pub given : {N : Type 0} → Stream → Going N → Going N
given s g = record { top = g.top; outer = g.outer; trace = g.trace; height = g.height; streams = g.streams ++ s ∷ [] }

abbrev pub closed : {N : Type 0} → Going N → Stream
closed g = closed_in g.top g.outer

-- the whole of it, without those that it enters
pub record Owned (N : Type 0) : Type 0 where
  pub going : Going N
  pub ending : Ending N

abbrev pub owned : {N : Type 0} → Going N → Ending N → Owned N
owned g e = record { going = g; ending = e }

abbrev pub if_known : {N : Type 0} → (Given N → Owned N) → Going N → Supplied N → Owned N
if_known f g (Known given) = f given
if_known f g (Failed why) = owned g (Halted why)

abbrev pub unless_halted : {N : Type 0} → Owned N → Going N → Ending N → Owned N
unless_halted o g Finished = o
unless_halted o g (Gave value) = o
unless_halted o g (Halted why) = owned g (Halted why)

-- from here on, where `supply`, `nested` and `room` are as for `direct`
abbrev pub own : {N : Type 0} → (Question N → Answer N) → (Wanted → ℕ → Place → Supplied N) → (ℕ → Call N → Outcome N) → ℕ → Plan N → Going N → Owned N
own ask supply nested room End g = owned g Finished
own ask supply nested room (Yield value) g = owned g (Gave value)
own ask supply nested room (Stop why) g = owned g (Halted why)
own ask supply nested room (Inquire question next) g = own ask supply nested room (next (ask question)) (noted (Asked question (ask question)) g)
own ask supply nested room (Use wanted depth place next) g =
    let h = noted (Saw wanted depth place (supply wanted depth place)) g in
    if_known (λ given. own ask supply nested room (next given) h) h (supply wanted depth place)
own ask supply nested room (Put items next) g = own ask supply nested room next (put items g)
own ask supply nested room (Begin next) g = own ask supply nested room next (begun g)
own ask supply nested room (Wrap how next) g = own ask supply nested room next (wrap how g)
own ask supply nested room (Take next) g = own ask supply nested room (next (taken g)) (aside g)
own ask supply nested room (Deep depth place next) g =
    if nat_lt room depth then owned g (Halted (too_deep place)) else own ask supply nested room next (deepened depth g)
own ask supply nested room (Enter call depth next) g =
    let h = given (nested depth call).content (opened call depth g) in
    unless_halted (own ask supply nested room next h) h (nested depth call).ending

-- with the streams of those that it enters in place of its holes
abbrev pub whole : {N : Type 0} → Owned N → Outcome N
whole o = record { content = filled (closed o.going) o.going.streams; ending = o.ending }
