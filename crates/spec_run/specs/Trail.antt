-- What is kept of an instantiation that was run to its end. It is a path through its plan that looks at no world, since each step that
-- depends on one was noted: so it can be said of a part of what was done, and it never goes stale; only what was done may no longer hold.
use Rattle.std.specs.Prelude.{◌≡◌, ℕ, ◌-◌, Bool, List, [], ◌∷◌, length}
use Rattle.spec_stylesheet.specs.Place.{Place}
use Rattle.spec_meaning.specs.Stream.{Stream, filled, holes}
use Rattle.spec_meaning.specs.Value.{Value}
use Rattle.spec_meaning.specs.Question.{Question, Answer}
use Rattle.spec_meaning.specs.Program.{Wanted, Given}
use Rattle.spec_run.specs.Plan.{Call, Wrapping, aside_of, Plan, End, Yield, Inquire, Use, Put, Begin, Wrap, Take, Deep, Enter}
use Rattle.spec_run.specs.Direct.{quiet, Known, Ending, Finished, Gave}
use Rattle.spec_run.specs.Going.{Event, Asked, Saw, Entered, Held, Going, at_start, noted, put, begun, ended_as, wrap, deepened, opened, given, closed}
use Rattle.spec_run.specs.Content.{plan_of}

-- where these streams, from this one on, were held
abbrev pub aside_with : {N : Type 0} → ℕ → List Stream → Going N → Going N
aside_with first contents g = ended_as (aside_of g.top) (noted (Held first contents) g)

-- From here, along what was done, to the end. The streams of what was entered count by their number alone, but where they were held
pub data Trail {N : Type 0} : Plan N → Going N → List (Event N) → Going N → Ending N → Type 0 where
  finishes : {g : Going N} → Trail End g [] g Finished
  gives : {value : Value N} {g : Going N} → Trail (Yield value) g [] g (Gave value)
  asks : {question : Question N} {answer : Answer N} {next : Answer N → Plan N} {g h : Going N} {es : List (Event N)} {e : Ending N}
      → Trail (next answer) (noted (Asked question answer) g) es h e → Trail (Inquire question next) g (Asked question answer ∷ es) h e
  uses : {wanted : Wanted} {depth : ℕ} {place : Place} {x : Given N} {next : Given N → Plan N} {g h : Going N} {es : List (Event N)} {e : Ending N}
      → Trail (next x) (noted (Saw wanted depth place (Known x)) g) es h e → Trail (Use wanted depth place next) g (Saw wanted depth place (Known x) ∷ es) h e
  puts : {items : Stream} {next : Plan N} {g h : Going N} {es : List (Event N)} {e : Ending N} → Trail next (put items g) es h e → Trail (Put items next) g es h e
  begins : {next : Plan N} {g h : Going N} {es : List (Event N)} {e : Ending N} → Trail next (begun g) es h e → Trail (Begin next) g es h e
  wraps : {how : Wrapping} {next : Plan N} {g h : Going N} {es : List (Event N)} {e : Ending N} → Trail next (wrap how g) es h e → Trail (Wrap how next) g es h e
  takes : {first : ℕ} {contents : List Stream} {next : Stream → Plan N} {g h : Going N} {es : List (Event N)} {e : Ending N}
      → first ≡ length g.streams - holes g.top
      → Trail (next (quiet (filled g.top contents))) (aside_with first contents g) es h e → Trail (Take next) g (Held first contents ∷ es) h e
  deepens : {depth : ℕ} {place : Place} {next : Plan N} {g h : Going N} {es : List (Event N)} {e : Ending N}
      → Trail next (deepened depth g) es h e → Trail (Deep depth place next) g es h e
  enters : {call : Call N} {depth : ℕ} {next : Plan N} {g h : Going N} {es : List (Event N)} {e : Ending N} (s : Stream)
      → Trail next (given s (opened call depth g)) es h e → Trail (Enter call depth next) g (Entered call depth ∷ es) h e

-- an instantiation that was run to its end: its stream has a hole for each that it entered
pub record Kept (N : Type 0) : Type 0 where
  pub call : Call N
  pub trace : List (Event N)
  pub content : Stream
  pub height : ℕ
  pub ending : Ending N

abbrev pub kept_as : {N : Type 0} → Call N → Going N → Ending N → Kept N
kept_as call g ending = record { call = call; trace = g.trace; content = closed g; height = g.height; ending = ending }

-- it goes along its plan
pub record IsTrue {N : Type 0} (same : N → N → Bool) (k : Kept N) : Type 0 where
  pub last : Going N
  pub trail : Trail (plan_of same k.call) at_start k.trace last k.ending
  pub is : k ≡ kept_as k.call last k.ending
