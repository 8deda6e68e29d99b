-- How a run goes on from where it stopped: the steps of its plan that it takes by itself, in a world, with what is at hand of what it needs.
use Rattle.std.specs.Prelude.{◌≡◌, ℕ, false, true, nat_lt, Option, Some}
use Rattle.spec_stylesheet.specs.Place.{Place}
use Rattle.spec_meaning.specs.Stream.{Stream}
use Rattle.spec_meaning.specs.Question.{Question, Answer}
use Rattle.spec_meaning.specs.Program.{Wanted, Given}
use Rattle.spec_run.specs.Plan.{Wrapping, Plan, Stop, Inquire, Use, Put, Begin, Wrap, Take, Deep}
use Rattle.spec_run.specs.Direct.{Known, too_deep}
use Rattle.spec_run.specs.Going.{Asked, Saw, Going, noted, put, begun, wrap, taken, aside, deepened}

-- from one plan to another, and what is done on the way
pub data Passes {N : Type 0} (ask : Question N → Answer N) (hand : ℕ → Wanted → Option (Given N)) (room : ℕ) : Plan N → Going N → Plan N → Going N → Type 0 where
  stays : {p : Plan N} {g : Going N} → Passes ask hand room p g p g
  asks : {q : Question N} {next : Answer N → Plan N} {g h : Going N} {r : Plan N}
      → Passes ask hand room (next (ask q)) (noted (Asked q (ask q)) g) r h → Passes ask hand room (Inquire q next) g r h
  uses : {w : Wanted} {depth : ℕ} {place : Place} {next : Given N → Plan N} {x : Given N} {g h : Going N} {r : Plan N}
      → hand depth w ≡ Some x → Passes ask hand room (next x) (noted (Saw w depth place (Known x)) g) r h → Passes ask hand room (Use w depth place next) g r h
  puts : {items : Stream} {next : Plan N} {g h : Going N} {r : Plan N} → Passes ask hand room next (put items g) r h → Passes ask hand room (Put items next) g r h
  begins : {next : Plan N} {g h : Going N} {r : Plan N} → Passes ask hand room next (begun g) r h → Passes ask hand room (Begin next) g r h
  wraps : {how : Wrapping} {next : Plan N} {g h : Going N} {r : Plan N} → Passes ask hand room next (wrap how g) r h → Passes ask hand room (Wrap how next) g r h
  takes : {next : Stream → Plan N} {g h : Going N} {r : Plan N} → Passes ask hand room (next (taken g)) (aside g) r h → Passes ask hand room (Take next) g r h
  goes_deep : {depth : ℕ} {place : Place} {next : Plan N} {g h : Going N} {r : Plan N} → nat_lt room depth ≡ false
      → Passes ask hand room next (deepened depth g) r h → Passes ask hand room (Deep depth place next) g r h
  is_too_deep : {depth : ℕ} {place : Place} {next : Plan N} {g : Going N} → nat_lt room depth ≡ true
      → Passes ask hand room (Deep depth place next) g (Stop (too_deep place)) g
