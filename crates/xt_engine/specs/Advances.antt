-- How a run goes on.
use Rattle.std.specs.Prelude.{◌≡◌, ℕ, List, map, Option, Some, None, Result, Ok, Err}
use Rattle.spec_document.specs.Name.{Expanded}
use Rattle.spec_stylesheet.specs.Place.{Place}
use Rattle.spec_meaning.specs.Stream.{Stream, filled}
use Rattle.spec_meaning.specs.Question.{Question, Answer}
use Rattle.spec_meaning.specs.Program.{Wanted, Given, Global}
use Rattle.spec_meaning.specs.Supplies.{Supplies, at_hand}
use Rattle.spec_run.specs.Plan.{Refused, Plan, End, Yield, Stop, Use, Enter}
use Rattle.spec_run.specs.Direct.{Ending, Finished, Gave, Halted}
use Rattle.spec_run.specs.Going.{Event, Going, closed}
use Rattle.spec_run.specs.Passes.{Passes}
use Rattle.xt_syntax.specs.PartView.{place_of}
use Rattle.spec_node.specs.declared.node_ref.NodeRef.{NodeRef}
use Rattle.xt_tree.specs.declared.value.Value as code
use Rattle.xt_tree.specs.StreamView.{stream_of}
use Rattle.xt_tree.specs.ValueView.{value_of}
use Rattle.xt_engine.specs.declared.event.Ran.{Ran}
use Rattle.xt_engine.specs.declared.turn.Entered.{Entered}
use Rattle.xt_engine.specs.declared.turn.Entered.TheVariants as entered
use Rattle.xt_engine.specs.declared.turn.Turn.{Turn}
use Rattle.xt_engine.specs.declared.turn.Turn.TheVariants as turn
use Rattle.xt_engine.specs.declared.turn.RunFault.{RunFault}
use Rattle.xt_engine.specs.declared.turn.RunFault.TheVariants as fault
use Rattle.xt_engine.specs.View.{refused_of, call_of, event_of}
use Rattle.xt_engine.specs.Progress.{Waiting, ForCall, ForGlobal, Gift, Streamed, Evaluated, RefusedAs, IsUnderWay, Progress, Start, Goes, Halts, received}

-- what a run makes that comes to its end
pub record Made (N : Type 0) : Type 0 where
  pub content : Stream
  pub trace : List (Event N)
  pub height : ℕ
  pub ending : Ending N

abbrev pub made : {N : Type 0} → Going N → Ending N → Made N
made g ending = record { content = closed g; trace = g.trace; height = g.height; ending = ending }

abbrev pub ending_of : Option code.Value → Ending NodeRef
ending_of None = Finished
ending_of (Some value) = Gave (value_of value)

abbrev pub ran_of : Ran → Made NodeRef
ran_of r = record { content = stream_of r.stream.value; trace = map event_of r.events.items; height = r.height; ending = ending_of r.value }

abbrev pub gift_of : Option Entered → Option (Gift NodeRef)
gift_of None = None
gift_of (Some (entered.Stream s)) = Some (Streamed (stream_of s.value))
gift_of (Some (entered.Value value)) = Some (Evaluated (value_of value))
gift_of (Some (entered.Refused why s)) = Some (RefusedAs (refused_of why) (stream_of s.value))
gift_of (Some entered.UnderWay) = Some IsUnderWay

-- where a plan has come to its end
abbrev pub ends : {N : Type 0} → Ending N → Plan N
ends Finished = End
ends (Gave value) = Yield value
ends (Halted why) = Stop why

-- from here the run ends so
pub record Ends {N : Type 0} (ask : Question N → Answer N) (hand : ℕ → Wanted → Option (Given N)) (room : ℕ) (p : Plan N) (g : Going N) (m : Made N) : Type 0 where
  pub last : Going N
  pub passes : Passes ask hand room p g (ends m.ending) last
  pub same : made last m.ending ≡ m

-- from here it is refused so, with this before it
pub record Stops {N : Type 0} (ask : Question N → Answer N) (hand : ℕ → Wanted → Option (Given N)) (room : ℕ) (p : Plan N) (g : Going N) (why : Refused) (before : Stream) : Type 0 where
  pub last : Going N
  pub passes : Passes ask hand room p g (Stop why) last
  pub content : filled (closed last) last.streams ≡ before

-- from here it needs a global that is not at hand, and writes nothing before that
pub record Misses {N : Type 0} (ask : Question N → Answer N) (hand : ℕ → Wanted → Option (Given N)) (room : ℕ) (p : Plan N) (g : Going N) (name : Expanded) (depth : ℕ) (place : Place) : Type 0 where
  pub last : Going N
  pub next : Given N → Plan N
  pub passes : Passes ask hand room p g (Use (Global name) depth place next) last
  pub missing : hand depth (Global name) ≡ None
  pub same : closed last ≡ closed g

abbrev pub GoesSo : (Question NodeRef → Answer NodeRef) → Progress → Going NodeRef → Supplies NodeRef → Progress → Result Turn RunFault → Type 0
GoesSo ask old g s new (Ok (turn.Want call depth)) =
    Passes ask (at_hand s) old.room old.left g (Enter (call_of call.value) depth new.left) new.going
    × (new.supplies ≡ s) × (new.waits ≡ ForCall (call_of call.value) depth) × (new.room ≡ old.room)
GoesSo ask old g s new (Ok (turn.WantGlobal name depth place)) =
    Passes ask (at_hand s) old.room old.left g new.left new.going
    × Misses ask (at_hand s) old.room new.left new.going name depth (place_of place)
    × (new.supplies ≡ s) × (new.waits ≡ ForGlobal name depth (place_of place)) × (new.room ≡ old.room)
GoesSo ask old g s new (Ok (turn.Done ran)) = Ends ask (at_hand s) old.room old.left g (ran_of ran)
GoesSo ask old g s new (Err (fault.Refused why before)) = Stops ask (at_hand s) old.room old.left g (refused_of why) (stream_of before.value)
GoesSo ask old g s new (Err fault.Memory) = Unit {0}

abbrev pub HaltsSo : Refused → Going NodeRef → Result Turn RunFault → Type 0
HaltsSo why g (Ok _) = ⊥
HaltsSo why g (Err (fault.Refused same before)) = (refused_of same ≡ why) × (stream_of before.value ≡ filled (closed g) g.streams)
HaltsSo why g (Err fault.Memory) = Unit {0}

abbrev pub AdvancesSo : (Question NodeRef → Answer NodeRef) → Progress → Start NodeRef → Progress → Result Turn RunFault → Type 0
AdvancesSo ask old (Goes g s) new result = GoesSo ask old g s new result
AdvancesSo ask old (Halts why g) new result = HaltsSo why g result

-- a run with what it is given goes on so
pub record Advances (ask : Question NodeRef → Answer NodeRef) (gift : Option (Gift NodeRef)) (old new : Progress) (result : Result Turn RunFault) : Type 0 where
  pub so : AdvancesSo ask old (received old.waits old.going old.supplies gift) new result
