-- What comes of calls, of globals and of whole runs, as the definitions have it.
use Rattle.std.specs.Prelude.{◌≡◌, ℕ, List, [], ◌∷◌, ◌++◌, map, Option, Some, Result, Ok, Err, Box}
use Rattle.std.specs.declared.alloc.Global.{Global as Allocator}
use Rattle.std.specs.Option.{option_map}
use Rattle.spec_stylesheet.specs.Place.{Place}
use Rattle.spec_meaning.specs.Stream.{Stream}
use Rattle.spec_meaning.specs.Question.{Question, Answer}
use Rattle.spec_meaning.specs.Program.{Valued}
use Rattle.spec_meaning.specs.Context.{Bound}
use Rattle.spec_result.specs.Recovery.{messages_of}
use Rattle.spec_run.specs.Direct as plain
use Rattle.spec_run.specs.Direct.{Supplied, Known, Failed, Finished, Gave, Halted}
use Rattle.spec_run.specs.Meaning as means
use Rattle.spec_run.specs.Meaning.{Setting, Past, element_named, refer, needs_itself, held_by, going_into, global_call, meaning}
use Rattle.spec_node.specs.declared.node_ref.NodeRef.{NodeRef}
use Rattle.spec_node.specs.Naming.{same_ref}
use Rattle.xt_tree.specs.ValueView.{value_of}
use Rattle.xt_tree.specs.StreamView.{stream_of}
use Rattle.xt_engine.specs.View.{refused_of, named_of}
use Rattle.xt_engine.specs.Progress.{Gift, Streamed, RefusedAs}
use Rattle.xt_engine.specs.Advances.{gift_of}
use Rattle.xt_engine.specs.declared.global.NamedGlobal.{NamedGlobal}
use Rattle.xt_engine.specs.declared.turn.Entered.{Entered}
use Rattle.xt_engine.specs.declared.turn.Entered.TheVariants as entered
use Rattle.xt_engine.specs.declared.turn.RunFault.{RunFault}
use Rattle.xt_engine.specs.declared.turn.RunFault.TheVariants as faults
use Rattle.xt_text.specs.declared.memory.Memory.{Memory}
use Rattle.xt_driver.specs.declared.globals.HeldGlobal.{HeldGlobal}
use Rattle.xt_driver.specs.declared.globals.Globals.{Globals}
use Rattle.xt_driver.specs.declared.memo.Referred.{Referred}
use Rattle.xt_driver.specs.declared.outcome.Ending.{Ending}
use Rattle.xt_driver.specs.declared.outcome.Ending.TheVariants as endings
use Rattle.xt_driver.specs.declared.came.Outcome.{Outcome}
use Rattle.xt_driver.specs.declared.outcome.Held.{Held}
use Rattle.xt_driver.specs.declared.outcome.Held.TheVariants as held
use Rattle.xt_driver.specs.declared.whole.Whole.{Whole}

-- ---- What a run is in

abbrev pub held_of : HeldGlobal → Bound NodeRef
held_of g = record { name = g.name; value = value_of g.value }

abbrev pub setting_in : (Question NodeRef → Answer NodeRef) → NodeRef → List NamedGlobal → Setting NodeRef
setting_in ask root globals = record { ask = ask; same = same_ref; root = root; globals = map named_of globals }

abbrev pub setting_of : (Question NodeRef → Answer NodeRef) → Globals → Setting NodeRef
setting_of ask globals = setting_in ask globals.root globals.named.now

abbrev pub past_of : Globals → Past NodeRef
past_of globals = record { values = map held_of globals.held.now; under = globals.under_way.now }

-- ---- What comes of calls

abbrev pub ending_of : Ending → plain.Ending NodeRef
ending_of endings.Finished = Finished
ending_of (endings.Gave value) = Gave (value_of value)
ending_of (endings.Halted why) = Halted (refused_of why)

abbrev pub outcome_of : Outcome → plain.Outcome NodeRef
outcome_of o = record { content = stream_of o.content.value; ending = ending_of o.ending }

abbrev pub IsRefusedSo : RunFault → Outcome → Type 0
IsRefusedSo faults.Memory o = ⊥
IsRefusedSo (faults.Refused why content) o = outcome_of o ≡ record { content = stream_of content.value; ending = Halted (refused_of why) }

pub record IsRefused (fault : RunFault) (o : Outcome) : Type 0 where
  pub so : IsRefusedSo fault o

-- what a run is given for an instantiation of which this comes
abbrev pub gift_for : Stream → plain.Ending NodeRef → Gift NodeRef
gift_for s Finished = Streamed s
gift_for s (Gave value) = Streamed s
gift_for s (Halted why) = RefusedAs why s

-- and the streams of all that it entered
pub record IsGiven (e : Option Entered) (o : plain.Outcome NodeRef) (before after : List Stream) : Type 0 where
  pub gift : gift_of e ≡ Some (gift_for o.content o.ending)
  pub streams : after ≡ before ++ o.content ∷ []

abbrev pub IsStreamed : Option Entered → Result (Box Outcome Allocator) Memory → List Stream → List Stream → Type 0
IsStreamed e (Ok o) before after = IsGiven e (outcome_of o.value) before after
IsStreamed e (Err memory) before after = ⊥

-- what a run is given for a global of which this came
abbrev pub IsTaken : Option Entered → Result (Box Referred Allocator) Memory → Type 0
IsTaken given (Ok r) = given ≡ Some r.value.entered
IsTaken given (Err memory) = ⊥

-- ---- What comes of globals

abbrev pub supplied_of : Held → Supplied NodeRef
supplied_of (held.Value value) = Known (Valued (value_of value))
supplied_of (held.Refused why content) = Failed (refused_of why)

-- what a run is given for a global that its run supplies so, to a reference at this element
abbrev pub GivesSo : Entered → Place → Supplied NodeRef → Type 0
GivesSo (entered.Stream content) place x = ⊥
GivesSo (entered.Value value) place x = x ≡ Known (Valued (value_of value))
GivesSo (entered.Refused why content) place x = x ≡ Failed (refused_of why)
GivesSo entered.UnderWay place x = x ≡ needs_itself place

pub record Gives (e : Entered) (place : Place) (x : Supplied NodeRef) : Type 0 where
  pub so : GivesSo e place x

-- ---- What comes of whole runs

abbrev pub whole_of : Whole → means.Whole
whole_of w = record { content = stream_of w.content.value; messages = w.messages.items; refusal = option_map refused_of w.refusal }

-- the root came to this, after the messages that were told
abbrev pub IsFinished : Whole → List (List ℕ) → Result (Box Outcome Allocator) Memory → Type 0
IsFinished w told (Ok o) = whole_of w ≡ record { content = (outcome_of o.value).content; messages = told ++ messages_of (outcome_of o.value).content; refusal = means.refusal_of (outcome_of o.value).ending }
IsFinished w told (Err memory) = ⊥
