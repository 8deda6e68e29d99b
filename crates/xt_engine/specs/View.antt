-- What calls, events, wrappings and globals of the program stand for.
use Rattle.std.specs.Prelude.{map}
use Rattle.std.specs.Option.{option_map}
use Rattle.spec_stylesheet.specs.Place.{Place}
use Rattle.spec_run.specs.Plan as plain
use Rattle.spec_run.specs.Direct.{Known}
use Rattle.spec_run.specs.Going as going
use Rattle.spec_run.specs.Meaning as meant
use Rattle.xt_syntax.specs.PartView.{place_of}
use Rattle.xt_names.specs.View.{entry_of}
use Rattle.spec_node.specs.declared.node_ref.NodeRef.{NodeRef}
use Rattle.xt_tree.specs.StreamView.{streams_of}
use Rattle.xt_questions.specs.View.{question_of, answer_of, wanted_of, given_of, bindings_of, current_of}
use Rattle.xt_engine.specs.declared.call.Refused.{Refused}
use Rattle.xt_engine.specs.declared.call.Target.{Target}
use Rattle.xt_engine.specs.declared.call.Target.TheVariants as targets
use Rattle.xt_engine.specs.declared.call.Ruling.{Ruling}
use Rattle.xt_engine.specs.declared.call.Ruling.TheVariants as rulings
use Rattle.xt_engine.specs.declared.call.Call.{Call}
use Rattle.xt_engine.specs.declared.event.Event.{Event}
use Rattle.xt_engine.specs.declared.event.Event.TheVariants as events
use Rattle.xt_engine.specs.declared.global.NamedGlobal.{NamedGlobal}
use Rattle.xt_engine.specs.declared.wrapping.Wrapping.{Wrapping}
use Rattle.xt_engine.specs.declared.wrapping.Wrapping.TheVariants as wrappings

abbrev pub refused_of : Refused → plain.Refused
refused_of r = record { code = r.code; place = place_of r.place }

abbrev pub target_of : Target → plain.Target NodeRef
target_of (targets.Unit element) = plain.UnitOf element
target_of (targets.BuiltIn mode) = plain.BuiltIn mode

abbrev pub ruling_of : Ruling → plain.Ruling
ruling_of rulings.Same = plain.SameRule
ruling_of (rulings.Is rule) = plain.RuleIs (option_map current_of rule)

abbrev pub call_of : Call → plain.Call NodeRef
call_of c = record {
  target = target_of c.target;
  node = c.node;
  parameters = bindings_of c.parameters;
  position = c.position;
  size = c.size;
  ruling = ruling_of c.ruling;
  by = place_of c.by;
}

abbrev pub event_of : Event → going.Event NodeRef
event_of (events.Asked question answer) = going.Asked (question_of question) (answer_of answer)
event_of (events.Saw wanted depth place given) = going.Saw (wanted_of wanted) depth (place_of place.value) (Known (given_of given))
event_of (events.Entered call depth) = going.Entered (call_of call.value) depth
event_of (events.Held first contents) = going.Held first (streams_of contents.items)

abbrev pub wrapping_of : Wrapping → plain.Wrapping
wrapping_of (wrappings.Element name uri namespaces) = plain.AsElement name uri (map entry_of namespaces.items)
wrapping_of wrappings.Nameless = plain.AsNameless
wrapping_of (wrappings.Attribute name uri) = plain.AsAttribute name uri
wrapping_of wrappings.Comment = plain.AsComment
wrapping_of (wrappings.Instruction target) = plain.AsInstruction target
wrapping_of wrappings.Message = plain.AsMessage

abbrev pub named_of : NamedGlobal → meant.NamedGlobal NodeRef
named_of g = record { name = g.name; element = g.element }
