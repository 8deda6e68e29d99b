-- How parameters go on, one after another.
use Rattle.std.specs.Prelude.{◌≡◌, ◌+◌, List}
use Rattle.spec_stylesheet.specs.Instruction.{Binding}
use Rattle.spec_meaning.specs.Value.{Value}
use Rattle.spec_meaning.specs.Context.{Bound}
use Rattle.spec_meaning.specs.Context as context
use Rattle.spec_run.specs.Plan.{Plan}
use Rattle.spec_run.specs.Content.{Here, is_empty, valued, unless_passed}
use Rattle.xt_syntax.specs.PartView.{place_of}
use Rattle.spec_node.specs.declared.node_ref.NodeRef.{NodeRef}
use Rattle.xt_questions.specs.View.{bindings_of}
use Rattle.xt_frames.specs.declared.frame.Application.{Application}
use Rattle.xt_frames.specs.declared.frame.Items.{Items}
use Rattle.xt_frames.specs.declared.frame.Passing.{Passing}
use Rattle.xt_frames.specs.declared.frame.Arguments.{Arguments}
use Rattle.xt_frames.specs.declared.frame.Parameters.{Parameters}
use Rattle.xt_frames.specs.declared.frame.Holder.TheVariants as holders
use Rattle.xt_frames.specs.View.{here_of, inside, passed_to, left_with}

-- what an element holds that stands here, and then
abbrev pub valued_by : Binding → Here NodeRef → (Value NodeRef → Plan NodeRef) → Plan NodeRef
valued_by b h k = valued b.site h b.select (is_empty b.content) (inside b.site.place b.content h) k

-- after the next parameter of a template
abbrev pub past_parameter : Parameters → Parameters
past_parameter p = record { bindings = p.bindings; next = p.next + 1; given = p.given; content = p.content; here = p.here }

pub record IsPastParameter (p q : Parameters) : Type 0 where
  pub bindings : q.bindings.value ≡ p.bindings.value
  pub next : q.next ≡ p.next + 1
  pub given : bindings_of q.given ≡ bindings_of p.given
  pub content : q.content.value ≡ p.content.value
  pub here : here_of q.here ≡ here_of p.here

-- once the parameter of this name has a value
abbrev pub with_parameter : Binding → Parameters → Plan NodeRef → Value NodeRef → Plan NodeRef
with_parameter b p after v = left_with (holders.Parameter b.name (past_parameter p)) v after

-- the next parameter of a template: what was passed, or its default
abbrev pub parameter_planned : Binding → Parameters → Plan NodeRef → Plan NodeRef
parameter_planned b p after =
    unless_passed (context.binding_of b.name (bindings_of p.given)) (valued_by b (here_of p.here) (with_parameter b p after)) (with_parameter b p after)

-- the same application, but for what is passed
pub record SameApplication (a b : Application) : Type 0 where
  pub place : place_of b.place ≡ place_of a.place
  pub mode : b.mode ≡ a.mode
  pub nodes : b.nodes.items ≡ a.nodes.items
  pub next : b.next ≡ a.next
  pub depth : b.depth ≡ a.depth

-- the same items, but for what is passed
pub record SameItems (a b : Items) : Type 0 where
  pub place : place_of b.place ≡ place_of a.place
  pub element : b.element ≡ a.element
  pub nodes : b.nodes.items ≡ a.nodes.items
  pub next : b.next ≡ a.next
  pub depth : b.depth ≡ a.depth

pub record SamePassing (p q : Passing) : Type 0 where
  pub same : (parameters : List (Bound NodeRef)) (after : Plan NodeRef) → passed_to q parameters after ≡ passed_to p parameters after

-- after what is passed next
abbrev pub past_argument : Arguments → Arguments
past_argument a = record { bindings = a.bindings; next = a.next + 1; done = a.done; here = a.here; to = a.to }

pub record IsPastArgument (a b : Arguments) : Type 0 where
  pub bindings : b.bindings.value ≡ a.bindings.value
  pub next : b.next ≡ a.next + 1
  pub done : bindings_of b.done ≡ bindings_of a.done
  pub here : here_of b.here ≡ here_of a.here
  pub to : SamePassing a.to b.to

abbrev pub with_argument : Binding → Arguments → Plan NodeRef → Value NodeRef → Plan NodeRef
with_argument b a after v = left_with (holders.Argument b.name (past_argument a)) v after

-- what is passed next
abbrev pub argument_planned : Binding → Arguments → Plan NodeRef → Plan NodeRef
argument_planned b a after = valued_by b (here_of a.here) (with_argument b a after)
