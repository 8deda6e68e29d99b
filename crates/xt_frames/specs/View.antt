-- Where instructions stand, and the plans that frames are.
use Rattle.std.specs.Prelude.{ℕ, suc, ◌+◌, List, [], ◌∷◌, ◌++◌, map, drop, length, slice_get, Option, None, Some}
use Rattle.spec_stylesheet.specs.Place.{Place, Site}
use Rattle.spec_stylesheet.specs.Instruction as made
use Rattle.spec_stylesheet.specs.Instruction.{Form, with_content, Instrs, Instr, instrs, branches, bindings}
use Rattle.spec_stylesheet.specs.Sheet as sheet
use Rattle.spec_meaning.specs.Stream.{filled, Ended}
use Rattle.spec_meaning.specs.Value as value
use Rattle.spec_meaning.specs.Value.{Value}
use Rattle.spec_meaning.specs.Context.{Bound}
use Rattle.spec_run.specs.Plan as plan
use Rattle.spec_transform.specs.Sorted as sorts
use Rattle.spec_transform.specs.Sorted.{nodes_in_order}
use Rattle.spec_run.specs.Plan.{Call, Plan, End, Stop, Inquire, Put, Wrap, Take, Deep, Enter}
use Rattle.spec_run.specs.Content.{Here, deeper, at, with_variable, each, applied, applied_to, item_call, items_entered, sets_entered, criteria_asked, keys_asked, rows_asked, sorted, nodes_copied, attributes_put, terminated, planned, passed, planned_branches, with_parameters, held, plan_of}
use Rattle.xt_syntax.specs.PartView.{place_of, sort_key_of}
use Rattle.xt_syntax.specs.InstrView.{instr_of, branch_of, binding_of}
use Rattle.xt_syntax.specs.SheetView.{alias_of, declared_of}
use Rattle.spec_node.specs.Naming.{same_ref}
use Rattle.spec_node.specs.declared.node_ref.NodeRef.{NodeRef}
use Rattle.xt_questions.specs.View.{bindings_of, template_of, sets_of}
use Rattle.xt_engine.specs.declared.call.Target.{Target}
use Rattle.xt_engine.specs.View.{target_of, call_of, wrapping_of}
use Rattle.xt_sort.specs.View.{criterion_of, key_of, row_of}
use Rattle.xt_frames.specs.declared.standing.Standing.{Standing}
use Rattle.xt_frames.specs.declared.frame.Body.{Body}
use Rattle.xt_frames.specs.declared.frame.Application.{Application}
use Rattle.xt_frames.specs.declared.frame.Items.{Items}
use Rattle.xt_frames.specs.declared.frame.Ordered.{Ordered}
use Rattle.xt_frames.specs.declared.frame.Ordered.TheVariants as ordereds
use Rattle.xt_frames.specs.declared.frame.Sorting.{Sorting}
use Rattle.xt_frames.specs.declared.frame.Passing.{Passing}
use Rattle.xt_frames.specs.declared.frame.Passing.TheVariants as passings
use Rattle.xt_frames.specs.declared.frame.Arguments.{Arguments}
use Rattle.xt_frames.specs.declared.frame.Parameters.{Parameters}
use Rattle.xt_frames.specs.declared.frame.Holder.{Holder}
use Rattle.xt_frames.specs.declared.frame.Holder.TheVariants as holders
use Rattle.xt_frames.specs.declared.frame.Frame.{Frame}
use Rattle.xt_frames.specs.declared.frame.Frame.TheVariants as frames

abbrev pub here_of : Standing → Here NodeRef
here_of s = record {
  node = s.focus.node;
  position = s.focus.position;
  size = s.focus.size;
  bindings = bindings_of s.bindings;
  depth = s.depth;
  ruled = s.ruled;
  templates = map template_of s.unit.value.templates.items;
  sets = map sets_of s.unit.value.sets.items;
  aliases = map alias_of s.unit.value.aliases.value.items;
  same = same_ref;
}

-- a content of this element, one level deeper
abbrev pub inside : Place → Instrs → Here NodeRef → Plan NodeRef → Plan NodeRef
inside place is h after = Deep (suc h.depth) place (planned is (deeper h) after)

-- the same for one of so many nodes
abbrev pub inside_at : Place → Instrs → (size : ℕ) → Here NodeRef → NodeRef → ℕ → Plan NodeRef → Plan NodeRef
inside_at place is size h n p more = inside place is (at n p size h) more

-- what is left of a body, from this instruction on
abbrev pub rest_of : Body → ℕ → Instrs
rest_of b i = instrs (map instr_of (drop i b.content.value.items))

-- what comes after the next instruction of a body, where the rest of the body stands here
abbrev pub following : Body → Plan NodeRef → Here NodeRef → Plan NodeRef
following b after h = planned (rest_of b (b.next + 1)) h after

-- where it stands where the body does
abbrev pub after_body : Body → Plan NodeRef → Plan NodeRef
after_body b after = planned (rest_of b (b.next + 1)) (here_of b.here) after

-- of a literal result element, the attributes from this one on and then its content; of another instruction nothing
abbrev pub attributes_left : Here NodeRef → ℕ → Site → Form → Plan NodeRef → Plan NodeRef
attributes_left h next site (with_content (made.Literal tag) is) after = attributes_put site h (drop next tag.attributes) (inside site.place is h after)
attributes_left h next site _ after = after

abbrev pub attributes_left_of : Here NodeRef → ℕ → Option Instr → Plan NodeRef → Plan NodeRef
attributes_left_of h next None after = after
attributes_left_of h next (Some i) after = attributes_left h next i.site i.form after

-- ---- Variables and parameters

-- template rules with these parameters, for the nodes that are left
abbrev pub application_left : Application → List (Bound NodeRef) → Plan NodeRef → Plan NodeRef
application_left a parameters after =
    each (applied (place_of a.place) a.mode parameters (length a.nodes.items) a.depth) (suc a.next) (drop a.next a.nodes.items) after

-- the template of a content, if there is one, with these parameters, for the nodes that are left
abbrev pub items_by : Place → Option NodeRef → List (Bound NodeRef) → (size depth next : ℕ) → List NodeRef → Plan NodeRef → Plan NodeRef
items_by by None parameters size depth next ns after = after
items_by by (Some element) parameters size depth next ns after = each (λ n p more. Enter (item_call by element parameters size n p) depth more) (suc next) ns after

abbrev pub items_left : Items → List (Bound NodeRef) → Plan NodeRef → Plan NodeRef
items_left i parameters after = items_by (place_of i.place) i.element parameters (length i.nodes.items) i.depth i.next (drop i.next i.nodes.items) after

-- ---- Sorting

-- what nodes are sorted for, with these in their order
abbrev pub ordered_left : Ordered → List NodeRef → Plan NodeRef → Plan NodeRef
ordered_left (ordereds.Loop l) ns after =
    each (inside_at (place_of l.place) (instrs (map instr_of l.content.value.items)) (length ns) (here_of l.here)) 1 ns after
ordered_left (ordereds.Rules a) ns after = applied_to (place_of a.place) a.mode (bindings_of a.parameters) a.depth ns after
ordered_left (ordereds.Items i) ns after = items_entered (place_of i.place) i.element (bindings_of i.parameters) i.depth ns after

abbrev pub keys_in : Sorting → List made.SortKey
keys_in s = map sort_key_of s.keys.value.items

-- the rows of all nodes, of which these are left: of the first of them some keys may be there
abbrev pub rows_left : Sorting → List sorts.Criterion → List NodeRef → (List (sorts.Row NodeRef) → Plan NodeRef) → Plan NodeRef
rows_left s criteria [] k = k (map row_of s.rows.items)
rows_left s criteria (n ∷ ns) k =
    let size = length s.nodes.items in
    let position = suc (length s.rows.items) in
    let asked = length s.values.items in
    keys_asked (drop asked (keys_in s)) (drop asked criteria) (at n position size (here_of s.here)) (map key_of s.values.items)
    (λ vs. rows_asked (keys_in s) criteria size (here_of s.here) (suc position) ns (map row_of s.rows.items ++ sorts.row n vs ∷ []) k)

abbrev pub sorting_left : Sorting → Plan NodeRef → Plan NodeRef
sorting_left s after =
    criteria_asked (drop (length s.criteria.items) (keys_in s)) (here_of s.here) (map criterion_of s.criteria.items) (λ criteria.
    rows_left s criteria (drop (length s.rows.items) s.nodes.items) (λ rows. Put Ended (ordered_left s.to (nodes_in_order criteria rows) after)))

abbrev pub with_passed : List (Bound NodeRef) → Call NodeRef → Call NodeRef
with_passed parameters c =
    record { target = c.target; node = c.node; parameters = parameters; position = c.position; size = c.size; ruling = c.ruling; by = c.by }

-- what parameters are passed to
abbrev pub passed_to : Passing → List (Bound NodeRef) → Plan NodeRef → Plan NodeRef
passed_to (passings.Rules a) parameters after = application_left a parameters after
passed_to (passings.Sorted keys here a) parameters after =
    sorted (map sort_key_of keys.value.items) (here_of here) a.nodes.items (λ ns. applied_to (place_of a.place) a.mode parameters a.depth ns after)
passed_to (passings.Items keys here i) parameters after =
    sorted (map sort_key_of keys.value.items) (here_of here) i.nodes.items (λ ns. items_entered (place_of i.place) i.element parameters i.depth ns after)
passed_to (passings.Template call depth) parameters after = Enter (with_passed parameters (call_of call)) depth after

-- after so much is passed
abbrev pub arguments_left : Arguments → List (Bound NodeRef) → Plan NodeRef → Plan NodeRef
arguments_left a done after =
    passed (bindings (map binding_of (drop a.next a.bindings.value.items))) (here_of a.here) done (λ parameters. passed_to a.to parameters after)

-- of a template that stands here
abbrev pub parameters_left : Parameters → Here NodeRef → Plan NodeRef → Plan NodeRef
parameters_left p h after =
    with_parameters (bindings (map binding_of (drop p.next p.bindings.value.items))) (bindings_of p.given) h
    (λ here. planned (instrs (map instr_of p.content.value.items)) here after)

-- what is left once this value is held
abbrev pub left_with : Holder → Value NodeRef → Plan NodeRef → Plan NodeRef
left_with (holders.Variable name b) v after = planned (rest_of b b.next) (with_variable name v (here_of b.here)) after
left_with (holders.Argument name a) v after = arguments_left a (record { name = name; value = v } ∷ bindings_of a.done) after
left_with (holders.Parameter name p) v after = parameters_left p (with_variable name v (here_of p.here)) after

-- of a global what it says itself that it holds
abbrev pub global_left : sheet.Declared → Here NodeRef → Plan NodeRef
global_left (sheet.AGlobal g) h = held g.binding h
global_left _ h = End

-- all of an instantiation that enters this for a node
abbrev pub start_planned : Target → NodeRef → List (Bound NodeRef) → Plan NodeRef
start_planned target node parameters =
    plan_of same_ref (record { target = target_of target; node = node; parameters = parameters; position = None; size = None; ruling = plan.SameRule; by = plan.nowhere })

-- what is left of a frame, before what is left around it
abbrev pub left_frame : Frame → Plan NodeRef → Plan NodeRef
left_frame (frames.Start target node parameters) after = start_planned target node (bindings_of parameters)
left_frame (frames.Body b) after = planned (rest_of b b.next) (here_of b.here) after
left_frame (frames.Sets s) after = sets_entered (place_of s.place) (here_of s.here) (drop s.next s.elements.items) after
left_frame (frames.Inside i) after = inside (place_of i.place) (instrs (map instr_of i.content.value.items)) (here_of i.here) after
left_frame (frames.Sorting s) after = sorting_left s after
left_frame (frames.Attributes a) after = attributes_left_of (here_of a.here) a.next (slice_get (map instr_of a.content.value.items) a.number) after
left_frame (frames.Branches b) after = planned_branches (branches (map branch_of (drop b.next b.branches.value.items))) (here_of b.here) after
left_frame (frames.Loop l) after =
    each (inside_at (place_of l.place) (instrs (map instr_of l.content.value.items)) (length l.nodes.items) (here_of l.here)) (suc l.next) (drop l.next l.nodes.items) after
left_frame (frames.Application a) after = application_left a (bindings_of a.parameters) after
left_frame (frames.Items i) after = items_left i (bindings_of i.parameters) after
left_frame (frames.Arguments a) after = arguments_left a (bindings_of a.done) after
left_frame (frames.Parameters p) after = parameters_left p (here_of p.here) after
left_frame (frames.Global s) after = global_left (declared_of s.unit.value.unit.value.declared) (here_of s)
left_frame (frames.Copies c) after = nodes_copied (drop c.next c.nodes.items) after
left_frame (frames.Wrap how) after = Wrap (wrapping_of how) after
left_frame (frames.Take holder) after = Take (λ s. left_with holder (value.Fragment (filled s [])) after)
left_frame (frames.Terminate place) after = Stop (terminated (place_of place))

-- the outermost first
abbrev pub left_over : List Frame → Plan NodeRef → Plan NodeRef
left_over [] after = after
left_over (f ∷ fs) after = left_over fs (left_frame f after)
