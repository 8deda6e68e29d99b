-- What is left of frames that were taken off: the next of them, or nothing.
use Rattle.std.proofs.Common.{◌≡◌, ℕ, suc, ◌+◌, ◌<◌, ◌≤◌, List, length, get_or, drop, map, Option, None, Some, Vec, Global, refl, sym, ap, ◌∙◌, arith, add-one}
use Rattle.std.specs.Option.{option_map}
use Rattle.std.specs.Prelude.{slice_get}
use Rattle.std.proofs.lemmas.List.{at_drop_more, at_drop_all}
use Rattle.std.proofs.lemmas.Option.{slice_get-map, slice_get_read}
use Rattle.spec_expression.specs.declared.code.DynCode.TheVariants as code
use Rattle.spec_stylesheet.specs.Instruction.{instrs}
use Rattle.spec_meaning.specs.Question as question
use Rattle.spec_meaning.specs.Question.{Question, Answer, AllRules}
use Rattle.spec_run.specs.Plan.{Plan, End, Put, Wrap, Enter, Inquire}
use Rattle.spec_run.specs.Going.{Asked, noted, put, wrap}
use Rattle.spec_run.specs.Content.{plan, planned, at, each, applied, rule_call, item_call, nodes_copied}
use Rattle.spec_run.specs.Copy.{stream_in}
use Rattle.spec_run.specs.Passes.{asks, puts, wraps, stays}
use Rattle.xt_syntax.specs.declared.instr.Instr.{Instr}
use Rattle.xt_syntax.specs.InstrView.{instr_of}
use Rattle.xt_syntax.specs.PartView.{place_of}
use Rattle.xt_base.specs.declared.place.Place.{Place}
use Rattle.spec_node.specs.declared.node_ref.NodeRef.{NodeRef}
use Rattle.xt_questions.specs.View.{bindings_of}
use Rattle.xt_engine.specs.declared.wrapping.Wrapping.{Wrapping}
use Rattle.xt_engine.specs.View.{wrapping_of}
use Rattle.xt_progress.specs.View.{going_of}
use Rattle.xt_frames.specs.declared.frame.Body.{Body}
use Rattle.xt_frames.specs.declared.frame.Loop.{Loop}
use Rattle.xt_frames.specs.declared.frame.Application.{Application}
use Rattle.xt_frames.specs.declared.frame.Items.{Items}
use Rattle.xt_frames.specs.declared.frame.Copies.{Copies}
use Rattle.xt_frames.specs.declared.frame.Frame.{Frame}
use Rattle.xt_frames.specs.declared.frame.Frame.TheVariants as frames
use Rattle.xt_frames.specs.declared.run.Run.{Run}
use Rattle.xt_frames.specs.declared.run.Next.TheVariants.{Went, Halt}
use Rattle.xt_frames.specs.View.{here_of, inside, inside_at, items_by, following, left_frame, left_over}
use Rattle.xt_frames.specs.Left.{left_in, Does, Pushed, StepsFrom}
use Rattle.xt_frames.proofs.Lefts.{pushed, one_more}
use Rattle.xt_frames.proofs.Performs.{goes}
use Rattle.xt_frames.proofs.Frames.{does_steps}

-- the instruction of this number
pub instr_at : (is : List Instr) (n : ℕ) (x : Instr) → n < length is → x ≡ get_or is n x → slice_get (map instr_of is) n ≡ Some (instr_of x)
instr_at is n x lt is_x = slice_get-map instr_of is n ∙ ap (λ o. option_map instr_of o) (slice_get_read is (length is) n x refl lt is_x)

pub body_next : (b : Body) (x : Instr) (after : Plan NodeRef) → x ≡ get_or b.content.value.items b.next x → b.next < length b.content.value.items
    → left_frame (frames.Body b) after ≡ plan (instr_of x).site (instr_of x).form (here_of b.here) (following b after)
body_next b x after is_x lt =
    at_drop_more (λ is. planned (instrs (map instr_of is)) (here_of b.here) after) b.content.value.items b.next x lt
    ∙ ap (λ y. plan (instr_of y).site (instr_of y).form (here_of b.here) (following b after)) (sym is_x)

pub body_none : (b : Body) (after : Plan NodeRef) → length b.content.value.items ≤ b.next → left_frame (frames.Body b) after ≡ after
body_none b after le = at_drop_all (λ is. planned (instrs (map instr_of is)) (here_of b.here) after) b.content.value.items b.next le

pub loop_next : (l : Loop) (x : NodeRef) (after : Plan NodeRef) → l.next < length l.nodes.items
    → left_frame (frames.Loop l) after ≡ inside (place_of l.place) (instrs (map instr_of l.content.value.items)) (at (get_or l.nodes.items l.next x) (suc l.next) (length l.nodes.items) (here_of l.here)) (left_frame (frames.Loop (record { place = l.place; content = l.content; nodes = l.nodes; next = l.next + 1; here = l.here })) after)
loop_next l x after lt =
    let f = inside_at (place_of l.place) (instrs (map instr_of l.content.value.items)) (length l.nodes.items) (here_of l.here) in
    at_drop_more (λ ns. each f (suc l.next) ns after) l.nodes.items l.next x lt
    ∙ ap (λ n. f (get_or l.nodes.items l.next x) (suc l.next) (each f (suc n) (drop (l.next + 1) l.nodes.items) after)) (sym (add-one l.next))

pub loop_none : (l : Loop) (after : Plan NodeRef) → length l.nodes.items ≤ l.next → left_frame (frames.Loop l) after ≡ after
loop_none l after le =
    at_drop_all (λ ns. each (inside_at (place_of l.place) (instrs (map instr_of l.content.value.items)) (length l.nodes.items) (here_of l.here)) (suc l.next) ns after) l.nodes.items l.next le

-- the rule of one of the nodes is entered, once it is chosen
abbrev pub entered_then : Application → NodeRef → ℕ → Plan NodeRef → Answer NodeRef → Plan NodeRef
entered_then a n p after answer = Enter (rule_call (place_of a.place) a.mode (bindings_of a.parameters) (length a.nodes.items) n p answer) a.depth after

pub application_next : (a : Application) (x : NodeRef) (after : Plan NodeRef) → a.next < length a.nodes.items
    → left_frame (frames.Application a) after ≡ Inquire (question.Choice (get_or a.nodes.items a.next x) a.mode AllRules) (entered_then a (get_or a.nodes.items a.next x) (a.next + 1) (left_frame (frames.Application (record { place = a.place; mode = a.mode; parameters = a.parameters; nodes = a.nodes; next = a.next + 1; depth = a.depth })) after))
application_next a x after lt =
    let f = applied (place_of a.place) a.mode (bindings_of a.parameters) (length a.nodes.items) a.depth in
    at_drop_more (λ ns. each f (suc a.next) ns after) a.nodes.items a.next x lt
    ∙ ap (λ n. f (get_or a.nodes.items a.next x) n (each f (suc n) (drop (a.next + 1) a.nodes.items) after)) (sym (add-one a.next))

pub application_none : (a : Application) (after : Plan NodeRef) → length a.nodes.items ≤ a.next → left_frame (frames.Application a) after ≡ after
application_none a after le = at_drop_all (λ ns. each (applied (place_of a.place) a.mode (bindings_of a.parameters) (length a.nodes.items) a.depth) (suc a.next) ns after) a.nodes.items a.next le

-- the template of this element, if there is one, for those of these nodes that are behind so many
abbrev pub entered_by : Items → Option NodeRef → ℕ → List NodeRef → Plan NodeRef → Plan NodeRef
entered_by i element next ns after = items_by (place_of i.place) element (bindings_of i.parameters) (length i.nodes.items) i.depth next ns after

abbrev pub entered_next : Items → NodeRef → NodeRef → ℕ → Plan NodeRef → Plan NodeRef
entered_next i element n p after = Enter (item_call (place_of i.place) element (bindings_of i.parameters) (length i.nodes.items) n p) i.depth after

pub items_next : (i : Items) (element x : NodeRef) (after : Plan NodeRef) → i.element ≡ Some element → i.next < length i.nodes.items
    → left_frame (frames.Items i) after ≡ entered_next i element (get_or i.nodes.items i.next x) (i.next + 1) (left_frame (frames.Items (record { place = i.place; element = i.element; parameters = i.parameters; nodes = i.nodes; next = i.next + 1; depth = i.depth })) after)
items_next i element x after is_element lt =
    let n = get_or i.nodes.items i.next x in
    let rest = drop (i.next + 1) i.nodes.items in
    ap (λ o. entered_by i o i.next (drop i.next i.nodes.items) after) is_element
    ∙ at_drop_more (λ ns. entered_by i (Some element) i.next ns after) i.nodes.items i.next x lt
    ∙ ap (λ p. entered_next i element n p (entered_by i (Some element) p rest after)) (sym (add-one i.next))
    ∙ ap (λ o. entered_next i element n (i.next + 1) (entered_by i o (i.next + 1) rest after)) (sym is_element)

pub items_none : (i : Items) (element : NodeRef) (after : Plan NodeRef) → i.element ≡ Some element → length i.nodes.items ≤ i.next → left_frame (frames.Items i) after ≡ after
items_none i element after is_element le =
    ap (λ o. entered_by i o i.next (drop i.next i.nodes.items) after) is_element
    ∙ at_drop_all (λ ns. entered_by i (Some element) i.next ns after) i.nodes.items i.next le

-- there is no template
pub no_items : (i : Items) (after : Plan NodeRef) → i.element ≡ None → left_frame (frames.Items i) after ≡ after
no_items i after is_none = ap (λ o. entered_by i o i.next (drop i.next i.nodes.items) after) is_none

pub copies_next : (c : Copies) (x : NodeRef) (after : Plan NodeRef) → c.next < length c.nodes.items
    → left_frame (frames.Copies c) after ≡ Inquire (question.Copy (get_or c.nodes.items c.next x)) (λ a. Put (stream_in a) (left_frame (frames.Copies (record { nodes = c.nodes; next = c.next + 1 })) after))
copies_next c x after lt = at_drop_more (λ ns. nodes_copied ns after) c.nodes.items c.next x lt

pub copies_none : (c : Copies) (after : Plan NodeRef) → length c.nodes.items ≤ c.next → left_frame (frames.Copies c) after ≡ after
copies_none c after le = at_drop_all (λ ns. nodes_copied ns after) c.nodes.items c.next le

pub copied_does : (ask : Question NodeRef → Answer NodeRef) (n : NodeRef) (f : Frame) (old mid new : Run) → mid.frames ≡ old.frames → mid.room ≡ old.room → mid.supplies ≡ old.supplies
    → going_of mid.going ≡ put (stream_in (ask (question.Copy n))) (noted (Asked (question.Copy n) (ask (question.Copy n))) (going_of old.going)) → Pushed f mid new
    → Does ask (Inquire (question.Copy n) (λ a. Put (stream_in a) (left_frame f (left_in old)))) (suc (length old.frames.items)) old new Went
copied_does ask n f old mid new same_frames room supplies going push =
    let a = ask (question.Copy n) in
    let one = one_more mid.frames.items new.frames.items f push.frames in
    let m : length mid.frames.items ≡ length old.frames.items = ap (λ (fs : Vec Frame Global). length fs.items) same_frames in
    let left = pushed mid new f push.frames ∙ ap (λ (fs : Vec Frame Global). left_frame f (left_over fs.items End)) same_frames in
    goes ask _ (left_frame f (left_in old)) (put (stream_in a) (noted (Asked (question.Copy n) a) (going_of old.going))) old new left (ap going_of push.going ∙ going) (asks (puts stays)) (omega arith) (omega (arith, one, m)) (push.room ∙ room) (push.supplies ∙ supplies)

-- a sink has ended
pub wrap_does : (ask : Question NodeRef → Answer NodeRef) (how : Wrapping) (old new : Run) → new.frames ≡ old.frames → new.room ≡ old.room → new.supplies ≡ old.supplies → going_of new.going ≡ wrap (wrapping_of how) (going_of old.going)
    → StepsFrom ask (frames.Wrap how) old new Went
wrap_does ask how old new same_frames room supplies going =
    let n : length new.frames.items ≡ length old.frames.items = ap (λ (fs : Vec Frame Global). length fs.items) same_frames in
    does_steps ask _ _ old new Went (goes ask (Wrap (wrapping_of how) (left_in old)) (left_in old) (wrap (wrapping_of how) (going_of old.going)) old new (ap (λ (fs : Vec Frame Global). left_over fs.items End) same_frames) going (wraps stays) (omega arith) (omega (arith, n)) room supplies)

-- the run has ended, by a message
pub terminate_does : (ask : Question NodeRef → Answer NodeRef) (place : Place) (r : Run) → StepsFrom ask (frames.Terminate place) r r (Halt (record { code = code.Terminated; place = place }))
terminate_does ask place r = record { so = record { last = going_of r.going; passes = stays; content = refl }; room = refl; supplies = refl }
