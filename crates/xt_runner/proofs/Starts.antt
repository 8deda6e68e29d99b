-- What is left of instantiations that begin.
use Rattle.std.proofs.Common.{◌≡◌, ℕ, suc, ◌<◌, ◌≤◌, List, [], length, drop, Option, None, Some, Vec, Global, refl, sym, ap, ◌∙◌, subst, arith}
use Rattle.std.proofs.Common.{Bool, true, false}
use Rattle.std.specs.Prelude.{if◌then◌else◌}
use Rattle.std.specs.List.{flat_map}
use Rattle.std.specs.declared.rc.Rc.{Rc}
use Rattle.spec_document.specs.declared.axis.Axis.TheVariants as axis
use Rattle.spec_document.specs.declared.kind.Kind.{Kind}
use Rattle.spec_document.specs.declared.kind.Kind.TheVariants as kind
use Rattle.spec_document.specs.Name.{Expanded}
use Rattle.spec_expression.specs.declared.NodeType.TheVariants as type
use Rattle.spec_expression.specs.Syntax.{OfType}
use Rattle.spec_stylesheet.specs.Place as places
use Rattle.spec_stylesheet.specs.Instruction.{Instrs}
use Rattle.spec_stylesheet.specs.Sheet as sheet
use Rattle.spec_meaning.specs.Context.{Bound}
use Rattle.spec_meaning.specs.Question as question
use Rattle.spec_meaning.specs.Question.{Question, Answer, nodes_in, text_in}
use Rattle.spec_run.specs.Plan as plan
use Rattle.spec_run.specs.Plan.{Plan, End, Yield, Put, Inquire}
use Rattle.spec_run.specs.Going.{Asked, noted, put}
use Rattle.spec_run.specs.Content.{built_in, children_applied, text_put, text_item, applied_to, kind_in, Here, elements_named, sets_entered, sets_used, planned, unit_planned, global_planned, may_be_given, held, unless_given}
use Rattle.spec_run.specs.Passes.{Passes, asks, puts, stays}
use Rattle.xt_syntax.specs.PartView.{place_of}
use Rattle.spec_node.specs.Naming.{same_ref}
use Rattle.xt_base.specs.declared.place.Place.{Place}
use Rattle.spec_node.specs.declared.node_ref.NodeRef.{NodeRef}
use Rattle.xt_tree.specs.declared.value.Value.{Value}
use Rattle.xt_tree.specs.ValueView.{value_of}
use Rattle.xt_questions.specs.declared.answer.Answer as code
use Rattle.xt_questions.specs.declared.answer.Answer.TheVariants as answers
use Rattle.xt_questions.specs.declared.answer.ResolvedUnit.{ResolvedUnit}
use Rattle.xt_questions.specs.declared.context.Bindings as bindings
use Rattle.xt_questions.specs.View.{answer_of}
use Rattle.xt_progress.specs.View.{going_of}
use Rattle.xt_frames.specs.declared.frame.Application.{Application}
use Rattle.xt_frames.specs.declared.frame.Body.{Body}
use Rattle.xt_frames.specs.declared.frame.Sets.{Sets}
use Rattle.xt_frames.specs.declared.frame.Frame.{Frame}
use Rattle.xt_frames.specs.declared.frame.Frame.TheVariants as frames
use Rattle.xt_frames.specs.declared.run.Run.{Run}
use Rattle.xt_frames.specs.declared.run.Next.{Next}
use Rattle.xt_frames.specs.declared.run.Next.TheVariants.{Went, Gave}
use Rattle.xt_frames.specs.View.{here_of, rest_of, left_frame, left_over}
use Rattle.xt_frames.specs.Left.{left_in, hand, steps, Comes, Does, Pushed}
use Rattle.xt_frames.proofs.Lefts.{pushed, one_more, steps_at, passes_at, comes_after}
use Rattle.xt_frames.proofs.Performs.{goes}
use Rattle.xt_frames.proofs.Whole.{view-Empty}
use Rattle.xt_runner.specs.Start.{Begun, unless_text}

-- a question, all frames gone, and then what comes of the rest
pub begun_does : (ask : Question NodeRef → Answer NodeRef) (q : Question NodeRef) (later : Answer NodeRef → Plan NodeRef) (k : ℕ) (old mid low new : Run) (next : Next) → k ≤ 4 → going_of mid.going ≡ noted (Asked q (ask q)) (going_of old.going)
    → mid.room ≡ old.room → mid.supplies ≡ old.supplies → Begun End mid low → Does ask (later (ask q)) k low new next → Does ask (Inquire q later) (suc (length old.frames.items)) old new next
begun_does ask q later k old mid low new next le going room supplies begun does =
    let is_going = ap going_of begun.going ∙ going in
    let s = steps_at ask old low {q = later (ask q)} {r = later (ask q)} (begun.room ∙ room) (begun.supplies ∙ supplies) refl is_going in
    comes_after ask (Inquire q later) (later (ask q)) (suc (length old.frames.items)) k old low new next does (passes_at refl is_going (asks stays)) (omega (arith, s, le)) (begun.room ∙ room) (begun.supplies ∙ supplies) (λ x d l y. y)

-- a question, and then what comes of the rest
pub asks_first : (ask : Question NodeRef → Answer NodeRef) (q : Question NodeRef) (later : Answer NodeRef → Plan NodeRef) (k : ℕ) (old mid new : Run) (next : Next) → going_of mid.going ≡ noted (Asked q (ask q)) (going_of old.going)
    → mid.room ≡ old.room → mid.supplies ≡ old.supplies → Does ask (later (ask q)) k mid new next → Does ask (Inquire q later) k old new next
asks_first ask q later k old mid new next going room supplies does =
    let s = steps_at ask old mid {q = later (ask q)} {r = later (ask q)} room supplies refl going in
    comes_after ask (Inquire q later) (later (ask q)) k k old mid new next does (passes_at refl going (asks stays)) (omega (arith, s)) room supplies (λ x d l y. y)

pub nothing_does : (ask : Question NodeRef → Answer NodeRef) (p : Plan NodeRef) (k : ℕ) (low : Run) → 0 < k → p ≡ End → low.frames.items ≡ [] → Does ask p k low low Went
nothing_does ask p k low lt e none =
    let left : left_in low ≡ p = ap (λ fs. left_over fs End) none ∙ sym e in
    let s = ap (λ p. steps ask (hand low) low.room p (going_of low.going)) left in
    let n : length low.frames.items ≡ length {A = Frame} [] = ap length none in
    record { so = (passes_at left refl stays, omega (arith, s, n, lt)); room = refl; supplies = refl }

-- the first frame
pub one_left : (ask : Question NodeRef → Answer NodeRef) (p : Plan NodeRef) (f : Frame) (old new : Run) → old.frames.items ≡ [] → Pushed f old new → left_frame f End ≡ p → Does ask p 3 old new Went
one_left ask p f old new none push e =
    let left : left_in new ≡ p = pushed old new f push.frames ∙ ap (λ fs. left_frame f (left_over fs End)) none ∙ e in
    let going = ap going_of push.going in
    let n = one_more old.frames.items new.frames.items f push.frames in
    let m : length old.frames.items ≡ length {A = Frame} [] = ap length none in
    let s = steps_at ask old new push.room push.supplies left going in
    record { so = (passes_at left going stays, omega (arith, s, n, m)); room = push.room; supplies = push.supplies }

-- the first two, of which the second goes first
pub two_left : (ask : Question NodeRef → Answer NodeRef) (p : Plan NodeRef) (e f : Frame) (old mid new : Run) → old.frames.items ≡ [] → Pushed e old mid → Pushed f mid new → left_frame f (left_frame e End) ≡ p → Does ask p 3 old new Went
two_left ask p e f old mid new none first second is =
    let left : left_in new ≡ p = pushed mid new f second.frames ∙ ap (left_frame f) (pushed old mid e first.frames) ∙ ap (λ fs. left_frame f (left_frame e (left_over fs End))) none ∙ is in
    let going = ap going_of (second.going ∙ first.going) in
    let n = one_more old.frames.items mid.frames.items e first.frames in
    let m = one_more mid.frames.items new.frames.items f second.frames in
    let z : length old.frames.items ≡ length {A = Frame} [] = ap length none in
    let s = steps_at ask old new (second.room ∙ first.room) (second.supplies ∙ first.supplies) left going in
    record { so = (passes_at left going stays, omega (arith, s, n, m, z)); room = second.room ∙ first.room; supplies = second.supplies ∙ first.supplies }

-- ---- Attribute sets

-- those that a set uses, and then its own attributes
pub set_left : (used : Sets) (body : Body) (place : places.Place) (h : Here NodeRef) (names : List Expanded) (is : Instrs) → place_of used.place ≡ place → here_of used.here ≡ h → used.next ≡ 0 → used.elements.items ≡ flat_map (elements_named h.sets) names → rest_of body body.next ≡ is → here_of body.here ≡ h
    → left_frame (frames.Sets used) (left_frame (frames.Body body) End) ≡ sets_used place h names (planned is h End)
set_left used body place h names is at_place here next elements rest own = λ i. sets_entered (at_place i) (here i) (drop (next i) (elements i)) (planned (rest i) (own i) End)

-- ---- Units

-- what has no unit plans nothing
pub no_unit : (n : NodeRef) (given : List (Bound NodeRef)) (a : code.Answer) → ((u : Rc ResolvedUnit Global) → a ≡ answers.Resolved u → ⊥) → unit_planned same_ref n given (answer_of a) ≡ End
no_unit n given answers.Gone f = refl
no_unit n given (answers.Refused why) f = refl
no_unit n given (answers.Nodes ns) f = refl
no_unit n given (answers.Text t) f = refl
no_unit n given (answers.Named k name written) f = refl
no_unit n given (answers.Chosen rule) f = refl
no_unit n given (answers.Copied copy) f = refl
no_unit n given (answers.Resolved u) f = absurd (f u refl)
no_unit n given (answers.Passed t) f = refl

-- ---- Globals

-- a value is given
pub gave : {needs : Expanded → ℕ → places.Place → Type 0} (ask : Question NodeRef → Answer NodeRef) (p : Plan NodeRef) (k : ℕ) (r : Run) (v : Value) → p ≡ Yield (value_of v) → Comes needs ask p k r r (Gave v)
gave ask p k r v e = let P : Plan NodeRef → Type 0 = λ q. Passes ask (hand r) r.room q (going_of r.going) (Yield (value_of v)) (going_of r.going) in record { so = subst P (sym e) stays; room = refl; supplies = refl }

pub text_passed : (t : Option (List ℕ)) (own : Plan NodeRef) → unless_given (question.Passed t) own ≡ unless_text t own
text_passed None own = refl
text_passed (Some t) own = refl

pub no_text : (a : code.Answer) (own : Plan NodeRef) → ((t : Option (List ℕ)) → a ≡ answers.Passed t → ⊥) → unless_given (answer_of a) own ≡ own
no_text answers.Gone own f = refl
no_text (answers.Refused why) own f = refl
no_text (answers.Nodes ns) own f = refl
no_text (answers.Text t) own f = refl
no_text (answers.Named k name written) own f = refl
no_text (answers.Chosen rule) own f = refl
no_text (answers.Copied copy) own f = refl
no_text (answers.Resolved u) own f = refl
no_text (answers.Passed t) own f = absurd (f t refl)

-- by whether it may be given from outside
pub asks_outside : (g : sheet.GlobalBinding) (h : Here NodeRef) (b : Bool) → b ≡ may_be_given g → b ≡ true → Inquire (question.External g.binding.name.local) (λ a. unless_given a (held g.binding h)) ≡ global_planned g h
asks_outside g h b e t = ap (λ c. if c then Inquire (question.External g.binding.name.local) (λ a. unless_given a (held g.binding h)) else held g.binding h) (sym t ∙ e)

pub asks_nobody : (g : sheet.GlobalBinding) (h : Here NodeRef) (b : Bool) → b ≡ may_be_given g → b ≡ false → held g.binding h ≡ global_planned g h
asks_nobody g h b e f = ap (λ c. if c then Inquire (question.External g.binding.name.local) (λ a. unless_given a (held g.binding h)) else held g.binding h) (sym f ∙ e)

-- ---- Built-in rules

-- by the kind of the node
abbrev pub built_for : Option Expanded → NodeRef → Kind → Plan NodeRef
built_for mode n k = elim k [
  | kind.Root ↦ children_applied mode n
  | kind.Element ↦ children_applied mode n
  | kind.Attribute ↦ text_put n
  | kind.Text ↦ text_put n
  | kind.Namespace ↦ End
  | kind.Comment ↦ End
  | kind.Instruction ↦ End
]

pub built_in_does : (ask : Question NodeRef → Answer NodeRef) (mode : Option Expanded) (n : NodeRef) (k : Kind) (old mid low new : Run) (next : Next) → k ≡ kind_in (ask (question.Name n))
    → going_of mid.going ≡ noted (Asked (question.Name n) (ask (question.Name n))) (going_of old.going) → mid.room ≡ old.room → mid.supplies ≡ old.supplies → Begun End mid low
    → Does ask (built_for mode n k) 1 low new next → Does ask (built_in mode n) (suc (length old.frames.items)) old new next
built_in_does ask mode n k old mid low new next e going room supplies begun does =
    let q = question.Name n in
    let is_going = ap going_of begun.going ∙ going in
    let same : built_for mode n k ≡ built_for mode n (kind_in (ask q)) = ap (built_for mode n) e in
    let s = steps_at ask old low (begun.room ∙ room) (begun.supplies ∙ supplies) same is_going in
    comes_after ask (built_in mode n) (built_for mode n k) (suc (length old.frames.items)) 1 old low new next does (passes_at same is_going (asks stays)) (omega (arith, s)) (begun.room ∙ room) (begun.supplies ∙ supplies) (λ x d l y. y)

-- of a run in which no frame is left
of_none : (ask : Question NodeRef → Answer NodeRef) (p : Plan NodeRef) (old new : Run) → old.frames.items ≡ [] → Does ask p (suc (length old.frames.items)) old new Went → Does ask p 1 old new Went
of_none ask p old new none does =
    let P : List Frame → Type 0 = λ fs. Does ask p (suc (length fs)) old new Went in
    subst P none does

pub children_do : (ask : Question NodeRef → Answer NodeRef) (mode : Option Expanded) (n : NodeRef) (place : Place) (nodes : Vec NodeRef Global) (old mid new : Run)
    → let q = question.Step n axis.Child (OfType type.Node) in old.frames.items ≡ [] → mid.frames ≡ old.frames → mid.room ≡ old.room → mid.supplies ≡ old.supplies → going_of mid.going ≡ noted (Asked q (ask q)) (going_of old.going)
    → place_of place ≡ plan.nowhere → nodes.items ≡ nodes_in (ask q) → Pushed (frames.Application (record { place = place; mode = mode; parameters = bindings.Empty; nodes = nodes; next = 0; depth = 0 })) mid new → Does ask (children_applied mode n) 1 old new Went
children_do ask mode n place nodes old mid new none same_frames room supplies going is_place are push =
    let q = question.Step n axis.Child (OfType type.Node) in
    let a : Application = record { place = place; mode = mode; parameters = bindings.Empty; nodes = nodes; next = 0; depth = 0 } in
    let count = one_more mid.frames.items new.frames.items (frames.Application a) push.frames in
    let m : length mid.frames.items ≡ length old.frames.items = ap (λ (fs : Vec Frame Global). length fs.items) same_frames in
    let left : left_in new ≡ applied_to plan.nowhere mode [] 0 (nodes_in (ask q)) End =
    pushed mid new (frames.Application a) push.frames
    ∙ ap (λ (fs : Vec Frame Global). left_frame (frames.Application a) (left_over fs.items End)) same_frames
    ∙ ap (λ fs. left_frame (frames.Application a) (left_over fs End)) none
    ∙ ap (λ ps. applied_to (place_of place) mode ps 0 nodes.items End) view-Empty
    ∙ ap (λ p. applied_to p mode [] 0 nodes.items End) is_place
    ∙ ap (λ ns. applied_to plan.nowhere mode [] 0 ns End) are in
    of_none ask _ old new none (goes ask (children_applied mode n) (applied_to plan.nowhere mode [] 0 (nodes_in (ask q)) End) (noted (Asked q (ask q)) (going_of old.going)) old new left (ap going_of push.going ∙ going) (asks stays) (omega arith) (omega (arith, count, m)) (push.room ∙ room) (push.supplies ∙ supplies))

pub text_does : (ask : Question NodeRef → Answer NodeRef) (n : NodeRef) (text : List ℕ) (old mid new : Run)
    → let q = question.Text n in old.frames.items ≡ [] → new.frames ≡ old.frames → new.room ≡ old.room → new.supplies ≡ old.supplies → going_of mid.going ≡ noted (Asked q (ask q)) (going_of old.going)
    → text ≡ text_in (ask q) → going_of new.going ≡ put (text_item text) (going_of mid.going) → Does ask (text_put n) 1 old new Went
text_does ask n text old mid new none same_frames room supplies going is_text written =
    let q = question.Text n in
    let g = noted (Asked q (ask q)) (going_of old.going) in
    let m : length new.frames.items ≡ length old.frames.items = ap (λ (fs : Vec Frame Global). length fs.items) same_frames in
    let left : left_in new ≡ End = ap (λ (fs : Vec Frame Global). left_over fs.items End) same_frames ∙ ap (λ fs. left_over fs End) none in
    let is_going : going_of new.going ≡ put (text_item (text_in (ask q))) g = written ∙ ap (put (text_item text)) going ∙ ap (λ t. put (text_item t) g) is_text in
    of_none ask _ old new none (goes ask (text_put n) End (put (text_item (text_in (ask q))) g) old new left is_going (asks (puts stays)) (omega arith) (omega (arith, m)) room supplies)

pub comes_in : {needs : Expanded → ℕ → places.Place → Type 0} {t u : Question NodeRef → Answer NodeRef} {p : Plan NodeRef} {k : ℕ} {old new : Run} {next : Next} → t ≡ u → Comes needs t p k old new next → Comes needs u p k old new next
comes_in {needs = needs} {p = p} {k = k} {old = old} {new = new} {next = next} e h = let P : (Question NodeRef → Answer NodeRef) → Type 0 = λ t. Comes needs t p k old new next in subst P e h
