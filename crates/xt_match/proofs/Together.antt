-- Programs one after another, and those of which a refusal is caught.
use Rattle.std.proofs.Common.{◌≡◌, ℕ, List, Bool, false, Option, Some, None, Result, Ok, Err, refl, sym, ap, ◌∙◌}
use Rattle.spec_document.specs.Name.{Expanded}
use Rattle.spec_document.specs.declared.axis.Axis.{Axis}
use Rattle.spec_expression.specs.declared.NodeType.TheVariants as type
use Rattle.spec_expression.specs.Syntax.{OfType}
use Rattle.spec_stylesheet.specs.declared.pattern.Separator.{Separator}
use Rattle.spec_meaning.specs.Question.{Question, Answer, Step, Key, nodes_in}
use Rattle.spec_meaning.specs.Program.{Given, Supply, Saw, Program, Give, Refuse, Ask, Need, State, asked, noted, Ending, Said, Gives, Refuses, Lacks, if_given, then, run}
use Rattle.spec_transform.specs.Match.{caught, axis_above, holds_of_one, when_called}
use Rattle.spec_node.specs.declared.node_ref.NodeRef.{NodeRef}
use Rattle.xt_questions.specs.declared.fault.EvalFault.{EvalFault}
use Rattle.xt_questions.specs.declared.fault.EvalFault.TheVariants.{Memory, Refused, Wants}
use Rattle.xt_questions.specs.Runs.{Runs, RunsSo, Continues, itself}
use Rattle.xt_questions.proofs.Steps.{runs_from}

pub then_then : {N A B C : Type 0} (p : Program N A) (f : A → Program N B) (k : B → Program N C) → then (then p f) k ≡ then p (λ x. then (f x) k)
unfolding then
then_then (Give v) f k = refl
then_then (Refuse w) f k = refl
then_then (Ask q next) f k = λ i. Ask q (λ a. then_then (next a) f k i)
then_then (Need w next) f k = λ i. Need w (λ g. then_then (next g) f k i)

pub continues_as : {A : Type 0} {supply : Supply NodeRef} {depth : ℕ} {o p q : Program NodeRef A} {s t : State NodeRef} → o ≡ p → Continues supply depth o s q t → Continues supply depth p s q t
continues_as {supply = supply} {depth = depth} {s = s} e h = record { same = ap (λ p. run supply depth p s) (sym e) ∙ h.same }

-- the same program under another form
pub runs_as : {A X : Type 0} {v : X → A} {supply : Supply NodeRef} {depth : ℕ} {p q : Program NodeRef A} {s t : State NodeRef} {r : Result X EvalFault} → p ≡ q → Runs v supply depth p s t r → Runs v supply depth q s t r
runs_as {supply = supply} {depth = depth} {s = s} e h = runs_from (record { same = ap (λ p. run supply depth p s) e }) h

-- the answer is the true one, and was noted
pub asks : {A X : Type 0} {v : X → A} {supply : Supply NodeRef} {depth : ℕ} (q : Question NodeRef) (next : Answer NodeRef → Program NodeRef A) {a : Answer NodeRef} {s t u : State NodeRef} {r : Result X EvalFault}
    → a ≡ s.truth q → t ≡ asked q s → Runs v supply depth (next a) t u r → Runs v supply depth (Ask q next) s u r
asks {supply = supply} {depth = depth} q next {a = a} {s = s} h e k =
    runs_from (record { same = ap (λ st. run supply depth (next a) st) e ∙ ap (λ x. run supply depth (next x) (asked q s)) h }) k

-- a question first, and then what follows of its answer
pub ask_then : {N A B : Type 0} (q : Question N) (part : Answer N → A) (k : A → Program N B)
    → then (Ask q (λ a. Give (part a))) k ≡ Ask q (λ a. k (part a))
unfolding then
ask_then q part k = refl

-- copies of a name and a value are asked for
pub key_so : {A : Type 0} {name copied : Expanded} {value text : List ℕ} (next : Answer NodeRef → Program NodeRef A) → copied ≡ name → text ≡ value
    → Ask (Key copied text) next ≡ Ask (Key name value) next
key_so {name = name} {text = text} next e f = ap (λ n. Ask (Key n text) next) e ∙ ap (λ v. Ask (Key name v) next) f

-- what is above is asked for first
pub above_so : (before : NodeRef → Answer NodeRef → Program NodeRef Bool) (separator : Separator) (n : NodeRef) {axis : Axis} → axis ≡ axis_above separator
    → then (Ask (Step n axis (OfType type.Node)) (λ a. Give (nodes_in a))) (holds_of_one (when_called before))
    ≡ Ask (Step n (axis_above separator) (OfType type.Node)) (λ a. holds_of_one (when_called before) (nodes_in a))
above_so before separator n {axis = axis} e =
    ask_then (Step n axis (OfType type.Node)) nodes_in (holds_of_one (when_called before))
    ∙ ap (λ x. Ask (Step n x (OfType type.Node)) (λ a. holds_of_one (when_called before) (nodes_in a))) e

-- ---- What is refused is false

abbrev pub caught_said : Said Bool → Said Bool
caught_said (Gives b) = Gives b
caught_said (Refuses w) = Gives false
caught_said (Lacks w) = Lacks w

abbrev pub caught_end : {N : Type 0} → Ending N Bool → Ending N Bool
caught_end e = record { said = caught_said e.said; state = e.state }

pub run-caught : {N : Type 0} (supply : Supply N) (depth : ℕ) (p : Program N Bool) (s : State N) → run supply depth (caught p) s ≡ caught_end (run supply depth p s)
unfolding caught
run-caught supply depth (Give v) s = refl
run-caught supply depth (Refuse w) s = refl
run-caught supply depth (Ask q next) s = run-caught supply depth (next (s.truth q)) (asked q s)
run-caught {N = N} supply depth (Need w next) s = go (supply w) (λ g. run-caught supply depth (next g) (noted (Saw w depth g) s))
  where
    go : (o : Option (Given N)) → ((g : Given N) → run supply depth (caught (next g)) (noted (Saw w depth g) s) ≡ caught_end (run supply depth (next g) (noted (Saw w depth g) s)))
        → if_given (λ g. run supply depth (caught (next g)) (noted (Saw w depth g) s)) (record { said = Lacks w; state = s }) o
        ≡ caught_end (if_given (λ g. run supply depth (next g) (noted (Saw w depth g) s)) (record { said = Lacks w; state = s }) o)
    go None h = refl
    go (Some g) h = h g

-- what a call ends with where a refusal is caught
abbrev pub caught_result : Result Bool EvalFault → Result Bool EvalFault
caught_result (Ok b) = Ok b
caught_result (Err (Refused w)) = Ok false
caught_result (Err (Wants name)) = Err (Wants name)
caught_result (Err Memory) = Err Memory

pub runs_caught : {supply : Supply NodeRef} {depth : ℕ} {p : Program NodeRef Bool} {s t : State NodeRef} (r : Result Bool EvalFault)
    → Runs itself supply depth p s t r → Runs itself supply depth (caught p) s t (caught_result r)
runs_caught {supply = supply} {depth = depth} {p = p} {s = s} {t = t} r h = record { so = go r h.so }
  where
    go : (r : Result Bool EvalFault) → RunsSo itself supply depth p s t r → RunsSo itself supply depth (caught p) s t (caught_result r)
    go (Ok b) e = run-caught supply depth p s ∙ ap caught_end e
    go (Err (Refused w)) e = run-caught supply depth p s ∙ ap caught_end e
    go (Err (Wants name)) e = run-caught supply depth p s ∙ ap caught_end e
    go (Err Memory) e = e
