-- Programs of which what is refused is refused at an element.
use Rattle.std.proofs.Common.{◌≡◌, ℕ, Option, Some, None, Result, Ok, Err, refl, ap, ◌∙◌}
use Rattle.spec_stylesheet.specs.Place as places
use Rattle.spec_meaning.specs.Program.{Given, Supply, Saw, Program, Give, Refuse, Ask, Need, State, asked, noted, Said, Gives, Refuses, Lacks, Ending, if_given, run}
use Rattle.spec_transform.specs.Key.{refusal_there, refused_there}
use Rattle.xt_base.specs.declared.place.Place.{Place}
use Rattle.xt_syntax.specs.PartView.{place_of}
use Rattle.spec_node.specs.declared.node_ref.NodeRef.{NodeRef}
use Rattle.xt_questions.specs.declared.fault.EvalFault.{EvalFault}
use Rattle.xt_questions.specs.declared.fault.EvalFault.TheVariants.{Memory, Refused, Wants}
use Rattle.xt_questions.specs.declared.fault.Refusal.TheVariants.{Here, At}
use Rattle.xt_questions.specs.Runs.{Runs, RunsSo}

abbrev there_said : {A : Type 0} → places.Place → Said A → Said A
there_said place (Gives v) = Gives v
there_said place (Refuses w) = Refuses (refusal_there place w)
there_said place (Lacks w) = Lacks w

abbrev there_end : {N A : Type 0} → places.Place → Ending N A → Ending N A
there_end place e = record { said = there_said place e.said; state = e.state }

run-there : {N A : Type 0} (place : places.Place) (supply : Supply N) (depth : ℕ) (p : Program N A) (s : State N)
    → run supply depth (refused_there place p) s ≡ there_end place (run supply depth p s)
unfolding refused_there
run-there place supply depth (Give v) s = refl
run-there place supply depth (Refuse w) s = refl
run-there place supply depth (Ask q next) s = run-there place supply depth (next (s.truth q)) (asked q s)
run-there {N} {A} place supply depth (Need w next) s = go (supply w) (λ g. run-there place supply depth (next g) (noted (Saw w depth g) s))
  where
    go : (o : Option (Given N))
        → ((g : Given N) → run supply depth (refused_there place (next g)) (noted (Saw w depth g) s) ≡ there_end place (run supply depth (next g) (noted (Saw w depth g) s)))
        → if_given (λ g. run supply depth (refused_there place (next g)) (noted (Saw w depth g) s)) (record { said = Lacks w; state = s }) o
        ≡ there_end place (if_given (λ g. run supply depth (next g) (noted (Saw w depth g) s)) (record { said = Lacks w; state = s }) o)
    go None h = refl
    go (Some g) h = h g

-- what a call ends with then
abbrev pub there_result : {X : Type 0} → Place → Result X EvalFault → Result X EvalFault
there_result place (Ok x) = Ok x
there_result place (Err (Refused (Here code))) = Err (Refused (At code place))
there_result place (Err (Refused (At code other))) = Err (Refused (At code other))
there_result place (Err (Wants name)) = Err (Wants name)
there_result place (Err Memory) = Err Memory

pub runs_there : {A X : Type 0} {v : X → A} {supply : Supply NodeRef} {depth : ℕ} {p : Program NodeRef A} {s t : State NodeRef} (place : Place) (r : Result X EvalFault)
    → Runs v supply depth p s t r → Runs v supply depth (refused_there (place_of place) p) s t (there_result place r)
runs_there {A} {X} {v} {supply} {depth} {p} {s} {t} place r h = record { so = go r h.so }
  where
    there : {e : Ending NodeRef A} → run supply depth p s ≡ e → run supply depth (refused_there (place_of place) p) s ≡ there_end (place_of place) e
    there e = run-there (place_of place) supply depth p s ∙ ap (there_end (place_of place)) e

    go : (r : Result X EvalFault) → RunsSo v supply depth p s t r → RunsSo v supply depth (refused_there (place_of place) p) s t (there_result place r)
    go (Ok x) e = there e
    go (Err (Refused (Here code))) e = there e
    go (Err (Refused (At code other))) e = there e
    go (Err (Wants name)) e = there e
    go (Err Memory) e = e
