-- What names come to, step by step.
use Rattle.std.proofs.Common.{◌≡◌, ℕ, List, [], Option, Some, None, Result, Ok, Err, refl, sym, ap, ◌∙◌}
use Rattle.spec_document.specs.Name.{Expanded}
use Rattle.spec_meaning.specs.Program.{Program, Give, Supply, State, Gives, then}
use Rattle.spec_run.specs.Plan.{AsElement, AsAttribute}
use Rattle.spec_run.specs.Names.{element_in, attribute_in}
use Rattle.spec_node.specs.declared.node_ref.NodeRef.{NodeRef}
use Rattle.xt_questions.specs.declared.fault.EvalFault.{EvalFault}
use Rattle.xt_questions.specs.declared.fault.EvalFault.TheVariants.{Memory, Refused, Wants}
use Rattle.xt_questions.specs.Runs.{Runs, RunsSo, itself}
use Rattle.xt_questions.proofs.Steps.{runs_then, runs_stop, runs_gives}
use Rattle.xt_made_names.specs.Uri.{uri_in}

-- a value that stands for the same
pub runs_seen : {A X Y : Type 0} {v : X → A} {w : Y → A} {supply : Supply NodeRef} {depth : ℕ} {p : Program NodeRef A} {s t : State NodeRef} {x : X} {y : Y} → w y ≡ v x
    → Runs v supply depth p s t (Ok x) → Runs w supply depth p s t (Ok y)
runs_seen {t = t} e h = record { so = h.so ∙ ap (λ a. record { said = Gives a; state = t }) (sym e) }

-- an error, whatever a value would stand for
pub runs_failed : {A X Y : Type 0} {v : X → A} {w : Y → A} {supply : Supply NodeRef} {depth : ℕ} {p : Program NodeRef A} {s t : State NodeRef} {e : EvalFault}
    → Runs v supply depth p s t (Err e) → Runs w supply depth p s t (Err e)
runs_failed {v = v} {w = w} {supply = supply} {depth = depth} {p = p} {s = s} {t = t} {e = e} h = record { so = go e h.so }
  where
    go : (e : EvalFault) → RunsSo v supply depth p s t (Err e) → RunsSo w supply depth p s t (Err e)
    go (Refused c) f = f
    go (Wants c) f = f
    go Memory f = f

-- what is made of the value
pub runs_mapped : {A B : Type 0} (f : A → B) {supply : Supply NodeRef} {depth : ℕ} {p : Program NodeRef A} {s t : State NodeRef} (r : Result A EvalFault)
    → Runs itself supply depth p s t r → Runs f supply depth (then p (λ a. Give (f a))) s t r
runs_mapped f (Ok a) h = runs_then _ h (runs_gives refl)
runs_mapped f (Err e) h = runs_stop _ h

-- ---- The URIs of names, and what has them

pub element_in_is : {N : Type 0} (name : List ℕ) (expanded : Option Expanded) → then (uri_in {N = N} expanded) (λ uri. Give (AsElement name uri [])) ≡ element_in name expanded
unfolding then
element_in_is name None = refl
element_in_is name (Some expanded) = refl

pub attribute_in_is : {N : Type 0} (name : List ℕ) (expanded : Option Expanded) → then (uri_in {N = N} expanded) (λ uri. Give (AsAttribute name uri)) ≡ attribute_in name expanded
unfolding then
attribute_in_is name None = refl
attribute_in_is name (Some expanded) = refl
