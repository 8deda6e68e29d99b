-- What a log tells.
use Rattle.std.proofs.Common.{◌≡◌, ℕ, List, [], map, Option, Some, Result, Ok, Err, sym, ap, subst, ◌∙◌}
use Rattle.std.specs.Prelude.{Vec}
use Rattle.std.specs.Global.{Global}
use Rattle.std.specs.declared.rc.Rc.{Rc}
use Rattle.spec_document.specs.Forest.{Document}
use Rattle.spec_document.specs.Name.{Expanded}
use Rattle.spec_meaning.specs.Program as program
use Rattle.spec_meaning.specs.Program.{Ending, State, outcome_of, reads_of, with_reads}
use Rattle.spec_meaning.proofs.Runs.{run_is}
use Rattle.spec_transform.specs.Key.{no_globals}
use Rattle.spec_run.specs.Documents.{Parameters}
use Rattle.spec_node.specs.declared.node_ref.NodeRef.{NodeRef}
use Rattle.xt_match.specs.Context.{units_in}
use Rattle.xt_questions.specs.Runs.{Runs, items}
use Rattle.xt_questions.specs.View.{read_of}
use Rattle.xt_questions.specs.declared.answer.ResolvedUnit.{ResolvedUnit}
use Rattle.xt_questions.specs.declared.fault.EvalFault.{EvalFault}
use Rattle.xt_questions.specs.declared.read.Read.{Read}
use Rattle.xt_document_world.specs.View.{truth_of}
use Rattle.xt_world.specs.View.{truth_in}
use Rattle.xt_world.specs.declared.stylesheet.Stylesheet.{Stylesheet}
use Rattle.xt_spared.specs.View.{questions_of}
use Rattle.xt_own.specs.Keys.{IsNodeOf, own_questions, texts_of}
use Rattle.xt_own.specs.Logs.{IsLog, IsReadFor}
use Rattle.xt_own.specs.declared.own_node.OwnNode.{OwnNode}
use Rattle.xt_own.proofs.NodeReading.{known_node}

some_inj : {A : Type 0} {x y : A} → Some x ≡ Some y → x ≡ y
some_inj e = cc

pub log_of : (s : Stylesheet) (d : Document ℕ) (name : Expanded) (node : NodeRef) (old new : State NodeRef) (found : Result (Vec (List ℕ) Global) EvalFault) (reads : List Read)
    → Runs items no_globals 0 (texts_of (units_in s.units.items) name node) old new found → old.truth ≡ truth_of d → old.reads ≡ Some []
    → new.reads ≡ Some (map read_of reads) → IsLog s d name node found reads
log_of s d name node old new (Ok texts) reads runs truth none some =
    let p = texts_of (units_in s.units.items) name node in
    let same = sym runs.so ∙ run_is no_globals 0 p old in
    record {
      has = ap (λ t. outcome_of t no_globals p) (sym truth) ∙ sym (ap (λ (e : Ending NodeRef (List (List ℕ))). e.said) same);
      read = some_inj
          (sym some ∙ ap (λ (e : Ending NodeRef (List (List ℕ))). e.state.reads) same
          ∙ ap (λ (rs : Option (List (program.Read NodeRef))). with_reads (reads_of old.truth no_globals 0 p) rs) none)
          ∙ ap (λ t. reads_of t no_globals 0 p) truth;
    }
log_of s d name node old new (Err fault) reads runs truth none some = tt

-- the same over a slice of the units
pub log_at : (s : Stylesheet) (d : Document ℕ) (name : Expanded) (node : NodeRef) (units : List (Rc ResolvedUnit Global)) (old new : State NodeRef)
    (found : Result (Vec (List ℕ) Global) EvalFault) (reads : List Read) → units ≡ s.units.items
    → Runs items no_globals 0 (texts_of (units_in units) name node) old new found → old.truth ≡ truth_of d → old.reads ≡ Some []
    → new.reads ≡ Some (map read_of reads) → IsLog s d name node found reads
log_at s d name node units old new found reads same runs =
    let P : List (Rc ResolvedUnit Global) → Type 0 = λ us. Runs items no_globals 0 (texts_of (units_in us) name node) old new found in
    log_of s d name node old new found reads (subst P same runs)

-- the node of what was found
pub told_known : (s : Stylesheet) (p : Parameters) (d : Document ℕ) (name : Expanded) (own : OwnNode) (reads : List Read)
    → IsReadFor s d name own.node own.texts.items reads → Some (questions_of own.reads.items) ≡ own_questions own.node [] (map read_of reads)
    → IsNodeOf s (truth_in s p d) name own
told_known s p d name own reads is kept = known_node s p d name own is.has (ap (λ rs. own_questions own.node [] rs) (sym is.read) ∙ sym kept)
