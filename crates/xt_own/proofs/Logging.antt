-- What a choice reads in a world that logs.
use Rattle.std.proofs.Common.{◌≡◌, ℕ, List, [], Option, None, Some, Result, Ok, Err, Vec, map, sym, ap, ◌∙◌, subst}
use Rattle.std.specs.Prelude.{IfOk, IfSome}
use Rattle.std.specs.Global.{Global}
use Rattle.spec_document.specs.Forest.{Document}
use Rattle.spec_document.specs.Name.{Expanded}
use Rattle.spec_meaning.specs.Question.{Question, Candidates, Choice}
use Rattle.spec_meaning.specs.Program.{Program, Read, State, Supply, Ending, run, reads_of, with_reads}
use Rattle.spec_meaning.specs.Supplies.{Supplies, at_hand}
use Rattle.spec_meaning.proofs.Runs.{run_is}
use Rattle.spec_node.specs.declared.node_ref.NodeRef.{NodeRef}
use Rattle.spec_run.specs.Documents.{Parameters}
use Rattle.spec_transform.specs.Key.{no_globals}
use Rattle.xt_text.specs.declared.memory.Memory.{Memory}
use Rattle.xt_questions.specs.Runs.{Runs, itself}
use Rattle.xt_questions.specs.View.{read_of}
use Rattle.xt_questions.specs.declared.read.Read.{Read as CodeRead}
use Rattle.xt_questions.specs.declared.fault.EvalFault.{EvalFault}
use Rattle.xt_questions.specs.declared.fault.EvalFault.TheVariants as faults
use Rattle.xt_spared.specs.View.{Ask, Own, own_of}
use Rattle.xt_spared.specs.declared.choices.OwnChoice.{OwnChoice}
use Rattle.xt_world.specs.SourceView.{source_in}
use Rattle.xt_world.specs.View.{truth_in}
use Rattle.xt_world.specs.declared.stylesheet.Stylesheet.{Stylesheet}
use Rattle.xt_own.specs.Made.{IsMade}
use Rattle.xt_own.specs.View.{AreAsked, IsDecided, choice_made}
use Rattle.xt_own.proofs.Deciding.{decided}

abbrev pub nothing : Supplies NodeRef
nothing = record { position = 1; size = 1; rule = None; globals = [] }

abbrev kept_in : Option (List (Read NodeRef)) → List (Read NodeRef)
kept_in None = []
kept_in (Some reads) = reads

reads_so : {A : Type 0} (supply : Supply NodeRef) (depth : ℕ) (p : Program NodeRef A) (s : State NodeRef) (e : Ending NodeRef A)
    → run supply depth p s ≡ e → e.state.reads ≡ with_reads (reads_of s.truth supply depth p) s.reads
reads_so {A = A} supply depth p s e h =
    let got : Ending NodeRef A → Option (List (Read NodeRef)) = λ e. e.state.reads in sym (ap got h) ∙ ap got (run_is supply depth p s)

-- what is there after it, where there was nothing before
pub reads_are : (source : Ask) (p : Program NodeRef (Option ℕ)) (supplies : Supplies NodeRef) (old new : State NodeRef)
    (chosen : Result (Option ℕ) EvalFault) (reads : List (Read NodeRef)) → old.truth ≡ source → old.reads ≡ Some [] → supplies ≡ nothing
    → Runs itself (at_hand supplies 0) 0 p old new chosen → IsMade chosen → Some reads ≡ new.reads → reads ≡ reads_of source no_globals 0 p
reads_are source p supplies old new chosen reads true_so none given h made is = by chosen h made
  where
    same : reads_of old.truth (at_hand supplies 0) 0 p ≡ reads_of source no_globals 0 p
    same = λ i. reads_of (true_so i) (at_hand (given i) 0) 0 p

    told : new.reads ≡ with_reads (reads_of old.truth (at_hand supplies 0) 0 p) old.reads → reads ≡ reads_of source no_globals 0 p
    told e = ap kept_in (is ∙ e ∙ ap (λ (r : Option (List (Read NodeRef))). with_reads (reads_of old.truth (at_hand supplies 0) 0 p) r) none) ∙ same

    by : (chosen : Result (Option ℕ) EvalFault) → Runs itself (at_hand supplies 0) 0 p old new chosen → IsMade chosen → reads ≡ reads_of source no_globals 0 p
    by (Ok number) h made = told (reads_so (at_hand supplies 0) 0 p old _ h.so)
    by (Err (faults.Refused why)) h made = told (reads_so (at_hand supplies 0) 0 p old _ h.so)
    by (Err (faults.Wants name)) h made = told (reads_so (at_hand supplies 0) 0 p old _ h.so)
    by (Err faults.Memory) h made = absurd made

pub kept_are : (r : Result (Vec CodeRead Global) Memory) (reads : Vec CodeRead Global) (chosen : Result (Option ℕ) EvalFault) (all : List (Read NodeRef))
    → IfOk r (λ kept. (kept ≡ reads) × IsMade chosen) → (IsMade chosen → map read_of reads.items ≡ all)
    → IfOk r (λ kept. map read_of kept.items ≡ all)
kept_are (Ok kept) reads chosen all h are = ap (λ (v : Vec CodeRead Global). map read_of v.items) h.0 ∙ are h.1
kept_are (Err e) reads chosen all h are = tt

pub own_decided : (r : Result (Option OwnChoice) Memory) (s : Stylesheet) (parameters : Parameters) (document : Document ℕ) (node : NodeRef)
    (mode : Option Expanded) (candidates : Candidates) (questions : List (Question NodeRef)) (reads : List (Read NodeRef))
    → IfOk r (λ o. IfSome o (λ own. own_of own ≡ record { question = Choice node mode candidates; reads = questions })) → AreAsked questions reads
    → reads ≡ reads_of (source_in s document []) no_globals 0 (choice_made s node mode candidates)
    → IfOk r (λ o. IfSome o (λ own. IsDecided s (truth_in s parameters document) (own_of own)))
own_decided (Ok None) s parameters document node mode candidates questions reads h asked are = tt
own_decided (Ok (Some own)) s parameters document node mode candidates questions reads h asked are =
    subst (λ (o : Own). IsDecided s (truth_in s parameters document) o) (sym h)
    (decided s parameters document node mode candidates questions reads asked are)
own_decided (Err e) s parameters document node mode candidates questions reads h asked are = tt
