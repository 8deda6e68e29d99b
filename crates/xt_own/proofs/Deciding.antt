-- That a choice is decided by the questions that were asked for it.
use Rattle.std.proofs.Common.{◌≡◌, ℕ, List, [], ◌∷◌, Option, None, Some, true, refl, ap, ◌∙◌, subst}
use Rattle.spec_document.specs.Forest.{Document}
use Rattle.spec_document.specs.Name.{Expanded}
use Rattle.spec_document.specs.Order.{Entry, entries_of}
use Rattle.spec_document.specs.Place.{kind_of, expanded_name, written_name}
use Rattle.spec_meaning.specs.Question.{Question, Answer, Candidates, Named, Step, Text, Name, Place, Order, Key, Choice, Copy, Unit as UnitOf, External}
use Rattle.spec_meaning.specs.Program.{Wanted, Given, Program, Give, Refuse, Ask as Asks, Need, Read, Asked, Saw, Lacks, Supply, if_given, outcome_of, reads_of}
use Rattle.spec_meaning.specs.Truth.{entry_named, told_of}
use Rattle.spec_node.specs.Naming.{ref_of, same_ref}
use Rattle.spec_node.specs.declared.node_ref.NodeRef.{NodeRef}
use Rattle.spec_run.specs.Documents.{Parameters}
use Rattle.spec_transform.specs.Key.{no_globals}
use Rattle.xt_spared.specs.View.{Ask}
use Rattle.xt_world.specs.SourceView.{source_in}
use Rattle.xt_world.specs.View.{rule_held, truth_in}
use Rattle.xt_world.specs.declared.stylesheet.Stylesheet.{Stylesheet}
use Rattle.xt_own.specs.View.{AgreeOnReads, AreAsked, AreOfSource, IsDecided, choice_made, is_of_source}

-- where what is needed is given
need_alike : {A : Type 0} (other was : Ask) (supply : Supply NodeRef) (depth : ℕ) (w : Wanted) (next : Given NodeRef → Program NodeRef A)
    → ((g : Given NodeRef) → AgreeOnReads other was (reads_of was supply depth (next g)) → outcome_of other supply (next g) ≡ outcome_of was supply (next g))
    → (given : Option (Given NodeRef))
    → AgreeOnReads other was (if_given (λ g. Saw w depth g ∷ reads_of was supply depth (next g)) [] given)
    → if_given (λ g. outcome_of other supply (next g)) (Lacks w) given ≡ if_given (λ g. outcome_of was supply (next g)) (Lacks w) given
need_alike other was supply depth w next later None h = refl
need_alike other was supply depth w next later (Some g) h = later g h

-- a program ends alike in two worlds that answer alike what it asks
ends_alike : {A : Type 0} (other was : Ask) (supply : Supply NodeRef) (depth : ℕ) (p : Program NodeRef A)
    → AgreeOnReads other was (reads_of was supply depth p) → outcome_of other supply p ≡ outcome_of was supply p
ends_alike other was supply depth (Give v) h = refl
ends_alike other was supply depth (Refuse w) h = refl
ends_alike other was supply depth (Asks q next) h =
    ap (λ a. outcome_of other supply (next a)) h.0 ∙ ends_alike other was supply depth (next (was q)) h.1
ends_alike other was supply depth (Need w next) h =
    need_alike other was supply depth w next (λ g. ends_alike other was supply depth (next g)) (supply w) h

-- what the source answers, it answers itself
same_at : (s : Stylesheet) (one other : Parameters) (before after : Document ℕ) (q : Question NodeRef) → is_of_source q ≡ true
    → truth_in s other after q ≡ truth_in s one before q → source_in s after [] q ≡ source_in s before [] q
same_at s one other before after (Step node axis test) h e = e
same_at s one other before after (Text node) h e = e
same_at s one other before after (Name node) h e = e
same_at s one other before after (Place node) h e = e
same_at s one other before after (Order nodes) h e = e
same_at s one other before after (Key name value) h e = e
same_at s one other before after (Choice node mode candidates) h e = absurd (cc)
same_at s one other before after (Copy node) h e = absurd (cc)
same_at s one other before after (UnitOf element) h e = absurd (cc)
same_at s one other before after (External name) h e = absurd (cc)

at_source : (s : Stylesheet) (one other : Parameters) (before after : Document ℕ) (reads : List (Read NodeRef)) → AreOfSource reads
    → AgreeOnReads (truth_in s other after) (truth_in s one before) reads → AgreeOnReads (source_in s after []) (source_in s before []) reads
at_source s one other before after [] are h = tt
at_source s one other before after (Asked q a ∷ reads) are h =
    (same_at s one other before after q are.0 h.0, at_source s one other before after reads are.1 h.1)
at_source s one other before after (Saw w depth g ∷ reads) are h = at_source s one other before after reads are h

-- a node is there in both or in neither, since it is called alike
there_alike : (before after : Option (Entry ℕ)) (was now : Answer NodeRef)
    → told_of {L = ℕ} {K = NodeRef} (λ (e : Entry ℕ). Named (kind_of e.item) (expanded_name e.item) (written_name e.item)) after
    ≡ told_of {L = ℕ} {K = NodeRef} (λ (e : Entry ℕ). Named (kind_of e.item) (expanded_name e.item) (written_name e.item)) before
    → now ≡ was → told_of {L = ℕ} {K = NodeRef} (λ (e : Entry ℕ). now) after ≡ told_of {L = ℕ} {K = NodeRef} (λ (e : Entry ℕ). was) before
there_alike None None was now h e = refl
there_alike (Some x) (Some y) was now h e = e
there_alike None (Some y) was now h e = absurd (cc)
there_alike (Some x) None was now h e = absurd (cc)

-- a choice with the questions that were asked where it was made once more
pub decided : (s : Stylesheet) (parameters : Parameters) (document : Document ℕ) (node : NodeRef) (mode : Option Expanded) (candidates : Candidates)
    (questions : List (Question NodeRef)) (reads : List (Read NodeRef)) → AreAsked questions reads
    → reads ≡ reads_of (source_in s document []) no_globals 0 (choice_made s node mode candidates)
    → IsDecided s (truth_in s parameters document) (record { question = Choice node mode candidates; reads = questions })
decided s parameters document node mode candidates questions reads asked are = λ other after h.
    let was = source_in s document [] in
    let now = source_in s after [] in
    let choice = choice_made s node mode candidates in
    let on_reads = at_source s parameters other document after reads asked.of_source
    (asked.all (truth_in s other after) (truth_in s parameters document) h) in
    let agree = subst (λ (rs : List (Read NodeRef)). AgreeOnReads now was rs) are on_reads in
    there_alike (entry_named ref_of same_ref (entries_of document) node) (entry_named ref_of same_ref (entries_of after) node)
    (rule_held s (outcome_of was no_globals choice)) (rule_held s (outcome_of now no_globals choice)) agree.0
    (ap (rule_held s) (ends_alike now was no_globals 0 choice agree))
