-- Where nothing is run, a question is asked again if one is marked.
use Rattle.std.proofs.Common.{◌≡◌, ◌<◌, ℕ, zero, suc, inl, inr, Bool, true, false, true≢false, None, List, [], ◌∷◌, arith, refl, sym, subst, ◌∙◌}
use Rattle.spec_meaning.specs.Question.{Question, Answer}
use Rattle.spec_node.specs.declared.node_ref.NodeRef.{NodeRef}
use Rattle.spec_run.specs.Going.{Event, Asked, Saw, Entered, Held}
use Rattle.spec_run.specs.Trail.{Kept}
use Rattle.spec_run.specs.Meaning.{Setting, run_of}
use Rattle.spec_reuse.specs.Among.{IsIn}
use Rattle.spec_cost.specs.Marking.{Mark, are_marked, by_own_reads}
use Rattle.spec_cost.specs.Paying.{IsCost, NoneMarked, NoneMarkedAmong}

unmarked_in : (marks : List Mark) (question : Question NodeRef) (answer : Answer NodeRef) → by_own_reads question ≡ false → (es : List (Event NodeRef))
    → NoneMarked marks es → IsIn (Asked question answer) es → are_marked marks question ≡ false
unmarked_in marks question answer alone [] none among = absurd among
unmarked_in marks question answer alone (e ∷ es) none (inl same) = here (subst (λ (x : Event NodeRef). NoneMarked marks (x ∷ es)) (sym same) none)
  where
    here : NoneMarked marks (Asked question answer ∷ es) → are_marked marks question ≡ false
    here h = h.0 alone
unmarked_in marks question answer alone (Asked other was ∷ es) none (inr among) = unmarked_in marks question answer alone es none.1 among
unmarked_in marks question answer alone (Saw wanted depth place supplied ∷ es) none (inr among) = unmarked_in marks question answer alone es none among
unmarked_in marks question answer alone (Entered call depth ∷ es) none (inr among) = unmarked_in marks question answer alone es none among
unmarked_in marks question answer alone (Held first contents ∷ es) none (inr among) = unmarked_in marks question answer alone es none among

none_in : (marks : List Mark) (kept : Kept NodeRef) (records : List (Kept NodeRef)) → NoneMarkedAmong marks records → IsIn kept records
    → NoneMarked marks kept.trace
none_in marks kept [] none among = absurd among
none_in marks kept (other ∷ records) none (inl same) = subst (λ (k : Kept NodeRef). NoneMarked marks k.trace) (sym same) none.0
none_in marks kept (other ∷ records) none (inr among) = none_in marks kept records none.1 among

pub marked_is_asked : (s : Setting NodeRef) (before after : List (Kept NodeRef)) (marks left : List Mark) (ran asked : ℕ) (kept : Kept NodeRef)
    (question : Question NodeRef) (answer : Answer NodeRef) → IsCost s before marks ran asked after left → (run_of s).refusal ≡ None → ran ≡ 0 → IsIn kept before
    → IsIn (Asked question answer) kept.trace → by_own_reads question ≡ false → are_marked marks question ≡ true → 0 < asked
marked_is_asked s before after marks left ran zero kept question answer cost ends free among asks alone marked =
    absurd (true≢false (sym marked ∙ unmarked_in marks question answer alone kept.trace (none_in marks kept before (cost.least ends free refl) among) asks))
marked_is_asked s before after marks left ran (suc n) kept question answer cost ends free among asks alone marked = omega arith
