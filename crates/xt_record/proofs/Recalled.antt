-- What is answered from what was done in place of a call.
use Rattle.std.proofs.Common.{◌≡◌, ℕ, zero, suc, ◌<◌, Bool, true, false, Option, List, [], ◌∷◌, length, slice_index_or, Contains, ap, subst, arith}
use Rattle.std.proofs.Math.Logic.{∥∥₁_elim, ∥∥₁_map}
use Rattle.std.specs.Coded.{Coded, Coded-set, coded_bool, codes}
use Rattle.spec_meaning.specs.Question.{Answer, Question, ChosenRule, Gone, Refused, SomeNodes, SomeText, Named, Chosen, Copied, Resolved, Passed, rule_in}
use Rattle.spec_run.specs.Going.{Event, Asked}
use Rattle.spec_node.specs.declared.node_ref.NodeRef.{NodeRef}
use Rattle.xt_spared.specs.View.{Ask, IsSparedBy}
use Rattle.xt_spared.specs.declared.spared.Spared.{Spared}
use Rattle.xt_record.specs.Sure.{AsksSpared}
use Rattle.xt_record.proofs.Answered.{first_spared, others_spared}

-- ---- That an answer is a chosen rule has one proof at most

abbrev is_chosen : Answer NodeRef → Bool
is_chosen (Chosen rule) = true
is_chosen _ = false

chosen_by : (answer : Answer NodeRef) (rule : Option (ChosenRule NodeRef)) → is_chosen answer ≡ true → rule_in answer ≡ rule → answer ≡ Chosen rule
chosen_by Gone rule is same = absurd (cc)
chosen_by (Refused why) rule is same = absurd (cc)
chosen_by (SomeNodes nodes) rule is same = absurd (cc)
chosen_by (SomeText text) rule is same = absurd (cc)
chosen_by (Named kind name written) rule is same = absurd (cc)
chosen_by (Chosen other) rule is same = ap Chosen same
chosen_by (Copied stream) rule is same = absurd (cc)
chosen_by (Resolved unit) rule is same = absurd (cc)
chosen_by (Passed value) rule is same = absurd (cc)

rule_code : Coded (Option (ChosenRule NodeRef))
rule_code = hlevel codes

chosen_so : (answer : Answer NodeRef) (rule : Option (ChosenRule NodeRef)) → ∥ answer ≡ Chosen rule ∥₁ → answer ≡ Chosen rule
chosen_so answer rule is =
    chosen_by answer rule (∥∥₁_elim is (Coded-set coded_bool _ _) (λ e. ap is_chosen e)) (∥∥₁_elim is (Coded-set rule_code _ _) (λ e. ap rule_in e))

-- ---- Among what was done

module _ (ask : Ask) (spared : Spared) where
  among_spared : (es : List (Event NodeRef)) (question : Question NodeRef) (answer : Answer NodeRef) (k : ℕ) → k < length es
      → slice_index_or es k (Asked question answer) ≡ Asked question answer → AsksSpared ask spared es → IsSparedBy spared question → ask question ≡ answer
  among_spared [] question answer k lt is h by = absurd (omega arith)
  among_spared (e ∷ es) question answer zero lt is h by =
      let First : Event NodeRef → Type 0 = λ x. AsksSpared ask spared (x ∷ []) in (subst First is (first_spared ask spared e es h)).0 by
  among_spared (e ∷ es) question answer (suc k) lt is h by =
      among_spared es question answer k (omega arith) is (others_spared ask spared e es h) by

  -- a spared choice that was made there
  pub recalled_so : (es : List (Event NodeRef)) (question : Question NodeRef) (rule : Option (ChosenRule NodeRef))
      → Contains es (Asked question (Chosen rule)) → IsSparedBy spared question → ∥ AsksSpared ask spared es ∥₁ → ask question ≡ Chosen rule
  recalled_so es question rule here by sure =
      chosen_so (ask question) rule (∥∥₁_map sure (λ h. among_spared es question (Chosen rule) here.0 here.1 here.2 h by))
