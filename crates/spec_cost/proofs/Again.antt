-- Where all that a run enters is kept, nothing of it is run again.
use Rattle.std.proofs.Common.{◌≡◌, ℕ, List, [], ◌∷◌, refl, inl, inr, arith}
use Rattle.std.specs.Prelude.{length}
use Rattle.spec_run.specs.Trail.{Kept}
use Rattle.spec_run.specs.Meaning.{Setting}
use Rattle.spec_node.specs.declared.node_ref.NodeRef.{NodeRef}
use Rattle.spec_reuse.specs.Among.{IsIn, AreSomeOf, no_more, taken, left_out}
use Rattle.spec_reuse.specs.Instantiation.{Instantiation, instantiations}
use Rattle.spec_reuse.specs.Ledger.{AllEnd, IsFound}
use Rattle.spec_cost.specs.Marking.{Mark}
use Rattle.spec_cost.specs.Paying.{IsCost, KeepsRun}

is_in_all : {A : Type 0} (x : A) {xs ys : List A} → AreSomeOf xs ys → IsIn x xs → IsIn x ys
is_in_all x no_more among = absurd among
is_in_all x (taken more) (inl e) = inl e
is_in_all x (taken more) (inr among) = inr (is_in_all x more among)
is_in_all x (left_out more) among = inr (is_in_all x more among)

none_new : (s : Setting NodeRef) (before : List (Kept NodeRef)) (list : List (Instantiation NodeRef)) → KeepsRun s before → AllEnd s (instantiations s)
    → AreSomeOf list (instantiations s) → ((i : Instantiation NodeRef) → IsIn i list → ¬ (IsFound s before i)) → length list ≡ 0
none_new s before [] keeps ends some new = refl
none_new s before (i ∷ is) keeps ends some new =
    let among = is_in_all i some (inl refl) in absurd (new i (inl refl) (keeps.all i among (ends i among)))

pub none_again : (s : Setting NodeRef) (before after : List (Kept NodeRef)) (marks left : List Mark) (ran asked : ℕ) → KeepsRun s before → AllEnd s (instantiations s)
    → IsCost s before marks ran asked after left → ran ≡ 0
none_again s before after marks left ran asked keeps ends cost =
    let none = none_new s before cost.list keeps ends cost.counted.of_run cost.counted.new in
    let told = cost.told in
    omega (arith, none, told)
