-- As many instantiations are counted as there are new units and nodes among those of the run.
use Rattle.std.proofs.Common.{◌≡◌, ◌≤◌, ℕ, ◌+◌, List, [], ◌∷◌, length, refl, sym, ◌∙◌, inl, inr, arith}
use Rattle.std.specs.Prelude.{min}
use Rattle.spec_run.specs.Trail.{Kept}
use Rattle.spec_run.specs.Meaning.{Setting}
use Rattle.spec_node.specs.declared.node_ref.NodeRef.{NodeRef}
use Rattle.spec_reuse.specs.Among.{IsIn}
use Rattle.spec_reuse.specs.Instantiation.{Instantiation, instantiations}
use Rattle.spec_reuse.specs.Ledger.{HasLike}
use Rattle.spec_cost.specs.Fresh.{AreNewIn, NoneAlike}
use Rattle.spec_cost.specs.Marking.{Mark}
use Rattle.spec_cost.specs.Paying.{IsCost, KeepsRun, most_told}

pub new_is_run : (s t : Setting NodeRef) (before after : List (Kept NodeRef)) (marks left : List Mark) (ran asked : ℕ) (i : Instantiation NodeRef) → KeepsRun s before
    → (cost : IsCost t before marks ran asked after left) → IsIn i (instantiations t) → ¬ (HasLike (instantiations s) i.call) → HasLike cost.list i.call
new_is_run s t before after marks left ran asked i keeps cost among new =
    cost.counted.made i among (λ kept here unit node.
    let like = keeps.only kept here in
    new (like.0, like.1, like.2 ∙ unit, like.3 ∙ node))

-- the list without what stands at this place of it
abbrev without : (list : List (Instantiation NodeRef)) (x : Instantiation NodeRef) → IsIn x list → List (Instantiation NodeRef)
without [] x here = absurd here
without (y ∷ ys) x (inl e) = ys
without (y ∷ ys) x (inr more) = y ∷ without ys x more

one_fewer : (list : List (Instantiation NodeRef)) (x : Instantiation NodeRef) (here : IsIn x list) → length list ≡ 1 + length (without list x here)
one_fewer [] x here = absurd here
one_fewer (y ∷ ys) x (inl e) = omega arith
one_fewer (y ∷ ys) x (inr more) = let fewer = one_fewer ys x more in omega (arith, fewer)

-- another stays
stays : (list : List (Instantiation NodeRef)) (x : Instantiation NodeRef) (here : IsIn x list) (z : Instantiation NodeRef) → IsIn z list
    → (z ≡ x → ⊥) → IsIn z (without list x here)
stays [] x here z among other = absurd here
stays (y ∷ ys) x (inl e) z (inl f) other = absurd (other (f ∙ sym e))
stays (y ∷ ys) x (inl e) z (inr among) other = among
stays (y ∷ ys) x (inr more) z (inl f) other = inl f
stays (y ∷ ys) x (inr more) z (inr among) other = inr (stays ys x more z among other)

-- each of the first is like one of the second
as_many : (new list : List (Instantiation NodeRef)) → NoneAlike new → ((i : Instantiation NodeRef) → IsIn i new → HasLike list i.call)
    → length new ≤ length list
as_many [] list apart like = omega arith
as_many (i ∷ is) list apart like =
    let one = like i (inl refl) in
    let less = without list one.0 one.1 in
    let rest : length is ≤ length less = as_many is less apart.1 (λ j here.
    let its = like j (inr here) in (
      its.0,
      stays list one.0 one.1 its.0 its.1 (λ same.
          apart.0 (j, here, sym its.2 ∙ (λ k. (same k).call.target) ∙ one.2, sym its.3 ∙ (λ k. (same k).call.node) ∙ one.3)),
      its.2,
      its.3,
    )) in
    let fewer = one_fewer list one.0 one.1 in
    omega (arith, rest, fewer)

pub as_many_run : (s t : Setting NodeRef) (before after : List (Kept NodeRef)) (marks left : List Mark) (ran asked : ℕ) (new : List (Instantiation NodeRef)) → KeepsRun s before
    → IsCost t before marks ran asked after left → NoneAlike new → AreNewIn s t new → min (length new) most_told ≤ ran
as_many_run s t before after marks left ran asked new keeps cost apart are =
    let most = as_many new cost.list apart (λ i here.
    new_is_run s t before after marks left ran asked i keeps cost (are i here).0 (are i here).1) in
    let told = cost.told in
    omega (arith, most, told)
