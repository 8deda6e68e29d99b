-- What is among elements.
use Rattle.std.proofs.Common.{◌≡◌, ℕ, ◌+◌, ◌<◌, ◌≤◌, Bool, true, false, cond, List, [], ◌∷◌, ◌++◌, length, get_or, drop, map, refl, sym, ap, ◌∙◌, append_assoc, append-nil}
use Rattle.std.specs.Prelude.{◌||◌}
use Rattle.std.specs.List.{list_any}
use Rattle.std.proofs.lemmas.List.{at_drop_all, at_drop_more}
use Rattle.std.proofs.lemmas.List.Folds.{list_any-append}
use Rattle.spec_node.specs.declared.node_ref.NodeRef.{NodeRef}
use Rattle.spec_node.specs.Naming.{same_ref}
use Rattle.spec_touch.specs.Marks.{is_unit_among}
use Rattle.xt_touch.specs.Sameness.{same_refs}
use Rattle.xt_touch.specs.Sets.{AreSameElements}
use Rattle.xt_touch.specs.declared.elements.ElementKey.{ElementKey}

abbrev pub named : List ElementKey → List NodeRef
named keys = map (λ key. key.element) keys

-- keys are found as the elements are
pub among_keys : (keys : List ElementKey) (e : NodeRef) → list_any (λ k. same_ref e k.element) keys ≡ is_unit_among (named keys) e
among_keys [] e = refl
among_keys (k ∷ ks) e = ap (λ b. same_ref e k.element || b) (among_keys ks e)

among_append : (xs ys : List NodeRef) (e : NodeRef) → is_unit_among (xs ++ ys) e ≡ (is_unit_among xs e || is_unit_among ys e)
among_append xs ys e = list_any-append (same_ref e) xs ys

either : (b a : Bool) → cond b true a ≡ (a || (b || false))
either true true = refl
either true false = refl
either false true = refl
either false false = refl

-- a key that is put among others is one more element
pub key_added : (was now : List ElementKey) (e : NodeRef)
    → ((q : ElementKey) → list_any (λ k. same_ref q.element k.element) now
    ≡ cond (same_ref e q.element) true (list_any (λ k. same_ref q.element k.element) was))
    → AreSameElements (named now) (named was ++ e ∷ [])
key_added was now e put s =
    sym (among_keys now s) ∙ put (record { element = s }) ∙ either (same_ref e s) (list_any (λ k. same_ref s k.element) was)
    ∙ (λ i. among_keys was s i || (same_refs.symm e s i || false)) ∙ sym (among_append (named was) (e ∷ []) s)

-- more behind both
behind_both : (xs ys zs : List NodeRef) → AreSameElements xs ys → AreSameElements (xs ++ zs) (ys ++ zs)
behind_both xs ys zs same e = among_append xs zs e ∙ ap (λ b. b || is_unit_among zs e) (same e) ∙ sym (among_append ys zs e)

-- a turn of adding elements, and the end of it
pub added_turn : (elements : List NodeRef) (i : ℕ) (d : NodeRef) (was now all : List NodeRef) → i < length elements
    → AreSameElements now (was ++ get_or elements i d ∷ []) → AreSameElements (was ++ drop i elements) all
    → AreSameElements (now ++ drop (i + 1) elements) all
added_turn elements i d was now all h added before e =
    let rest = drop (i + 1) elements in
    let here = get_or elements i d in
    behind_both now (was ++ here ∷ []) rest added e
    ∙ ap (λ es. is_unit_among es e) (append_assoc was (here ∷ []) rest ∙ sym (at_drop_more (λ es. was ++ es) elements i d h))
    ∙ before e

pub all_added : (elements : List NodeRef) (i : ℕ) (now all : List NodeRef) → length elements ≤ i → AreSameElements (now ++ drop i elements) all
    → AreSameElements now all
all_added elements i now all h before e =
    ap (λ es. is_unit_among es e) (sym (append-nil now) ∙ sym (at_drop_all (λ es. now ++ es) elements i h)) ∙ before e
