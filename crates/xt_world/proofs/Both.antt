-- Elements whose units are the same in two stylesheets, element by element.
use Rattle.std.proofs.Common.{◌≡◌, ℕ, ◌+◌, ◌<◌, Bool, true, false, List, [], ◌∷◌, ◌++◌, take, length, get_or, refl, sym, ap, ◌∙◌, subst}
use Rattle.std.specs.Prelude.{◌||◌, ◌==◌}
use Rattle.std.specs.Bool.{Decides}
use Rattle.std.proofs.lemmas.Bool.{and_parts, eqb-true}
use Rattle.std.proofs.lemmas.List.{take_more}
use Rattle.std.proofs.lemmas.List.Folds.{list_any-append}
use Rattle.spec_node.specs.declared.node_ref.NodeRef.{NodeRef}
use Rattle.spec_node.specs.Naming.{same_part, same_ref}
use Rattle.spec_touch.specs.Marks.{is_unit_among}
use Rattle.xp_axes.proofs.Located.{same_parts}
use Rattle.xt_world.specs.Alike.{AreAlike}
use Rattle.xt_world.specs.View.{unit_held}
use Rattle.xt_world.specs.declared.stylesheet.Stylesheet.{Stylesheet}

refs_are : (r s : NodeRef) → same_ref r s ≡ true → r ≡ s
refs_are r s h =
    let parts = and_parts (r.node.number == s.node.number) (same_part r.part s.part) h in
    let number = eqb-true r.node.number s.node.number parts.0 in
    let own = same_parts r.part s.part parts.1 in
    λ i. record { node = record { number = number i }; part = own i }

in_one : {P : Type 0} (a b : Bool) → (a || (b || false)) ≡ true → (a ≡ true → P) → (b ≡ true → P) → P
in_one true b h f g = f refl
in_one false true h f g = g refl
in_one false false h f g = absurd (cc)

or_first : (a b : Bool) → a ≡ true → (a || (b || false)) ≡ true
or_first true b h = refl
or_first false b h = absurd (cc)

or_second : (a b : Bool) → b ≡ true → (a || (b || false)) ≡ true
or_second true b h = refl
or_second false true h = refl
or_second false false h = h

neither : {P : Type 0} (b : Bool) → b ≡ true → b ≡ false → P
neither true h g = absurd (cc)
neither false h g = absurd (cc)

among_one_more : (list : List NodeRef) (e sought : NodeRef) → is_unit_among (list ++ e ∷ []) sought ≡ (is_unit_among list sought || (same_ref sought e || false))
among_one_more list e sought = list_any-append (same_ref sought) list (e ∷ [])

module _ (one other : Stylesheet) where
  abbrev IsSame : NodeRef → Type 0
  IsSame e = unit_held one e ≡ unit_held other e

  pub with_alike : (elements list : List NodeRef) (e : NodeRef) → IsSame e → AreAlike one other elements list
      → AreAlike one other (elements ++ e ∷ []) (list ++ e ∷ [])
  with_alike elements list e is h = record {
    same = λ x m. in_one (is_unit_among list x) (same_ref x e) (sym (among_one_more list e x) ∙ m) (h.same x)
        (λ s. subst IsSame (sym (refs_are x e s)) is);
    whole = λ x m so. among_one_more list e x
        ∙ in_one (is_unit_among elements x) (same_ref x e) (sym (among_one_more elements e x) ∙ m)
        (λ a. or_first (is_unit_among list x) (same_ref x e) (h.whole x a so))
        (or_second (is_unit_among list x) (same_ref x e));
  }

  pub with_other : (elements list : List NodeRef) (e : NodeRef) (b : Bool) → Decides b (IsSame e) → b ≡ false → AreAlike one other elements list
      → AreAlike one other (elements ++ e ∷ []) list
  with_other elements list e b decides apart h = record {
    same = h.same;
    whole = λ x m so.
        in_one (is_unit_among elements x) (same_ref x e) (sym (among_one_more elements e x) ∙ m) (λ a. h.whole x a so)
        (λ s. neither b (decides.1 (subst IsSame (refs_are x e s) so)) apart);
  }

  pub none_yet : AreAlike one other [] []
  none_yet = record { same = λ x m. neither false m refl; whole = λ x m so. m }

  -- a turn of the elements
  pub next_element : (list elements : List NodeRef) (i : ℕ) (e : NodeRef) → i < length elements → e ≡ get_or elements i e
      → AreAlike one other (take i elements ++ e ∷ []) list → AreAlike one other (take (i + 1) elements) list
  next_element list elements i e l is h =
      subst (λ (es : List NodeRef). AreAlike one other es list)
      (ap (λ r. take i elements ++ r ∷ []) is ∙ sym (take_more elements i e l)) h
