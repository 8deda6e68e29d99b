-- The namespace node of a number is the one of its prefix, since each prefix stands once.
use Rattle.std.proofs.Common.{◌≡◌, ℕ, ◌-◌, ◌==◌, Bool, true, false, cond, List, [], ◌∷◌, Option, None, Some, refl, sym, ◌∙◌, ap}
use Rattle.std.specs.Prelude.{IsTrue, bytes_eq}
use Rattle.std.specs.Option.{option_map, option_and_then}
use Rattle.std.specs.List.{find}
use Rattle.std.specs.Ordering.{nat_cmp, ordering_reverse}
use Rattle.std.specs.declared.cmp.Ordering.{Ordering}
use Rattle.std.specs.declared.cmp.Ordering.TheVariants.{Less, Equal, Greater}
use Rattle.std.specs.Cmp.Lexicographic.{slice_cmp, nat_list_cmp_total}
use Rattle.std.proofs.lemmas.Slice.Eq.{bytes_eq-Decides}
use Rattle.spec_document.specs.Place.{Found, Item, NamespaceNode, namespaces_of, at_number, namespace_at, namespace_of}
use Rattle.spec_document.proofs.Listed.{rises, below, first_of, second_of, less, namespaces-rise}

-- no text is less than itself
not_less : (x : List ℕ) (o : Ordering) → slice_cmp nat_cmp x x ≡ o → o ≡ Less → ⊥
not_less x Less e h = let f : Less ≡ Greater = sym e ∙ nat_list_cmp_total.antisymm x x ∙ ap ordering_reverse e in cc
not_less x Equal e h = cc
not_less x Greater e h = cc

other_text : (x y : List ℕ) → slice_cmp nat_cmp x y ≡ Less → bytes_eq x y ≡ false
other_text x y l = apart (bytes_eq x y) refl
  where
    apart : (b : Bool) → bytes_eq x y ≡ b → bytes_eq x y ≡ false
    apart false e = e
    apart true e =
        let same : x ≡ y = (bytes_eq-Decides x y).0 e in
        absurd (not_less x (slice_cmp nat_cmp x x) refl (ap (slice_cmp nat_cmp x) same ∙ l))

some_same : {A : Type 0} (x y : A) → Option.Some x ≡ Some y → x ≡ y
some_same x y e = ap (λ o. elim o [ None ↦ x | Some z ↦ z ]) e

-- what stands among texts that are above one is another
among_above : (x : List ℕ) (ns : List (List ℕ × List ℕ)) (number : ℕ) (n : List ℕ × List ℕ) → IsTrue (below x ns)
    → at_number number ns ≡ Some n → bytes_eq x n.0 ≡ false
among_above x [] number n h e = absurd (cc)
among_above x (m ∷ ns) number n h e =
    elim (number == 1) as (λ b. cond b (Some m) (at_number (number - 1) ns) ≡ Some n → bytes_eq x n.0 ≡ false) [
      | true ↦ λ is. ap (λ k. bytes_eq x k.0) (sym (some_same m n is)) ∙ other_text x m.0 (less _ (first_of _ (below x ns) h))
      | false ↦ λ is. among_above x ns (number - 1) n (second_of _ (below x ns) h) is
    ] e

find_again : (ns : List (List ℕ × List ℕ)) (number : ℕ) (n : List ℕ × List ℕ) → IsTrue (rises ns) → at_number number ns ≡ Some n
    → find (λ m. bytes_eq m.0 n.0) ns ≡ Some n
find_again [] number n h e = absurd (cc)
find_again (m ∷ ns) number n h e =
    elim (number == 1) as (λ b. cond b (Some m) (at_number (number - 1) ns) ≡ Some n
    → cond (bytes_eq m.0 n.0) (Some m) (find (λ k. bytes_eq k.0 n.0) ns) ≡ Some n) [
      | true ↦ λ is.
          let same = some_same m n is in
          ap (λ t. cond t (Some m) (find (λ k. bytes_eq k.0 n.0) ns)) ((bytes_eq-Decides m.0 n.0).1 (ap (λ k. k.0) same)) ∙ is
      | false ↦ λ is.
          ap (λ t. cond t (Some m) (find (λ k. bytes_eq k.0 n.0) ns)) (among_above m.0 ns (number - 1) n (first_of _ (rises ns) h) is)
          ∙ find_again ns (number - 1) n (second_of _ (rises ns) h) is
    ] e

pub by_prefix : {L : Type 0} (node : Found L) (number : ℕ)
    → option_and_then (λ n. namespace_of node n.0) (at_number number (namespaces_of node)) ≡ namespace_at node number
by_prefix node number = at (at_number number (namespaces_of node)) refl
  where
    at : (o : Option (List ℕ × List ℕ)) → at_number number (namespaces_of node) ≡ o
        → option_and_then (λ n. namespace_of node n.0) o ≡ option_map (λ n. NamespaceNode node n.0 n.1) o
    at None e = refl
    at (Some n) e = ap (option_map (λ k. NamespaceNode node k.0 k.1)) (find_again (namespaces_of node) number n (namespaces-rise node) e)
