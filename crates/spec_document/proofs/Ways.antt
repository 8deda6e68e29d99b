-- Document order is a total order of ways, and axes part the ways to nodes of the tree.
use Rattle.std.proofs.Common.{◌≡◌, ℕ, List, [], ◌∷◌, refl, sym, ◌∙◌, ap}
use Rattle.std.specs.Prelude.{IsTrue, count_by}
use Rattle.std.specs.Ordering.{ordering_reverse}
use Rattle.std.specs.declared.cmp.Ordering.{Ordering}
use Rattle.std.specs.declared.cmp.Ordering.TheVariants.{Less, Equal, Greater}
use Rattle.std.specs.Cmp.{IsTotalOrder, nat_cmp_total}
use Rattle.std.specs.Cmp.Lexicographic.{lists_total, nat_list_cmp_total}
use Rattle.std.specs.FinMap.{nat_cmp-IsAntisymmetric, slice_cmp-IsAntisymmetric}
use Rattle.spec_document.specs.declared.axis.Axis.TheVariants as axes
use Rattle.spec_document.specs.Order.{Way, ToNamespace, ToAttribute, ToChild, way_cmp, document_cmp}
use Rattle.spec_document.specs.Axis.{is_on, is_in_tree}

way_antisymm : (a b : Way) → way_cmp a b ≡ ordering_reverse (way_cmp b a)
way_antisymm (ToNamespace p) (ToNamespace q) = nat_list_cmp_total.antisymm p q
way_antisymm (ToNamespace p) (ToAttribute n) = refl
way_antisymm (ToNamespace p) (ToChild n) = refl
way_antisymm (ToAttribute m) (ToNamespace q) = refl
way_antisymm (ToAttribute m) (ToAttribute n) = nat_cmp_total.antisymm m n
way_antisymm (ToAttribute m) (ToChild n) = refl
way_antisymm (ToChild m) (ToNamespace q) = refl
way_antisymm (ToChild m) (ToAttribute n) = refl
way_antisymm (ToChild m) (ToChild n) = nat_cmp_total.antisymm m n

way_trans : (a b c : Way) → way_cmp a b ≡ Less → way_cmp b c ≡ Less → way_cmp a c ≡ Less
way_trans (ToNamespace p) (ToNamespace q) (ToNamespace r) e f = nat_list_cmp_total.trans p q r e f
way_trans (ToAttribute l) (ToAttribute m) (ToAttribute n) e f = nat_cmp_total.trans l m n e f
way_trans (ToChild l) (ToChild m) (ToChild n) e f = nat_cmp_total.trans l m n e f
way_trans (ToNamespace p) b (ToAttribute n) e f = refl
way_trans (ToNamespace p) b (ToChild n) e f = refl
way_trans (ToAttribute l) b (ToChild n) e f = refl
way_trans (ToNamespace p) (ToAttribute m) (ToNamespace r) e f = absurd (cc)
way_trans (ToNamespace p) (ToChild m) (ToNamespace r) e f = absurd (cc)
way_trans (ToAttribute l) (ToNamespace q) c e f = absurd (cc)
way_trans (ToAttribute l) (ToAttribute m) (ToNamespace r) e f = absurd (cc)
way_trans (ToAttribute l) (ToChild m) (ToNamespace r) e f = absurd (cc)
way_trans (ToAttribute l) (ToChild m) (ToAttribute r) e f = absurd (cc)
way_trans (ToChild l) (ToNamespace q) c e f = absurd (cc)
way_trans (ToChild l) (ToAttribute q) c e f = absurd (cc)
way_trans (ToChild l) (ToChild m) (ToNamespace r) e f = absurd (cc)
way_trans (ToChild l) (ToChild m) (ToAttribute r) e f = absurd (cc)

pub way_same : (a b : Way) → way_cmp a b ≡ Equal → a ≡ b
way_same (ToNamespace p) (ToNamespace q) e = ap ToNamespace (slice_cmp-IsAntisymmetric nat_cmp-IsAntisymmetric p q e)
way_same (ToAttribute m) (ToAttribute n) e = ap ToAttribute (nat_cmp-IsAntisymmetric m n e)
way_same (ToChild m) (ToChild n) e = ap ToChild (nat_cmp-IsAntisymmetric m n e)
way_same (ToNamespace p) (ToAttribute n) e = absurd (cc)
way_same (ToNamespace p) (ToChild n) e = absurd (cc)
way_same (ToAttribute m) (ToNamespace q) e = absurd (cc)
way_same (ToAttribute m) (ToChild n) e = absurd (cc)
way_same (ToChild m) (ToNamespace q) e = absurd (cc)
way_same (ToChild m) (ToAttribute n) e = absurd (cc)

pub way_total : IsTotalOrder way_cmp
way_total = record { antisymm = way_antisymm; trans = way_trans; congr = λ a b c e. ap (λ (x : Way). way_cmp x c) (way_same a b e) }

pub document_total : IsTotalOrder document_cmp
document_total = lists_total way_total

pub document_same : (p q : List Way) → document_cmp p q ≡ Equal → p ≡ q
document_same p q e = slice_cmp-IsAntisymmetric way_same p q e

-- how often the second stands on one of the axes of the first
abbrev parts : List Way → List Way → ℕ
parts p q = count_by (λ axis. is_on axis p q) (axes.Itself ∷ axes.Ancestor ∷ axes.Descendant ∷ axes.Following ∷ axes.Preceding ∷ [])

child_in_tree : (a : Way) (p : List Way) → IsTrue (is_in_tree (a ∷ p)) → IsTrue (is_in_tree p)
child_in_tree (ToChild n) p h = h
child_in_tree (ToAttribute n) p h = absurd (cc)
child_in_tree (ToNamespace n) p h = absurd (cc)

pub part : (p q : List Way) → IsTrue (is_in_tree p) → IsTrue (is_in_tree q) → parts p q ≡ 1
part [] [] h k = refl
part [] (b ∷ q) h k = rw (k) refl
part (a ∷ p) [] h k = refl
part (a ∷ p) (b ∷ q) h k = by_order (way_cmp a b) refl (part p q (child_in_tree a p h) (child_in_tree b q k))
  where
    by_order : (o : Ordering) → way_cmp a b ≡ o → parts p q ≡ 1 → parts (a ∷ p) (b ∷ q) ≡ 1
    by_order Less e rest = let f : way_cmp b a ≡ Greater = way_antisymm b a ∙ ap ordering_reverse e in rw (e, f, k) refl
    by_order Equal e rest =
        let f : way_cmp b a ≡ Equal = way_antisymm b a ∙ ap ordering_reverse e in
        let g : is_in_tree (b ∷ q) ≡ is_in_tree q = k ∙ sym (child_in_tree b q k) in
        rw (e, f, g) rest
    by_order Greater e rest = let f : way_cmp b a ≡ Less = way_antisymm b a ∙ ap ordering_reverse e in rw (e, f, k) refl
