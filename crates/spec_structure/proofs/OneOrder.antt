-- Modules are read in one order.
use Rattle.std.proofs.Common.{◌≡◌, ℕ, List, [], ◌∷◌, ◌++◌, None, Some, refl, sym, ap, subst, ◌∙◌}
use Rattle.spec_document.specs.Forest.{Plain}
use Rattle.spec_structure.specs.Modules.{Modules, Reads, ReadsLinks, read_already, not_there, reads, no_link, link}
use Rattle.spec_structure.specs.Structure.{Link, links_of}

some_same : {X : Type 0} (x y : X) → Some x ≡ Some y → x ≡ y
some_same x y e = ap (λ o. elim o [ None ↦ x | Some z ↦ z ]) e

mutual
  pub one_order : {modules : Modules} {done names others : List (List ℕ)} {name : List ℕ} → Reads modules done name names → Reads modules done name others
      → names ≡ others
  one_order (read_already e) (read_already f) = refl
  one_order (read_already e) (not_there f g) = refl
  one_order (read_already e) (reads tree f g rs) = absurd (cc)
  one_order (not_there e f) (read_already g) = refl
  one_order (not_there e f) (not_there g h) = refl
  one_order (not_there e f) (reads tree g h rs) = let n : None ≡ Some tree = sym f ∙ h in absurd (cc)
  one_order (reads tree e f rs) (read_already g) = absurd (cc)
  one_order (reads tree e f rs) (not_there g h) = let n : None ≡ Some tree = sym h ∙ f in absurd (cc)
  one_order {modules} {done} {names} {others} {name} (reads tree e f rs) (reads other g h ss) =
      one_order_of_links rs
      (subst (λ (t : Plain). ReadsLinks modules (done ++ name ∷ []) (links_of 1 t) others) (some_same other tree (sym h ∙ f)) ss)

  pub one_order_of_links : {modules : Modules} {done names others : List (List ℕ)} {ls : List Link} → ReadsLinks modules done ls names
      → ReadsLinks modules done ls others → names ≡ others
  one_order_of_links no_link no_link = refl
  one_order_of_links {modules} {done} {names} {others} (link {ls = ls} r rs) (link s ss) =
      one_order_of_links rs (subst (λ (d : List (List ℕ)). ReadsLinks modules d ls others) (sym (one_order r s)) ss)
