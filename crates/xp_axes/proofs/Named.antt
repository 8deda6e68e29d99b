-- The entry of a name is what the name stands for.
use Rattle.std.proofs.Common.{◌≡◌, ℕ, ◌+◌, ◌==◌, true, false, cond, List, [], ◌∷◌, ◌++◌, Option, None, Some, refl, sym, ap, ◌∙◌}
use Rattle.std.specs.Prelude.{map}
use Rattle.std.specs.List.{find}
use Rattle.std.specs.Option.{option_and_then, option_or}
use Rattle.std.proofs.lemmas.Bool.{eqb-true}
use Rattle.spec_document.specs.Forest.{Document, Content, Forest, Empty, Node}
use Rattle.spec_document.specs.Place.{Found, found_in, first_in, root_of, Item}
use Rattle.spec_document.specs.Order.{Entry, own_entries, entries_in, entries_of}
use Rattle.xt_tree.specs.Numbers.{IsNumbered}
use Rattle.xt_tree.specs.View.{part_of, item_of, numbered_node}
use Rattle.spec_node.specs.declared.node_ref.NodeRef.{NodeRef}
use Rattle.spec_node.specs.Naming.{ref_of, same_ref}
use Rattle.xp_axes.proofs.Picked.{under, listing, listed_node}
use Rattle.xp_axes.proofs.Entries.{has, has_under, has_left, has_right, has_own, found_first, all_at}
use Rattle.xp_axes.proofs.Reached.{or_some, item_is, all_items}
use Rattle.xp_axes.proofs.Kept.{some_same, ref_is, none_found}

listed_in : (r : NodeRef) (item : Item ℕ) (x : Found ℕ) → part_of r.part x ≡ Some item → (above : List Content) (k : ℕ) (f : Forest ℕ)
    → first_in (λ l. l == r.node.number) above f ≡ Some x
    → has r (entries_in above [] k f) ≡ true
listed_in r item x h above k Empty is = absurd (cc)
listed_in r item x h above k (Node l c f g) is =
    let child = found_in above l c f in
    ap (has r) (listed_node above k l c f g)
    ∙ (elim (l == r.node.number) as (λ t. (l == r.node.number) ≡ t
    → cond t (Some (found_in above l c f)) (option_or (first_in (λ l. l == r.node.number) (c ∷ above) f) (first_in (λ l. l == r.node.number) above g))
    ≡ Some x → has r (map (under k) (listing (found_in above l c f)) ++ entries_in above [] (k + 1) g) ≡ true) [
      | true ↦ λ e s.
          has_left r (map (under k) (listing child)) _ (has_under r k (listing child)
          ∙ has_left r (own_entries [] child) _
          (has_own r r.part child item refl (sym (eqb-true l r.node.number e)) (ap (part_of r.part) (some_same child x s) ∙ h)))
      | false ↦ λ e s.
          or_some _ (first_in (λ l. l == r.node.number) (c ∷ above) f) (first_in (λ l. l == r.node.number) above g) x s
          (λ s. has_left r (map (under k) (listing child)) _ (has_under r k (listing child)
          ∙ has_right r (own_entries [] child) _ (listed_in r item x h (c ∷ above) 1 f s)))
          (λ s. has_right r (map (under k) (listing child)) _ (listed_in r item x h above (k + 1) g s))
    ] refl is)

pub listed : (document : Document ℕ) (r : NodeRef) (item : Item ℕ) (x : Found ℕ) → numbered_node document r.node.number ≡ Some x
    → part_of r.part x ≡ Some item → has r (listing (root_of document)) ≡ true
listed document r item x is h =
    let root = root_of document in
    elim (document.root == r.node.number) as (λ t. (document.root == r.node.number) ≡ t
    → cond t (Some (root_of document)) (first_in (λ l. l == r.node.number) [] document.nodes) ≡ Some x
    → has r (listing (root_of document)) ≡ true) [
      | true ↦ λ e s.
          has_left r (own_entries [] root) _
          (has_own r r.part root item refl (sym (eqb-true document.root r.node.number e)) (ap (part_of r.part) (some_same root x s) ∙ h))
      | false ↦ λ e s. has_right r (own_entries [] root) _ (listed_in r item x h [] 1 document.nodes s)
    ] refl is

-- the entry of a name, which is this item
pub record IsNamed (document : Document ℕ) (r : NodeRef) (item : Item ℕ) : Type 0 where
  pub entry : Entry ℕ
  pub first : find (λ e. same_ref r (ref_of e)) (entries_of document) ≡ Some entry
  pub same : entry.item ≡ item

pub named : (document : Document ℕ) → IsNumbered document → (r : NodeRef) (item : Item ℕ) → item_of document r ≡ Some item → IsNamed document r item
named document numbers r item is = by (numbered_node document r.node.number) refl is
  where
    by : (o : Option (Found ℕ)) → numbered_node document r.node.number ≡ o → option_and_then (part_of r.part) o ≡ Some item
        → IsNamed document r item
    by None e h = absurd (cc)
    by (Some x) e h =
        let root = root_of document in
        let found = found_first root r (listing root) (all_at root) (listed document r item x e h) in
        let own : item_of document r ≡ Some found.entry.item
        = ap (item_of document) (sym (ref_is r found.entry found.same)) ∙ item_is document numbers found.entry found.at in
        record { entry = found.entry; first = found.first; same = some_same found.entry.item item (sym own ∙ is) }

-- a name that stands for nothing has no entry
pub gone : (document : Document ℕ) → IsNumbered document → (r : NodeRef) → item_of document r ≡ None
    → find (λ e. same_ref r (ref_of e)) (entries_of document) ≡ None
gone document numbers r none = none_found document r none (entries_of document) (all_items document numbers (entries_of document) (all_at (root_of document)))
