-- What the copies of items are told by.
use Rattle.std.proofs.Common.{◌≡◌, ◌∙◌, refl, sym, ap, ℕ, List, Option, Some, None}
use Rattle.std.specs.Option.{option_map, option_and_then}
use Rattle.spec_document.specs.declared.kind.Kind.{Kind}
use Rattle.spec_document.specs.declared.kind.Kind.TheVariants as kind
use Rattle.spec_document.specs.Forest.{Document, Content, Element, Text, Comment, Instruction}
use Rattle.spec_document.specs.Name.{Expanded}
use Rattle.spec_document.specs.Order.{entries_of}
use Rattle.spec_document.specs.Place.{Found, Item, TreeNode, AttributeNode, NamespaceNode, attributes_of, namespaces_of, at_number, scope_at}
use Rattle.spec_document.specs.Place.{kind_of, kind_by, written_name, written_by, expanded_name, name_by, string_value, string_value_by}
use Rattle.spec_meaning.specs.Question.{Copied}
use Rattle.spec_meaning.specs.Stream.{Stream, holes}
use Rattle.spec_meaning.specs.Truth.{told_of, entry_named}
use Rattle.spec_run.specs.Copy.{copied_by, copy_of}
use Rattle.xp_axes.proofs.Kept.{some_same}
use Rattle.xp_axes.proofs.Named.{named}
use Rattle.spec_node.specs.Naming.{ref_of, same_ref}
use Rattle.xt_tree.specs.Numbers.{IsNumbered}
use Rattle.xt_tree.specs.View.{item_of, part_of}
use Rattle.spec_node.specs.declared.node_ref.NodeRef.{NodeRef}
use Rattle.spec_node.specs.declared.node_ref.Part.{Part}
use Rattle.spec_node.specs.declared.node_ref.Part.TheVariants as part
use Rattle.xt_copy.specs.Copied.{leaf_by, leaf_of}
use Rattle.xt_copy.proofs.Among.{copy_whole}

-- the copy of the item is the copy of its entry
pub told : (document : Document ℕ) → IsNumbered document → (r : NodeRef) (s : Stream) → option_map copy_of (item_of document r) ≡ Some s
    → told_of {L = ℕ} {K = NodeRef} (λ e. Copied (copy_of e.item)) (entry_named ref_of same_ref (entries_of document) r) ≡ Copied s
told document numbers r s is = by (item_of document r) refl is
  where
    by : (o : Option (Item ℕ)) → item_of document r ≡ o → option_map copy_of o ≡ Some s
        → told_of {L = ℕ} {K = NodeRef} (λ e. Copied (copy_of e.item)) (entry_named ref_of same_ref (entries_of document) r) ≡ Copied s
    by None e h = absurd (cc)
    by (Some item) e h =
        let n = named document numbers r item e in
        ap (told_of {L = ℕ} {K = NodeRef} (λ e. Copied (copy_of e.item))) n.first ∙ ap (λ i. Copied (copy_of i)) n.same ∙ ap Copied (some_same (copy_of item) s h)

pub whole_copy : (o : Option (Item ℕ)) (s : Stream) → option_map copy_of o ≡ Some s → holes s ≡ 0
whole_copy None s e = absurd (cc)
whole_copy (Some item) s e = ap holes (sym (some_same (copy_of item) s e)) ∙ copy_whole item

-- ---- Nodes of the tree

pub tree_node : (p : Part) (o : Option (Found ℕ)) (found : Found ℕ) → option_and_then (part_of p) o ≡ Some (TreeNode found) → o ≡ Some found
tree_node p None found e = absurd (cc)
tree_node part.Itself (Some node) found e = cc
tree_node (part.Attribute number) (Some node) found e = by (at_number number (attributes_of node)) e
  where
    by : (o : Option _) → option_map (AttributeNode node) o ≡ Some (TreeNode found) → Some node ≡ Some found
    by None e = absurd (cc)
    by (Some a) e = absurd (cc)
tree_node (part.Namespace number) (Some node) found e = by (at_number number (namespaces_of node)) e
  where
    by : (o : Option (List ℕ × List ℕ)) → option_map (λ n. NamespaceNode node n.0 n.1) o ≡ Some (TreeNode found) → Some node ≡ Some found
    by None e = absurd (cc)
    by (Some n) e = absurd (cc)

-- what is of this kind is a node of the tree
pub tree_copy : (o : Option (Item ℕ)) (k : Kind) (s : Stream) → option_map kind_of o ≡ Some k → (kind.Attribute ≡ k → ⊥) → (kind.Namespace ≡ k → ⊥)
    → ((found : Found ℕ) → o ≡ Some (TreeNode found) → s ≡ copied_by found found.content) → option_map copy_of o ≡ Some s
tree_copy None k s e h g is = absurd (cc)
tree_copy (Some (TreeNode found)) k s e h g is = ap Some (sym (is found refl))
tree_copy (Some (AttributeNode element a)) k s e h g is = absurd (h (some_same kind.Attribute k e))
tree_copy (Some (NamespaceNode element prefix uri)) k s e h g is = absurd (g (some_same kind.Namespace k e))

-- ---- Nodes that nothing is below

leaf_node : (node : Found ℕ) (o : Option Content) → (kind_by o ≡ kind.Root → ⊥) → (kind_by o ≡ kind.Element → ⊥)
    → leaf_by (kind_by o) (written_by o) (name_by o (scope_at node)) (string_value_by o node.children) ≡ copied_by node o
leaf_node node None h g = absurd (h refl)
leaf_node node (Some (Element name attributes)) h g = absurd (g refl)
leaf_node node (Some (Text text)) h g = refl
leaf_node node (Some (Comment text)) h g = refl
leaf_node node (Some (Instruction target text)) h g = refl

leaf_item : (item : Item ℕ) → (kind_of item ≡ kind.Root → ⊥) → (kind_of item ≡ kind.Element → ⊥) → leaf_of item ≡ copy_of item
leaf_item (TreeNode node) h g = leaf_node node node.content h g
leaf_item (AttributeNode element a) h g = refl
leaf_item (NamespaceNode element prefix uri) h g = refl

pub leaf_copy : (o : Option (Item ℕ)) (k : Kind) (s : Stream) → option_map kind_of o ≡ Some k → (k ≡ kind.Root → ⊥) → (k ≡ kind.Element → ⊥)
    → option_map leaf_of o ≡ Some s → option_map copy_of o ≡ Some s
leaf_copy None k s e h g is = absurd (cc)
leaf_copy (Some item) k s e h g is =
    let kind_is = some_same (kind_of item) k e in
    ap Some (sym (leaf_item item (λ r. h (sym kind_is ∙ r)) (λ r. g (sym kind_is ∙ r)))) ∙ is

pub leaf_told : (o : Option (Item ℕ)) (k : Kind) (w : List ℕ) (n : Option Expanded) (v : List ℕ) → option_map kind_of o ≡ Some k
    → option_map written_name o ≡ Some w → option_map expanded_name o ≡ Some n → option_map string_value o ≡ Some v
    → option_map leaf_of o ≡ Some (leaf_by k w n v)
leaf_told None k w n v a b c d = absurd (cc)
leaf_told (Some item) k w n v a b c d =
    let kind_is = some_same (kind_of item) k a in
    let written_is = some_same (written_name item) w b in
    let name_is = some_same (expanded_name item) n c in
    let value_is = some_same (string_value item) v d in
    λ i. Some (leaf_by (kind_is i) (written_is i) (name_is i) (value_is i))
