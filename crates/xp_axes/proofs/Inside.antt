-- What stands at and below a node that is found by its number.
use Rattle.std.proofs.Common.{◌≡◌, ◌<◌, ℕ, ◌+◌, ◌==◌, Bool, true, false, cond, zero, suc, List, [], ◌∷◌}
use Rattle.std.proofs.Common.{◌++◌, Option, None, Some, is_some, refl, sym, ap, ◌∙◌, subst, arith, length, get_or, append-nil, append_assoc}
use Rattle.std.specs.Prelude.{IsSome, map, filter, nat_lt}
use Rattle.std.specs.List.{list_all}
use Rattle.std.specs.Option.{option_and_then, option_or}
use Rattle.std.specs.declared.rc.Rc.{Rc}
use Rattle.std.specs.declared.alloc.Global.{Global}
use Rattle.std.proofs.lemmas.Bool.{and_parts}
use Rattle.std.proofs.lemmas.List.Elements.{filter-append}
use Rattle.spec_document.specs.declared.axis.Axis.{Axis}
use Rattle.spec_document.specs.declared.axis.Axis.TheVariants as axis
use Rattle.spec_document.specs.Forest.{Document, Content, Forest, Empty, Node, labels}
use Rattle.spec_document.specs.Numbering.{number_limit}
use Rattle.spec_document.specs.Place.{Found, found_in, first_in, root_of, Item, attributes_of, namespaces_of}
use Rattle.spec_document.specs.Order.{Entry, entries_of, own_entries, entries_in}
use Rattle.spec_document.specs.Axis.{is_on}
use Rattle.xt_tree.specs.Numbers.{IsNumbered, are_distinct}
use Rattle.xt_tree.specs.View.{tree_of, forest_of, itself, part_of, item_of, numbered_node}
use Rattle.xt_tree.specs.declared.node.Node.{Node as Held}
use Rattle.spec_node.specs.declared.node_ref.NodeRef.{NodeRef}
use Rattle.spec_node.specs.declared.node_ref.Part.{Part}
use Rattle.spec_node.specs.declared.node_ref.Part.TheVariants as part
use Rattle.xt_tree.proofs.Distinct.{numbered_at}
use Rattle.xp_axes.specs.Along.{if_taken, taken, below, is_itself, is_inner, is_inner_axis, IsWalked}
use Rattle.xp_axes.specs.View.{on_axis, IsNodeOf, AreNodesOf}
use Rattle.xp_axes.proofs.Picked.{listing, map_append, namespaces_none, attributes_none}
use Rattle.xp_axes.proofs.Ends.{at_itself}
use Rattle.xp_axes.proofs.Entries.{found_first, all_at}
use Rattle.xp_axes.proofs.Located.{IsEntryOf, IsQuiet, name_is, no_attribute, no_namespace, quiet_axis}
use Rattle.xp_axes.proofs.Reached.{or_some, AllItems, all_items}
use Rattle.xp_axes.proofs.Kept.{some_same}
use Rattle.xp_axes.proofs.Named.{listed}

-- ---- The entry of a name, and the node that its number finds

pub record IsThere (document : Document ℕ) (r : NodeRef) : Type 0 where
  pub path : List ℕ
  pub entry : IsEntryOf document r path
  pub found : numbered_node document r.node.number ≡ Some entry.is.at.element

pub there : (document : Document ℕ) → IsNumbered document → (r : NodeRef) → IsSome (item_of document r) → IsThere document r
there document numbers r some = by (numbered_node document r.node.number) refl some
  where
    root : Found ℕ
    root = root_of document

    entry : (x : Found ℕ) (item : Item ℕ) → numbered_node document r.node.number ≡ Some x → part_of r.part x ≡ Some item → IsThere document r
    entry x item is h =
        let first = found_first root r (listing root) (all_at root) (listed document r item x is h) in
        let name = name_is r root first.entry first.at first.same in
        let parts = and_parts (are_distinct (document.root ∷ labels document.nodes))
        (list_all (λ n. nat_lt n number_limit) (document.root ∷ labels document.nodes)) numbers in
        let number : name.at.element.label ≡ r.node.number = ap (λ (s : NodeRef). s.node.number) name.name in
        record {
          path = first.entry.place.positions;
          entry = record { entry = first.entry; first = first.first; is = name; positions = refl };
          found = ap (numbered_node document) (sym number) ∙ numbered_at document first.entry.place.positions name.at.element parts.0 name.at.at;
        }

    inner : (x : Found ℕ) → numbered_node document r.node.number ≡ Some x → (o : Option (Item ℕ)) → part_of r.part x ≡ o → is_some o ≡ true
        → IsThere document r
    inner x is None e h = absurd (cc)
    inner x is (Some item) e h = entry x item is e

    by : (o : Option (Found ℕ)) → numbered_node document r.node.number ≡ o → is_some (option_and_then (part_of r.part) o) ≡ true
        → IsThere document r
    by None is h = absurd (cc)
    by (Some x) is h = inner x is (part_of r.part x) refl h

-- ---- An axis that takes the node itself and what is below it

inner_walked : (x : Axis) → is_inner_axis x ≡ true → IsWalked x part.Itself
inner_walked axis.Itself h = tt
inner_walked axis.Child h = tt
inner_walked axis.Descendant h = tt
inner_walked axis.DescendantOrSelf h = tt
inner_walked axis.Attribute h = absurd (cc)
inner_walked axis.Namespace h = absurd (cc)
inner_walked axis.Parent h = tt
inner_walked axis.Ancestor h = tt
inner_walked axis.AncestorOrSelf h = tt
inner_walked axis.Following h = tt
inner_walked axis.Preceding h = tt
inner_walked axis.FollowingSibling h = tt
inner_walked axis.PrecedingSibling h = tt

inner_quiet : (x : Axis) → is_inner_axis x ≡ true → IsQuiet x
inner_quiet axis.Itself h = record { before = λ b. refl; after = λ b. refl; above = λ b. refl }
inner_quiet axis.Child h = record { before = λ b. refl; after = λ b. refl; above = λ b. refl }
inner_quiet axis.Descendant h = record { before = λ b. refl; after = λ b. refl; above = λ b. refl }
inner_quiet axis.DescendantOrSelf h = record { before = λ b. refl; after = λ b. refl; above = λ b. refl }
inner_quiet axis.Attribute h = absurd (cc)
inner_quiet axis.Namespace h = absurd (cc)
inner_quiet axis.Parent h = absurd (cc)
inner_quiet axis.Ancestor h = absurd (cc)
inner_quiet axis.AncestorOrSelf h = absurd (cc)
inner_quiet axis.Following h = absurd (cc)
inner_quiet axis.Preceding h = absurd (cc)
inner_quiet axis.FollowingSibling h = absurd (cc)
inner_quiet axis.PrecedingSibling h = absurd (cc)

inner_part : (x : Axis) (p : Part) → is_inner x p ≡ true → (p ≡ part.Itself) × (is_inner_axis x ≡ true)
inner_part x part.Itself h = (refl, h)
inner_part x (part.Attribute n) h = absurd (cc)
inner_part x (part.Namespace n) h = absurd (cc)

pub inner_is : (document : Document ℕ) (x : Axis) (r : NodeRef) → is_inner x r.part ≡ true → (i : IsThere document r)
    → on_axis document x r ≡ if_taken (is_itself x) r ++ taken (below x) i.entry.is.at.element.children
inner_is document x r h i =
    let parts = inner_part x r.part h in
    let walked = inner_walked x parts.1 in
    let element = i.entry.is.at.element in
    let number : element.label ≡ r.node.number = ap (λ (s : NodeRef). s.node.number) i.entry.is.name in
    let name : itself element.label ≡ r = λ j. record { node = record { number = number j }; part = sym parts.0 j } in
    quiet_axis document x (inner_quiet x parts.1) r i.path i.entry parts.0 (if_taken (is_itself x) r ++ taken (below x) element.children)
    (at_itself x element [] [] (namespaces_none (is_on x []) (no_namespace x walked) element 1 (namespaces_of element))
    (attributes_none (is_on x []) (no_attribute x walked) element 1 (attributes_of element))
    ∙ ap (λ (ns : List NodeRef). ns ++ taken (below x) element.children) (append-nil (if_taken (is_itself x) (itself element.label)))
    ∙ ap (λ (s : NodeRef). if_taken (is_itself x) s ++ taken (below x) element.children) name)

-- ---- Siblings that are those of the document

items_left : (document : Document ℕ) (xs ys : List (Entry ℕ)) → AllItems document (xs ++ ys) → AllItems document xs
items_left document [] ys h = tt
items_left document (x ∷ xs) ys h = (h.0, items_left document xs ys h.1)

items_right : (document : Document ℕ) (xs ys : List (Entry ℕ)) → AllItems document (xs ++ ys) → AllItems document ys
items_right document [] ys h = h
items_right document (x ∷ xs) ys h = items_right document xs ys h.1

listed_nodes : (document : Document ℕ) (above : List Content) (parent : List ℕ) (k : ℕ) (f : Forest ℕ)
    → AllItems document (entries_in above parent k f) → AreNodesOf document f
listed_nodes document above parent k Empty h = tt
listed_nodes document above parent k (Node l c f g) h =
    let node = found_in above l c f in
    let own = own_entries (parent ++ k ∷ []) node in
    let inner = entries_in (c ∷ above) (parent ++ k ∷ []) 1 f in
    let later = entries_in above parent (k + 1) g in
    let front = items_left document (own ++ inner) later h in (
      (above, (items_left document own inner front).0),
      listed_nodes document (c ∷ above) (parent ++ k ∷ []) 1 f (items_right document own inner front),
      listed_nodes document above parent (k + 1) g (items_right document (own ++ inner) later h),
    )

-- below the root
pub all_nodes : (document : Document ℕ) → IsNumbered document → AreNodesOf document document.nodes
all_nodes document numbers =
    let root = root_of document in
    listed_nodes document [] [] 1 document.nodes
    (items_right document (own_entries [] root) (entries_in [] [] 1 document.nodes)
    (all_items document numbers (entries_of document) (all_at root)))

first_nodes : (document : Document ℕ) (n : ℕ) (above : List Content) (f : Forest ℕ) (x : Found ℕ) → AreNodesOf document f
    → first_in (λ l. l == n) above f ≡ Some x → AreNodesOf document x.children
first_nodes document n above Empty x h is = absurd (cc)
first_nodes document n above (Node l c f g) x h is =
    elim (l == n) as (λ t. cond t (Some (found_in above l c f)) (option_or (first_in (λ l. l == n) (c ∷ above) f) (first_in (λ l. l == n) above g))
    ≡ Some x → AreNodesOf document x.children) [
      | true ↦ λ s. subst (λ (y : Found ℕ). AreNodesOf document y.children) (some_same (found_in above l c f) x s) h.1
      | false ↦ λ s. or_some (AreNodesOf document x.children) (first_in (λ l. l == n) (c ∷ above) f) (first_in (λ l. l == n) above g) x s
          (first_nodes document n (c ∷ above) f x h.1) (first_nodes document n above g x h.2)
    ] is

-- below any node
pub nodes_below : (document : Document ℕ) → IsNumbered document → (n : ℕ) (x : Found ℕ) → numbered_node document n ≡ Some x
    → AreNodesOf document x.children
nodes_below document numbers n x is =
    elim (document.root == n) as (λ t. cond t (Some (root_of document)) (first_in (λ l. l == n) [] document.nodes) ≡ Some x
    → AreNodesOf document x.children) [
      | true ↦ λ s. subst (λ (y : Found ℕ). AreNodesOf document y.children) (some_same (root_of document) x s) (all_nodes document numbers)
      | false ↦ first_nodes document n [] document.nodes x (all_nodes document numbers)
    ] is

-- one of them in a slice
pub node_at : (document : Document ℕ) (xs : List (Rc Held Global)) (i : ℕ) (y : Rc Held Global) → AreNodesOf document (forest_of xs) → i < length xs
    → y ≡ get_or xs i y
    → IsNodeOf document (tree_of y.value).number (tree_of y.value).content (tree_of y.value).children
    × AreNodesOf document (tree_of y.value).children
node_at document [] i y h lt is = absurd (omega arith)
node_at document (x ∷ xs) zero y h lt is =
    subst (λ (z : Rc Held Global). IsNodeOf document (tree_of z.value).number (tree_of z.value).content (tree_of z.value).children
    × AreNodesOf document (tree_of z.value).children) (sym is) (h.0, h.1)
node_at document (x ∷ xs) (suc i) y h lt is = node_at document xs i y h.2 (omega arith) is

-- ---- What passes, node by node

in_front : (b : Bool) (x : NodeRef) (xs : List NodeRef) → if_taken b x ++ xs ≡ cond b (x ∷ xs) xs
in_front true x xs = refl
in_front false x xs = refl

pub kept_next : (p : NodeRef → Bool) (found next : List NodeRef) (x : NodeRef) (rest : List NodeRef) → next ≡ found ++ if_taken (p x) x
    → next ++ filter p rest ≡ found ++ filter p (x ∷ rest)
kept_next p found next x rest e =
    ap (λ xs. xs ++ filter p rest) e ∙ append_assoc found (if_taken (p x) x) (filter p rest)
    ∙ ap (λ xs. found ++ xs) (in_front (p x) x (filter p rest))

pub kept_tree : (p : NodeRef → Bool) (found one two : List NodeRef) (x : NodeRef) (f g : List ℕ) → one ≡ found ++ if_taken (p x) x
    → two ≡ one ++ filter p (map itself f)
    → two ++ filter p (map itself g) ≡ found ++ filter p (x ∷ map itself (f ++ g))
kept_tree p found one two x f g d e =
    ap (λ xs. xs ++ filter p (map itself g)) e ∙ append_assoc one (filter p (map itself f)) (filter p (map itself g))
    ∙ ap (λ xs. one ++ xs) (sym (filter-append p (map itself f) (map itself g)) ∙ ap (filter p) (sym (map_append itself f g)))
    ∙ kept_next p found one x (map itself (f ++ g)) d
