-- An axis of a node by the way to it.
use Rattle.std.proofs.Common.{◌≡◌, ◌≤◌, ◌<◌, ℕ, ◌+◌, ◌-◌, ◌==◌, Bool, true, false, cond, zero, suc, List, [], ◌∷◌}
use Rattle.std.proofs.Common.{◌++◌, Option, None, Some, refl, sym, ap, ◌∙◌, subst, arith, eq-eqb, length, append-nil}
use Rattle.std.specs.Prelude.{map}
use Rattle.std.specs.List.{range_with_len, find}
use Rattle.std.specs.Option.{option_map, option_and_then}
use Rattle.std.proofs.lemmas.Bool.{eqb-true, and_parts}
use Rattle.spec_document.specs.declared.axis.Axis.{Axis}
use Rattle.spec_document.specs.declared.axis.Axis.TheVariants as axis
use Rattle.spec_document.specs.Forest.{Document, Written, Content, Forest, Empty, Node}
use Rattle.spec_document.specs.Place.{Ending, Itself, AtAttribute, AtNamespace, Found, found_in, child_at, node_from, node_at, root_of}
use Rattle.spec_document.specs.Place.{attributes_of, namespaces_of, Item}
use Rattle.spec_document.specs.Order.{Way, ToNamespace, ToAttribute, ToChild, way_to, end_of, Entry, entries_of, namespace_entries, attribute_entries}
use Rattle.spec_document.specs.Axis.{is_on}
use Rattle.xt_tree.specs.View.{itself, part_of}
use Rattle.spec_node.specs.declared.node_ref.NodeRef.{NodeRef}
use Rattle.spec_node.specs.declared.node_ref.Part.{Part}
use Rattle.spec_node.specs.declared.node_ref.Part.TheVariants as part
use Rattle.xp_axes.specs.declared.extent.Extent.TheVariants.{Nothing}
use Rattle.xp_axes.specs.View.{axis_from, on_axis}
use Rattle.spec_node.specs.Naming.{ref_of, number_of, part_at, same_ref, same_part}
use Rattle.xp_axes.specs.Along.{if_taken, taken, around, before, after, is_above, is_itself, below, ended, along, is_end, IsWalked}
use Rattle.xp_axes.proofs.Picked.{listing, picked, picked_is, attributes_none, namespaces_none}
use Rattle.xp_axes.proofs.Onward.{led, positive}
use Rattle.xp_axes.proofs.Ends.{at_itself, at_attribute, at_namespace}
use Rattle.xp_axes.proofs.Entries.{IsAt, IsEnding, found_first, all_at, is_listed, counted, attribute_there, namespace_there}

some_same : {A : Type 0} (x y : A) → Some x ≡ Some y → x ≡ y
some_same x y e = ap (λ o. elim o [ Some z ↦ z | None ↦ x ]) e

pub same_parts : (p q : Part) → same_part p q ≡ true → p ≡ q
same_parts part.Itself part.Itself h = refl
same_parts (part.Attribute m) (part.Attribute n) h = ap part.Attribute (eqb-true m n h)
same_parts (part.Namespace m) (part.Namespace n) h = ap part.Namespace (eqb-true m n h)
same_parts part.Itself (part.Attribute n) h = absurd (cc)
same_parts part.Itself (part.Namespace n) h = absurd (cc)
same_parts (part.Attribute m) part.Itself h = absurd (cc)
same_parts (part.Attribute m) (part.Namespace n) h = absurd (cc)
same_parts (part.Namespace m) part.Itself h = absurd (cc)
same_parts (part.Namespace m) (part.Attribute n) h = absurd (cc)

pub no_attribute : (x : Axis) → IsWalked x part.Itself → (n : ℕ) → is_on x [] (ToAttribute n ∷ []) ≡ false
no_attribute axis.Itself h n = refl
no_attribute axis.Child h n = refl
no_attribute axis.Attribute h n = absurd h
no_attribute axis.Namespace h n = absurd h
no_attribute axis.Parent h n = refl
no_attribute axis.Descendant h n = refl
no_attribute axis.DescendantOrSelf h n = refl
no_attribute axis.Ancestor h n = refl
no_attribute axis.AncestorOrSelf h n = refl
no_attribute axis.Following h n = refl
no_attribute axis.Preceding h n = refl
no_attribute axis.FollowingSibling h n = refl
no_attribute axis.PrecedingSibling h n = refl

pub no_namespace : (x : Axis) → IsWalked x part.Itself → (n : List ℕ) → is_on x [] (ToNamespace n ∷ []) ≡ false
no_namespace axis.Itself h n = refl
no_namespace axis.Child h n = refl
no_namespace axis.Attribute h n = absurd h
no_namespace axis.Namespace h n = absurd h
no_namespace axis.Parent h n = refl
no_namespace axis.Descendant h n = refl
no_namespace axis.DescendantOrSelf h n = refl
no_namespace axis.Ancestor h n = refl
no_namespace axis.AncestorOrSelf h n = refl
no_namespace axis.Following h n = refl
no_namespace axis.Preceding h n = refl
no_namespace axis.FollowingSibling h n = refl
no_namespace axis.PrecedingSibling h n = refl

abbrev Answers : Axis → NodeRef → Found ℕ → List ℕ → Ending → Type 0
Answers x r root ps e = picked (is_on x (map ToChild ps ++ end_of e)) (listing root) ≡ along x r.part (ended x r r.part) ps root.label root.children

by_ending : (x : Axis) (root element : Found ℕ) (ps : List ℕ) (item : Item ℕ) (e : Ending) (number : ℕ) → node_from ps root ≡ Some element
    → IsWalked x (part_at e number) → part_of (part_at e number) element ≡ Some item → IsEnding element e number
    → Answers x (record { node = record { number = element.label }; part = part_at e number }) root ps e
by_ending x root element ps item Itself number at walked is ending =
    led x Itself part.Itself (ended x (itself element.label) part.Itself) refl element
    (at_itself x element [] [] (namespaces_none (is_on x []) (no_namespace x walked) element 1 (namespaces_of element))
    (attributes_none (is_on x []) (no_attribute x walked) element 1 (attributes_of element))
    ∙ ap (λ (ns : List NodeRef). ns ++ taken (below x) element.children) (append-nil (if_taken (is_itself x) (itself element.label))))
    ps root at
by_ending x root element ps item (AtAttribute k) number at walked is ending =
    let a = attribute_there element number item is in
    let r : NodeRef = record { node = record { number = element.label }; part = part.Attribute number } in
    subst (λ (n : ℕ). Answers x r root ps (AtAttribute n)) (sym ending)
    (led x (AtAttribute number) (part.Attribute number) (ended x r (part.Attribute number)) refl element
    (at_attribute x element number a.0 a.1 (counted (attributes_of element) number a.0 a.1)) ps root at)
by_ending x root element ps item (AtNamespace p) number at walked is ending =
    let n = namespace_there element number item is in
    let r : NodeRef = record { node = record { number = element.label }; part = part.Namespace number } in
    let same : n.0.0 ≡ p = some_same n.0.0 p (sym (ap (option_map (λ (m : List ℕ × List ℕ). m.0)) n.1) ∙ ending) in
    subst (λ (q : List ℕ). Answers x r root ps (AtNamespace q)) same
    (led x (AtNamespace n.0.0) (part.Namespace number) (ended x r (part.Namespace number)) refl element
    (at_namespace x element number n.0 n.1 (counted (namespaces_of element) number n.0 n.1)) ps root at)

-- a name that the name of an entry is the same as
pub record IsOf (r : NodeRef) (root : Found ℕ) (e : Entry ℕ) : Type 0 where
  pub at : IsAt root e
  pub name : record { node = record { number = at.element.label }; part = part_at e.place.ending e.number } ≡ r

pub name_is : (r : NodeRef) (root : Found ℕ) (e : Entry ℕ) → IsAt root e → same_ref r (ref_of e) ≡ true → IsOf r root e
name_is r root e at same =
    let parts = and_parts (r.node.number == number_of e.item) (same_part r.part (part_at e.place.ending e.number)) same in
    let number : at.element.label ≡ r.node.number = sym (eqb-true r.node.number (number_of e.item) parts.0 ∙ at.number) in
    let p : part_at e.place.ending e.number ≡ r.part = sym (same_parts r.part (part_at e.place.ending e.number) parts.1) in
    record { at = at; name = λ i. record { node = record { number = number i }; part = p i } }

answered : (x : Axis) (r : NodeRef) (root : Found ℕ) (e : Entry ℕ) → IsOf r root e → IsWalked x r.part
    → Answers x r root e.place.positions e.place.ending
answered x r root e is walked =
    subst (λ (s : NodeRef). Answers x s root e.place.positions e.place.ending) is.name
    (by_ending x root is.at.element e.place.positions e.item e.place.ending e.number is.at.at
    (subst (λ (s : NodeRef). IsWalked x s.part) (sym is.name) walked) is.at.part is.at.ending)

-- the entry of a name, in a document where positions lead to it alone
pub record IsEntryOf (document : Document ℕ) (r : NodeRef) (path : List ℕ) : Type 0 where
  pub entry : Entry ℕ
  pub first : find (λ e. same_ref r (ref_of e)) (entries_of document) ≡ Some entry
  pub is : IsOf r (root_of document) entry
  pub positions : entry.place.positions ≡ path

pub entry_of : (document : Document ℕ) (r : NodeRef) (path : List ℕ) (target : Found ℕ) (item : Item ℕ) → node_at document path ≡ Some target
    → r.node.number ≡ target.label
    → part_of r.part target ≡ Some item
    → ((ps : List ℕ) → option_map (λ n. n.label) (node_at document ps) ≡ Some r.node.number → path ≡ ps) → IsEntryOf document r path
entry_of document r path target item at number p only =
    let root = root_of document in
    let first = found_first root r (listing root) (all_at root) (is_listed r target item number p path root at) in
    let is = name_is r root first.entry first.at first.same in
    let label = ap (option_map (λ (n : Found ℕ). n.label)) is.at.at ∙ ap (λ (s : NodeRef). Some s.node.number) is.name in
    record { entry = first.entry; first = first.first; is = is; positions = sym (only first.entry.place.positions label) }

axis_is : (document : Document ℕ) (x : Axis) (r : NodeRef) (path : List ℕ) (e : IsEntryOf document r path)
    → on_axis document x r ≡ picked (is_on x (map ToChild e.entry.place.positions ++ end_of e.entry.place.ending)) (listing (root_of document))
axis_is document x r path e =
    ap (axis_from (entries_of document) x) e.first ∙ picked_is (is_on x (way_to e.entry.place)) (entries_of document)

pub walked_is : (document : Document ℕ) (x : Axis) (r : NodeRef) (path : List ℕ) → IsEntryOf document r path → IsWalked x r.part
    → on_axis document x r ≡ along x r.part (ended x r r.part) path document.root document.nodes
walked_is document x r path e walked =
    axis_is document x r path e ∙ answered x r (root_of document) e.entry e.is walked
    ∙ ap (λ (ps : List ℕ). along x r.part (ended x r r.part) ps document.root document.nodes) e.positions

-- ---- Attributes and namespace nodes of an element

pub record IsQuiet (x : Axis) : Type 0 where
  pub before : (b : Bool) → before x b ≡ Nothing
  pub after : (b : Bool) → after x b ≡ Nothing
  pub above : (b : Bool) → is_above x b ≡ false

quiet_around : (inner : ℕ → Forest ℕ → List NodeRef) (ns : List NodeRef) (child : Found ℕ) → inner child.label child.children ≡ ns
    → (above : List Content) (j : ℕ) (f : Forest ℕ) → child_at above f (j + 1) ≡ Some child → around inner Nothing Nothing j f ≡ ns
quiet_around inner ns child is above j Empty at = absurd (cc)
quiet_around inner ns child is above j (Node l c f g) at =
    elim (j == 0) as (λ t. (j == 0) ≡ t → cond t (inner l f ++ []) (around inner Nothing Nothing (j - 1) g) ≡ ns) [
      | true ↦ λ e.
          let zero_j : j ≡ 0 = eqb-true j 0 e in
          let now : (j + 1 == 1) ≡ true = eq-eqb (j + 1) 1 (omega arith) in
          let same = some_same (found_in above l c f) child
          (sym (ap (λ t. cond t (Some (found_in above l c f)) (child_at above g (j + 1 - 1))) now) ∙ at) in
          append-nil (inner l f) ∙ ap (λ (y : Found ℕ). inner y.label y.children) same ∙ is
      | false ↦ λ e.
          let one : 1 ≤ j = not_zero j e in
          let later : (j + 1 == 1) ≡ false = not_one (j + 1) (omega arith) in
          let back : j - 1 + 1 ≡ j + 1 - 1 = omega arith in
          quiet_around inner ns child is above (j - 1) g
          (ap (child_at above g) back ∙ sym (ap (λ t. cond t (Some (found_in above l c f)) (child_at above g (j + 1 - 1))) later) ∙ at)
    ] refl
  where
    not_zero : (n : ℕ) → (n == 0) ≡ false → 1 ≤ n
    not_zero zero h = absurd (cc)
    not_zero (suc n) h = omega arith

    not_one : (n : ℕ) → 1 < n → (n == 1) ≡ false
    not_one n h = elim (n == 1) as (λ r. (n == 1) ≡ r → r ≡ false)
        [ true ↦ λ e. absurd (let is : n ≡ 1 = eqb-true n 1 e in omega arith) | false ↦ λ e. refl ] refl

quiet_down : (x : Axis) → IsQuiet x
    → (t : Part) (ns : List NodeRef) (target : Found ℕ) (n : ℕ) (ps : List ℕ) (node : Found ℕ) (o : Option (Found ℕ))
    → child_at node.above node.children n ≡ o
    → ((child : Found ℕ) → node_from ps child ≡ Some target → along x t (λ l f. ns) ps child.label child.children ≡ ns)
    → option_and_then (node_from ps) o ≡ Some target → along x t (λ l f. ns) (n ∷ ps) node.label node.children ≡ ns
quiet_down x q t ns target n ps node None at below h = absurd (cc)
quiet_down x q t ns target n ps node (Some child) at below h =
    let one = positive node.above node.children n child at in
    let index : n - 1 + 1 ≡ n = omega arith in
    let inner = along x t (λ l f. ns) ps in
    (λ i. if_taken (q.above (is_end t ps) i) (itself node.label) ++ around inner (q.before (is_end t ps) i) (q.after (is_end t ps) i) (n - 1) node.children)
    ∙ quiet_around inner ns child (below child h) node.above (n - 1) node.children (ap (child_at node.above node.children) index ∙ at)

quiet : (x : Axis) → IsQuiet x → (t : Part) (ns : List NodeRef) (target : Found ℕ) (ps : List ℕ) (node : Found ℕ)
    → node_from ps node ≡ Some target
    → along x t (λ l f. ns) ps node.label node.children ≡ ns
quiet x q t ns target [] node is = refl
quiet x q t ns target (n ∷ ps) node is =
    quiet_down x q t ns target n ps node (child_at node.above node.children n) refl (λ child h. quiet x q t ns target ps child h) is

own_attributes : (l s : ℕ) (node : Found ℕ) (xs : List Written) → node.label ≡ l
    → picked (is_on axis.Attribute []) (attribute_entries [] node s xs)
    ≡ map (λ n. record { node = record { number = l }; part = part.Attribute n }) (range_with_len s (length xs))
own_attributes l s node [] e = refl
own_attributes l s node (a ∷ xs) e = λ i. record { node = record { number = e i }; part = part.Attribute s } ∷ own_attributes l (s + 1) node xs e i

own_namespaces : (l s : ℕ) (node : Found ℕ) (xs : List (List ℕ × List ℕ)) → node.label ≡ l
    → picked (is_on axis.Namespace []) (namespace_entries [] node s xs)
    ≡ map (λ n. record { node = record { number = l }; part = part.Namespace n }) (range_with_len s (length xs))
own_namespaces l s node [] e = refl
own_namespaces l s node (a ∷ xs) e = λ i. record { node = record { number = e i }; part = part.Namespace s } ∷ own_namespaces l (s + 1) node xs e i

is_itself_end : (e : Ending) (n : ℕ) → part_at e n ≡ part.Itself → end_of e ≡ []
is_itself_end Itself n h = refl
is_itself_end (AtAttribute k) n h = absurd (cc)
is_itself_end (AtNamespace k) n h = absurd (cc)

pub quiet_axis : (document : Document ℕ) (x : Axis) → IsQuiet x → (r : NodeRef) (path : List ℕ) (e : IsEntryOf document r path)
    → r.part ≡ part.Itself → (ns : List NodeRef)
    → picked (is_on x []) (listing e.is.at.element) ≡ ns → on_axis document x r ≡ ns
quiet_axis document x q r path e p ns own =
    let element = e.is.at.element in
    let ps = e.entry.place.positions in
    let end = is_itself_end e.entry.place.ending e.entry.number (ap (λ (s : NodeRef). s.part) e.is.name ∙ p) in
    axis_is document x r path e
    ∙ ap (λ (w : List Way). picked (is_on x (map ToChild ps ++ w)) (listing (root_of document))) end
    ∙ led x Itself part.Itself (λ l f. ns) refl element own ps (root_of document) e.is.at.at
    ∙ quiet x q part.Itself ns element ps (root_of document) e.is.at.at

pub attributes_are : (document : Document ℕ) (r : NodeRef) (path : List ℕ) (e : IsEntryOf document r path) → r.part ≡ part.Itself
    → on_axis document axis.Attribute r
    ≡ map (λ n. record { node = r.node; part = part.Attribute n }) (range_with_len 1 (length (attributes_of e.is.at.element)))
attributes_are document r path e p =
    let element = e.is.at.element in
    let ns = map (λ n. record { node = r.node; part = part.Attribute n }) (range_with_len 1 (length (attributes_of element))) in
    quiet_axis document axis.Attribute (record { before = λ b. refl; after = λ b. refl; above = λ b. refl }) r path e p ns
    (at_itself axis.Attribute element [] ns (namespaces_none (is_on axis.Attribute []) (λ y. refl) element 1 (namespaces_of element))
    (own_attributes r.node.number 1 element (attributes_of element) (ap (λ (s : NodeRef). s.node.number) e.is.name)) ∙ append-nil ns)

pub namespaces_are : (document : Document ℕ) (r : NodeRef) (path : List ℕ) (e : IsEntryOf document r path) → r.part ≡ part.Itself
    → on_axis document axis.Namespace r
    ≡ map (λ n. record { node = r.node; part = part.Namespace n }) (range_with_len 1 (length (namespaces_of e.is.at.element)))
namespaces_are document r path e p =
    let element = e.is.at.element in
    let ns = map (λ n. record { node = r.node; part = part.Namespace n }) (range_with_len 1 (length (namespaces_of element))) in
    quiet_axis document axis.Namespace (record { before = λ b. refl; after = λ b. refl; above = λ b. refl }) r path e p ns
    (at_itself axis.Namespace element ns [] (own_namespaces r.node.number 1 element (namespaces_of element) (ap (λ (s : NodeRef). s.node.number) e.is.name))
    (attributes_none (is_on axis.Namespace []) (λ y. refl) element 1 (attributes_of element)) ∙ append-nil (ns ++ []) ∙ append-nil ns)
