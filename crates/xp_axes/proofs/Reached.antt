-- The entry at the end of a path, and names that lead back to their entries.
use Rattle.std.proofs.Common.{◌≡◌, ℕ, ◌==◌, Bool, true, false, cond, suc, List, [], ◌∷◌}
use Rattle.std.proofs.Common.{Option, None, Some, is_some, refl, sym, ap, ◌∙◌, length, Result, Ok, Err, IfOk}
use Rattle.std.specs.Prelude.{map, IsSome, filter, reverse, ◌&&◌, nat_lt}
use Rattle.std.specs.Option.{option_map, option_and_then, option_or}
use Rattle.std.specs.List.{find, list_all}
use Rattle.std.proofs.lemmas.Bool.{eqb-true, and_parts}
use Rattle.spec_document.specs.declared.axis.Axis.{Axis}
use Rattle.spec_document.specs.declared.axis.Axis.TheVariants as axis
use Rattle.spec_node.specs.declared.node_ref.Part.TheVariants as part
use Rattle.xp_axes.specs.Along.{IsWalked}
use Rattle.spec_document.specs.Forest.{Document, Content, Forest, Empty, Node, labels}
use Rattle.spec_document.specs.Numbering.{number_limit}
use Rattle.spec_document.specs.Place.{Found, found_in, first_in, node_at, root_of, Item}
use Rattle.spec_document.specs.Order.{Entry, entries_of, way_to}
use Rattle.spec_document.specs.Axis.{is_on, is_reverse, in_axis_order}
use Rattle.spec_expression.specs.Syntax.{Test}
use Rattle.spec_meaning.specs.Step.{passes, step_from, stepped}
use Rattle.xt_tree.specs.Numbers.{IsNumbered, are_distinct}
use Rattle.xt_tree.specs.View.{part_of, item_of, numbered_node, IsPlaceOf}
use Rattle.spec_node.specs.declared.node_ref.NodeRef.{NodeRef}
use Rattle.spec_node.specs.declared.node_ref.Part.{Part}
use Rattle.xt_tree.proofs.Distinct.{numbered_at}
use Rattle.xp_axes.specs.View.{axis_from, on_axis, is_passing, AreNodes}
use Rattle.spec_node.specs.Naming.{ref_of, same_ref, part_at}
use Rattle.xp_axes.proofs.Entries.{IsAt, AllAt, all_at}
use Rattle.xp_axes.proofs.Located.{IsEntryOf, entry_of}

some_same : {A : Type 0} (x y : A) → Some x ≡ Some y → x ≡ y
some_same x y e = ap (λ o. elim o [ Some z ↦ z | None ↦ x ]) e

pub length_map : {A B : Type 0} (f : A → B) (xs : List A) → length (map f xs) ≡ length xs
length_map f [] = refl
length_map f (x ∷ xs) = ap suc (length_map f xs)

pub more_known : {A E : Type 0} (P Q : A → Type 0) (r : Result A E) → ((a : A) → P a → Q a) → IfOk r P → IfOk r Q
more_known P Q (Ok a) h p = h a p
more_known P Q (Err e) h p = p

-- ---- The entry at a place

pub or_some : {B : Type 0} (Q : Type 0) (o p : Option B) (x : B) → option_or o p ≡ Some x → (o ≡ Some x → Q) → (p ≡ Some x → Q) → Q
or_some Q None p x e f g = g e
or_some Q (Some y) p x e f g = f e

labelled : (n : ℕ) (above : List Content) (f : Forest ℕ) (x : Found ℕ) → first_in (λ l. l == n) above f ≡ Some x → n ≡ x.label
labelled n above Empty x h = absurd (cc)
labelled n above (Node l c f g) x h =
    elim (l == n) as (λ t. (l == n) ≡ t
    → cond t (Some (found_in above l c f)) (option_or (first_in (λ l. l == n) (c ∷ above) f) (first_in (λ l. l == n) above g)) ≡ Some x
    → n ≡ x.label) [
      | true ↦ λ e h. sym (eqb-true l n e) ∙ ap (λ (y : Found ℕ). y.label) (some_same (found_in above l c f) x h)
      | false ↦ λ e h. or_some (n ≡ x.label) (first_in (λ l. l == n) (c ∷ above) f) (first_in (λ l. l == n) above g) x h
          (labelled n (c ∷ above) f x) (labelled n above g x)
    ] refl h

number_is : (document : Document ℕ) (n : ℕ) (x : Found ℕ) → numbered_node document n ≡ Some x → n ≡ x.label
number_is document n x h =
    elim (document.root == n) as (λ t. (document.root == n) ≡ t
    → cond t (Some (root_of document)) (first_in (λ l. l == n) [] document.nodes) ≡ Some x → n ≡ x.label) [
      | true ↦ λ e h. sym (eqb-true document.root n e) ∙ ap (λ (y : Found ℕ). y.label) (some_same (root_of document) x h)
      | false ↦ λ e h. labelled n [] document.nodes x h
    ] refl h

pub entry_at : (document : Document ℕ) (r : NodeRef) (path : List ℕ) → IsSome (item_of document r) → IsPlaceOf document r (Some path)
    → (IsSome (item_of document r) → (ps : List ℕ) → option_map (λ n. n.label) (node_at document ps) ≡ Some r.node.number
    → Some path ≡ Some ps) → IsEntryOf document r path
entry_at document r path some place only = by (numbered_node document r.node.number) refl some
  where
    inner : (target : Found ℕ) → numbered_node document r.node.number ≡ Some target → (o : Option (Item ℕ)) → part_of r.part target ≡ o
        → is_some o ≡ true → IsEntryOf document r path
    inner target is None p h = absurd (cc)
    inner target is (Some item) p h =
        entry_of document r path target item (place.0 ∙ is) (number_is document r.node.number target is) p (λ ps e. some_same path ps (only some ps e))

    by : (o : Option (Found ℕ)) → numbered_node document r.node.number ≡ o → is_some (option_and_then (part_of r.part) o) ≡ true
        → IsEntryOf document r path
    by None is h = absurd (cc)
    by (Some target) is h = inner target is (part_of r.part target) refl h

-- ---- Names lead back to their entries

pub item_is : (document : Document ℕ) → IsNumbered document → (e : Entry ℕ) → IsAt (root_of document) e → item_of document (ref_of e) ≡ Some e.item
item_is document numbers e at =
    let parts = and_parts (are_distinct (document.root ∷ labels document.nodes))
    (list_all (λ n. nat_lt n number_limit) (document.root ∷ labels document.nodes)) numbers in
    ap (λ n. option_and_then (part_of (part_at e.place.ending e.number)) (numbered_node document n)) at.number
    ∙ ap (option_and_then (part_of (part_at e.place.ending e.number))) (numbered_at document e.place.positions at.element parts.0 at.at)
    ∙ at.part

abbrev pub AllItems : Document ℕ → List (Entry ℕ) → Type 0
AllItems document [] = Unit {0}
AllItems document (e ∷ es) = (item_of document (ref_of e) ≡ Some e.item) × AllItems document es

pub all_items : (document : Document ℕ) → IsNumbered document → (es : List (Entry ℕ)) → AllAt (root_of document) es → AllItems document es
all_items document numbers [] h = tt
all_items document numbers (e ∷ es) h = (item_is document numbers e h.0, all_items document numbers es h.1)

are_some : (document : Document ℕ) (q : Entry ℕ → Bool) (es : List (Entry ℕ)) → AllItems document es
    → AreNodes document (map ref_of (filter q es))
are_some document q [] h = refl
are_some document q (e ∷ es) h =
    elim (q e) as (λ b. AreNodes document (map ref_of (cond b (e ∷ filter q es) (filter q es)))) [
      | true ↦ ap (λ o. is_some o && list_all (λ n. is_some (item_of document n)) (map ref_of (filter q es))) h.0 ∙ are_some document q es h.1
      | false ↦ are_some document q es h.1
    ]

pub are_nodes : (document : Document ℕ) → IsNumbered document → (x : Axis) (r : NodeRef) → AreNodes document (on_axis document x r)
are_nodes document numbers x r = by (find (λ e. same_ref r (ref_of e)) (entries_of document))
  where
    by : (o : Option (Entry ℕ)) → AreNodes document (axis_from (entries_of document) x o)
    by None = refl
    by (Some e) = are_some document (λ o. is_on x (way_to e.place) (way_to o.place)) (entries_of document)
        (all_items document numbers (entries_of document) (all_at (root_of document)))

kept_both : (document : Document ℕ) (x : Axis) (t : Test) (q : Entry ℕ → Bool) (es : List (Entry ℕ)) → AllItems document es
    → filter (is_passing document x t) (map ref_of (filter q es)) ≡ map ref_of (filter (λ e. q e && passes x t e.item) es)
kept_both document x t q [] h = refl
kept_both document x t q (e ∷ es) h =
    let p = is_passing document x t in
    let rest = kept_both document x t q es h.1 in
    let own : p (ref_of e) ≡ passes x t e.item = ap (λ o. elim o as (λ _. Bool) [ None ↦ false | Some item ↦ passes x t item ]) h.0 in
    elim (q e) as (λ b. filter p (map ref_of (cond b (e ∷ filter q es) (filter q es)))
    ≡ map ref_of (cond (b && passes x t e.item) (e ∷ filter (λ e. q e && passes x t e.item) es) (filter (λ e. q e && passes x t e.item) es))) [
      | true ↦ one (p (ref_of e)) (passes x t e.item) own (ref_of e) e (filter p (map ref_of (filter q es))) (filter (λ e. q e && passes x t e.item) es)
          rest
      | false ↦ rest
    ]
  where
    one : (b c : Bool) → b ≡ c → (r : NodeRef) (e : Entry ℕ) (xs : List NodeRef) (ys : List (Entry ℕ)) → xs ≡ map ref_of ys
        → cond b (ref_of e ∷ xs) xs ≡ map ref_of (cond c (e ∷ ys) ys)
    one b true d r e xs ys h = ap (λ z. cond z (ref_of e ∷ xs) xs) d ∙ ap (λ zs. ref_of e ∷ zs) h
    one b false d r e xs ys h = ap (λ z. cond z (ref_of e ∷ xs) xs) d ∙ h

ordered_nil : (x : Axis) → in_axis_order {A = NodeRef} x [] ≡ []
ordered_nil x = by (is_reverse x)
  where
    by : (b : Bool) → cond {A = List NodeRef} b (reverse []) [] ≡ []
    by true = refl
    by false = refl

pub step_is : (document : Document ℕ) → IsNumbered document → (x : Axis) (t : Test) (r : NodeRef)
    → in_axis_order x (filter (is_passing document x t) (on_axis document x r)) ≡ stepped ref_of same_ref (entries_of document) x t r
step_is document numbers x t r = by (find (λ e. same_ref r (ref_of e)) (entries_of document))
  where
    by : (o : Option (Entry ℕ))
        → in_axis_order x (filter (is_passing document x t) (axis_from (entries_of document) x o)) ≡ step_from ref_of (entries_of document) x t o
    by None = ordered_nil x
    by (Some e) =
        ap (in_axis_order x)
        (kept_both document x t (λ o. is_on x (way_to e.place) (way_to o.place)) (entries_of document)
        (all_items document numbers (entries_of document) (all_at (root_of document))))

pub walked_part : (x : Axis) (p : Part) → (p ≡ part.Itself → ⊥) → IsWalked x p
walked_part x part.Itself h = absurd (h refl)
walked_part axis.Attribute (part.Attribute n) h = tt
walked_part axis.Attribute (part.Namespace n) h = tt
walked_part axis.Namespace (part.Attribute n) h = tt
walked_part axis.Namespace (part.Namespace n) h = tt
walked_part x (part.Attribute n) h = tt
walked_part x (part.Namespace n) h = tt

pub walked_axis : (x : Axis) (p : Part) → (x ≡ axis.Attribute → ⊥) → (x ≡ axis.Namespace → ⊥) → IsWalked x p
walked_axis axis.Attribute p h g = absurd (h refl)
walked_axis axis.Namespace p h g = absurd (g refl)
walked_axis axis.Itself p h g = tt
walked_axis axis.Child p h g = tt
walked_axis axis.Parent p h g = tt
walked_axis axis.Descendant p h g = tt
walked_axis axis.DescendantOrSelf p h g = tt
walked_axis axis.Ancestor p h g = tt
walked_axis axis.AncestorOrSelf p h g = tt
walked_axis axis.Following p h g = tt
walked_axis axis.Preceding p h g = tt
walked_axis axis.FollowingSibling p h g = tt
walked_axis axis.PrecedingSibling p h g = tt
