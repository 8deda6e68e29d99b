-- Forests that differ only in contents with the same names.
use Rattle.std.proofs.Common.{◌≡◌, ◌<◌, ◌≤◌, ℕ, ◌+◌, ◌-◌, true, false, cond, List, [], ◌∷◌, ◌++◌, ◌==◌, max, refl, sym, ap, subst, ◌∙◌}
use Rattle.std.proofs.Common.{Option, Some, None}
use Rattle.std.specs.Option.{option_map, option_and_then, option_or, ForSome}
use Rattle.spec_document.specs.Declaration.{within, scope_of}
use Rattle.spec_document.specs.Forest as spec
use Rattle.spec_document.specs.Forest.{Forest, Content, Document, labels, height, tree_at}
use Rattle.spec_document.specs.NodeFaults.{greatest_depth}
use Rattle.spec_document.specs.Place.{Found, found_in, child_at, node_from, root_of, first_in, scope_at}
use Rattle.spec_document.specs.Scope.{Scope, root_scope}
use Rattle.spec_edit.specs.Depth.{ElementsFit}
use Rattle.spec_edit.specs.Edit.{is_element}
use Rattle.spec_edit.specs.Splice.{children_changed, below_changed, content_replaced}
use Rattle.xt_tree.specs.Edit.{KeepsNames, content_below}
use Rattle.xt_tree.specs.declared.names.Called.{Called}
use Rattle.xt_tree.specs.Kept.{AreNames, called_by, scope_by}
use Rattle.xt_tree.specs.Keys.{Rises, last_key, key_limit}
use Rattle.xt_tree.specs.Numbers.{IsDocument, are_numbers}
use Rattle.xt_tree.specs.View.{numbered_node}
use Rattle.xt_tree.proofs.Distinct.{some_same}

pub data Alike : Forest ℕ → Forest ℕ → Type 0 where
  nothing : Alike spec.Empty spec.Empty
  same : {old new : Content} {f g h i : Forest ℕ} → (label : ℕ) → KeepsNames old new → Alike f g → Alike h i
      → Alike (spec.Node label old f h) (spec.Node label new g i)

same_names : (content : Content) → KeepsNames content content
same_names content = record { inside = λ s. refl; own = λ s. refl; kind = refl }

pub itself : (f : Forest ℕ) → Alike f f
itself spec.Empty = nothing
itself (spec.Node l c f g) = same l (same_names c) (itself f) (itself g)

-- ---- What is the same of both

pub labels_same : {f g : Forest ℕ} → Alike f g → labels g ≡ labels f
labels_same nothing = refl
labels_same (same l k a b) = λ i. l ∷ labels_same a i ++ labels_same b i

pub height_same : {f g : Forest ℕ} → Alike f g → height g ≡ height f
height_same nothing = refl
height_same (same l k a b) = λ i. max (1 + height_same a i) (height_same b i)

pub fits_same : (depth : ℕ) {f g : Forest ℕ} → Alike f g → ElementsFit depth f → ElementsFit depth g
fits_same depth nothing e = tt
fits_same depth (same l k a b) e = (λ is. e.0 (sym k.kind ∙ is), fits_same (depth + 1) a e.1, fits_same depth b e.2)

pub last_same : (key : ℕ → ℕ) (low : ℕ) {f g : Forest ℕ} → Alike f g → last_key key low g ≡ last_key key low f
last_same key low nothing = refl
last_same key low (same {h} {i} l k a b) = ap (λ n. last_key key n i) (last_same key (key l) a) ∙ last_same key _ b

pub rises_same : (key : ℕ → ℕ) (low : ℕ) {f g : Forest ℕ} → Alike f g → Rises key low f → Rises key low g
rises_same key low nothing r = tt
rises_same key low (same {i} l k a b) r =
    (r.0, rises_same key (key l) a r.1, subst (λ n. Rises key n i) (sym (last_same key (key l) a)) (rises_same key _ b r.2))

-- ---- The names of nodes

scope_same : (old new : Content) (scope : Scope) → is_element new ≡ is_element old → scope_by (Some new) scope ≡ scope_by (Some old) scope
scope_same (spec.Element n a) (spec.Element m b) scope h = refl
scope_same (spec.Element n a) (spec.Text t) scope h = absurd (cc)
scope_same (spec.Element n a) (spec.Comment t) scope h = absurd (cc)
scope_same (spec.Element n a) (spec.Instruction m t) scope h = absurd (cc)
scope_same (spec.Text t) (spec.Element m b) scope h = absurd (cc)
scope_same (spec.Text t) (spec.Text u) scope h = refl
scope_same (spec.Text t) (spec.Comment u) scope h = refl
scope_same (spec.Text t) (spec.Instruction m u) scope h = refl
scope_same (spec.Comment t) (spec.Element m b) scope h = absurd (cc)
scope_same (spec.Comment t) (spec.Text u) scope h = refl
scope_same (spec.Comment t) (spec.Comment u) scope h = refl
scope_same (spec.Comment t) (spec.Instruction m u) scope h = refl
scope_same (spec.Instruction n t) (spec.Element m b) scope h = absurd (cc)
scope_same (spec.Instruction n t) (spec.Text u) scope h = refl
scope_same (spec.Instruction n t) (spec.Comment u) scope h = refl
scope_same (spec.Instruction n t) (spec.Instruction m u) scope h = refl

called_same : {old new : Content} → KeepsNames old new → (scope : Scope) → called_by (Some new) scope ≡ called_by (Some old) scope
called_same {old} {new} k scope =
    let name = k.own scope in
    let inside = scope_same old new scope k.kind in
    λ i. record { name = name i; scope = inside i }

abbrev pub name_of : Found ℕ → Called
name_of node = called_by node.content (scope_at node)

abbrev first_name : ℕ → List Content → Forest ℕ → Option Called
first_name number above f = option_map name_of (first_in (λ l. l == number) above f)

either : {A B : Type 0} (m : A → B) (a b : Option A) → option_map m (option_or a b) ≡ option_or (option_map m a) (option_map m b)
either m None b = refl
either m (Some x) b = refl

pub names_same : (number : ℕ) (above below : List Content) {f g : Forest ℕ} → scope_of root_scope below ≡ scope_of root_scope above → Alike f g
    → first_name number below g ≡ first_name number above f
names_same number above below here nothing = refl
names_same number above below here (same {old} {new} {f} {g} {h} {i} l k a b) =
    let scope : scope_of root_scope (new ∷ below) ≡ scope_of root_scope (old ∷ above) =
    k.inside (scope_of root_scope below) ∙ ap (within old) here in
    let inner = names_same number (old ∷ above) (new ∷ below) scope a in
    let after = names_same number above below here b in
    let own : name_of (found_in below l new g) ≡ name_of (found_in above l old f) =
    called_same k (scope_of root_scope (new ∷ below)) ∙ ap (called_by (Some old)) scope in
    elim (l == number) as (λ t. option_map name_of (cond t (Some (found_in below l new g))
    (option_or (first_in (λ m. m == number) (new ∷ below) g) (first_in (λ m. m == number) below i)))
    ≡ option_map name_of (cond t (Some (found_in above l old f))
    (option_or (first_in (λ m. m == number) (old ∷ above) f) (first_in (λ m. m == number) above h)))) [
      | true ↦ ap Some own
      | false ↦ either name_of _ _ ∙ (λ j. option_or (inner j) (after j)) ∙ sym (either name_of _ _)
    ]

-- ---- Documents

named_node : (root number : ℕ) {f g : Forest ℕ} → Alike f g
    → option_map name_of (numbered_node (record { root = root; nodes = g }) number)
    ≡ option_map name_of (numbered_node (record { root = root; nodes = f }) number)
named_node root number {f} {g} a =
    elim (root == number) as (λ t. option_map name_of (cond t (Some (root_of (record { root = root; nodes = g }))) (first_in (λ m. m == number) [] g))
    ≡ option_map name_of (cond t (Some (root_of (record { root = root; nodes = f }))) (first_in (λ m. m == number) [] f))) [
      | true ↦ refl
      | false ↦ names_same number [] [] refl a
    ]

named_so : (name : Called) (x : Found ℕ) (old : Option (Found ℕ)) → option_map name_of (Some x) ≡ option_map name_of old
    → ForSome old (λ y. name ≡ name_of y) → name ≡ name_of x
named_so name x None e h = absurd (cc)
named_so name x (Some y) e h = h y refl ∙ sym (some_same (name_of x) (name_of y) e)

kept_same : (kept : ℕ → Option Called) (root : ℕ) {f g : Forest ℕ} → Alike f g → AreNames kept (record { root = root; nodes = f })
    → AreNames kept (record { root = root; nodes = g })
kept_same kept root a names number name known x e =
    named_so name x _ (sym (ap (option_map name_of) e) ∙ named_node root number a) (names number name known)

pub document_same : (key : ℕ → ℕ) (kept : ℕ → Option Called) (root : ℕ) {f g : Forest ℕ} → Alike f g
    → IsDocument key kept (record { root = root; nodes = f }) → IsDocument key kept (record { root = root; nodes = g })
document_same key kept root {f} {g} a d =
    record {
      numbers = subst (λ ns. are_numbers (root ∷ ns) ≡ true) (sym (labels_same a)) d.numbers;
      depth = subst (λ n. n ≤ greatest_depth + 1) (sym (height_same a)) d.depth;
      fits = fits_same 1 a d.fits;
      rises = rises_same key 0 a d.rises;
      limit = subst (λ n. n < key_limit) (sym (last_same key 0 a)) d.limit;
      names = kept_same kept root a d.names;
    }

-- ---- A content in place of another one

abbrev content_at : ℕ → Forest ℕ → Option Content
content_at position f = option_map (λ tree. tree.content) (tree_at f position)

replaced_alike : (position : ℕ) (new : Content) (f : Forest ℕ) → ForSome (content_at position f) (λ old. KeepsNames old new)
    → Alike f (content_replaced position new f)
replaced_alike position new spec.Empty h = nothing
replaced_alike position new (spec.Node l c f g) h =
    elim (position == 1) as (λ b. ForSome (option_map (λ tree. tree.content)
    (cond b (Some (record { label = l; content = c; children = f })) (tree_at g (position - 1))))
    (λ old. KeepsNames old new)
    → Alike (spec.Node l c f g) (cond b (spec.Node l new f g) (spec.Node l c f (content_replaced (position - 1) new g)))) [
      | true ↦ λ k. same l (k c refl) (itself f) (itself g)
      | false ↦ λ k. same l (same_names c) (itself f) (replaced_alike (position - 1) new g k)
    ] h

below_alike : (change : Forest ℕ → Forest ℕ) (position : ℕ) (above : List Content) (f : Forest ℕ)
    → ((x : Found ℕ) → child_at above f position ≡ Some x → Alike x.children (change x.children)) → Alike f (below_changed change position f)
below_alike change position above spec.Empty h = nothing
below_alike change position above (spec.Node l c f g) h =
    elim (position == 1) as (λ b. ((x : Found ℕ) → cond b (Some (found_in above l c f)) (child_at above g (position - 1)) ≡ Some x
    → Alike x.children (change x.children))
    → Alike (spec.Node l c f g) (cond b (spec.Node l c (change f) g) (spec.Node l c f (below_changed change (position - 1) g)))) [
      | true ↦ λ k. same l (same_names c) (k (found_in above l c f) refl) (itself g)
      | false ↦ λ k. same l (same_names c) (itself f) (below_alike change (position - 1) above g k)
    ] h

abbrev content_under : ℕ → Option (Found ℕ) → Option Content
content_under position found = option_and_then (λ node. content_at position node.children) found

changed_from : (position : ℕ) (new : Content) (path : List ℕ) (x : Found ℕ)
    → ForSome (content_under position (node_from path x)) (λ old. KeepsNames old new)
    → Alike x.children (children_changed (content_replaced position new) path x.children)
changed_from position new [] x h = replaced_alike position new x.children h
changed_from position new (p ∷ ps) x h =
    below_alike (children_changed (content_replaced position new) ps) p x.above x.children
    (λ y at. changed_from position new ps y
    (λ old e. h old (ap (λ o. content_under position (option_and_then (node_from ps) o)) at ∙ e)))

pub changed_alike : (document : Document ℕ) (path : List ℕ) (position : ℕ) (new : Content)
    → ForSome (content_below document path position) (λ old. KeepsNames old new)
    → Alike document.nodes (children_changed (content_replaced position new) path document.nodes)
changed_alike document path position new h = changed_from position new path (root_of document) h
