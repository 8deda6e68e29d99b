-- Ways through a forest, and the nodes that they lead to.
use Rattle.std.proofs.Common.{◌≡◌, ◌≢◌, ◌≤◌, subst, ℕ, ◌+◌, ◌-◌, true, false, cond, List, [], ◌∷◌, ◌++◌, ◌==◌}
use Rattle.std.proofs.Common.{Option, Some, None, is_some, refl, sym, ap, ◌∙◌, arith}
use Rattle.std.proofs.lemmas.Bool.{eqb-true}
use Rattle.std.specs.Option.{option_map, option_and_then, option_or}
use Rattle.spec_document.specs.Forest as spec
use Rattle.spec_document.specs.Scope.{Scope, root_scope}
use Rattle.spec_document.specs.declared.kind.Kind.TheVariants as kind
use Rattle.spec_document.specs.Declaration.{within, namespaces_in, scope_of as scope_in}
use Rattle.spec_document.specs.Place.{kind_by, namespaces_by, scope_at, Found, found_in, child_at, node_from, node_at, root_of, first_in}
use Rattle.spec_document.specs.Place.{AttributeNode, at_number, attribute_at, attributes_of}
use Rattle.spec_node.specs.declared.node_ref.NodeRef.{NodeRef}
use Rattle.spec_node.specs.declared.node_ref.Part.TheVariants as part
use Rattle.xt_tree.specs.declared.node.Node.{Node, out-Node}
use Rattle.xt_tree.specs.View.{scope_from, content_of, Tree, tree_of, forest_of, tree_at, number_from, way_to, first_tree, itself}
use Rattle.xt_tree.specs.View.{numbered_node, part_of, IsPlaceOf, IsWayTo}
use Rattle.xt_tree.proofs.Views.{view-Node}

abbrev pub found_tree : List spec.Content → Tree → Found ℕ
found_tree above t = found_in above t.number t.content t.children

pub child_at-tree_at : (above : List spec.Content) (f : spec.Forest ℕ) (p : ℕ) → child_at above f p ≡ option_map (found_tree above) (tree_at f p)
child_at-tree_at above spec.Empty p = refl
child_at-tree_at above (spec.Node l c f g) p =
    elim (p == 1) as (λ b. cond b (Some (found_in above l c f)) (child_at above g (p - 1))
    ≡ option_map (found_tree above) (cond b (Some (record { number = l; content = c; children = f })) (tree_at g (p - 1)))) [
      | true ↦ refl
      | false ↦ child_at-tree_at above g (p - 1)
    ]

label_below : (ps : List ℕ) (above : List spec.Content) (o : Option Tree)
    → ((node : Found ℕ) → option_map (λ n. n.label) (node_from ps node) ≡ number_from ps node.label node.children)
    → option_map (λ n. n.label) (option_and_then (node_from ps) (option_map (found_tree above) o))
    ≡ option_and_then (λ tree. number_from ps tree.number tree.children) o
label_below ps above None below = refl
label_below ps above (Some t) below = below (found_tree above t)

-- the label of the node that positions lead to
pub label-node_from : (ps : List ℕ) (node : Found ℕ) → option_map (λ n. n.label) (node_from ps node) ≡ number_from ps node.label node.children
label-node_from [] node = refl
label-node_from (p ∷ ps) node =
    ap (λ o. option_map (λ n. n.label) (option_and_then (node_from ps) o)) (child_at-tree_at node.above node.children p)
    ∙ label_below ps node.above (tree_at node.children p) (λ n. label-node_from ps n)

-- a way that is gone on with from nothing
pub from_nothing : (way : Option (List ℕ)) (path : List ℕ) → option_map (λ w. [] ++ w) way ≡ Some path → way ≡ Some path
from_nothing None path e = e
from_nothing (Some w) path e = e

pub nothing_on : (way : Option (List ℕ)) → option_map (λ w. [] ++ w) way ≡ None → way ≡ None
nothing_on None e = e
nothing_on (Some w) e = e

-- one step down
pub number_down : (p : ℕ) (ps : List ℕ) (number : ℕ) (f : spec.Forest ℕ) (n : Node) → tree_at f p ≡ Some (tree_of n)
    → number_from (p ∷ ps) number f ≡ number_from ps (out-Node n).id.number (forest_of (out-Node n).children.items)
number_down p ps number f n at = ap (option_and_then (λ tree. number_from ps tree.number tree.children)) at ∙ rw (view-Node n) refl

pub at_number_path : (document : spec.Document ℕ) (ps : List ℕ) (o : Option ℕ) → o ≡ number_from ps document.root document.nodes
    → option_map itself o ≡ option_map (λ node. itself node.label) (node_at document ps)
at_number_path document ps o e =
    ap (option_map itself) (e ∙ sym (label-node_from ps (root_of document))) ∙ twice (node_at document ps)
  where
    twice : (node : Option (Found ℕ)) → option_map itself (option_map (λ n. n.label) node) ≡ option_map (λ n. itself n.label) node
    twice None = refl
    twice (Some node) = refl

-- ---- A way leads to the node of the number

abbrev LeadsTo : ℕ → spec.Forest ℕ → List spec.Content → Option (List ℕ) → Option (Found ℕ) → Type 0
LeadsTo position f above None found = found ≡ None
LeadsTo position f above (Some []) found = ⊥
LeadsTo position f above (Some (p ∷ ps)) found =
    (position ≤ p) × (option_and_then (node_from ps) (child_at above f (p + 1 - position)) ≡ found) × (found ≢ None)

first_child : (position : ℕ) (l : ℕ) (c : spec.Content) (f g : spec.Forest ℕ) (above : List spec.Content)
    → child_at above (spec.Node l c f g) (position + 1 - position) ≡ Some (found_in above l c f)
first_child position l c f g above = let one : position + 1 - position ≡ 1 = omega arith in ap (child_at above (spec.Node l c f g)) one

later_child : (position p : ℕ) (l : ℕ) (c : spec.Content) (f g : spec.Forest ℕ) (above : List spec.Content) → position + 1 ≤ p
    → child_at above (spec.Node l c f g) (p + 1 - position) ≡ child_at above g (p + 1 - (position + 1))
later_child position p l c f g above h =
    elim (p + 1 - position == 1) as (λ b. (p + 1 - position == 1) ≡ b
    → cond b (Some (found_in above l c f)) (child_at above g (p + 1 - position - 1)) ≡ child_at above g (p + 1 - (position + 1))) [
      | true ↦ λ e. let is : p + 1 - position ≡ 1 = eqb-true (p + 1 - position) 1 e in absurd (omega arith)
      | false ↦ λ _. let less : p + 1 - position - 1 ≡ p + 1 - (position + 1) = omega arith in ap (child_at above g) less
    ] refl

some_none : {A : Type 0} (x : A) → Some x ≢ None
some_none x e = cc

or_there : {A : Type 0} (a b : Option A) → a ≢ None → option_or a b ≡ a
or_there None b h = absurd (h refl)
or_there (Some x) b h = refl

skipped : (position : ℕ) (l : ℕ) (c : spec.Content) (f g : spec.Forest ℕ) (above : List spec.Content) (way : Option (List ℕ))
    (found : Option (Found ℕ))
    → LeadsTo (position + 1) g above way found → LeadsTo position (spec.Node l c f g) above way found
skipped position l c f g above None found h = h
skipped position l c f g above (Some []) found h = h
skipped position l c f g above (Some (p ∷ ps)) found h =
    (omega (arith, h.0), ap (option_and_then (node_from ps)) (later_child position p l c f g above h.0) ∙ h.1, h.2)

below_or_behind : (position : ℕ) (l : ℕ) (c : spec.Content) (f g : spec.Forest ℕ) (above : List spec.Content) (way more : Option (List ℕ))
    (found others : Option (Found ℕ))
    → LeadsTo 1 f (c ∷ above) way found → LeadsTo (position + 1) g above more others
    → LeadsTo position (spec.Node l c f g) above (option_or (option_map (λ w. position ∷ w) way) more) (option_or found others)
below_or_behind position l c f g above None more found others h k =
    subst (λ o. LeadsTo position (spec.Node l c f g) above more (option_or o others)) (sym h) (skipped position l c f g above more others k)
below_or_behind position l c f g above (Some []) more found others h k = absurd h
below_or_behind position l c f g above (Some (p ∷ ps)) more found others h k =
    let same : p + 1 - 1 ≡ p = omega arith in
    let down = ap (option_and_then (node_from (p ∷ ps))) (first_child position l c f g above)
    ∙ ap (λ q. option_and_then (node_from ps) (child_at (c ∷ above) f q)) (sym same) ∙ h.1 in
    (omega arith, down ∙ sym (or_there found others h.2), λ e. h.2 (sym (or_there found others h.2) ∙ e))

way_leads : (number position : ℕ) (f : spec.Forest ℕ) (above : List spec.Content)
    → LeadsTo position f above (way_to number position f) (first_in (λ l. l == number) above f)
way_leads number position spec.Empty above = refl
way_leads number position (spec.Node l c f g) above =
    elim (l == number) as (λ b. LeadsTo position (spec.Node l c f g) above
    (cond b (Some (position ∷ [])) (option_or (option_map (λ w. position ∷ w) (way_to number 1 f)) (way_to number (position + 1) g)))
    (cond b (Some (found_in above l c f)) (option_or (first_in (λ l. l == number) (c ∷ above) f) (first_in (λ l. l == number) above g)))) [
      | true ↦ (omega arith, ap (option_and_then (node_from [])) (first_child position l c f g above), some_none _)
      | false ↦ below_or_behind position l c f g above _ _ _ _ (way_leads number 1 f (c ∷ above)) (way_leads number (position + 1) g above)
    ]

-- from the root
abbrev pub LeadsFromRoot : spec.Document ℕ → ℕ → Option (List ℕ) → Type 0
LeadsFromRoot document number None = first_in (λ l. l == number) [] document.nodes ≡ None
LeadsFromRoot document number (Some way) =
    (node_at document way ≡ first_in (λ l. l == number) [] document.nodes) × (first_in (λ l. l == number) [] document.nodes ≢ None)

from_root : (document : spec.Document ℕ) (number : ℕ) (way : Option (List ℕ))
    → LeadsTo 1 document.nodes [] way (first_in (λ l. l == number) [] document.nodes) → LeadsFromRoot document number way
from_root document number None h = h
from_root document number (Some []) h = absurd h
from_root document number (Some (p ∷ ps)) h =
    let same : p ≡ p + 1 - 1 = omega arith in
    (ap (λ q. option_and_then (node_from ps) (child_at [] document.nodes q)) same ∙ h.1, h.2)

pub way_from_root : (document : spec.Document ℕ) (number : ℕ) → LeadsFromRoot document number (way_to number 1 document.nodes)
way_from_root document number = from_root document number _ (way_leads number 1 document.nodes [])

pub root_way : (document : spec.Document ℕ) (number : ℕ) → (document.root == number) ≡ true → IsWayTo document number (Some [])
root_way document number h =
    let here : numbered_node document number ≡ Some (root_of document) =
    ap (λ b. cond b (Some (root_of document)) (first_in (λ l. l == number) [] document.nodes)) h in
    (sym here, λ e. some_none (root_of document) (sym here ∙ e))

not_root : (document : spec.Document ℕ) (number : ℕ) → (document.root == number) ≡ false
    → numbered_node document number ≡ first_in (λ l. l == number) [] document.nodes
not_root document number h = ap (λ b. cond b (Some (root_of document)) (first_in (λ l. l == number) [] document.nodes)) h

-- the way that is found leads there, and without one there is no such node
pub way_is : (document : spec.Document ℕ) (number : ℕ) (way : Option (List ℕ)) → (document.root == number) ≡ false
    → way_to number 1 document.nodes ≡ way → IsWayTo document number way
way_is document number None h e =
    not_root document number h ∙ subst (LeadsFromRoot document number) e (way_from_root document number)
way_is document number (Some way) h e =
    let w = subst (LeadsFromRoot document number) e (way_from_root document number) in
    (w.0 ∙ sym (not_root document number h), λ d. w.1 (sym (not_root document number h) ∙ d))

-- ---- The first tree of a number, and the node that it is

pub record Seen : Type 0 where
  pub content : Option spec.Content
  pub children : spec.Forest ℕ

abbrev seen_node : Found ℕ → Seen
seen_node n = record { content = n.content; children = n.children }

abbrev seen_tree : Tree → Seen
seen_tree t = record { content = Some t.content; children = t.children }

either_first : (a b : Option (Found ℕ)) (s t : Option Tree) → option_map seen_node a ≡ option_map seen_tree s
    → option_map seen_node b ≡ option_map seen_tree t → option_map seen_node (option_or a b) ≡ option_map seen_tree (option_or s t)
either_first None b None t h k = k
either_first (Some n) b (Some s) t h k = h
either_first None b (Some s) t h k = absurd (cc)
either_first (Some n) b None t h k = absurd (cc)

pub first_in-tree : (number : ℕ) (above : List spec.Content) (f : spec.Forest ℕ)
    → option_map seen_node (first_in (λ l. l == number) above f) ≡ option_map seen_tree (first_tree number f)
first_in-tree number above spec.Empty = refl
first_in-tree number above (spec.Node l c f g) =
    elim (l == number) as (λ b. option_map seen_node
    (cond b (Some (found_in above l c f)) (option_or (first_in (λ l. l == number) (c ∷ above) f) (first_in (λ l. l == number) above g)))
    ≡ option_map seen_tree (cond b (Some (record { number = l; content = c; children = f })) (option_or (first_tree number f) (first_tree number g)))) [
      | true ↦ refl
      | false ↦ either_first (first_in (λ l. l == number) (c ∷ above) f) (first_in (λ l. l == number) above g) (first_tree number f)
          (first_tree number g) (first_in-tree number (c ∷ above) f) (first_in-tree number above g)
    ]

seen_number : (document : spec.Document ℕ) (number : ℕ) (x : Found ℕ) → (document.root == number) ≡ false
    → numbered_node document number ≡ Some x
    → option_map seen_tree (first_tree number document.nodes) ≡ Some (seen_node x)
seen_number document number x h e = sym (first_in-tree number [] document.nodes) ∙ ap (option_map seen_node) (sym (not_root document number h) ∙ e)

pub no_tree : (document : spec.Document ℕ) (number : ℕ) (x : Found ℕ) → (document.root == number) ≡ false
    → numbered_node document number ≡ Some x → first_tree number document.nodes ≡ None → ⊥
no_tree document number x h e none = some_none (seen_node x) (sym (seen_number document number x h e) ∙ ap (option_map seen_tree) none)

same_some : {A B C : Type 0} (f : A → C) (g : B → C) (a : Option A) (b : Option B) → option_map f a ≡ option_map g b → is_some a ≡ is_some b
same_some f g None None e = refl
same_some f g (Some x) (Some y) e = refl
same_some f g None (Some y) e = absurd (cc)
same_some f g (Some x) None e = absurd (cc)

pub some_mapped : {A B : Type 0} (f : A → B) (o : Option A) → is_some (option_map f o) ≡ is_some o
some_mapped f None = refl
some_mapped f (Some x) = refl

-- whether there is a node of the number
pub some_tree : (document : spec.Document ℕ) (number : ℕ) → (document.root == number) ≡ false
    → is_some (numbered_node document number) ≡ is_some (first_tree number document.nodes)
some_tree document number h =
    ap is_some (not_root document number h) ∙ same_some seen_node seen_tree _ _ (first_in-tree number [] document.nodes)

-- what is seen of the node is the tree that is found
pub record IsTree (x : Found ℕ) (t : Tree) : Type 0 where
  pub content : x.content ≡ Some t.content
  pub children : x.children ≡ t.children

some_same : {A : Type 0} (x y : A) → Some x ≡ Some y → x ≡ y
some_same x y e = ap (λ o. elim o [ Some z ↦ z | None ↦ x ]) e

pub is_tree : (document : spec.Document ℕ) (number : ℕ) (x : Found ℕ) (t : Tree) → (document.root == number) ≡ false
    → numbered_node document number ≡ Some x
    → first_tree number document.nodes ≡ Some t → IsTree x t
is_tree document number x t h e some =
    let same : seen_node x ≡ seen_tree t =
    some_same (seen_node x) (seen_tree t) (sym (seen_number document number x h e) ∙ ap (option_map seen_tree) some) in
    record { content = ap (λ s. s.content) same; children = ap (λ s. s.children) same }

-- the root
pub root_is : (document : spec.Document ℕ) (number : ℕ) (x : Found ℕ) → (document.root == number) ≡ true
    → numbered_node document number ≡ Some x → root_of document ≡ x
root_is document number x h e =
    some_same (root_of document) x (sym (ap (λ b. cond b (Some (root_of document)) (first_in (λ l. l == number) [] document.nodes)) h) ∙ e)

pub root_there : (document : spec.Document ℕ) (number : ℕ) → (document.root == number) ≡ true
    → numbered_node document number ≡ Some (root_of document)
root_there document number h = ap (λ b. cond b (Some (root_of document)) (first_in (λ l. l == number) [] document.nodes)) h

none_seen : (o : Option (Found ℕ)) → option_map seen_node o ≡ None → o ≡ None
none_seen None e = refl
none_seen (Some x) e = absurd (cc)

pub nothing_there : (document : spec.Document ℕ) (number : ℕ) → (document.root == number) ≡ false
    → first_tree number document.nodes ≡ None → numbered_node document number ≡ None
nothing_there document number h none =
    not_root document number h ∙ none_seen _ (first_in-tree number [] document.nodes ∙ ap (option_map seen_tree) none)

by_content : {B : Type 0} (f : Option spec.Content → Option B) (o : Option (Found ℕ)) (t : Tree) → option_map seen_node o ≡ Some (seen_tree t)
    → option_and_then (λ x. f x.content) o ≡ f (Some t.content)
by_content f None t e = absurd (cc)
by_content f (Some x) t e = ap (λ s. f s.content) (some_same (seen_node x) (seen_tree t) e)

-- what a content says of the node of the number
pub tree_there : {B : Type 0} (f : Option spec.Content → Option B) (document : spec.Document ℕ) (number : ℕ) (t : Tree)
    → (document.root == number) ≡ false → first_tree number document.nodes ≡ Some t
    → option_and_then (λ x. f x.content) (numbered_node document number) ≡ f (Some t.content)
tree_there f document number t h some =
    ap (option_and_then (λ x. f x.content)) (not_root document number h)
    ∙ by_content f _ t (first_in-tree number [] document.nodes ∙ ap (option_map seen_tree) some)

pub attribute_there : (k : ℕ) (o : Option (Found ℕ))
    → is_some (option_and_then (λ x. at_number k (attributes_of x)) o) ≡ is_some (option_and_then (λ x. attribute_at x k) o)
attribute_there k None = refl
attribute_there k (Some x) = sym (some_mapped (AttributeNode x) (at_number k (attributes_of x)))

itself_none : (o : Option (Found ℕ)) → option_and_then (part_of part.Itself) o ≡ None → o ≡ None
itself_none None e = refl
itself_none (Some x) e = absurd (cc)

-- the way to a node is its place
pub place_itself : (document : spec.Document ℕ) (node : NodeRef) (place : Option (List ℕ)) → node.part ≡ part.Itself
    → IsWayTo document node.node.number place → IsPlaceOf document node place
place_itself document node None e way = ap (option_and_then (part_of node.part)) way
place_itself document node (Some path) e way =
    (way.0, λ none. way.1 (itself_none _ (ap (λ p. option_and_then (part_of p) (numbered_node document node.node.number)) (sym e) ∙ none)))

-- ---- The scope along a way

scope_below : (ps : List ℕ) (above : List spec.Content) (o : Option Tree)
    → ((node : Found ℕ) → option_map scope_at (node_from ps node) ≡ scope_from ps (scope_at node) node.children)
    → option_map scope_at (option_and_then (node_from ps) (option_map (found_tree above) o))
    ≡ option_and_then (λ tree. scope_from ps (within tree.content (scope_in root_scope above)) tree.children) o
scope_below ps above None below = refl
scope_below ps above (Some t) below = below (found_tree above t)

pub scope_at-node_from : (ps : List ℕ) (node : Found ℕ) → option_map scope_at (node_from ps node) ≡ scope_from ps (scope_at node) node.children
scope_at-node_from [] node = refl
scope_at-node_from (p ∷ ps) node =
    ap (λ o. option_map scope_at (option_and_then (node_from ps) o)) (child_at-tree_at node.above node.children p)
    ∙ scope_below ps node.above (tree_at node.children p) (λ n. scope_at-node_from ps n)

pub scope_down : (p : ℕ) (ps : List ℕ) (scope : Scope) (f : spec.Forest ℕ) (n : Node) → tree_at f p ≡ Some (tree_of n)
    → scope_from (p ∷ ps) scope f ≡ scope_from ps (within (content_of (out-Node n).content.value) scope) (forest_of (out-Node n).children.items)
scope_down p ps scope f n at = ap (option_and_then (λ tree. scope_from ps (within tree.content scope) tree.children)) at ∙ rw (view-Node n) refl

-- the scope at the node that is there
pub scope_reached : (document : spec.Document ℕ) (ps : List ℕ) (x : Found ℕ) (o : Option Scope) → o ≡ scope_from ps root_scope document.nodes
    → node_at document ps ≡ Some x
    → o ≡ Some (scope_at x)
scope_reached document ps x o e at = e ∙ sym (scope_at-node_from ps (root_of document)) ∙ ap (option_map scope_at) at

pub scope_same : (s t : Scope) → Some s ≡ Some t → s ≡ t
scope_same s t e = some_same s t e

pub scope_none : {A : Type 0} (x : A) → None ≡ Some x → ⊥
scope_none x e = some_none x (sym e)

-- ---- Namespace nodes: an element has them, and no other node

pub in_element : (content : Option spec.Content) (scope : Scope) → kind_by content ≡ kind.Element → namespaces_by content scope ≡ namespaces_in scope
in_element None scope e = absurd (cc)
in_element (Some (spec.Element name attributes)) scope e = refl
in_element (Some (spec.Text text)) scope e = absurd (cc)
in_element (Some (spec.Comment text)) scope e = absurd (cc)
in_element (Some (spec.Instruction target text)) scope e = absurd (cc)

pub in_no_element : (content : Option spec.Content) (scope : Scope) → kind_by content ≢ kind.Element → namespaces_by content scope ≡ []
in_no_element None scope h = refl
in_no_element (Some (spec.Element name attributes)) scope h = absurd (h refl)
in_no_element (Some (spec.Text text)) scope h = refl
in_no_element (Some (spec.Comment text)) scope h = refl
in_no_element (Some (spec.Instruction target text)) scope h = refl
