-- Copies by scopes are the copies by what stands above.
use Rattle.std.proofs.Common.{◌≡◌, ◌∙◌, refl, sym, ap, ℕ, true, false, cond, not, List, [], ◌∷◌, Option, Some, None, arith}
use Rattle.std.specs.List.{filter}
use Rattle.std.specs.Option.{option_map, option_and_then}
use Rattle.spec_document.specs.Scope.{root_scope}
use Rattle.spec_document.specs.Declaration.{is_declaration, scope_of, within}
use Rattle.spec_document.specs.Forest as spec
use Rattle.spec_document.specs.Forest.{Document, Written, Content, Element, Text, Comment, Instruction, Forest}
use Rattle.spec_document.specs.Place.{Found, found_in, root_of, node_from, node_at, scope_at, attributes_of, Item, TreeNode, AttributeNode, NamespaceNode}
use Rattle.spec_meaning.specs.Stream as stream
use Rattle.spec_meaning.specs.Stream.{Stream, followed, holes}
use Rattle.spec_run.specs.Copy.{uri_of, attributes_before, node_before, copied_among, copied_by, copy_of}
use Rattle.xt_tree.specs.View.{Tree, tree_at}
use Rattle.xt_tree.proofs.Ways.{child_at-tree_at}
use Rattle.xt_copy.specs.Copied.{attribute_alone, copied_attributes, begun, around, copied_in, copied_from, element_uri, namespaces_in}

attributes_are : {L : Type 0} (element : Found L) (written : List Written) (below : Stream)
    → attributes_before element (filter (λ a. not (is_declaration a)) written) below ≡ followed (copied_attributes (scope_at element) written) below
attributes_are element [] below = refl
attributes_are element (a ∷ more) below =
    elim (is_declaration a) as (λ b. attributes_before element (cond (not b) (a ∷ filter (λ a. not (is_declaration a)) more) (filter (λ a. not (is_declaration a)) more)) below
    ≡ followed (followed (cond b stream.Ended (attribute_alone (scope_at element) a)) (copied_attributes (scope_at element) more)) below) [
      | true ↦ attributes_are element more below
      | false ↦ ap (stream.Attribute a.name (uri_of (AttributeNode element a)) (stream.Text a.value stream.Ended)) (attributes_are element more below)
    ]

node_is : {L : Type 0} (above : List Content) (label : L) (content : Content) (children : Forest L) (below rest : Stream)
    → node_before (found_in above label content children) content below rest
    ≡ followed (around (within content (scope_of root_scope above)) content (followed (begun (within content (scope_of root_scope above)) content) below)) rest
node_is above label (Element name attributes) children below rest =
    let scope = within (Element name attributes) (scope_of root_scope above) in
    ap (λ inside. stream.Element name (element_uri scope name) (namespaces_in scope) inside rest)
    (attributes_are (found_in above label (Element name attributes) children) attributes below)
node_is above label (Text text) children below rest = refl
node_is above label (Comment text) children below rest = refl
node_is above label (Instruction target text) children below rest = refl

pub among_is : {L : Type 0} (above : List Content) (f : Forest L) → copied_among above f ≡ copied_in (scope_of root_scope above) f
among_is above spec.Empty = refl
among_is above (spec.Node label content children siblings) =
    let inner = within content (scope_of root_scope above) in
    node_is above label content children (copied_among (content ∷ above) children) (copied_among above siblings)
    ∙ (λ i. followed (around inner content (followed (begun inner content) (among_is (content ∷ above) children i))) (among_is above siblings i))

-- one node by itself
alone_is : (above : List Content) (t : Tree) → copied_by (found_in above t.number t.content t.children) (Some t.content)
    ≡ copied_in (scope_of root_scope above) (spec.Node t.number t.content t.children spec.Empty)
alone_is above t =
    let inner = within t.content (scope_of root_scope above) in
    node_is above t.number t.content t.children (copied_among (t.content ∷ above) t.children) stream.Ended
    ∙ ap (λ below. followed (around inner t.content (followed (begun inner t.content) below)) stream.Ended) (among_is (t.content ∷ above) t.children)

-- ---- The node that positions lead to

down : (ps : List ℕ) (above : List Content) (x : Found ℕ) (o : Option Tree)
    → ((n : Found ℕ) → node_from ps n ≡ Some x → copied_from ps (copied_by n n.content) (scope_at n) n.children ≡ Some (copied_by x x.content))
    → option_and_then (node_from ps) (option_map (λ t. found_in above t.number t.content t.children) o) ≡ Some x
    → option_and_then (λ t. copied_from ps (copied_in (scope_of root_scope above) (spec.Node t.number t.content t.children spec.Empty))
    (within t.content (scope_of root_scope above)) t.children) o ≡ Some (copied_by x x.content)
down ps above x None h e = absurd (cc)
down ps above x (Some t) h e =
    ap (λ s. copied_from ps s (within t.content (scope_of root_scope above)) t.children) (sym (alone_is above t))
    ∙ h (found_in above t.number t.content t.children) e

reached : (ps : List ℕ) (node x : Found ℕ) → node_from ps node ≡ Some x
    → copied_from ps (copied_by node node.content) (scope_at node) node.children ≡ Some (copied_by x x.content)
reached [] node x e = ap (option_map (λ n. copied_by n n.content)) e
reached (p ∷ ps) node x e =
    down ps node.above x (tree_at node.children p) (λ n. reached ps n x)
    (ap (option_and_then (node_from ps)) (sym (child_at-tree_at node.above node.children p)) ∙ e)

pub reached_from_root : (document : Document ℕ) (path : List ℕ) (x : Found ℕ) → node_at document path ≡ Some x
    → copied_from path (copied_in root_scope document.nodes) root_scope document.nodes ≡ Some (copied_by x x.content)
reached_from_root document path x e =
    ap (λ s. copied_from path s root_scope document.nodes) (sym (among_is [] document.nodes)) ∙ reached path (root_of document) x e

-- ---- Copies have no holes

attributes_whole : {L : Type 0} (element : Found L) (written : List Written) (rest : Stream) → holes rest ≡ 0 → holes (attributes_before element written rest) ≡ 0
attributes_whole element [] rest h = h
attributes_whole element (a ∷ more) rest h = let behind = attributes_whole element more rest h in omega (arith, behind)

node_whole : {L : Type 0} (node : Found L) (content : Content) (below rest : Stream) → holes below ≡ 0 → holes rest ≡ 0
    → holes (node_before node content below rest) ≡ 0
node_whole node (Element name attributes) below rest h k =
    let inside = attributes_whole node (attributes_of node) below h in
    omega (arith, inside, k)
node_whole node (Text text) below rest h k = k
node_whole node (Comment text) below rest h k = omega (arith, k)
node_whole node (Instruction target text) below rest h k = omega (arith, k)

among_whole : {L : Type 0} (above : List Content) (f : Forest L) → holes (copied_among above f) ≡ 0
among_whole above spec.Empty = refl
among_whole above (spec.Node label content children siblings) =
    node_whole (found_in above label content children) content (copied_among (content ∷ above) children) (copied_among above siblings)
    (among_whole (content ∷ above) children) (among_whole above siblings)

by_whole : {L : Type 0} (node : Found L) (content : Option Content) → holes (copied_by node content) ≡ 0
by_whole node None = among_whole node.above node.children
by_whole node (Some content) = node_whole node content (copied_among node.above node.children) stream.Ended (among_whole node.above node.children) refl

pub copy_whole : {L : Type 0} (item : Item L) → holes (copy_of item) ≡ 0
copy_whole (TreeNode node) = by_whole node node.content
copy_whole (AttributeNode element a) = attributes_whole element (a ∷ []) stream.Ended refl
copy_whole (NamespaceNode element prefix uri) = refl
