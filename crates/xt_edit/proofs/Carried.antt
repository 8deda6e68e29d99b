-- A node of a document taken away and put in elsewhere.
use Rattle.std.proofs.Common.{◌≡◌, ◌≢◌, ◌≤◌, ◌<◌, arith, ℕ, ◌+◌, ◌-◌, ◌==◌, true, false, cond, List, [], ◌∷◌, length, get_or, refl, ap, sym, subst, ◌∙◌}
use Rattle.std.proofs.Common.{Option, None, Some}
use Rattle.std.specs.Prelude.{nat_le}
use Rattle.std.specs.Option.{option_map, option_and_then, ForSome}
use Rattle.std.specs.declared.rc.Rc.{Rc}
use Rattle.std.specs.declared.alloc.Global.{Global}
use Rattle.std.proofs.lemmas.Bool.{and_parts, leb-true}
use Rattle.spec_document.specs.Forest.{Content, Document, Forest, Empty, Node as Tree}
use Rattle.spec_document.specs.Place.{Found, root_of, found_in, child_at, node_from, node_at}
use Rattle.spec_edit.specs.Splice.{Spot, below_changed, children_changed, deleted, sibling_count}
use Rattle.spec_move.specs.Move.{fewer_by, path_below, position_without, rearranged}
use Rattle.xt_edit.specs.Changed.{taken_out, with_children}
use Rattle.xt_edit.specs.Moving.{HasPosition, IsFewerBy, carried_in, moved_within, put_there_in, tree_in}
use Rattle.xt_edit.specs.Seam.{put_in}
use Rattle.xt_edit.specs.Site.{IsThere, found_below, found_there, outer_of, spot_in}
use Rattle.xt_edit.specs.declared.relocation.Ends.{Ends}
use Rattle.xt_edit.specs.declared.site.Site.{Site}
use Rattle.xt_edit.proofs.Renewed.{some_is}
use Rattle.xt_edit.proofs.Seams.{changed-there, count-length}
use Rattle.xt_edit.proofs.Shifted.{IsShifted, shifted, unshifted}
use Rattle.xt_edit.proofs.Sites.{child-from, position-from}
use Rattle.xt_tree.specs.declared.node.Node.{Node}
use Rattle.xt_tree.specs.View.{forest_of, tree_at, tree_of}
use Rattle.xt_tree.proofs.Views.{tree_at-index}
use Rattle.xt_tree.proofs.Ways.{found_tree, child_at-tree_at}

-- ---- The node among its siblings

pub index-within : (document : Document ℕ) (spot : Spot) (node : Node) (xs : List (Rc Node Global)) → IsThere document spot node
    → ForSome (node_at document spot.above) (λ n. forest_of xs ≡ n.children) → spot.position - 1 < length xs
index-within document spot node xs t are =
    let outer = outer_of document spot in
    let within = child-from outer.above outer.children spot.position (found_there document spot node) t.child in
    let same = ap sibling_count (are outer t.parent) in
    let many = count-length xs in
    omega (arith, within.0, within.1, same, many)

pub alone-is : (document : Document ℕ) (spot : Spot) (node : Node) (xs : List (Rc Node Global)) (x : Rc Node Global) → IsThere document spot node
    → ForSome (node_at document spot.above) (λ n. forest_of xs ≡ n.children) → x ≡ get_or xs (spot.position - 1) x
    → forest_of (x ∷ []) ≡ tree_in node
alone-is document spot node xs x t are is =
    let outer = outer_of document spot in
    let from = position-from document spot node t in
    let within = index-within document spot node xs t are in
    let at : tree_at outer.children spot.position ≡ Some (tree_of x.value) =
    ap (λ f. tree_at f spot.position) (sym (are outer t.parent)) ∙ tree_at-index xs spot.position x (omega arith) (omega arith)
    ∙ ap (λ y. Some (tree_of y.value)) (sym is) in
    let found : found_tree outer.above (tree_of x.value) ≡ found_below outer node =
    some_is (found_tree outer.above (tree_of x.value)) (found_below outer node)
    (sym (child_at-tree_at outer.above outer.children spot.position ∙ ap (option_map (found_tree outer.above)) at) ∙ t.child) in
    let content : (tree_of x.value).content ≡ (tree_of node).content =
    some_is (tree_of x.value).content (tree_of node).content (ap (λ (f : Found ℕ). f.content) found) in
    λ i. Tree (found i).label (content i) (found i).children Empty

-- ---- Documents that changed at one place

abbrev with_kids : Found ℕ → Forest ℕ → Found ℕ
with_kids node children = record { label = node.label; content = node.content; children = children; above = node.above }

child-changed : (change : Forest ℕ → Forest ℕ) (above : List Content) (f : Forest ℕ) (p : ℕ)
    → child_at above (below_changed change p f) p ≡ option_map (λ c. with_kids c (change c.children)) (child_at above f p)
child-changed change above Empty p = refl
child-changed change above (Tree l c f s) p =
    elim (p == 1) as (λ b. (p == 1) ≡ b → child_at above (cond b (Tree l c (change f) s) (Tree l c f (below_changed change (p - 1) s))) p
    ≡ option_map (λ c. with_kids c (change c.children)) (cond b (Some (found_in above l c f)) (child_at above s (p - 1)))) [
      | true ↦ λ e. ap (λ b. cond b (Some (found_in above l c (change f))) (child_at above s (p - 1))) e
      | false ↦ λ e. ap (λ b. cond b (Some (found_in above l c f)) (child_at above (below_changed change (p - 1) s) (p - 1))) e
          ∙ child-changed change above s (p - 1)
    ] refl

then-changed : (change : Forest ℕ → Forest ℕ) (ps : List ℕ)
    → ((c : Found ℕ) → node_from ps (with_kids c (children_changed change ps c.children))
    ≡ option_map (λ n. with_kids n (change n.children)) (node_from ps c))
    → (o : Option (Found ℕ)) → option_and_then (node_from ps) (option_map (λ c. with_kids c (children_changed change ps c.children)) o)
    ≡ option_map (λ n. with_kids n (change n.children)) (option_and_then (node_from ps) o)
then-changed change ps go None = refl
then-changed change ps go (Some c) = go c

at-changed : (change : Forest ℕ → Forest ℕ) (ps : List ℕ) (node : Found ℕ)
    → node_from ps (with_kids node (children_changed change ps node.children)) ≡ option_map (λ n. with_kids n (change n.children)) (node_from ps node)
at-changed change [] node = refl
at-changed change (p ∷ ps) node =
    ap (option_and_then (node_from ps)) (child-changed (children_changed change ps) node.above node.children p)
    ∙ then-changed change ps (at-changed change ps) (child_at node.above node.children p)

below-twice : (f g : Forest ℕ → Forest ℕ) (p : ℕ) (s : Forest ℕ) → below_changed f p (below_changed g p s) ≡ below_changed (λ h. f (g h)) p s
below-twice f g p Empty = refl
below-twice f g p (Tree l c h s) =
    elim (p == 1) as (λ b. (p == 1) ≡ b → below_changed f p (cond b (Tree l c (g h) s) (Tree l c h (below_changed g (p - 1) s)))
    ≡ cond b (Tree l c (f (g h)) s) (Tree l c h (below_changed (λ k. f (g k)) (p - 1) s))) [
      | true ↦ λ e. ap (λ b. cond b (Tree l c (f (g h)) s) (Tree l c (g h) (below_changed f (p - 1) s))) e
      | false ↦ λ e. ap (λ b. cond b (Tree l c (f h) (below_changed g (p - 1) s)) (Tree l c h (below_changed f (p - 1) (below_changed g (p - 1) s)))) e
          ∙ ap (Tree l c h) (below-twice f g (p - 1) s)
    ] refl

twice : (f g : Forest ℕ → Forest ℕ) (ps : List ℕ) (s : Forest ℕ)
    → children_changed f ps (children_changed g ps s) ≡ children_changed (λ h. f (g h)) ps s
twice f g [] s = refl
twice f g (p ∷ ps) s = below-twice (children_changed f ps) (children_changed g ps) p s ∙ λ i. below_changed (λ h. twice f g ps h i) p s

-- ---- By how many siblings there are fewer

pub fewer-is : (document : Document ℕ) (site : Site) (fewer : ℕ) → IsThere document (spot_in site.spot) site.node.now
    → IsFewerBy document (taken_out document site) site.spot.parent.now fewer
    → fewer ≡ fewer_by site.spot.position (outer_of document (spot_in site.spot)).children
fewer-is document site fewer t by =
    let spot = spot_in site.spot in
    let outer = outer_of document spot in
    let change = deleted (spot.position - 1) in
    by outer t.parent (with_kids outer (change outer.children))
    (at-changed change spot.above (root_of document) ∙ ap (option_map (λ n. with_kids n (change n.children))) t.parent)

-- ---- To another parent

abbrev ToAnother : Document ℕ → Ends → Forest ℕ → ℕ → Document ℕ → Type 0
ToAnother document ends nodes fewer left =
    IsFewerBy document left ends.site.spot.parent.now fewer → put_there_in left ends fewer nodes ≡ carried_in document ends nodes

pub carried-is : (document : Document ℕ) (ends : Ends) (nodes : Forest ℕ) (fewer : ℕ) (left : Document ℕ)
    → IsThere document (spot_in ends.site.spot) ends.site.node.now → left ≡ taken_out document ends.site → ToAnother document ends nodes fewer left
carried-is document ends nodes fewer left t e =
    subst (ToAnother document ends nodes fewer) (sym e) (λ by.
    let index = ends.to.spot.position - 1 in
    ap (λ n. with_children (put_in index index nodes)
    (path_below ends.site.spot.parent.now ends.site.spot.position n ends.to.spot.parent.now) (taken_out document ends.site))
    (fewer-is document ends.site fewer t by))

-- ---- Within one parent

pub position-least : (document : Document ℕ) (spot : Spot) (node : Node) (position : ℕ) → IsThere document spot node → HasPosition document spot position
    → (1 ≤ position) × (position ≤ sibling_count (outer_of document spot).children + 1)
position-least document spot node position t has =
    let outer = outer_of document spot in
    let parts = and_parts (nat_le 1 position) (nat_le position (sibling_count outer.children + 1)) (has outer t.parent) in
    (leb-true 1 position parts.0, leb-true position (sibling_count outer.children + 1) parts.1)

shift : (document : Document ℕ) (site : Site) (position fewer : ℕ) → IsThere document (spot_in site.spot) site.node.now
    → HasPosition document (spot_in site.spot) position → position ≢ site.spot.position → position - 1 ≢ site.spot.position
    → IsFewerBy document (taken_out document site) site.spot.parent.now fewer
    → IsShifted site.spot.position fewer position (tree_in site.node.now) (outer_of document (spot_in site.spot)).children
shift document site position fewer t has apart other by =
    let spot = spot_in site.spot in
    let outer = outer_of document spot in
    let bounds = position-least document spot site.node.now position t has in
    shifted outer.above outer.children spot.position fewer position (found_there document spot site.node.now) t.child (tree_in site.node.now) bounds.0 bounds.1
    (fewer-is document site fewer t by) apart other

pub place-from : (document : Document ℕ) (site : Site) (position fewer : ℕ) (left : Document ℕ) → IsThere document (spot_in site.spot) site.node.now
    → HasPosition document (spot_in site.spot) position → position ≢ site.spot.position → position - 1 ≢ site.spot.position
    → left ≡ taken_out document site → IsFewerBy document left site.spot.parent.now fewer
    → 1 ≤ position_without site.spot.position fewer position
place-from document site position fewer left t has apart other e by =
    (shift document site position fewer t has apart other (subst (λ l. IsFewerBy document l site.spot.parent.now fewer) e by)).some

-- the node alone put in at this index of what is left
abbrev put_alone : Document ℕ → Site → (index : ℕ) → Document ℕ
put_alone left site index = with_children (put_in index index (tree_in site.node.now)) site.spot.parent.now left

pub within-is : (document : Document ℕ) (site : Site) (position fewer : ℕ) (left : Document ℕ) → IsThere document (spot_in site.spot) site.node.now
    → HasPosition document (spot_in site.spot) position → position ≢ site.spot.position → position - 1 ≢ site.spot.position
    → left ≡ taken_out document site → IsFewerBy document left site.spot.parent.now fewer
    → put_alone left site (position_without site.spot.position fewer position - 1) ≡ moved_within document site position
within-is document site position fewer left t has apart other e by =
    let spot = spot_in site.spot in
    let outer = outer_of document spot in
    let tree = tree_in site.node.now in
    let index = position_without spot.position fewer position - 1 in
    let order = rearranged (spot.position - 1) (position - 1) tree in
    let s = shift document site position fewer t has apart other (subst (λ l. IsFewerBy document l site.spot.parent.now fewer) e by) in
    ap (λ l. put_alone l site index) e
    ∙ ap (λ nodes. record { root = document.root; nodes = nodes })
    (twice (put_in index index tree) (deleted (spot.position - 1)) spot.above document.nodes
    ∙ changed-there (λ f. put_in index index tree (deleted (spot.position - 1) f)) order spot.above document
    (λ n at. let same : outer ≡ n = some_is outer n (sym t.parent ∙ at) in
    subst (λ m. put_in index index tree (deleted (spot.position - 1) m.children) ≡ order m.children) same s.is))

-- right behind itself
pub unmoved-is : (document : Document ℕ) (site : Site) (position : ℕ) → 1 ≤ site.spot.position → position - 1 ≡ site.spot.position
    → with_children (put_in (site.spot.position - 1) (site.spot.position - 1 + 1) (tree_in site.node.now)) site.spot.parent.now document
    ≡ moved_within document site position
unmoved-is document site position some at =
    λ i. with_children (λ f. unshifted site.spot.position position (tree_in site.node.now) some at f i) site.spot.parent.now document
