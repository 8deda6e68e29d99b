-- What nodes are put below, and what is put there.
use Rattle.std.proofs.Common.{◌≡◌, ◌≤◌, arith, ℕ, ◌+◌, ◌-◌, true, List, length, None, Some, if◌then◌else◌, ap, sym, ◌∙◌, nat_le, inl, inr}
use Rattle.std.proofs.lemmas.Bool.Decides.{leb_tells}
use Rattle.std.specs.Prelude.{Ok, ◌&&◌}
use Rattle.std.specs.Option.{ForSome}
use Rattle.std.specs.declared.rc.Rc.{Rc}
use Rattle.std.specs.declared.alloc.Global.{Global}
use Rattle.spec_document.specs.declared.parent.Parent.{Parent}
use Rattle.spec_document.specs.declared.parent.Parent.TheVariants as parents
use Rattle.spec_document.specs.Document.{nodes_of}
use Rattle.spec_document.specs.Forest.{Content, Document, Forest, size}
use Rattle.spec_document.specs.Place.{Found, root_of, node_at, scope_at}
use Rattle.spec_edit.specs.Edit.{Edited, Insert, edited_nodes, inserted_in, inserted_below, inserts, is_element, is_position, parent_by, refused}
use Rattle.spec_edit.specs.Splice.{Spot, spot_of, children_changed, inserted, sibling_count}
use Rattle.xt_tree.specs.declared.node.Node.{Node}
use Rattle.xt_tree.specs.Edit.{IsNodeAt}
use Rattle.xt_tree.specs.View.{forest_of, tree_of}
use Rattle.xt_edit.specs.Inserted.{IsParent}
use Rattle.xt_edit.proofs.Seams.{count-length}
use Rattle.xt_edit.proofs.Sites.{depth_of-from}

some_is : {A : Type 0} (x y : A) → Some x ≡ Some y → x ≡ y
some_is x y e = ap (λ o. elim o [ Some z ↦ z | None ↦ x ]) e

-- an element is a parent
pub element-parent : (document : Document ℕ) (path : List ℕ) (node : Node) (content : Content) → IsNodeAt document path (Some node)
    → content ≡ (tree_of node).content → true ≡ is_element content
    → ForSome (node_at document path) (λ x. Some (parents.Element (length path)) ≡ parent_by x.content x)
element-parent document path node content h c e x at =
    let same : h.0 ≡ x = some_is h.0 x (sym h.1 ∙ at) in
    let own : Some (tree_of node).content ≡ x.content = h.2.content ∙ ap (λ (f : Found ℕ). f.content) same in
    let depth = depth_of-from path (root_of document) x at in
    let levels : length path ≡ length x.above = omega (arith, depth) in
    ap (λ n. Some (parents.Element n)) levels
    ∙ ap (λ b. if b then Some (parents.Element (length x.above)) else None) (e ∙ ap is_element c)
    ∙ ap (λ o. parent_by o x) own

-- ---- Positions

at_least : (n p : ℕ) → n ≤ p → nat_le n p ≡ true
at_least n p h = elim (leb_tells n p) [ inl t ↦ t.0 | inr t ↦ absurd (omega (arith, t.1)) ]

pub position-is : (p : ℕ) (xs : List (Rc Node Global)) → 1 ≤ p → nat_le p (length xs + 1) ≡ is_position p (forest_of xs)
position-is p xs h =
    ap (λ n. nat_le p (n + 1)) (sym (count-length xs)) ∙ ap (λ b. b && nat_le p (sibling_count (forest_of xs) + 1)) (sym (at_least 1 p h))

-- ---- The insertion

abbrev pub with_nodes : Document ℕ → Spot → Forest ℕ → Edited ℕ
with_nodes document spot nodes = record { nodes = children_changed (inserted (spot.position - 1) nodes) spot.above document.nodes; made = size nodes }

pub inserted-is : (first : ℕ) (document : Document ℕ) (path : List ℕ) (spot : Spot) (body : List (List ℕ)) (parent : Parent) (nodes : Forest ℕ)
    → Some spot ≡ spot_of path → (p : IsParent document spot parent) → nodes_of (scope_at p.outer) first parent body ≡ Ok nodes
    → edited_nodes first (Insert path body) document ≡ Ok (with_nodes document spot nodes)
inserted-is first document path spot body parent nodes e p built =
    let same : Forest ℕ → Forest ℕ = λ f. f in
    let outer = p.outer in
    ap (λ o. elim o [ None ↦ refused 7 | Some s ↦ inserted_in same first s body document (node_at document s.above) ]) (sym e)
    ∙ ap (inserted_in same first spot body document) p.at
    ∙ ap (inserted_below same first spot body document outer) p.is
    ∙ ap (λ b. if b then inserts same spot document (nodes_of (scope_at outer) first parent body) else refused 6) p.position
    ∙ ap (inserts same spot document) built
