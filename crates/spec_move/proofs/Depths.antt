-- How deep elements and forests are, through a move.
use Rattle.std.proofs.Common.{◌≡◌, ◌≤◌, arith, ℕ, suc, ◌+◌, ◌-◌, ◌==◌, Bool, true, false, cond, List, [], ◌∷◌, Option, None, Some, refl, sym, ap, ◌∙◌}
use Rattle.std.proofs.Common.{subst, length}
use Rattle.std.specs.Prelude.{Ok, nat_lt}
use Rattle.std.specs.Option.{option_and_then}
use Rattle.std.proofs.lemmas.Bool.{ltb-false}
use Rattle.spec_document.specs.Forest.{Content, Forest, Empty, Node, Document, plain, followed, height}
use Rattle.spec_document.specs.Place.{Found, root_of, found_in, child_at, node_from}
use Rattle.spec_document.specs.Fault.{fault_if}
use Rattle.spec_document.specs.NodeFaults.{greatest_depth}
use Rattle.spec_document.specs.Top.{kept}
use Rattle.spec_document.specs.Document.{elements_beside}
use Rattle.spec_edit.specs.Splice.{first_siblings, later_siblings, met, inserted, below_changed, children_changed}
use Rattle.spec_edit.specs.Edit.{Edited, without_lines, depth_of}
use Rattle.spec_edit.specs.Depth.{ElementsFit}
use Rattle.spec_edit.proofs.Around.{Around, filled, first-later, some_same}
use Rattle.spec_edit.proofs.Shapes.{same_nodes}
use Rattle.spec_edit.proofs.Depths.{steps, height-followed, height-met, height-in, height-whole, height-plain, height-numbered, height-without}
use Rattle.spec_edit.proofs.Depths.{fit-at, fit-parts, fit-met, fit-in, fit-whole, fit-plain, fit-numbered, fit-without}
use Rattle.spec_edit.proofs.Depths.{unfaulted-fit, IsShallow}
use Rattle.spec_move.specs.Move.{moved_nodes, placed, path_below, path_without}
use Rattle.spec_move.proofs.Shapes.{Reordered, is_later, is_earlier, Carriage, Shape, is_still, is_turn, is_carriage, shape, whole_at}

-- ---- Siblings in another order

reordered-height : {L : Type 0} (l : L) (c : Content) (f siblings others : Forest L) → Reordered l c f siblings others
    → height others ≤ height siblings
reordered-height l c f siblings others (is_later before between after whole is) =
    let tree = Node l c f Empty in
    let old = ap height whole in
    let now = ap height is in
    let outer = height-met before (met (met between tree) after) in
    let middle = height-met (met between tree) after in
    let inner = height-met between tree in
    let all = height-followed before (Node l c f (followed between after)) in
    let rest = height-followed between after in
    omega arith
reordered-height l c f siblings others (is_earlier before between after whole is) =
    let tree = Node l c f Empty in
    let old = ap height whole in
    let now = ap height is in
    let outer = height-met before (met (met tree between) after) in
    let middle = height-met (met tree between) after in
    let inner = height-met tree between in
    let all = height-followed before (followed between (Node l c f after)) in
    let rest = height-followed between (Node l c f after) in
    omega arith

reordered-fit : {L : Type 0} (d : ℕ) (l : L) (c : Content) (f siblings others : Forest L) → Reordered l c f siblings others
    → ElementsFit d siblings → ElementsFit d others
reordered-fit d l c f siblings others (is_later before between after whole is) h =
    let tree = Node l c f Empty in
    let outer = fit-parts d before (Node l c f (followed between after)) (subst (ElementsFit d) whole h) in
    let inner = fit-parts d between after outer.1.2 in
    subst (ElementsFit d) (sym is) (fit-met d before (met (met between tree) after) outer.0
    (fit-met d (met between tree) after (fit-met d between tree inner.0 (outer.1.0, outer.1.1, tt)) inner.1))
reordered-fit d l c f siblings others (is_earlier before between after whole is) h =
    let tree = Node l c f Empty in
    let outer = fit-parts d before (followed between (Node l c f after)) (subst (ElementsFit d) whole h) in
    let inner = fit-parts d between (Node l c f after) outer.1 in
    subst (ElementsFit d) (sym is) (fit-met d before (met (met tree between) after) outer.0
    (fit-met d (met tree between) after (fit-met d tree between (inner.1.0, inner.1.1, tt) inner.0) inner.1.2))

-- ---- Changes of what stands below so many positions

height-below : {L : Type 0} (limit : ℕ) (change : Forest L → Forest L) → ((f : Forest L) → 1 + height f ≤ limit → 1 + height (change f) ≤ limit)
    → (n : ℕ) (f : Forest L) → height f ≤ limit → height (below_changed change n f) ≤ limit
height-below limit change most n Empty h = omega arith
height-below limit change most n (Node l c f s) h =
    elim (n == 1) as (λ b. height (cond b (Node l c (change f) s) (Node l c f (below_changed change (n - 1) s))) ≤ limit) [
      | true ↦ let below = most f (omega arith) in omega arith
      | false ↦ let behind = height-below limit change most (n - 1) s (omega arith) in omega arith
    ]

pub height-changed : {L : Type 0} (limit : ℕ) (change : Forest L → Forest L) (ps : List ℕ)
    → ((f : Forest L) → length ps + height f ≤ limit → length ps + height (change f) ≤ limit)
    → (f : Forest L) → height f ≤ limit → height (children_changed change ps f) ≤ limit
height-changed limit change [] most f h = let same = most f (omega arith) in omega arith
height-changed limit change (p ∷ ps) most f h =
    height-below limit (children_changed change ps)
    (λ g some.
    let below = height-changed (limit - 1) change ps (λ k more. let all = most k (omega arith) in omega arith) g (omega arith) in omega arith)
    p f h

fit-below : {L : Type 0} (d : ℕ) (change : Forest L → Forest L) → ((f : Forest L) → ElementsFit (d + 1) f → ElementsFit (d + 1) (change f))
    → (n : ℕ) (f : Forest L) → ElementsFit d f → ElementsFit d (below_changed change n f)
fit-below d change fit n Empty h = tt
fit-below d change fit n (Node l c f s) h =
    elim (n == 1) as (λ b. ElementsFit d (cond b (Node l c (change f) s) (Node l c f (below_changed change (n - 1) s)))) [
      | true ↦ (h.0, fit f h.1, h.2)
      | false ↦ (h.0, h.1, fit-below d change fit (n - 1) s h.2)
    ]

pub fit-changed : {L : Type 0} (d : ℕ) (change : Forest L → Forest L) (ps : List ℕ)
    → ((f : Forest L) → ElementsFit (d + length ps) f → ElementsFit (d + length ps) (change f))
    → (f : Forest L) → ElementsFit d f → ElementsFit d (children_changed change ps f)
fit-changed d change [] fit f h = fit-at (d + 0) d (change f) (omega arith) (fit f (fit-at d (d + 0) f (omega arith) h))
fit-changed d change (p ∷ ps) fit f h =
    fit-below d (children_changed change ps) (fit-changed (d + 1) change ps (λ g k.
    let same : d + suc (length ps) ≡ d + 1 + length ps = omega arith in
    fit-at (d + suc (length ps)) (d + 1 + length ps) (change g) same (fit g (fit-at (d + 1 + length ps) (d + suc (length ps)) g (sym same) k)))) p f h

-- ---- How deep the target stands

length-below : (above : List ℕ) (gone fewer : ℕ) (path : List ℕ) → length (path_below above gone fewer path) ≡ length path
length-below [] gone fewer [] = refl
length-below [] gone fewer (p ∷ ps) = refl
length-below (a ∷ above) gone fewer [] = refl
length-below (a ∷ above) gone fewer (p ∷ ps) =
    elim (a == p) as (λ b. suc (length (cond b (path_below above gone fewer ps) ps)) ≡ suc (length ps)) [
      | true ↦ ap suc (length-below above gone fewer ps)
      | false ↦ refl
    ]

child-above : {L : Type 0} (above : List Content) (f : Forest L) (p : ℕ) (x : Found L) → child_at above f p ≡ Some x
    → length x.above ≡ suc (length above)
child-above above Empty p x e = absurd (cc)
child-above {L = L} above (Node l c f s) p x e =
    elim (p == 1) as (λ b. cond b (Some (found_in above l c f)) (child_at above s (p - 1)) ≡ Some x → length x.above ≡ suc (length above)) [
      | true ↦ λ e. let is = ap (λ (y : Found L). length y.above) (some_same (found_in above l c f) x e) in sym is
      | false ↦ λ e. child-above above s (p - 1) x e
    ] e

above-steps : {L : Type 0} (node : Found L) (p : ℕ) (ps : List ℕ) (x : Found L)
    → ((y : Found L) → node_from ps y ≡ Some x → length x.above ≡ length y.above + length ps)
    → (o : Option (Found L)) → child_at node.above node.children p ≡ o → option_and_then (node_from ps) o ≡ Some x
    → length x.above ≡ length node.above + suc (length ps)
above-steps node p ps x go None e h = absurd (cc)
above-steps node p ps x go (Some y) e h =
    let rest = go y h in let own = child-above node.above node.children p y e in omega arith

pub above-length : {L : Type 0} (ps : List ℕ) (node x : Found L) → node_from ps node ≡ Some x → length x.above ≡ length node.above + length ps
above-length [] node x e = let same = ap (λ y. length y.above) (some_same node x e) in omega arith
above-length (p ∷ ps) node x e = above-steps node p ps x (λ y h. above-length ps y x h) (child_at node.above node.children p) refl e

-- ---- What is put in

kept-height : {L : Type 0} (beside : Option ℕ) (f : Forest L) → height (kept beside f) ≤ height f
kept-height None f = omega arith
kept-height (Some others) f = height-without f

kept-fit : {L : Type 0} (d : ℕ) (beside : Option ℕ) (f : Forest L) → ElementsFit d f → ElementsFit d (kept beside f)
kept-fit d None f h = h
kept-fit d (Some others) f h = fit-without d f h

placed-height : (keeps : Bool) (first : ℕ) (f : Forest ℕ) → height (placed same_nodes keeps first f).nodes ≡ height f
placed-height true first f = refl
placed-height false first f = height-numbered first (plain f) ∙ height-plain f

placed-fit : (d : ℕ) (keeps : Bool) (first : ℕ) (f : Forest ℕ) → ElementsFit d f → ElementsFit d (placed same_nodes keeps first f).nodes
placed-fit d true first f h = h
placed-fit d false first f h = fit-numbered d first (plain f) (fit-plain d f h)

fit-lines : {L : Type 0} (d : ℕ) (f : Forest L) → ElementsFit d (without_lines f) → ElementsFit d f
fit-lines d Empty h = tt
fit-lines d (Node l c f s) h = (h.0, fit-lines (d + 1) f h.1, fit-lines d s h.2)

no-fault : (b : Bool) (n line : ℕ) → fault_if b n line ≡ [] → b ≡ false
no-fault true n line e = absurd (cc)
no-fault false n line e = refl

height-inserted : {L : Type 0} (limit n : ℕ) (nodes f : Forest L) → height nodes ≤ limit → height f ≤ limit → height (inserted n nodes f) ≤ limit
height-inserted limit n nodes f h k =
    let outer = height-met (first_siblings n f) (met nodes (later_siblings n f)) in
    let inner = height-met nodes (later_siblings n f) in
    let all = height-followed (first_siblings n f) (later_siblings n f) in
    let same = ap height (first-later n f) in
    omega arith

fit-inserted : {L : Type 0} (d n : ℕ) (nodes f : Forest L) → ElementsFit d nodes → ElementsFit d f → ElementsFit d (inserted n nodes f)
fit-inserted d n nodes f h k =
    let parts = fit-parts d (first_siblings n f) (later_siblings n f) (subst (ElementsFit d) (sym (first-later n f)) k) in
    fit-met d (first_siblings n f) (met nodes (later_siblings n f)) parts.0 (fit-met d nodes (later_siblings n f) h parts.1)

-- ---- Moves

-- what is left where a node was taken away
pub left-shallow : (around : Around ℕ) (before : Forest ℕ) (l : ℕ) (c : Content) (f after : Forest ℕ)
    → IsShallow (filled around (followed before (Node l c f after))) → IsShallow (filled around (met before after))
left-shallow around before l c f after s =
    let old = followed before (Node l c f after) in
    let new = met before after in
    let limit = greatest_depth + 1 in
    let levels = height-in limit around old s.levels in
    let all = height-followed before (Node l c f after) in
    let outer = height-met before after in
    let parts = fit-parts (1 + steps around) before (Node l c f after) (fit-in 1 around old s.elements) in
    record {
      levels = height-whole limit around old new s.levels (omega arith);
      elements = fit-whole 1 around old new s.elements (fit-met (1 + steps around) before after parts.0 parts.1.2);
    }

carried-shallow : (first : ℕ) (path : List ℕ) (document : Document ℕ) (new : Edited ℕ) (c : Carriage first path document new)
    → IsShallow document.nodes → IsShallow new.nodes
carried-shallow first path document new c old =
    let s = c.place in
    let i = s.child in
    let around = s.below.around in
    let left = filled around (met i.before i.after) in
    let was = left-shallow around i.before i.label i.content i.children i.after (subst IsShallow (whole_at document c.from c.node s) old) in
    let limit = greatest_depth + 1 in
    let beside = elements_beside c.parent in
    let nodes = c.nodes.nodes in
    let n = c.to.position - 1 in
    let ps = path_without c.from s.parent c.to.above in
    let depth : depth_of c.target ≡ 0 + length c.to.above = above-length c.to.above (root_of document) c.target c.target_at in
    let same : length ps ≡ length c.to.above = length-below _ _ _ c.to.above in
    let levels : depth_of c.target + height c.tree ≤ limit =
    ltb-false limit (depth_of c.target + height c.tree) (no-fault (nat_lt limit (depth_of c.target + height c.tree)) 11 0 c.levels) in
    let most = kept-height beside c.tree in
    let put : height nodes ≡ height (kept beside c.tree) =
    ap (λ e. height e.nodes) c.nodes_put ∙ placed-height c.keeps first (kept beside c.tree) in
    let d = 1 + length ps in
    let tree = fit-at (depth_of c.target + 1) d c.tree (omega arith)
    (fit-lines (depth_of c.target + 1) c.tree (unfaulted-fit _ _ (without_lines c.tree) c.unfaulted)) in
    let own : ElementsFit d nodes =
    subst (λ e. ElementsFit d e.nodes) (sym c.nodes_put) (placed-fit d c.keeps first (kept beside c.tree) (kept-fit d beside c.tree tree)) in
    subst IsShallow (sym c.nodes_are) (record {
      levels = height-changed limit (inserted n nodes) ps
          (λ g h. let all = height-inserted (limit - length ps) n nodes g (omega arith) (omega arith) in omega arith) left was.levels;
      elements = fit-changed 1 (inserted n nodes) ps (λ g h. fit-inserted d n nodes g own h) left was.elements;
    })

pub shallow : (first : ℕ) (path : List ℕ) (document : Document ℕ) (new : Edited ℕ) → Shape first path document new
    → IsShallow document.nodes → IsShallow new.nodes
shallow first path document new (is_still is none) old = subst IsShallow (sym is) old
shallow first path document new (is_turn t) old =
    let was = subst IsShallow t.whole old in
    let limit = greatest_depth + 1 in
    let levels = height-in limit t.around t.siblings was.levels in
    let most = reordered-height t.label t.content t.children t.siblings t.others t.order in
    let d = 1 + steps t.around in
    subst IsShallow (sym t.nodes_are) (record {
      levels = height-whole limit t.around t.siblings t.others was.levels (omega arith);
      elements = fit-whole 1 t.around t.siblings t.others was.elements
          (reordered-fit d t.label t.content t.children t.siblings t.others t.order (fit-in 1 t.around t.siblings was.elements));
    })
shallow first path document new (is_carriage c) old = carried-shallow first path document new c old

pub move_shallow : (first : ℕ) (path other : List ℕ) (document : Document ℕ) (new : Edited ℕ) → moved_nodes first path other document ≡ Ok new
    → IsShallow document.nodes → IsShallow new.nodes
move_shallow first path other document new e = shallow first path document new (shape first path other document new e)
