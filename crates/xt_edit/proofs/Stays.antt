-- Documents stand through edits.
use Rattle.std.proofs.Common.{◌≡◌, ◌≤◌, arith, ℕ, zero, suc, ◌+◌, ◌-◌, Bool, true, false, List, ◌∷◌, refl, ap, sym, ◌∙◌, subst, nat_lt}
use Rattle.std.specs.Prelude.{Result, Ok, Err, IfOk, ◌&&◌}
use Rattle.std.specs.List.{list_all}
use Rattle.spec_document.specs.Fault.{Fault}
use Rattle.spec_document.specs.Forest.{Forest, Empty, Node, Document, labels, numbered, size, followed}
use Rattle.spec_document.specs.Place.{root_of}
use Rattle.spec_document.specs.Numbering.{number_limit}
use Rattle.spec_edit.specs.Edit as spec
use Rattle.spec_edit.specs.Edit.{Edit, edited_nodes}
use Rattle.spec_edit.specs.Judged.{path_of}
use Rattle.spec_edit.specs.Splice.{Spot, children_changed, deleted, met}
use Rattle.spec_edit.proofs.Around.{below, child}
use Rattle.spec_edit.proofs.Depths.{IsShallow, edit_shallow}
use Rattle.spec_edit.proofs.Numbers.{Grows, grows, AreBelow as AreLow, once-grown, below-grown, below-from, below-to, once-from, once-to}
use Rattle.spec_edit.proofs.Numbers.{stands as stands_in, stands_around, stands-filled, stands-followed, stands-met}
use Rattle.spec_edit.proofs.Shapes.{shape}
use Rattle.spec_move.specs.Move.{moved_nodes}
use Rattle.spec_move.proofs.Depths.{left-shallow, move_shallow}
use Rattle.spec_move.proofs.Numbers.{grows as move_grows}
use Rattle.spec_move.proofs.Shapes.{IsPlace, deleted_at, whole_at, shape as move_shape}
use Rattle.xt_edit.specs.Site.{IsThere, found_there, outer_of}
use Rattle.xt_tree.specs.declared.node.Node.{Node as Code}
use Rattle.xt_tree.specs.Numbers.{are_distinct}
use Rattle.xt_edit.specs.Standing.{Stands, Permits}
use Rattle.xt_edit.specs.View.{AreBelow, Edits}
use Rattle.xt_edit.specs.declared.edit.Edited.{Edited}
use Rattle.xt_edit.specs.declared.fault.EditFault.{EditFault}

and-true : (a b : Bool) → (a && b) ≡ true → (a ≡ true) × (b ≡ true)
and-true true b e = (refl, e)
and-true false b e = absurd (cc)

both-true : (a b : Bool) → a ≡ true → b ≡ true → (a && b) ≡ true
both-true true b e h = h
both-true false b e h = absurd (cc)

-- without new nodes all numbers stay below any limit
no-nodes : (f : Forest ℕ) → size f ≡ 0 → f ≡ Empty
no-nodes Empty e = refl
no-nodes (Node l c f s) e = absurd (omega arith)

unmade : (first limit : ℕ) (old new : Forest ℕ) → Grows first old new 0 → Grows limit old new 0
unmade first limit old new g =
    record {
      nodes = g.nodes;
      fresh = ap (numbered limit) (no-nodes g.nodes g.many) ∙ sym (no-nodes g.nodes g.many);
      many = g.many;
      limit = λ some. absurd (omega arith);
      most = g.most;
    }

higher : (low high : ℕ) (ns : List ℕ) → low ≤ high → AreLow low ns → AreLow high ns
higher low high ns h below = record { at = λ n k. below.at n (omega arith) }

within-limit : (first made root : ℕ) (old new : Forest ℕ) → Grows first old new made → AreLow first (root ∷ labels old)
    → AreLow number_limit (root ∷ labels old) → AreLow number_limit (root ∷ labels new)
within-limit first zero root old new g low limited =
    higher (number_limit + 0) number_limit (root ∷ labels new) (omega arith)
    (below-grown number_limit 0 root old new (unmade first number_limit old new g) limited)
within-limit first (suc made) root old new g low limited =
    higher (first + suc made) number_limit (root ∷ labels new) (g.limit (omega arith)) (below-grown first (suc made) root old new g low)

-- nodes with the numbers of a document that stands and new ones, at depths that are allowed, stand
grown-stays : (first made : ℕ) (document : Document ℕ) (new : Forest ℕ) → Grows first document.nodes new made → AreBelow first document → Stands document
    → IsShallow new → Stands (record { root = document.root; nodes = new })
grown-stays first made document new g below stands levels =
    let root = document.root in
    let parts = and-true (are_distinct (root ∷ labels document.nodes)) (list_all (λ n. nat_lt n number_limit) (root ∷ labels document.nodes)) stands.numbers in
    let low = below-from first (root ∷ labels document.nodes) below in
    let once = once-grown first made root document.nodes new g low (once-from are_distinct (λ n ns. refl) (root ∷ labels document.nodes) parts.0) in
    let limited = within-limit first made root document.nodes new g low (below-from number_limit (root ∷ labels document.nodes) parts.1) in
    record {
      numbers = both-true (are_distinct (root ∷ labels new)) (list_all (λ n. nat_lt n number_limit) (root ∷ labels new))
          (once-to are_distinct refl (λ n ns. refl) (root ∷ labels new) once)
          (below-to number_limit (root ∷ labels new) limited);
      depth = levels.levels;
      fits = levels.elements;
    }

-- the edit of a document that stands gives one that stands
pub stays : (first : ℕ) (edit : Edit) (document : Document ℕ) → AreBelow first document → Stands document → Permits document (edited_nodes first edit document)
stays first edit document below stands new e =
    grown-stays first new.made document new.nodes (grows first (path_of edit) document new (shape first document new edit e)) below stands
    (edit_shallow first edit document new e (record { levels = stands.depth; elements = stands.fits }))

low-after : (first : ℕ) (edit : Edit) (document : Document ℕ) (new : spec.Edited ℕ) → AreBelow first document → edited_nodes first edit document ≡ Ok new
    → AreBelow (first + new.made) (record { root = document.root; nodes = new.nodes })
low-after first edit document new below e =
    let root = document.root in
    let g = grows first (path_of edit) document new (shape first document new edit e) in
    below-to (first + new.made) (root ∷ labels new.nodes)
    (below-grown first new.made root document.nodes new.nodes g (below-from first (root ∷ labels document.nodes) below))

below-by : (first : ℕ) (document : Document ℕ) (answer : Result (spec.Edited ℕ) Fault)
    → ((new : spec.Edited ℕ) → answer ≡ Ok new → AreBelow (first + new.made) (record { root = document.root; nodes = new.nodes }))
    → (result : Result Edited EditFault) → Edits document first result answer → IfOk result (λ edited. AreBelow edited.next.number edited.document)
below-by first document answer low (Ok edited) h =
    subst (λ d. AreBelow edited.next.number d) (sym h.2)
    (subst (λ n. AreBelow n (record { root = document.root; nodes = h.0.nodes })) (sym h.3) (low h.0 h.1))
below-by first document answer low (Err fault) h = tt

-- all numbers of what an edit answers are below the next one
pub stays-below : (first : ℕ) (edit : Edit) (document : Document ℕ) (result : Result Edited EditFault) → AreBelow first document
    → Edits document first result (edited_nodes first edit document) → IfOk result (λ edited. AreBelow edited.next.number edited.document)
stays-below first edit document result below h =
    below-by first document (edited_nodes first edit document) (λ new e. low-after first edit document new below e) result h

-- ---- Moves

-- the move in a document that stands gives one that stands
pub move_stays : (first : ℕ) (path other : List ℕ) (document : Document ℕ) → AreBelow first document → Stands document
    → Permits document (moved_nodes first path other document)
move_stays first path other document below stands new e =
    grown-stays first new.made document new.nodes (move_grows first path document new (move_shape first path other document new e)) below stands
    (move_shallow first path other document new e (record { levels = stands.depth; elements = stands.fits }))

-- all numbers of what it answers are below the next one
pub move_stays-below : (first : ℕ) (path other : List ℕ) (document : Document ℕ) (result : Result Edited EditFault) → AreBelow first document
    → Edits document first result (moved_nodes first path other document) → IfOk result (λ edited. AreBelow edited.next.number edited.document)
move_stays-below first path other document result below h =
    below-by first document (moved_nodes first path other document) (λ new e.
    let root = document.root in
    let g = move_grows first path document new (move_shape first path other document new e) in
    below-to (first + new.made) (root ∷ labels new.nodes)
    (below-grown first new.made root document.nodes new.nodes g (below-from first (root ∷ labels document.nodes) below))) result h

-- without a node a document stands
pub out_stays : (document : Document ℕ) (spot : Spot) (node : Code) → Stands document → IsThere document spot node
    → Stands (record { root = document.root; nodes = children_changed (deleted (spot.position - 1)) spot.above document.nodes })
out_stays document spot node stands t =
    let root = document.root in
    let x = found_there document spot node in
    let outer = outer_of document spot in
    let s : IsPlace document spot x = record {
      parent = outer;
      at = t.parent;
      below = below spot.above (root_of document) outer t.parent;
      child = child outer.above outer.children spot.position x t.child;
    } in
    let i = s.child in
    let around = s.below.around in
    let is = deleted_at document spot x s in
    let new = children_changed (deleted (spot.position - 1)) spot.above document.nodes in
    let g : Grows number_limit document.nodes new 0 = record {
      nodes = Empty;
      fresh = refl;
      many = refl;
      limit = λ some. absurd (omega arith);
      most = λ p. (
          let behind = Node i.label i.content i.children i.after in
          let old : stands_in p document.nodes ≡ stands_around p around + stands_in p (followed i.before behind) =
          ap (stands_in p) (whole_at document spot x s) ∙ stands-filled p around (followed i.before behind) in
          let now : stands_in p new ≡ stands_around p around + stands_in p (met i.before i.after) =
          ap (stands_in p) is ∙ stands-filled p around (met i.before i.after) in
          let all = stands-followed p i.before behind in
          let fewer = stands-met p i.before i.after in
          omega arith
          );
    } in
    let parts = and-true (are_distinct (root ∷ labels document.nodes)) (list_all (λ n. nat_lt n number_limit) (root ∷ labels document.nodes)) stands.numbers in
    grown-stays number_limit 0 document new g parts.1 stands
    (subst IsShallow (sym is) (left-shallow around i.before i.label i.content i.children i.after
    (subst IsShallow (whole_at document spot x s) (record { levels = stands.depth; elements = stands.fits }))))
