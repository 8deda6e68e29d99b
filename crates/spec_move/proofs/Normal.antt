-- Documents stay normal through a move.
use Rattle.std.proofs.Common.{◌≡◌, ℕ, ◌-◌, Bool, true, false, List, None, sym, ap, ◌∙◌, subst}
use Rattle.std.specs.Prelude.{Ok}
use Rattle.spec_document.specs.Forest.{Forest, Node, Document, plain, followed, IsNormal}
use Rattle.spec_document.specs.Top.{kept}
use Rattle.spec_document.specs.Document.{elements_beside}
use Rattle.spec_document.specs.Place.{Found}
use Rattle.spec_edit.specs.Splice.{Spot, first_siblings, later_siblings, met, inserted}
use Rattle.spec_edit.specs.Edit.{Edited}
use Rattle.spec_edit.proofs.Around.{filled, content_in, first-later}
use Rattle.spec_edit.proofs.Shapes.{same_nodes}
use Rattle.spec_edit.proofs.Normal.{IsAbove, normal-parts, normal-met, normal-whole, normal-in, above-some, some-followed, kept-normal, numbered-normal}
use Rattle.spec_edit.proofs.Normal.{plain-normal}
use Rattle.spec_move.specs.Move.{keeps_labels, placed, moved_nodes}
use Rattle.spec_move.proofs.Moving.{Place, tree, Rearranged, is_later, is_earlier, Carrying, Move, is_still, is_within, is_between, above-by, move}

normal-rearranged : {L : Type 0} (before nodes after whole : Forest L) → Rearranged before nodes after whole → IsNormal before → IsNormal nodes
    → IsNormal after → IsNormal whole
normal-rearranged before nodes after whole (is_later between rest e is) b n a =
    let parts = normal-parts between rest (subst IsNormal e a) in
    subst IsNormal (sym is) (normal-met before (met (met between nodes) rest) b
    (normal-met (met between nodes) rest (normal-met between nodes parts.0 n) parts.1))
normal-rearranged before nodes after whole (is_earlier front between e is) b n a =
    let parts = normal-parts front between (subst IsNormal e b) in
    subst IsNormal (sym is) (normal-met front (met (met nodes between) after) parts.0
    (normal-met (met nodes between) after (normal-met nodes between n parts.1) a))

-- a node and what stands beside it
pub record Parts (document : Document ℕ) (spot : Spot) (old node : Found ℕ) (at : Place document spot old node) : Type 0 where
  pub around : IsAbove (content_in None at.around)
  pub whole : IsNormal (filled at.around (followed at.before (Node at.label at.content at.children at.after)))
  pub before : IsNormal at.before
  pub alone : IsNormal (tree at)
  pub after : IsNormal at.after

pub parts_of : (document : Document ℕ) (spot : Spot) (old node : Found ℕ) (at : Place document spot old node) → IsNormal document.nodes
    → Parts document spot old node at
parts_of document spot old node at n =
    let whole = followed at.before (Node at.label at.content at.children at.after) in
    let was = subst IsNormal (at.whole ∙ ap (filled at.around) at.siblings) n in
    let above = above-some None at.around whole tt (some-followed at.before at.label at.content at.children at.after) was in
    let parts = normal-parts at.before (Node at.label at.content at.children at.after) (normal-in None at.around whole above was) in
    let node = normal-parts (tree at) at.after parts.1 in
    record { around = above; whole = was; before = parts.0; alone = node.0; after = node.1 }

pub placed-normal : (keeps : Bool) (first : ℕ) (f : Forest ℕ) → IsNormal f → IsNormal (placed same_nodes keeps first f).nodes
placed-normal true first f n = n
placed-normal false first f n = numbered-normal first (plain f) (plain-normal f n)

-- once the node was taken away
pub left-normal : (document : Document ℕ) (from to : Spot) (old node next : Found ℕ) (at : Place document from old node)
    (c : Carrying document from to old node next at) → IsNormal document.nodes → IsNormal (filled c.into c.siblings)
left-normal document from to old node next at c n =
    let parts = parts_of document from old node at n in
    subst IsNormal c.left (normal-whole None at.around (followed at.before (Node at.label at.content at.children at.after)) (met at.before at.after)
    parts.around parts.whole (normal-met at.before at.after parts.before parts.after))

pub move_normal : (first : ℕ) (document : Document ℕ) (new : Edited ℕ) → Move first document new → IsNormal document.nodes → IsNormal new.nodes
move_normal first document new (is_still e made) n = subst IsNormal (sym e) n
move_normal first document new (is_within w) n =
    let at = w.at in
    let parts = parts_of document w.spot w.old w.node at n in
    let whole = followed at.before (Node at.label at.content at.children at.after) in
    subst IsNormal (sym w.nodes_are) (normal-whole None at.around whole w.siblings parts.around parts.whole
    (normal-rearranged at.before (tree at) at.after w.siblings w.order parts.before parts.alone parts.after))
move_normal first document new (is_between b) n =
    let c = b.carrying in
    let i = b.to.position - 1 in
    let keeps = keeps_labels b.old b.next in
    let f = kept (elements_beside b.parent) (tree b.at) in
    let nodes = (placed same_nodes keeps first f).nodes in
    let parts = parts_of document b.from b.old b.node b.at n in
    let left = left-normal document b.from b.to b.old b.node b.next b.at c n in
    let above : IsAbove (content_in None c.into) = subst IsAbove c.own (above-by b.next b.parent b.stands) in
    let siblings = normal-parts (first_siblings i c.siblings) (later_siblings i c.siblings)
    (subst IsNormal (sym (first-later i c.siblings)) (normal-in None c.into c.siblings above left)) in
    let own = placed-normal keeps first f (kept-normal (elements_beside b.parent) (tree b.at) parts.alone) in
    subst IsNormal (sym (b.nodes_are ∙ c.carried_is nodes)) (normal-whole None c.into c.siblings (inserted i nodes c.siblings) above left
    (normal-met (first_siblings i c.siblings) (met nodes (later_siblings i c.siblings)) siblings.0
    (normal-met nodes (later_siblings i c.siblings) own siblings.1)))

pub moved_normal : (first : ℕ) (path other : List ℕ) (document : Document ℕ) (new : Edited ℕ) → moved_nodes first path other document ≡ Ok new
    → IsNormal document.nodes → IsNormal new.nodes
moved_normal first path other document new e n = move_normal first document new (move first document new n path other e) n
