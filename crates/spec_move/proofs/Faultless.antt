-- Documents without faults, through a move.
use Rattle.std.proofs.Common.{◌≡◌, arith, ℕ, ◌+◌, ◌-◌, Bool, true, false, cond, List, [], ◌++◌, Option, None, Some, refl}
use Rattle.std.proofs.Common.{sym, ap, ◌∙◌, subst, length, map, drop}
use Rattle.std.specs.Prelude.{Ok, slice_index}
use Rattle.spec_document.specs.declared.parent.Parent.{Parent}
use Rattle.spec_document.specs.declared.parent.Parent.TheVariants as parents
use Rattle.spec_document.specs.Scope.{Scope, root_scope}
use Rattle.spec_document.specs.Forest.{Content, Forest, Empty, Node, Document, plain, labels, followed, IsNormal}
use Rattle.spec_document.specs.Declaration.{scope_of}
use Rattle.spec_document.specs.Place.{Found, scope_at}
use Rattle.spec_document.specs.NodeFaults.{node_faults}
use Rattle.spec_document.specs.Numbering.{number_faults}
use Rattle.spec_document.specs.Top.{kept, without_texts, top_faults, elements_at_top, element_faults, text_faults}
use Rattle.spec_document.specs.Document.{elements_beside}
use Rattle.spec_edit.specs.Splice.{Spot, first_siblings, later_siblings, met, inserted}
use Rattle.spec_edit.specs.Edit.{Edited, without_lines, depth_of, element_count, parent_by}
use Rattle.spec_edit.specs.Valid.{IsValid}
use Rattle.spec_edit.proofs.Around.{Around, Here, Below, filled, above_in, content_in, some_same, first-later}
use Rattle.spec_edit.proofs.Shapes.{same_nodes, append_none}
use Rattle.spec_edit.proofs.Depths.{steps, levels-steps}
use Rattle.spec_edit.proofs.Normal.{IsAbove, normal-parts}
use Rattle.spec_edit.proofs.Faultless.{AreFine, fine-of, fine-to, fine-at, fine-plain, fine-numbered, fine-without, fine-parts, fine-met, fine-in, fine-whole}
use Rattle.spec_edit.proofs.Faultless.{one_of, elements-followed, elements-met, elements-top, one-there}
use Rattle.spec_move.specs.Move.{keeps_labels, move_faults, height_faults, placed, moved_nodes}
use Rattle.spec_move.proofs.Around.{above-way}
use Rattle.spec_move.proofs.Moving.{Place, tree, Rearranged, is_later, is_earlier, Carrying, Between, Move, is_still, is_within, is_between, above-by, move}
use Rattle.spec_move.proofs.Normal.{left-normal}
use Rattle.spec_move.proofs.Tops.{IsTop, AreNoTexts, top-below, top-rearranged, top-inserted, no-texts-of, no-texts-to, no-texts-parts, no-texts-behind}
use Rattle.spec_move.proofs.Tops.{no-texts-met, no-texts-without, no-texts-numbered, elements-lines, elements-anew}

pub record IsFaultless (f : Forest ℕ) : Type 0 where
  pub fine : AreFine root_scope 1 f
  pub top : IsTop f

pub faultless-of : (f : Forest ℕ) → IsValid f → IsFaultless f
faultless-of f v = record { fine = fine-of root_scope 1 f v.unfaulted; top = record { one = v.one_element; no_texts = no-texts-of f v.no_text } }

pub faultless-to : (f : Forest ℕ) → IsFaultless f → IsValid f
faultless-to f v = record { unfaulted = fine-to root_scope 1 f v.fine; one_element = v.top.one; no_text = no-texts-to f v.top.no_texts }

-- ---- Within one parent

fine-rearranged : {L : Type 0} (scope : Scope) (d : ℕ) (before nodes after whole : Forest L) → Rearranged before nodes after whole
    → AreFine scope d before → AreFine scope d nodes → AreFine scope d after → AreFine scope d whole
fine-rearranged scope d before nodes after whole (is_later between rest e is) b n a =
    let parts = fine-parts scope d between rest (subst (AreFine scope d) e a) in
    subst (AreFine scope d) (sym is) (fine-met scope d before (met (met between nodes) rest) b
    (fine-met scope d (met between nodes) rest (fine-met scope d between nodes parts.0 n) parts.1))
fine-rearranged scope d before nodes after whole (is_earlier front between e is) b n a =
    let parts = fine-parts scope d front between (subst (AreFine scope d) e b) in
    subst (AreFine scope d) (sym is) (fine-met scope d front (met (met nodes between) after) parts.0
    (fine-met scope d (met nodes between) after (fine-met scope d nodes between n parts.1) a))

top-around : (around : Around ℕ) (before : Forest ℕ) (l : ℕ) (c : Content) (f after whole : Forest ℕ) → Rearranged before (Node l c f Empty) after whole
    → IsTop (filled around (followed before (Node l c f after))) → IsTop (filled around whole)
top-around Here before l c f after whole r t = top-rearranged before l c f after whole r t
top-around (Below front k d inner behind) before l c f after whole r t =
    top-below front k d (filled inner (followed before (Node l c f after))) (filled inner whole) behind t

-- ---- To another parent

placed-fine : (scope : Scope) (d : ℕ) (beside : Option ℕ) (keeps : Bool) (first : ℕ) (f : Forest ℕ) → AreFine scope d f
    → AreFine scope d (placed same_nodes keeps first (kept beside f)).nodes
placed-fine scope d None true first f h = h
placed-fine scope d (Some n) true first f h = fine-without scope d f h
placed-fine scope d None false first f h = fine-numbered scope d first (plain f) (fine-plain scope d f h)
placed-fine scope d (Some n) false first f h =
    fine-numbered scope d first (plain (without_texts f)) (fine-plain scope d (without_texts f) (fine-without scope d f h))

-- what no fault in a move says
pub record IsUnfaulted (keeps : Bool) (first : ℕ) (beside : Option ℕ) (new : Found ℕ) (f : Forest ℕ) : Type 0 where
  pub top : top_faults beside (without_lines f) ≡ []
  pub nodes : node_faults (scope_at new) (depth_of new + 1) (without_lines f) ≡ []
  pub numbers : cond keeps [] (number_faults first (map (λ l. l.first) (labels (kept beside (without_lines f))))) ≡ []

pub unfaulted-of : (keeps : Bool) (first : ℕ) (beside : Option ℕ) (new : Found ℕ) (f : Forest ℕ) → move_faults keeps first beside new f ≡ []
    → IsUnfaulted keeps first beside new f
unfaulted-of keeps first beside new f e =
    let top = top_faults beside (without_lines f) in
    let nodes = node_faults (scope_at new) (depth_of new + 1) (without_lines f) in
    let numbers = cond keeps [] (number_faults first (map (λ l. l.first) (labels (kept beside (without_lines f))))) in
    let all = append_none (top ++ nodes ++ height_faults new f) numbers e in
    let most = append_none (top ++ nodes) (height_faults new f) all.0 in
    let both = append_none top nodes most.0 in
    record { top = both.0; nodes = both.1; numbers = all.1 }

-- under a root nothing is put that is an element or a text
record IsBeside (f : Forest ℕ) : Type 0 where
  none : element_count f ≡ 0
  no_texts : AreNoTexts f

placed-beside : (keeps : Bool) (first : ℕ) (f : Forest ℕ) → IsBeside f → IsBeside (placed same_nodes keeps first f).nodes
placed-beside true first f b = b
placed-beside false first f b = record { none = elements-anew first f ∙ b.none; no_texts = no-texts-numbered first f b.no_texts }

beside-root : (elements : ℕ) (f : Forest ℕ) → elements ≡ 1 → top_faults (Some elements) (without_lines f) ≡ [] → IsBeside (without_texts f)
beside-root elements f one e =
    let lines = elements_at_top (without_lines f) in
    let faults = append_none (element_faults elements lines) (text_faults (without_lines f)) e in
    let all : elements + length lines ≡ 1 = one-there (elements + length lines) (slice_index (drop (1 - elements) lines) 0) faults.0 in
    let count : element_count (without_texts f) ≡ length lines = sym (elements-lines f) ∙ elements-top (without_lines f) in
    record { none = omega arith; no_texts = no-texts-without f }

left-top : (around into : Around ℕ) (before : Forest ℕ) (l : ℕ) (c : Content) (f after siblings : Forest ℕ)
    → filled around (met before after) ≡ filled into siblings → IsNormal (filled into siblings) → IsAbove (content_in None into)
    → (content_in None into ≡ None → content_in None around ≡ None → ⊥)
    → IsTop (filled around (followed before (Node l c f after))) → IsTop (filled around (met before after))
left-top (Below front k d inner behind) into before l c f after siblings e n is apart t =
    top-below front k d (filled inner (followed before (Node l c f after))) (filled inner (met before after)) behind t
left-top Here Here before l c f after siblings e n is apart t = absurd (apart refl refl)
left-top Here (Below front k d inner behind) before l c f after siblings e n is apart t =
    let node = Node k d (filled inner siblings) behind in
    let element = above-way inner k d (filled inner siblings) siblings behind refl is (normal-parts front node n).1 in
    let own : one_of d ≡ 1 = ap (λ b. cond b 1 0) element in
    let now : element_count (met before after) ≡ element_count front + element_count node = ap element_count e ∙ elements-followed front node in
    let was = elements-followed before (Node l c f after) in
    let both = elements-met before after in
    let one = t.one in
    let parts = no-texts-parts before (Node l c f after) t.no_texts in
    record { one = omega arith; no_texts = no-texts-met before after parts.0 (no-texts-behind l c f after parts.1) }

top-placed : (into : Around ℕ) (n : ℕ) (nodes siblings : Forest ℕ) → (content_in None into ≡ None → IsBeside nodes) → IsTop (filled into siblings)
    → IsTop (filled into (inserted n nodes siblings))
top-placed Here n nodes siblings beside t = let b = beside refl in top-inserted n nodes siblings b.none b.no_texts t
top-placed (Below front k d inner behind) n nodes siblings beside t =
    top-below front k d (filled inner siblings) (filled inner (inserted n nodes siblings)) behind t

pub root-parent : (next : Found ℕ) (parent : Parent) → parent_by next.content next ≡ Some parent → next.content ≡ None
    → parents.Root (element_count next.children) ≡ parent
root-parent next parent stands none =
    some_same (parents.Root (element_count next.children)) parent (sym (ap (λ o. parent_by o next) none) ∙ stands)

root-beside : (keeps : Bool) (first : ℕ) (next : Found ℕ) (parent : Parent) (f : Forest ℕ) → parent_by next.content next ≡ Some parent → next.content ≡ None
    → element_count next.children ≡ 1 → top_faults (elements_beside parent) (without_lines f) ≡ []
    → IsBeside (placed same_nodes keeps first (kept (elements_beside parent) f)).nodes
root-beside keeps first next parent f stands none one e =
    subst (λ p. top_faults (elements_beside p) (without_lines f) ≡ [] → IsBeside (placed same_nodes keeps first (kept (elements_beside p) f)).nodes)
    (root-parent next parent stands none)
    (λ h. placed-beside keeps first (without_texts f) (beside-root (element_count next.children) f one h)) e

-- once the node was taken away
pub left-faultless : (document : Document ℕ) (from to : Spot) (old node next : Found ℕ) (at : Place document from old node)
    (c : Carrying document from to old node next at) → IsAbove next.content → IsNormal document.nodes → IsFaultless document.nodes
    → IsFaultless (filled c.into c.siblings)
left-faultless document from to old node next at c is n f =
    let beside = Node at.label at.content at.children at.after in
    let whole = followed at.before beside in
    let scope = scope_of root_scope (above_in [] at.around) in
    let d = 1 + steps at.around in
    let was = subst IsFaultless (at.whole ∙ ap (filled at.around) at.siblings) f in
    let parts = fine-parts scope d at.before beside (fine-in [] 1 at.around whole was.fine) in
    subst IsFaultless c.left (record {
      fine = fine-whole [] 1 at.around whole (met at.before at.after) was.fine (fine-met scope d at.before at.after parts.0 parts.1.2);
      top = left-top at.around c.into at.before at.label at.content at.children at.after c.siblings c.left
          (left-normal document from to old node next at c n) (subst IsAbove c.own is) (λ e g. c.apart (c.own ∙ e) (at.own ∙ g)) was.top;
    })

faultless-between : (first : ℕ) (document : Document ℕ) (new : Edited ℕ) → Between first document new → IsNormal document.nodes
    → IsFaultless document.nodes → IsFaultless new.nodes
faultless-between first document new b n old =
    let c = b.carrying in
    let keeps = keeps_labels b.old b.next in
    let beside = elements_beside b.parent in
    let i = b.to.position - 1 in
    let nodes = (placed same_nodes keeps first (kept beside (tree b.at))).nodes in
    let inside = scope_of root_scope (above_in [] c.into) in
    let level = 1 + steps c.into in
    let left = left-faultless document b.from b.to b.old b.node b.next b.at c (above-by b.next b.parent b.stands) n old in
    let siblings = fine-parts inside level (first_siblings i c.siblings) (later_siblings i c.siblings)
    (subst (AreFine inside level) (sym (first-later i c.siblings)) (fine-in [] 1 c.into c.siblings left.fine)) in
    let none = unfaulted-of keeps first beside b.next (tree b.at) b.unfaulted in
    let levels = levels-steps c.into in
    let depth : depth_of b.next + 1 ≡ level = let same = ap length c.above in omega arith in
    let own = fine-at inside (depth_of b.next + 1) level (tree b.at) depth
    (subst (λ above. AreFine (scope_of root_scope above) (depth_of b.next + 1) (tree b.at)) c.above
    (fine-of (scope_at b.next) (depth_of b.next + 1) (tree b.at) none.nodes)) in
    let put = placed-fine inside level beside keeps first (tree b.at) own in
    subst IsFaultless (sym (b.nodes_are ∙ c.carried_is nodes)) (record {
      fine = fine-whole [] 1 c.into c.siblings (inserted i nodes c.siblings) left.fine
          (fine-met inside level (first_siblings i c.siblings) (met nodes (later_siblings i c.siblings)) siblings.0
          (fine-met inside level nodes (later_siblings i c.siblings) put siblings.1));
      top = top-placed c.into i nodes c.siblings (λ e. let root = c.own ∙ e in
          root-beside keeps first b.next b.parent (tree b.at) b.stands root (ap element_count (c.top root) ∙ old.top.one) none.top) left.top;
    })

pub faultless : (first : ℕ) (document : Document ℕ) (new : Edited ℕ) → Move first document new → IsNormal document.nodes → IsFaultless document.nodes
    → IsFaultless new.nodes
faultless first document new (is_still e made) n old = subst IsFaultless (sym e) old
faultless first document new (is_within w) n old =
    let at = w.at in
    let node = Node at.label at.content at.children at.after in
    let whole = followed at.before node in
    let scope = scope_of root_scope (above_in [] at.around) in
    let d = 1 + steps at.around in
    let was = subst IsFaultless (at.whole ∙ ap (filled at.around) at.siblings) old in
    let parts = fine-parts scope d at.before node (fine-in [] 1 at.around whole was.fine) in
    subst IsFaultless (sym w.nodes_are) (record {
      fine = fine-whole [] 1 at.around whole w.siblings was.fine
          (fine-rearranged scope d at.before (tree at) at.after w.siblings w.order parts.0 (parts.1.0, parts.1.1, tt) parts.1.2);
      top = top-around at.around at.before at.label at.content at.children at.after w.siblings w.order was.top;
    })
faultless first document new (is_between b) n old = faultless-between first document new b n old

pub moved_valid : (first : ℕ) (path other : List ℕ) (document : Document ℕ) (new : Edited ℕ) → moved_nodes first path other document ≡ Ok new
    → IsNormal document.nodes → IsValid document.nodes → IsValid new.nodes
moved_valid first path other document new e n v =
    faultless-to new.nodes (faultless first document new (move first document new n path other e) n (faultless-of document.nodes v))
