-- A question that a move does not mark has the same true answer before and after.
use Rattle.std.proofs.Common.{◌≡◌, ◌≤◌, arith, ℕ, ◌-◌, ◌==◌, Bool, true, false, not, cond, List, [], ◌∷◌, ◌++◌, None, Some}
use Rattle.std.proofs.Common.{refl, sym, ap, ◌∙◌, subst}
use Rattle.std.specs.Prelude.{◌&&◌, ◌||◌, Ok}
use Rattle.std.specs.Option.{option_map, option_and_then}
use Rattle.spec_document.specs.Forest.{Forest, Empty, Node, Document, labels, IsNormal}
use Rattle.spec_document.specs.Place.{Found, root_of, child_at, node_at}
use Rattle.spec_document.specs.Order.{entries_of}
use Rattle.spec_stylesheet.specs.Place as stylesheet
use Rattle.spec_stylesheet.specs.Sheet.{Sheet, SpaceRule}
use Rattle.spec_meaning.specs.Question.{Question}
use Rattle.spec_run.specs.Documents.{Parameters}
use Rattle.spec_run.specs.World.{truth_by}
use Rattle.spec_edit.specs.Splice.{Spot, spot_of, spot_from, children_changed}
use Rattle.spec_edit.specs.Edit.{Edited}
use Rattle.spec_edit.proofs.Around.{IsChild, below, some_same}
use Rattle.spec_edit.proofs.Shapes.{answered, answer_ok, append_none, same_nodes}
use Rattle.spec_edit.proofs.Numbers.{occurs-labels, stands, AreOnce, AreBelow}
use Rattle.spec_change.specs.Change.{Change, passed, change_between, change_at}
use Rattle.spec_change.proofs.Changing.{with_children}
use Rattle.spec_move.specs.Changed.{MoveChange, in_order, between, document_without, changes_between, change_by, move_change}
use Rattle.spec_move.specs.Move.{is_path, origin_faults, target_faults, moved_there, moved_nodes, rearranged}
use Rattle.spec_move.proofs.Around.{path-spot, steps_of}
use Rattle.spec_move.proofs.Shapes.{reordered}
use Rattle.spec_node.specs.declared.node_ref.NodeRef.{NodeRef}
use Rattle.spec_node.specs.Naming.{ref_of, same_ref}
use Rattle.spec_touch.specs.Touched.{is_touched}
use Rattle.spec_touch.specs.Leads.{Leads, seen_change}
use Rattle.spec_seen.specs.Seen.{seen}
use Rattle.spec_touch.specs.Moved.{asks_order, stays_in_move, move_touched}
use Rattle.spec_touch.proofs.Answering.{unmarked, neither-first, neither-second}
use Rattle.spec_touch.proofs.Carrying.{Moved, is_still, is_within, is_carried, move-made, Carried, carry, document_with, change-told}
use Rattle.spec_touch.proofs.Reordering.{sides, reordered-unmarked}
use Rattle.spec_touch.proofs.Staying.{stays-kept}

abbrev pub after_move : Document ℕ → Edited ℕ → Document ℕ
after_move document new = record { root = document.root; nodes = new.nodes }

-- children in another order are those that are made
all-at-once : (document : Document ℕ) (path : List ℕ) (old : Found ℕ) → node_at document path ≡ Some old → (g : Forest ℕ → Forest ℕ)
    → children_changed g path document.nodes ≡ children_changed (λ _. g old.children) path document.nodes
all-at-once document path old there g =
    let b = below path (root_of document) old there in b.changed g ∙ sym (b.changed (λ _. g old.children))

-- the change that is told within one parent
pub within-told : (from to : Spot) (document after : Document ℕ) (change : MoveChange) (c : Change) → is_path from.above to.above ≡ true
    → change_at false document after from.above ≡ Some c → change_by from to document after ≡ Some change → in_order c ≡ change
within-told from to document after change c same told e =
    some_same (in_order c) change
    (sym (ap (λ b. cond b (option_map in_order (change_at false document after from.above))
    (option_and_then (changes_between from to document after) (node_at document from.above))) same ∙ ap (option_map in_order) told) ∙ e)

-- what is not marked is not touched, or is left out
pub by-either : {A : Type 0} (touched left_out : Bool) → (touched && not left_out) ≡ false → (touched ≡ false → A) → (left_out ≡ true → A) → A
by-either false left_out e f g = f refl
by-either true true e f g = g refl
by-either true false e f g = absurd (cc)

module _ (first : ℕ) (document : Document ℕ) (new : Edited ℕ) (normal : IsNormal document.nodes)
    (once : AreOnce (document.root ∷ labels document.nodes)) (low : AreBelow first (document.root ∷ labels document.nodes)) where
  abbrev after : Document ℕ
  after = after_move document new

  each-once : (k : ℕ) → stands (λ m. m == k) document.nodes ≤ 1
  each-once k = let one = once.at k in let sum = occurs-labels (λ m. m == k) document.nodes in omega arith

  module _ (sheet : Sheet) (parameters : Parameters) (called : stylesheet.Place → NodeRef) (q : Question NodeRef) where
    abbrev IsKeptAnswer : Document ℕ → Type 0
    IsKeptAnswer d =
        truth_by ref_of same_ref called sheet parameters (entries_of document) q
        ≡ truth_by ref_of same_ref called sheet parameters (entries_of d) q

    carried-kept : (from to : Spot) (d : Document ℕ) → Carried document d from to → (change : MoveChange)
        → change_by from to document d ≡ Some change → move_touched change q ≡ false → IsKeptAnswer d
    carried-kept from to d c change e u =
        let same = some_same (between c.left c.entered) change (sym c.told ∙ e) in
        by-either (is_touched c.left q || is_touched c.entered q) (stays_in_move c.left c.entered q) (ap (λ m. move_touched m q) same ∙ u)
        (λ neither. unmarked c.left document (document_without from document) c.leaves sheet parameters called q
        (neither-first (is_touched c.left q) (is_touched c.entered q) neither)
        ∙ unmarked c.entered (document_without from document) d c.enters sheet parameters called q
        (neither-second (is_touched c.left q) (is_touched c.entered q) neither))
        (λ stays. stays-kept c.left c.entered document d c.stays sheet parameters called q stays)

    within-kept : (from to : Spot) (old x : Found ℕ) (there : node_at document from.above ≡ Some old)
        (i : IsChild old.above old.children from.position x) → is_path from.above to.above ≡ true → (d : Document ℕ)
        → d ≡ document_with document
        (children_changed (rearranged (from.position - 1) (to.position - 1) (Node i.label i.content i.children Empty)) from.above document.nodes)
        → (change : MoveChange) → change_by from to document d ≡ Some change → move_touched change q ≡ false → IsKeptAnswer d
    within-kept from to old x there i same d is change e u =
        let g = rearranged (from.position - 1) (to.position - 1) (Node i.label i.content i.children Empty) in
        let made = change_between false (passed from.above (root_of document)) old (with_children old (g old.children)) in
        let told : change_at false document d from.above ≡ Some made =
        ap (λ a. change_at false document a from.above) is ∙ change-told (λ _. Unit {0}) document from.above old there g in
        let one = within-told from to document d change made same told e in
        let neither : (asks_order q || is_touched made q) ≡ false = ap (λ m. move_touched m q) one ∙ u in
        reordered-unmarked document from.above old there each-once i.label i.content i.children (g old.children)
        (sides i.label i.content i.children old.children (g old.children)
        (reordered old.above old.children from.position (to.position - 1) x i))
        sheet parameters called q (neither-first (asks_order q) (is_touched made q) neither)
        (neither-second (asks_order q) (is_touched made q) neither)
        ∙ ap (λ a. truth_by ref_of same_ref called sheet parameters (entries_of a) q)
        (sym (is ∙ ap (document_with document) (all-at-once document from.above old there g)))

    by-made : (p : ℕ) (ps : List ℕ) (to : Spot) → Moved first document new (p ∷ ps) (spot_from p ps) to → (change : MoveChange)
        → change_by (spot_from p ps) to document after ≡ Some change → move_touched change q ≡ false → IsKeptAnswer after
    by-made p ps to (is_still same x at is) change e u =
        ap (λ f. truth_by ref_of same_ref called sheet parameters (entries_of (document_with document f)) q) (sym is)
    by-made p ps to (is_within same old x there i is) change e u =
        within-kept (spot_from p ps) to old x there i same after (ap (document_with document) is) change e u
    by-made p ps to (is_carried apart old x there found at next way parent stand through keeps scope is) change e u =
        carried-kept (spot_from p ps) to after (subst (λ f. Carried document (document_with document f) (spot_from p ps) to) (sym is)
        (carry first document p ps to old x next there found at way parent stand apart through keeps scope normal once low)) change e u

    pub move-unmarked : (path other : List ℕ) → moved_nodes first path other document ≡ Ok new → (change : MoveChange)
        → move_change path other document after ≡ Some change → move_touched change q ≡ false → IsKeptAnswer after
    move-unmarked [] other h change e u = absurd (cc)
    move-unmarked (p ∷ ps) [] h change e u = absurd (cc)
    move-unmarked (p ∷ ps) (q ∷ qs) h change e u = by-made p ps (spot_from q qs) (move-made first document new p ps q qs h) change e u

  -- ---- The change that a move makes

  pub record Makes (from to : Spot) : Type 0 where
    pub change : MoveChange
    pub told : change_by from to document after ≡ Some change

  within-makes : (from to : Spot) (c : Change) → is_path from.above to.above ≡ true → change_at false document after from.above ≡ Some c
      → Makes from to
  within-makes from to c same told =
      record {
        change = in_order c;
        told = ap (λ b. cond b (option_map in_order (change_at false document after from.above))
            (option_and_then (changes_between from to document after) (node_at document from.above))) same ∙ ap (option_map in_order) told;
      }

  carried-by : (p : ℕ) (ps : List ℕ) (to : Spot) → Moved first document new (p ∷ ps) (spot_from p ps) to
      → is_path (spot_from p ps).above to.above ≡ false → Carried document after (spot_from p ps) to
  carried-by p ps to (is_still same x at is) apart = absurd (let no : true ≡ false = sym same ∙ apart in cc)
  carried-by p ps to (is_within same old x there i is) apart = absurd (let no : true ≡ false = sym same ∙ apart in cc)
  carried-by p ps to (is_carried _ old x there found at next way parent stand through keeps scope is) apart =
      subst (λ f. Carried document (document_with document f) (spot_from p ps) to) (sym is)
      (carry first document p ps to old x next there found at way parent stand apart through keeps scope normal once low)

  makes : (p : ℕ) (ps : List ℕ) (to : Spot) → Moved first document new (p ∷ ps) (spot_from p ps) to → Makes (spot_from p ps) to
  makes p ps to (is_still same x at is) =
      let from = spot_from p ps in
      let s = steps_of (node_at document from.above) (λ y. child_at y.above y.children from.position) x
      (sym (path-spot p ps (root_of document)) ∙ at) in
      let old = s.middle in
      within-makes from to (change_between false (passed from.above (root_of document)) old old) same
      (ap (λ f. change_at false document (document_with document f) from.above) is
      ∙ ap (option_and_then (λ w. option_map (change_between false (passed from.above (root_of document)) w) (node_at document from.above))) s.is
      ∙ ap (option_map (change_between false (passed from.above (root_of document)) old)) s.is)
  makes p ps to (is_within same old x there i is) =
      let from = spot_from p ps in
      let g = rearranged (from.position - 1) (to.position - 1) (Node i.label i.content i.children Empty) in
      within-makes from to (change_between false (passed from.above (root_of document)) old (with_children old (g old.children))) same
      (ap (λ f. change_at false document (document_with document f) from.above) is
      ∙ change-told (λ _. Unit {0}) document from.above old there g)
  makes p ps to (is_carried apart old x there found at next way parent stand through keeps scope is) =
      let c = carried-by p ps to (is_carried apart old x there found at next way parent stand through keeps scope is) apart in
      record { change = between c.left c.entered; told = c.told }

  pub record MakesChange (path other : List ℕ) : Type 0 where
    pub change : MoveChange
    pub told : move_change path other document after ≡ Some change

  pub move-makes : (path other : List ℕ) → moved_nodes first path other document ≡ Ok new → MakesChange path other
  move-makes [] other h = absurd (cc)
  move-makes (p ∷ ps) [] h =
      let a = answer_ok (origin_faults document (p ∷ ps) ++ target_faults document None)
      (cond (is_path (p ∷ ps) []) (answered (record { nodes = document.nodes; made = 0 })) (moved_there same_nodes first (p ∷ ps) [] document)) new h in
      absurd (let none : target_faults document None ≡ [] = (append_none (origin_faults document (p ∷ ps)) (target_faults document None) a.0).1 in cc)
  move-makes (p ∷ ps) (q ∷ qs) h =
      let m = makes p ps (spot_from q qs) (move-made first document new p ps q qs h) in record { change = m.change; told = m.told }

  pub record LeadsBetween (path other : List ℕ) (from : Spot) : Type 0 where
    pub left : Change
    pub entered : Change
    pub told : move_change path other document after ≡ Some (between left entered)
    pub leaves : Leads left document (document_without from document)
    pub enters : Leads entered (document_without from document) after
    pub leaves_seen : (rules : List SpaceRule) → Leads (seen_change left (seen rules document) (seen rules (document_without from document)))
        (seen rules document) (seen rules (document_without from document))
    pub enters_seen : (rules : List SpaceRule) → Leads (seen_change entered (seen rules (document_without from document)) (seen rules after))
        (seen rules (document_without from document)) (seen rules after)

  pub move-leads : (path other : List ℕ) → moved_nodes first path other document ≡ Ok new → (from to : Spot) → spot_of path ≡ Some from
      → spot_of other ≡ Some to → is_path from.above to.above ≡ false → LeadsBetween path other from
  move-leads [] other h from to e f apart = absurd (cc)
  move-leads (p ∷ ps) [] h from to e f apart = absurd (cc)
  move-leads (p ∷ ps) (q ∷ qs) h from to e f apart =
      let is_from = some_same (spot_from p ps) from e in
      let is_to = some_same (spot_from q qs) to f in
      let c = carried-by p ps (spot_from q qs) (move-made first document new p ps q qs h) ((λ i. is_path (is_from i).above (is_to i).above) ∙ apart) in
      subst (λ s. LeadsBetween (p ∷ ps) (q ∷ qs) s) is_from
      (record {
        left = c.left;
        entered = c.entered;
        told = c.told;
        leaves = c.leaves;
        enters = c.enters;
        leaves_seen = c.leaves_seen;
        enters_seen = c.enters_seen;
      })

  -- what is seen, once the changes are known
  pub seen-kept : (path other : List ℕ) → moved_nodes first path other document ≡ Ok new → (from to : Spot) → spot_of path ≡ Some from
      → spot_of other ≡ Some to → is_path from.above to.above ≡ false → (rules : List SpaceRule) (left entered : Change)
      → move_change path other document after ≡ Some (between left entered)
      → (sheet : Sheet) (parameters : Parameters) (called : stylesheet.Place → NodeRef) (q : Question NodeRef)
      → is_touched (seen_change left (seen rules document) (seen rules (document_without from document))) q ≡ false
      → is_touched (seen_change entered (seen rules (document_without from document)) (seen rules after)) q ≡ false
      → truth_by ref_of same_ref called sheet parameters (entries_of (seen rules document)) q
      ≡ truth_by ref_of same_ref called sheet parameters (entries_of (seen rules after)) q
  seen-kept path other h from to e f apart rules left entered told sheet parameters called q u v =
      let m = move-leads path other h from to e f apart in
      let middle = document_without from document in
      let same = some_same (between left entered) (between m.left m.entered) (sym told ∙ m.told) in
      let first_same : left ≡ m.left = ap (λ c. elim c [ in_order _ ↦ left | between one two ↦ one ]) same in
      let second_same : entered ≡ m.entered = ap (λ c. elim c [ in_order _ ↦ entered | between one two ↦ two ]) same in
      unmarked (seen_change m.left (seen rules document) (seen rules middle)) (seen rules document) (seen rules middle) (m.leaves_seen rules) sheet
      parameters called q (ap (λ c. is_touched (seen_change c (seen rules document) (seen rules middle)) q) (sym first_same) ∙ u)
      ∙ unmarked (seen_change m.entered (seen rules middle) (seen rules after)) (seen rules middle) (seen rules after) (m.enters_seen rules) sheet
      parameters called q (ap (λ c. is_touched (seen_change c (seen rules middle) (seen rules after)) q) (sym second_same) ∙ v)
