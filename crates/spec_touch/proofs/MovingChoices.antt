-- The choice of a rule that a move spares is the same before and after.
use Rattle.std.proofs.Common.{◌≡◌, ℕ, ◌-◌, true, false, List, [], ◌∷◌, Option, Some, sym, ap, ◌∙◌, subst}
use Rattle.std.specs.Prelude.{◌&&◌, Ok}
use Rattle.spec_document.specs.declared.axis.Axis.TheVariants as axis
use Rattle.spec_document.specs.Forest.{Empty, Node, Document, labels, IsNormal}
use Rattle.spec_document.specs.Place.{Found, root_of, node_at}
use Rattle.spec_document.specs.Name.{Expanded}
use Rattle.spec_document.specs.Order.{entries_of}
use Rattle.spec_expression.specs.declared.NodeType.TheVariants as type
use Rattle.spec_expression.specs.Syntax.{OfType}
use Rattle.spec_stylesheet.specs.declared.pattern.Separator.{Separator}
use Rattle.spec_stylesheet.specs.declared.pattern.Separator.TheVariants as separators
use Rattle.spec_stylesheet.specs.Place as stylesheet
use Rattle.spec_stylesheet.specs.Sheet.{Sheet}
use Rattle.spec_meaning.specs.Question as question
use Rattle.spec_meaning.specs.Question.{Question}
use Rattle.spec_transform.specs.Match.{axis_above}
use Rattle.spec_run.specs.Documents.{Parameters}
use Rattle.spec_run.specs.World.{truth_by}
use Rattle.spec_edit.specs.Splice.{Spot, spot_from, children_changed}
use Rattle.spec_edit.specs.Edit.{Edited}
use Rattle.spec_edit.proofs.Around.{IsChild, some_same}
use Rattle.spec_edit.proofs.Numbers.{AreOnce, AreBelow}
use Rattle.spec_change.specs.Change.{Change, passed, change_between, change_at}
use Rattle.spec_change.proofs.Changing.{with_children}
use Rattle.spec_move.specs.Changed.{MoveChange, in_order, between, document_without, move_change}
use Rattle.spec_move.specs.Move.{is_path, moved_nodes, rearranged}
use Rattle.spec_move.proofs.Numbers.{move_numbers}
use Rattle.spec_node.specs.declared.node_ref.NodeRef.{NodeRef}
use Rattle.spec_node.specs.Naming.{ref_of, same_ref}
use Rattle.spec_touch.specs.Touched.{goes_or_comes}
use Rattle.spec_touch.specs.Plain.{AreAsking, spared, spared_by_move, TellsApart}
use Rattle.spec_touch.proofs.Entries.{first-of, second-of}
use Rattle.spec_touch.proofs.Carrying.{Moved, is_still, is_within, is_carried, move-made, Carried, carry, document_with, change-told, made-apart}
use Rattle.spec_touch.proofs.Moving.{after_move, within-told, move-unmarked}
use Rattle.spec_touch.proofs.Sparing.{stays_through, tree_of, KeepsAbove, spared-same, choice-spared, name-unmarked, step-unmarked}

module _ (first : ℕ) (document : Document ℕ) (new : Edited ℕ) (normal : IsNormal document.nodes)
    (once : AreOnce (document.root ∷ labels document.nodes)) (low : AreBelow first (document.root ∷ labels document.nodes))
    (sheet : Sheet) (parameters : Parameters) (called : stylesheet.Place → NodeRef) (p : ℕ) (ps : List ℕ) (next : ℕ) (more : List ℕ)
    (moved : moved_nodes first (p ∷ ps) (next ∷ more) document ≡ Ok new) (q : Question NodeRef)
    (asking : List (Option Expanded)) (plain : AreAsking asking sheet.rules.rules) where
  abbrev after : Document ℕ
  after = after_move document new

  abbrev from : Spot
  from = spot_from p ps

  abbrev to : Spot
  to = spot_from next more

  abbrev IsSame : Document ℕ → Type 0
  IsSame d =
      truth_by ref_of same_ref called sheet parameters (entries_of document) q
      ≡ truth_by ref_of same_ref called sheet parameters (entries_of d) q

  then-once : AreOnce (document.root ∷ labels new.nodes)
  then-once = (move_numbers first (p ∷ ps) (next ∷ more) document new moved once low).once

  -- ---- Within one parent

  module _ (change : Change)
      (told : move_change (p ∷ ps) (next ∷ more) document after ≡ Some (in_order change)) where
    above-kept : (separator : Separator) (n : NodeRef) → stays_through change n ≡ true
        → tree_of document (question.Step n (axis_above separator) (OfType type.Node))
        ≡ tree_of after (question.Step n (axis_above separator) (OfType type.Node))
    above-kept separators.Child n h =
        move-unmarked first document new normal once low sheet parameters called (question.Step n axis.Parent (OfType type.Node)) (p ∷ ps)
        (next ∷ more) moved (in_order change) told (step-unmarked change.of_attributes (goes_or_comes change n) h)
    above-kept separators.Descendant n h =
        move-unmarked first document new normal once low sheet parameters called (question.Step n axis.Ancestor (OfType type.Node)) (p ∷ ps)
        (next ∷ more) moved (in_order change) told (step-unmarked change.of_attributes (goes_or_comes change n) h)

    order-keeps : KeepsAbove change document after
    order-keeps =
        record {
          called = λ n h. move-unmarked first document new normal once low sheet parameters called (question.Name n) (p ∷ ps) (next ∷ more) moved
              (in_order change) told (name-unmarked change.of_attributes (goes_or_comes change n) h);
          above = above-kept;
        }

  within-spared : (old x : Found ℕ) (there : node_at document from.above ≡ Some old) (i : IsChild old.above old.children from.position x)
      → is_path from.above to.above ≡ true
      → new.nodes ≡ children_changed (rearranged (from.position - 1) (to.position - 1) (Node i.label i.content i.children Empty)) from.above
      document.nodes
      → (change : MoveChange) → move_change (p ∷ ps) (next ∷ more) document after ≡ Some change
      → spared_by_move asking change q ≡ true → IsSame after
  within-spared old x there i same is change e u =
      let g = rearranged (from.position - 1) (to.position - 1) (Node i.label i.content i.children Empty) in
      let made = change_between false (passed from.above (root_of document)) old (with_children old (g old.children)) in
      let told : change_at false document after from.above ≡ Some made =
      ap (λ f. change_at false document (document_with document f) from.above) is
      ∙ change-told (λ _. Unit {0}) document from.above old there g in
      let one : in_order made ≡ change = within-told from to document after change made same told e in
      let apart : TellsApart made document after =
      subst (λ f. AreOnce (document.root ∷ labels f) → TellsApart made document (document_with document f)) (sym is)
      (made-apart (λ _. Unit {0}) document from.above old there g once) then-once in
      spared-same made document after (order-keeps made (e ∙ ap Some (sym one))) apart sheet parameters called asking plain q
      (ap (λ m. spared_by_move asking m q) one ∙ u)

  -- ---- To another parent

  carried-spared : Carried document after from to → (change : MoveChange)
      → move_change (p ∷ ps) (next ∷ more) document after ≡ Some change
      → spared_by_move asking change q ≡ true → IsSame after
  carried-spared c change e u =
      let same = some_same (between c.left c.entered) change (sym c.told ∙ e) in
      let both : (spared asking c.left q && spared asking c.entered q) ≡ true =
      ap (λ m. spared_by_move asking m q) same ∙ u in
      choice-spared c.left document (document_without from document) c.leaves sheet parameters called c.leaves_apart asking plain q
      (first-of (spared asking c.left q) (spared asking c.entered q) both)
      ∙ choice-spared c.entered (document_without from document) after c.enters sheet parameters called (c.enters_apart then-once) asking plain q
      (second-of (spared asking c.left q) (spared asking c.entered q) both)

  by-made : Moved first document new (p ∷ ps) from to → (change : MoveChange)
      → move_change (p ∷ ps) (next ∷ more) document after ≡ Some change
      → spared_by_move asking change q ≡ true → IsSame after
  by-made (is_still same x at is) change e u =
      ap (λ f. truth_by ref_of same_ref called sheet parameters (entries_of (document_with document f)) q) (sym is)
  by-made (is_within same old x there i is) change e u = within-spared old x there i same is change e u
  by-made (is_carried apart old x there found at beyond way parent stand through keeps scope is) change e u =
      carried-spared (subst (λ f. Carried document (document_with document f) from to) (sym is)
      (carry first document p ps to old x beyond there found at way parent stand apart through keeps scope normal once low)) change e u

  pub by-move : (change : MoveChange) → move_change (p ∷ ps) (next ∷ more) document after ≡ Some change
      → spared_by_move asking change q ≡ true → IsSame after
  by-move change e u = by-made (move-made first document new p ps next more moved) change e u

module _ (first : ℕ) (document : Document ℕ) (new : Edited ℕ) (normal : IsNormal document.nodes)
    (once : AreOnce (document.root ∷ labels document.nodes)) (low : AreBelow first (document.root ∷ labels document.nodes)) where
  pub move-spared : (path other : List ℕ) → moved_nodes first path other document ≡ Ok new → (change : MoveChange)
      → move_change path other document (after_move document new) ≡ Some change
      → (sheet : Sheet) (parameters : Parameters) (called : stylesheet.Place → NodeRef) (q : Question NodeRef)
      (asking : List (Option Expanded)) → AreAsking asking sheet.rules.rules → spared_by_move asking change q ≡ true
      → truth_by ref_of same_ref called sheet parameters (entries_of document) q
      ≡ truth_by ref_of same_ref called sheet parameters (entries_of (after_move document new)) q
  move-spared [] other h change e sheet parameters called q asking plain u = absurd (cc)
  move-spared (p ∷ ps) [] h change e sheet parameters called q asking plain u = absurd (cc)
  move-spared (p ∷ ps) (next ∷ more) h change e sheet parameters called q asking plain u =
      by-move first document new normal once low sheet parameters called p ps next more h q asking plain change e u
