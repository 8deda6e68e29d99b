-- A move leads from the document before to the one after: to another parent in two steps, as the node is taken away and then put in.
use Rattle.std.proofs.Common.{◌≡◌, ◌≤◌, ◌<◌, arith, ℕ, ◌+◌, ◌-◌, ◌==◌, Bool, true, false, cond, List, [], ◌∷◌, ◌++◌, Option, None, Some}
use Rattle.std.proofs.Common.{refl, sym, ap, ◌∙◌, subst}
use Rattle.std.specs.Prelude.{Result, Ok, Err, ◌&&◌, ◌||◌, nat_lt, is_none}
use Rattle.std.specs.Option.{option_map, option_and_then}
use Rattle.std.proofs.lemmas.Bool.{ltb-true, ltb-false}
use Rattle.std.proofs.lemmas.Slice.Eq.{bytes_eq-Decides}
use Rattle.spec_document.specs.declared.parent.Parent.{Parent}
use Rattle.spec_document.specs.Forest.{Content, Element, Text, Comment, Instruction, Forest, Empty, Node, Document}
use Rattle.spec_document.specs.Forest.{labels, plain, numbered, followed, IsNormal}
use Rattle.spec_document.specs.Place.{Found, root_of, child_at, node_at, scope_at}
use Rattle.spec_document.specs.Fault.{Fault, fault_if}
use Rattle.spec_document.specs.Top.{kept, without_texts}
use Rattle.spec_document.specs.Document.{elements_beside}
use Rattle.spec_edit.specs.Splice.{Spot, spot_of, spot_from, first_siblings, later_siblings, children_changed, met, inserted, deleted}
use Rattle.spec_edit.specs.Edit.{Edited, by_content, by_node, parent_by}
use Rattle.spec_edit.proofs.Around.{IsChild, child, IsBelow, below, filled, some_same, first-later}
use Rattle.spec_edit.proofs.Shapes.{answered, ok_same, answer_ok, append_none, same_nodes}
use Rattle.spec_edit.proofs.Numbers.{occurs-labels, stands, stands_around, stands-filled, stands-followed, stands-met}
use Rattle.spec_edit.proofs.Numbers.{added-earlier, numbered-again, AreOnce, AreBelow}
use Rattle.spec_change.specs.Change.{Change, is_among, sibling_labels, passed, change_between, change_at}
use Rattle.spec_change.proofs.Changing.{with_children, found-changed}
use Rattle.spec_move.specs.Changed.{in_order, between, document_without, changes_between, change_by}
use Rattle.spec_move.specs.Move.{is_path, goes_through, origin_faults, target_faults, keeps_labels, rearranged, path_without, tree_of}
use Rattle.spec_move.specs.Move.{move_faults, placed, with_placed, carried, moved_below, moved_between, moved_from, moved_at, moved_there}
use Rattle.spec_move.specs.Move.{moved_nodes}
use Rattle.spec_move.proofs.Around.{path-spot, way-kept, steps_of}
use Rattle.spec_edit.proofs.Normal.{IsAbove, normal-met, normal-whole}
use Rattle.spec_move.proofs.Normal.{parts_of}
use Rattle.spec_move.proofs.Moving.{Place, tree, above-by}
use Rattle.spec_node.specs.declared.node_ref.NodeRef.{NodeRef}
use Rattle.spec_touch.specs.Leads.{Leads, seen_change}
use Rattle.spec_touch.specs.Moved.{goes_along}
use Rattle.spec_touch.specs.Touched.{goes_or_comes, is_attribute}
use Rattle.spec_touch.specs.Plain.{TellsApart}
use Rattle.spec_stylesheet.specs.Sheet.{SpaceRule}
use Rattle.spec_seen.specs.Seen.{seen}
use Rattle.spec_touch.proofs.Entries.{first-of, second-of}
use Rattle.spec_touch.proofs.Leading.{children-lead}
use Rattle.spec_touch.proofs.Planting.{Target, keeps-scope, stays-in}
use Rattle.spec_touch.proofs.Staying.{StaysIn}
use Rattle.spec_touch.proofs.SeenLeading.{children-lead-seen}
use Rattle.spec_touch.proofs.ToldApart.{none-told}
use Rattle.spec_touch.proofs.Parting.{Holds, is_root, is_element, child-holds}
use Rattle.spec_touch.proofs.Parting.{Split, split_goes, unsplit, met-split, come-split, parts-used, told-itself}

-- ---- A change of children by what is made of them

abbrev pub document_with : Document ℕ → Forest ℕ → Document ℕ
document_with document nodes = record { root = document.root; nodes = nodes }

module _ (Used : ℕ → Type 0) (document : Document ℕ) (path : List ℕ) (was : Found ℕ) (at : node_at document path ≡ Some was)
    (g : Forest ℕ → Forest ℕ) where
  abbrev pub changed_document : Document ℕ
  changed_document = document_with document (children_changed g path document.nodes)

  abbrev pub change_made : Change
  change_made = change_between false (passed path (root_of document)) was (with_children was (g was.children))

  pub found-then : node_at changed_document path ≡ Some (with_children was (g was.children))
  found-then = found-changed g path (root_of document) was at

  pub change-told : change_at false document changed_document path ≡ Some change_made
  change-told =
      ap (option_and_then (λ w. option_map (change_between false (passed path (root_of document)) w) (node_at changed_document path))) at
      ∙ ap (option_map (change_between false (passed path (root_of document)) was)) found-then

  pub leads-by : Split Used was.children (g was.children) → ((k : ℕ) → stands (λ m. m == k) document.nodes ≤ 1)
      → ((k : ℕ) → 1 ≤ stands (λ m. m == k) document.nodes → Used k) → Leads change_made document changed_document
  leads-by split once used =
      let b = below path (root_of document) was at in
      let counted : (k : ℕ) → stands (λ m. m == k) document.nodes ≡ stands_around (λ m. m == k) b.around + stands
      (λ m. m == k) was.children =
      λ k. ap (stands (λ m. m == k)) b.whole ∙ stands-filled (λ m. m == k) b.around was.children in
      children-lead change_made document (record { nodes = changed_document.nodes; made = 0 }) path was g refl at refl (record {
        of_children = refl;
        node = refl;
        before = told-itself (sibling_labels was.children);
        after = told-itself (sibling_labels (g was.children));
        parts = parts-used Used was.children (g was.children) split
            (λ k. (let most = once k in let all = counted k in omega arith))
            (λ k some. used k (let all = counted k in omega arith));
      })

  -- each number of the document but those below the node is where it was
  pub made-apart : AreOnce (document.root ∷ labels document.nodes) → AreOnce (document.root ∷ labels changed_document.nodes)
      → TellsApart change_made document changed_document
  made-apart once then_once =
      let b = below path (root_of document) was at in
      let old : (k : ℕ) → stands (λ m. m == k) document.nodes
      ≡ stands_around (λ m. m == k) b.around + stands (λ m. m == k) was.children =
      λ k. ap (stands (λ m. m == k)) b.whole ∙ stands-filled (λ m. m == k) b.around was.children in
      let new : (k : ℕ) → stands (λ m. m == k) changed_document.nodes
      ≡ stands_around (λ m. m == k) b.around + stands (λ m. m == k) (g was.children) =
      λ k. ap (stands (λ m. m == k)) (b.changed g) ∙ stands-filled (λ m. m == k) b.around (g was.children) in
      record {
        gone = none-told (labels (g was.children)) (labels was.children) (document.root ∷ labels changed_document.nodes) (λ k some none. (
            let one = once.at k in
            let parts = old k in
            let now = new k in
            let all = occurs-labels (λ m. m == k) document.nodes in
            let here = occurs-labels (λ m. m == k) changed_document.nodes in
            let inside = occurs-labels (λ m. m == k) was.children in
            let others = occurs-labels (λ m. m == k) (g was.children) in
            omega arith
            ));
        brought = none-told (labels was.children) (labels (g was.children)) (document.root ∷ labels document.nodes) (λ k some none. (
            let one = then_once.at k in
            let parts = old k in
            let now = new k in
            let all = occurs-labels (λ m. m == k) document.nodes in
            let here = occurs-labels (λ m. m == k) changed_document.nodes in
            let inside = occurs-labels (λ m. m == k) was.children in
            let others = occurs-labels (λ m. m == k) (g was.children) in
            omega arith
            ));
      }

-- ---- What a move makes, by its places

pub data Moved (first : ℕ) (document : Document ℕ) (new : Edited ℕ) (path : List ℕ) (from to : Spot) : Type 0 where
  is_still : is_path from.above to.above ≡ true → (x : Found ℕ) → node_at document path ≡ Some x → new.nodes ≡ document.nodes
      → Moved first document new path from to
  is_within : is_path from.above to.above ≡ true → (old x : Found ℕ) → node_at document from.above ≡ Some old
      → (i : IsChild old.above old.children from.position x)
      → new.nodes ≡ children_changed (rearranged (from.position - 1) (to.position - 1) (Node i.label i.content i.children Empty)) from.above
      document.nodes
      → Moved first document new path from to
  is_carried : is_path from.above to.above ≡ false → (old x : Found ℕ) → node_at document from.above ≡ Some old
      → child_at old.above old.children from.position ≡ Some x → (at : Place document from old x) → (next : Found ℕ)
      → node_at document to.above ≡ Some next → (parent : Parent) → parent_by next.content next ≡ Some parent
      → goes_through to.above path ≡ false → (keeps : Bool) → (keeps ≡ true → scope_at old ≡ scope_at next)
      → new.nodes ≡ carried from to old (placed same_nodes keeps first (kept (elements_beside parent) (tree at))).nodes document
      → Moved first document new path from to

unless_ok : {A : Type 0} (b : Bool) (r : Result A Fault) (n : ℕ) (x : A) → cond b (Err (record { number = n; line = 0 })) r ≡ Ok x
    → (b ≡ false) × (r ≡ Ok x)
unless_ok true r n x e = absurd (cc)
unless_ok false r n x e = (refl, e)

module _ (first : ℕ) (document : Document ℕ) (new : Edited ℕ) where
  module _ (p : ℕ) (ps : List ℕ) (to : Spot) (old x : Found ℕ) (there : node_at document (spot_from p ps).above ≡ Some old)
      (found : child_at old.above old.children (spot_from p ps).position ≡ Some x) where
    abbrev from : Spot
    from = spot_from p ps

    abbrev i : IsChild old.above old.children from.position x
    i = child old.above old.children from.position x found

    abbrev b : IsBelow (root_of document) from.above old
    b = below from.above (root_of document) old there

    abbrev at : Place document from old x
    at =
        record {
          around = b.around;
          before = i.before;
          label = i.label;
          content = i.content;
          children = i.children;
          after = i.after;
          is = i.is;
          above = b.above;
          own = b.content;
          siblings = i.whole;
          first = i.first;
          later = i.later;
          from = i.from;
          whole = b.whole;
          changed = b.changed;
        }

    abbrev Result_is : Type 0
    Result_is = Moved first document new (p ∷ ps) from to

    below-parent : is_path from.above to.above ≡ false → (next : Found ℕ) → node_at document to.above ≡ Some next → (o : Option Parent)
        → parent_by next.content next ≡ o
        → moved_between same_nodes first (p ∷ ps) from to document old next (tree at) o ≡ Ok new → Result_is
    below-parent apart next way None stands h = absurd (cc)
    below-parent apart next way (Some parent) stands h =
        let u = unless_ok (goes_through to.above (p ∷ ps)) (moved_below same_nodes first from to document old next (tree at) parent) 15 new h in
        let keeps = keeps_labels old next in
        let beside = elements_beside parent in
        let made = with_placed from to old document (placed same_nodes keeps first (kept beside (tree at))) in
        let a = answer_ok (move_faults keeps first beside next (tree at)) (Ok made) new u.1 in
        is_carried apart old x there found at next way parent stands u.0 keeps (keeps-scope old next) (sym (ap (λ d. d.nodes) (ok_same made new a.1)))

    to-other : is_path from.above to.above ≡ false → (o : Option (Found ℕ)) → node_at document to.above ≡ o
        → moved_from same_nodes first (p ∷ ps) from to document (tree at) (Some old) o ≡ Ok new → Result_is
    to-other apart None way h = absurd (cc)
    to-other apart (Some next) way h = below-parent apart next way (parent_by next.content next) refl h

    by-parents : (same : Bool) → is_path from.above to.above ≡ same
        → cond same (answered (record {
          nodes = children_changed (rearranged (from.position - 1) (to.position - 1) (tree at)) from.above document.nodes;
          made = 0;
        })) (moved_from same_nodes first (p ∷ ps) from to document (tree at) (Some old) (node_at document to.above)) ≡ Ok new
        → Result_is
    by-parents true e h =
        is_within e old x there i (sym (ap (λ d. d.nodes) (ok_same (record {
          nodes = children_changed (rearranged (from.position - 1) (to.position - 1) (tree at)) from.above document.nodes;
          made = 0;
        }) new h)))
    by-parents false e h = to-other e (node_at document to.above) refl h

    by-site : by_content (λ node content. moved_at same_nodes first (p ∷ ps) from to document (tree_of node content)) x x.content ≡ Ok new
        → Result_is
    by-site h =
        let change : Found ℕ → Content → Result (Edited ℕ) Fault =
        λ node content. moved_at same_nodes first (p ∷ ps) from to document (tree_of node content) in
        by-parents (is_path from.above to.above) refl
        (ap (λ o. cond (is_path from.above to.above) (answered (record {
          nodes = children_changed (rearranged (from.position - 1) (to.position - 1) (tree at)) from.above document.nodes;
          made = 0;
        })) (moved_from same_nodes first (p ∷ ps) from to document (tree at) o (node_at document to.above))) (sym there)
        ∙ ap (λ y. by_content change y y.content) (sym at.is) ∙ h)

  at-node : (p : ℕ) (ps : List ℕ) (to : Spot) (o : Option (Found ℕ)) → node_at document (p ∷ ps) ≡ o
      → by_node (λ node content. moved_at same_nodes first (p ∷ ps) (spot_from p ps) to document (tree_of node content)) o ≡ Ok new
      → Moved first document new (p ∷ ps) (spot_from p ps) to
  at-node p ps to None e h = absurd (cc)
  at-node p ps to (Some x) e h =
      let from = spot_from p ps in
      let s = steps_of (node_at document from.above) (λ y. child_at y.above y.children from.position) x (sym (path-spot p ps (root_of document)) ∙ e) in
      by-site p ps to s.middle x s.is s.rest h

  same-spot : (p : ℕ) (ps : List ℕ) (q : ℕ) (qs : List ℕ) → is_path (p ∷ ps) (q ∷ qs) ≡ true
      → is_path (spot_from p ps).above (spot_from q qs).above ≡ true
  same-spot p ps q qs e =
      let same = some_same (spot_from p ps) (spot_from q qs) (ap spot_of ((bytes_eq-Decides (p ∷ ps) (q ∷ qs)).0 e)) in
      (bytes_eq-Decides (spot_from p ps).above (spot_from q qs).above).1 (ap (λ s. s.above) same)

  still : (p : ℕ) (ps : List ℕ) (to : Spot) (o : Option (Found ℕ)) → node_at document (p ∷ ps) ≡ o → fault_if (is_none o) 6 0 ≡ []
      → is_path (spot_from p ps).above to.above ≡ true → new.nodes ≡ document.nodes → Moved first document new (p ∷ ps) (spot_from p ps) to
  still p ps to None e none same is = absurd (cc)
  still p ps to (Some x) e none same is = is_still same x e is

  by-paths : (p : ℕ) (ps : List ℕ) (q : ℕ) (qs : List ℕ) → origin_faults document (p ∷ ps) ≡ [] → (b : Bool) → is_path (p ∷ ps) (q ∷ qs) ≡ b
      → cond b (answered (record { nodes = document.nodes; made = 0 })) (moved_there same_nodes first (p ∷ ps) (q ∷ qs) document) ≡ Ok new
      → Moved first document new (p ∷ ps) (spot_from p ps) (spot_from q qs)
  by-paths p ps q qs none true e h =
      still p ps (spot_from q qs) (node_at document (p ∷ ps)) refl none (same-spot p ps q qs e)
      (sym (ap (λ d. d.nodes) (ok_same (record { nodes = document.nodes; made = 0 }) new h)))
  by-paths p ps q qs none false e h = at-node p ps (spot_from q qs) (node_at document (p ∷ ps)) refl h

  pub move-made : (p : ℕ) (ps : List ℕ) (q : ℕ) (qs : List ℕ) → moved_nodes first (p ∷ ps) (q ∷ qs) document ≡ Ok new
      → Moved first document new (p ∷ ps) (spot_from p ps) (spot_from q qs)
  move-made p ps q qs h =
      let a = answer_ok (origin_faults document (p ∷ ps) ++ target_faults document (spot_of (q ∷ qs)))
      (cond (is_path (p ∷ ps) (q ∷ qs)) (answered (record { nodes = document.nodes; made = 0 }))
      (moved_there same_nodes first (p ∷ ps) (q ∷ qs) document)) new h in
      by-paths p ps q qs (append_none (origin_faults document (p ∷ ps)) (target_faults document (spot_of (q ∷ qs))) a.0).0
      (is_path (p ∷ ps) (q ∷ qs)) refl a.1

-- ---- To another parent

without-most : (p : ℕ → Bool) (f : Forest ℕ) → stands p (without_texts f) ≤ stands p f
without-most p Empty = omega arith
without-most p (Node l (Element n a) f s) = let rest = without-most p s in omega arith
without-most p (Node l (Text t) f s) = let rest = without-most p s in omega arith
without-most p (Node l (Comment t) f s) = let rest = without-most p s in omega arith
without-most p (Node l (Instruction n t) f s) = let rest = without-most p s in omega arith

kept-most : (p : ℕ → Bool) (beside : Option ℕ) (f : Forest ℕ) → stands p (kept beside f) ≤ stands p f
kept-most p None f = omega arith
kept-most p (Some others) f = without-most p f

-- the numbers of what is put in do not stand in what is left
put-fresh : (first : ℕ) (document : Document ℕ) (from : Spot) (old x : Found ℕ) (at : Place document from old x) (beside : Option ℕ) (keeps : Bool)
    (left : Forest ℕ) → ((p : ℕ → Bool) → stands p left + stands p (tree at) ≤ stands p document.nodes)
    → AreOnce (document.root ∷ labels document.nodes) → AreBelow first (document.root ∷ labels document.nodes)
    → (k : ℕ) → 1 ≤ stands (λ m. m == k) left
    → stands (λ m. m == k) (placed same_nodes keeps first (kept beside (tree at))).nodes ≡ 0
put-fresh first document from old x at beside true left most once low k some =
    let all = most (λ m. m == k) in
    let own = kept-most (λ m. m == k) beside (tree at) in
    let one = once.at k in
    let sum = occurs-labels (λ m. m == k) document.nodes in
    omega arith
put-fresh first document from old x at beside false left most once low k some =
    let all = most (λ m. m == k) in
    let sum = occurs-labels (λ m. m == k) document.nodes in
    let own = plain (kept beside (tree at)) in
    added-earlier k first (numbered first own) (numbered-again first first own) (by (nat_lt k first) refl)
  where
    by : (b : Bool) → nat_lt k first ≡ b → k < first
    by true e = ltb-true k first e
    by false e = absurd (
        let none = low.at k (ltb-false k first e) in
        let all = most (λ m. m == k) in
        let sum = occurs-labels (λ m. m == k) document.nodes in
        omega arith
        )

-- where a change is of children, what goes or comes is told to be gone or brought
gone_or_brought : (change : Change) (node : NodeRef) → change.of_attributes ≡ false → goes_or_comes change node ≡ true
    → (is_among change.gone node.node.number || is_among change.brought node.node.number) ≡ true
gone_or_brought change node e h =
    no-more (is_among change.gone node.node.number || is_among change.brought node.node.number)
    ((λ i. is_among change.gone node.node.number || is_among change.brought node.node.number
    || (sym e i && is_attribute node.part && (node.node.number == change.node))) ∙ h)
  where
    no-more : (b : Bool) → (b || false) ≡ true → b ≡ true
    no-more true k = refl
    no-more false k = k

pub record Carried (document after : Document ℕ) (from to : Spot) : Type 0 where
  pub left : Change
  pub entered : Change
  pub told : change_by from to document after ≡ Some (between left entered)
  pub leaves : Leads left document (document_without from document)
  pub enters : Leads entered (document_without from document) after
  pub leaves_apart : TellsApart left document (document_without from document)
  pub enters_apart : AreOnce (document.root ∷ labels after.nodes) → TellsApart entered (document_without from document) after
  -- a node of this number stands in the same tree before and after
  pub stays : (node : NodeRef) → goes_along left entered node ≡ true → StaysIn left node.node.number document after
  -- as they are seen
  pub leaves_seen : (rules : List SpaceRule) → Leads (seen_change left (seen rules document) (seen rules (document_without from document)))
      (seen rules document) (seen rules (document_without from document))
  pub enters_seen : (rules : List SpaceRule) → Leads (seen_change entered (seen rules (document_without from document)) (seen rules after))
      (seen rules (document_without from document)) (seen rules after)

holds-above : (content : Option Content) (x : Found ℕ) → x.content ≡ content → IsAbove content → Holds x
holds-above None x e a = is_root e
holds-above (Some (Element n w)) x e a = is_element n w e
holds-above (Some (Text t)) x e a = absurd (cc)
holds-above (Some (Comment t)) x e a = absurd (cc)
holds-above (Some (Instruction n t)) x e a = absurd (cc)

split-is : {Used : ℕ → Type 0} {old new was now : Forest ℕ} → old ≡ was → new ≡ now → Split Used was now → Split Used old new
split-is {Used} {old = old} {new = new} {was = was} {now = now} e f s =
    subst (λ g. Split Used g new) (sym e) (subst (λ g. Split Used was g) (sym f) s)

-- the siblings that are left
left-siblings : (document : Document ℕ) (from : Spot) (old x : Found ℕ) (at : Place document from old x)
    → deleted (from.position - 1) old.children ≡ met at.before at.after
left-siblings document from old x at =
    let positive = at.from in
    let more : from.position - 1 + 1 ≡ from.position = omega arith in
    ap (λ n. met (first_siblings (from.position - 1) old.children) (later_siblings n old.children)) more ∙ (λ i. met (at.first i) (at.later i))

left-most : (document : Document ℕ) (from : Spot) (old x : Found ℕ) (at : Place document from old x) (p : ℕ → Bool)
    → stands p (document_without from document).nodes + stands p (tree at) ≤ stands p document.nodes
left-most document from old x at p =
    let now = ap (stands p) (at.changed (deleted (from.position - 1)) ∙ ap (filled at.around) (left-siblings document from old x at))
    ∙ stands-filled p at.around (met at.before at.after) in
    let was = ap (stands p) (at.whole ∙ ap (filled at.around) at.siblings)
    ∙ stands-filled p at.around (followed at.before (Node at.label at.content at.children at.after)) in
    let all = stands-followed p at.before (Node at.label at.content at.children at.after) in
    let fewer = stands-met p at.before at.after in
    omega arith

module _ (first : ℕ) (document : Document ℕ) (p : ℕ) (ps : List ℕ) (to : Spot) (old x next : Found ℕ)
    (there : node_at document (spot_from p ps).above ≡ Some old) (found : child_at old.above old.children (spot_from p ps).position ≡ Some x)
    (at : Place document (spot_from p ps) old x) (way : node_at document to.above ≡ Some next) (parent : Parent)
    (stands_there : parent_by next.content next ≡ Some parent) (apart : is_path (spot_from p ps).above to.above ≡ false)
    (through : goes_through to.above (p ∷ ps) ≡ false) (keeps : Bool) (same : keeps ≡ true → scope_at old ≡ scope_at next)
    (normal : IsNormal document.nodes)
    (once : AreOnce (document.root ∷ labels document.nodes)) (low : AreBelow first (document.root ∷ labels document.nodes)) where
  abbrev origin : Spot
  origin = spot_from p ps

  abbrev put : Forest ℕ
  put = (placed same_nodes keeps first (kept (elements_beside parent) (tree at))).nodes

  abbrev middle : Document ℕ
  middle = document_without origin document

  abbrev carried_document : Document ℕ
  carried_document = document_with document (carried origin to old put document)

  most-once : (k : ℕ) → stands (λ m. m == k) document.nodes ≤ 1
  most-once k = let one = once.at k in let sum = occurs-labels (λ m. m == k) document.nodes in omega arith

  middle-once : (k : ℕ) → stands (λ m. m == k) middle.nodes ≤ 1
  middle-once k = let one = most-once k in let all = left-most document origin old x at (λ m. m == k) in omega arith

  middle-alone : AreOnce (document.root ∷ labels middle.nodes)
  middle-alone =
      record {
        at = λ k. (
            let one = once.at k in
            let all = occurs-labels (λ m. m == k) document.nodes in
            let here = occurs-labels (λ m. m == k) middle.nodes in
            let most = left-most document origin old x at (λ m. m == k) in
            omega arith
            );
      }

  middle-is : middle.nodes ≡ filled at.around (met at.before at.after)
  middle-is = at.changed (deleted (origin.position - 1)) ∙ ap (filled at.around) (left-siblings document origin old x at)

  middle-normal : IsNormal middle.nodes
  middle-normal =
      let parts = parts_of document origin old x at normal in
      subst IsNormal (sym middle-is)
      (normal-whole None at.around (followed at.before (Node at.label at.content at.children at.after)) (met at.before at.after)
      parts.around parts.whole (normal-met at.before at.after parts.before parts.after))

  pub carry : Carried document carried_document origin to
  carry =
      let k = way-kept p ps (root_of document) old x next to.above there found way apart through normal (above-by next parent stands_there) in
      let n = to.position - 1 in
      let now = k.now.children in
      let most = left-most document origin old x at in
      let used = put-fresh first document origin old x at (elements_beside parent) keeps middle.nodes most once low in
      let b = below (path_without origin old to.above) (root_of middle) k.now k.there in
      let target : Target document origin to old x next at =
      record {
        into = b.around;
        siblings = now;
        left = sym middle-is ∙ b.whole;
        above = sym k.above ∙ b.above;
        carried_is = λ nodes. b.changed (inserted n nodes);
      } in
      let leaving : Split (λ _. Unit {0}) old.children (deleted (origin.position - 1) old.children) =
      split-is at.siblings (left-siblings document origin old x at) (met-split at.before (split_goes (unsplit (λ _. Unit {0}) at.after))) in
      let entering : Split (λ j. stands (λ m. m == j) put ≡ 0) now (inserted n put now) =
      split-is (sym (first-later n now)) refl (met-split (first_siblings n now) (come-split put (later_siblings n now) (λ _ none. none))) in
      let went = change_made (λ _. Unit {0}) document origin.above old there (deleted (origin.position - 1)) in
      let came = change_made (λ j. stands (λ m. m == j) put ≡ 0) middle (path_without origin old to.above) k.now k.there (inserted n put) in
      record {
        left = went;
        entered = came;
        told = (λ i. cond (apart i) (option_map in_order (change_at false document carried_document origin.above))
            (option_and_then (changes_between origin to document carried_document) (there i)))
            ∙ ap (option_and_then (λ left. option_map (between left) (change_at false middle carried_document (path_without origin old to.above))))
            (change-told (λ _. Unit {0}) document origin.above old there (deleted (origin.position - 1)))
            ∙ ap (option_map (between (change_made (λ _. Unit {0}) document origin.above old there (deleted (origin.position - 1)))))
            (change-told (λ j. stands (λ m. m == j) put ≡ 0) middle (path_without origin old to.above) k.now k.there (inserted n put));
        leaves = leads-by (λ _. Unit {0}) document origin.above old there (deleted (origin.position - 1)) leaving most-once (λ _ _. tt);
        enters = leads-by (λ j. stands (λ m. m == j) put ≡ 0) middle (path_without origin old to.above) k.now k.there (inserted n put) entering
            middle-once used;
        leaves_apart = made-apart (λ _. Unit {0}) document origin.above old there (deleted (origin.position - 1)) once middle-alone;
        enters_apart = λ then_once. made-apart (λ j. stands (λ m. m == j) put ≡ 0) middle (path_without origin old to.above) k.now k.there
            (inserted n put) middle-alone then_once;
        stays = λ node g. stays-in first document origin to old x next at target (elements_beside parent) keeps same once low node.node.number
            went refl (gone_or_brought went node refl (first-of (goes_or_comes went node) (goes_or_comes came node) g))
            (gone_or_brought came node refl (second-of (goes_or_comes went node) (goes_or_comes came node) g));
        leaves_seen = λ rules. children-lead-seen rules (λ _. Unit {0}) document (record { nodes = middle.nodes; made = 0 }) normal most-once
            (λ _ _. tt) (change_made (λ _. Unit {0}) document origin.above old there (deleted (origin.position - 1))) old
            (deleted (origin.position - 1)) leaving refl refl refl refl origin.above refl there
            (child-holds old origin.position x (child old.above old.children origin.position x found)) refl;
        enters_seen = λ rules. children-lead-seen rules (λ j. stands (λ m. m == j) put ≡ 0) middle
            (record { nodes = carried_document.nodes; made = 0 }) middle-normal middle-once used
            (change_made (λ j. stands (λ m. m == j) put ≡ 0) middle (path_without origin old to.above) k.now k.there (inserted n put)) k.now
            (inserted n put) entering refl refl refl refl (path_without origin old to.above) refl k.there
            (holds-above next.content k.now k.content (above-by next parent stands_there)) refl;
      }
