-- Each edit that is accepted leads from what is seen of the document before to what is seen of the one after.
use Rattle.std.proofs.Common.{◌≡◌, ◌≤◌, arith, ℕ, ◌+◌, ◌==◌, Bool, true, false, cond, List, [], ◌∷◌, Option, Some}
use Rattle.std.proofs.Common.{refl, sym, ap, ◌∙◌, subst}
use Rattle.std.specs.Prelude.{◌&&◌, nat_lt, Ok}
use Rattle.std.specs.List.{list_all, filter}
use Rattle.std.proofs.lemmas.Bool.{ltb-true, ltb-false}
use Rattle.spec_document.specs.Forest.{Written, Element, Text, Comment, Instruction, Forest, Empty, Node, Document}
use Rattle.spec_document.specs.Forest.{labels, IsNormal}
use Rattle.spec_document.specs.Declaration.{is_declaration}
use Rattle.spec_document.specs.Place.{Found, root_of, child_at, node_at, scope_at}
use Rattle.spec_stylesheet.specs.Sheet.{SpaceRule}
use Rattle.spec_structure.specs.Inside.{is_white, value_of, space_name}
use Rattle.spec_seen.specs.Seen.{Around, at_root, seen_among, seen}
use Rattle.spec_edit.specs.Splice.{spot_from, content_replaced, children_changed}
use Rattle.spec_edit.specs.Judged.{path_of}
use Rattle.spec_edit.specs.Edit.{Edit, Edited, edited_nodes}
use Rattle.spec_edit.proofs.Around.{some_same}
use Rattle.spec_edit.proofs.Numbers.{one_if, occurs, occurs-labels, stands, AreOnce, AreBelow}
use Rattle.spec_change.specs.Change.{Change, is_among, without, sibling_labels, changes_attributes, changed_path}
use Rattle.spec_change.specs.Change.{passed, passed_below, change_between, change_of}
use Rattle.spec_change.proofs.Gone.{some-among}
use Rattle.spec_change.proofs.Changing.{with_children, found-changed}
use Rattle.spec_touch.specs.Leads.{Parts, ChildrenChange, ChangesIn, Leads, at_root as leads_at_root, below_root}
use Rattle.spec_touch.specs.Leads.{seen_change, space_in, space_said, KeepsSpace}
use Rattle.spec_touch.proofs.Parting.{IsUnder, Split, gone_count, brought_count, old-counted, new-counted, brought-fresh}
use Rattle.spec_touch.proofs.Parting.{parted, still-among, filter-keeps, all-from, under-by}
use Rattle.spec_touch.proofs.Parting.{Holds}
use Rattle.spec_touch.proofs.Leading.{Led, children_led, attributes_led, edit-led, change-is, after_edit}
use Rattle.spec_touch.proofs.SeenElements.{way-element}
use Rattle.spec_touch.proofs.Seeing.{Sees, sees, way-seen}

-- ---- Siblings by their numbers

module _ (rules : List SpaceRule) (around : Around) (p : ℕ → Bool) where
  text-siblings : (b : Bool) (l : ℕ) (t : List ℕ) (f s rest : Forest ℕ) → occurs p (sibling_labels rest) ≤ occurs p (sibling_labels s)
      → occurs p (sibling_labels (cond b rest (Node l (Text t) f rest))) ≤ one_if (p l) + occurs p (sibling_labels s)
  text-siblings true l t f s rest h = omega arith
  text-siblings false l t f s rest h = omega arith

  siblings-fewer : (f : Forest ℕ) → occurs p (sibling_labels (seen_among rules around f)) ≤ occurs p (sibling_labels f)
  siblings-fewer Empty = omega arith
  siblings-fewer (Node l (Text t) f s) = text-siblings (around.strips && is_white t) l t f s (seen_among rules around s) (siblings-fewer s)
  siblings-fewer (Node l (Element n w) f s) = let a = siblings-fewer s in omega arith
  siblings-fewer (Node l (Comment t) f s) = let a = siblings-fewer s in omega arith
  siblings-fewer (Node l (Instruction n t) f s) = let a = siblings-fewer s in omega arith

siblings-stand : (p : ℕ → Bool) (f : Forest ℕ) → occurs p (sibling_labels f) ≤ stands p f
siblings-stand p Empty = omega arith
siblings-stand p (Node l c f s) = let a = siblings-stand p s in omega arith

-- ---- The children as they are seen

-- these siblings stand in a document that is seen, and are all among some that were told
told-seen : (told : List ℕ) (f all : Forest ℕ) → ((k : ℕ) → occurs (λ m. m == k) (sibling_labels f) ≤ occurs (λ m. m == k) told)
    → ((k : ℕ) → stands (λ m. m == k) f ≤ stands (λ m. m == k) all)
    → list_all (is_among (filter (is_among (labels all)) told)) (sibling_labels f) ≡ true
told-seen told f all fewer inner =
    all-from (is_among (filter (is_among (labels all)) told)) (sibling_labels f) (λ k some. (
    let here = siblings-stand (λ m. m == k) f in
    let below = inner k in
    let listed = occurs-labels (λ m. m == k) all in
    let there : is_among (labels all) k ≡ true = some-among k (labels all) (omega arith) in
    let kept = filter-keeps k (is_among (labels all)) there told in
    let most = fewer k in
    some-among k (filter (is_among (labels all)) told) (omega arith)
    ))

-- of children that an edit parts, where of the rest of the document as much is seen before as after
record Around2 (document : Forest ℕ) (old new : Forest ℕ) (seen_old seen_new : Forest ℕ)
    (children_old children_new : Forest ℕ) : Type 0 where
  outside : (ℕ → Bool) → ℕ
  outside_all : (ℕ → Bool) → ℕ
  outside_fewer : (p : ℕ → Bool) → outside p ≤ outside_all p
  old_seen : (p : ℕ → Bool) → stands p seen_old ≡ outside p + stands p children_old
  new_seen : (p : ℕ → Bool) → stands p seen_new ≡ outside p + stands p children_new
  old_all : (p : ℕ → Bool) → stands p document ≡ outside_all p + stands p old

module _ (Used : ℕ → Type 0) (document old new : Forest ℕ) (r : Split Used old new) (seen_old seen_new f g : Forest ℕ) (h : Sees r f g)
    (a : Around2 document old new seen_old seen_new f g) (once : (k : ℕ) → stands (λ m. m == k) document ≤ 1)
    (used : (k : ℕ) → 1 ≤ stands (λ m. m == k) document → Used k) where
  abbrev here : ℕ → ℕ
  here k = stands (λ m. m == k) document

  gone-seen : (k : ℕ) → 1 ≤ gone_count (λ m. m == k) h.split → is_among (without (labels seen_new) (labels seen_old)) k ≡ true
  gone-seen k some =
      let was = old-counted (λ m. m == k) r in
      let own = h.olds_fewer (λ m. m == k) in
      let all = a.old_all (λ m. m == k) in
      let fresh = brought-fresh k r (used k (omega arith)) in
      let few = h.all_fewer (λ m. m == k) in
      let most = once k in
      let rest = a.outside_fewer (λ m. m == k) in
      let before = a.old_seen (λ m. m == k) in
      let after = a.new_seen (λ m. m == k) in
      let olds = old-counted (λ m. m == k) h.split in
      let news = new-counted (λ m. m == k) h.split in
      let listed = occurs-labels (λ m. m == k) seen_old in
      let told = occurs-labels (λ m. m == k) seen_new in
      still-among k (labels seen_new) (labels seen_old) (omega arith) (omega arith)

  brought-seen : (k : ℕ) → 1 ≤ brought_count (λ m. m == k) h.split → (b : Bool) → nat_lt 0 (here k) ≡ b
      → is_among (without (labels seen_old) (labels seen_new)) k ≡ true
  brought-seen k some true e =
      let stood : 1 ≤ stands (λ m. m == k) document = ltb-true 0 (here k) e in
      let was = old-counted (λ m. m == k) r in
      let fresh = brought-fresh k r (used k (omega arith)) in
      let few = h.all_fewer (λ m. m == k) in
      let all = a.old_all (λ m. m == k) in
      let most = once k in
      let rest = a.outside_fewer (λ m. m == k) in
      let before = a.old_seen (λ m. m == k) in
      let after = a.new_seen (λ m. m == k) in
      let olds = old-counted (λ m. m == k) h.split in
      let news = new-counted (λ m. m == k) h.split in
      let listed = occurs-labels (λ m. m == k) seen_old in
      let told = occurs-labels (λ m. m == k) seen_new in
      still-among k (labels seen_old) (labels seen_new) (omega arith) (omega arith)
  brought-seen k some false e =
      let none : stands (λ m. m == k) document ≤ 0 = ltb-false 0 (here k) e in
      let was = old-counted (λ m. m == k) r in
      let few = h.olds_fewer (λ m. m == k) in
      let all = a.old_all (λ m. m == k) in
      let rest = a.outside_fewer (λ m. m == k) in
      let before = a.old_seen (λ m. m == k) in
      let after = a.new_seen (λ m. m == k) in
      let olds = old-counted (λ m. m == k) h.split in
      let news = new-counted (λ m. m == k) h.split in
      let listed = occurs-labels (λ m. m == k) seen_old in
      let told = occurs-labels (λ m. m == k) seen_new in
      still-among k (labels seen_old) (labels seen_new) (omega arith) (omega arith)

  parts-seen : Parts (without (labels seen_new) (labels seen_old)) (without (labels seen_old) (labels seen_new)) f g
  parts-seen =
      parted (without (labels seen_new) (labels seen_old)) (without (labels seen_old) (labels seen_new)) h.split
      gone-seen (λ k some. brought-seen k some (nat_lt 0 (here k)) refl)

zero-more : (n m : ℕ) → n ≡ m → n ≡ 0 + m
zero-more n m e = omega arith

-- ---- The change as it is seen

module _ (rules : List SpaceRule) (Used : ℕ → Type 0) (document : Document ℕ) (new : Edited ℕ) (normal : IsNormal document.nodes)
    (once : (k : ℕ) → stands (λ m. m == k) document.nodes ≤ 1)
    (used : (k : ℕ) → 1 ≤ stands (λ m. m == k) document.nodes → Used k) where
  abbrev after_change : Document ℕ
  after_change = after_edit document new

  abbrev sight_of : Document ℕ → Document ℕ
  sight_of d = seen rules d

  module _ (change : Change) (was : Found ℕ) (g : Forest ℕ → Forest ℕ) (split : Split Used was.children (g was.children))
      (of_children : change.of_attributes ≡ false) (node : change.node ≡ was.label) (before : change.before ≡ sibling_labels was.children)
      (behind : change.after ≡ sibling_labels (g was.children)) where
    children-seen : (around : Around) → Around2 document.nodes was.children (g was.children) (sight_of document).nodes
        (sight_of after_change).nodes
        (seen_among rules around was.children) (seen_among rules around (g was.children))
        → ChildrenChange (seen_change change (sight_of document) (sight_of after_change)) was.label
        (seen_among rules around was.children) (seen_among rules around (g was.children))
    children-seen around a =
        record {
          of_children = of_children;
          node = node;
          before = told-seen change.before (seen_among rules around was.children) (sight_of document).nodes
              (λ k. (
              let same : occurs (λ m. m == k) change.before ≡ occurs (λ m. m == k) (sibling_labels was.children) = ap
              (occurs (λ m. m == k)) before in
              let few = siblings-fewer rules around (λ m. m == k) was.children in
              omega arith
              )) (λ k. (let all = a.old_seen (λ m. m == k) in omega arith));
          after = told-seen change.after (seen_among rules around (g was.children)) (sight_of after_change).nodes
              (λ k. (
              let same : occurs (λ m. m == k) change.after ≡ occurs (λ m. m == k) (sibling_labels (g was.children)) = ap
              (occurs (λ m. m == k)) behind in
              let few = siblings-fewer rules around (λ m. m == k) (g was.children) in
              omega arith
              )) (λ k. (let all = a.new_seen (λ m. m == k) in omega arith));
          parts = parts-seen Used document.nodes was.children (g was.children) split (sight_of document).nodes (sight_of after_change).nodes
              (seen_among rules around was.children) (seen_among rules around (g was.children))
              (sees rules around split) a once used;
        }

    pub children-lead-seen : (path : List ℕ) → change.above ≡ passed path (root_of document) → node_at document path ≡ Some was → Holds was
        → new.nodes ≡ children_changed g path document.nodes
        → Leads (seen_change change (sight_of document) (sight_of after_change)) (sight_of document) (sight_of after_change)
    children-lead-seen [] above at holds nodes =
        let is = some_same (root_of document) was at in
        let children : document.nodes ≡ was.children = ap (λ y. y.children) is in
        let others : new.nodes ≡ g was.children = nodes ∙ ap g children in
        let c = children-seen at_root (record {
          outside = λ p. 0;
          outside_all = λ p. 0;
          outside_fewer = λ p. omega arith;
          old_seen = λ p. zero-more _ _ (ap (λ f. stands p (seen_among rules at_root f)) children);
          new_seen = λ p. zero-more _ _ (ap (λ f. stands p (seen_among rules at_root f)) others);
          old_all = λ p. zero-more _ _ (ap (stands p) children);
        }) in
        let label : was.label ≡ document.root = sym (ap (λ y. y.label) is) in
        leads_at_root refl above
        (subst (λ l. ChildrenChange (seen_change change (sight_of document) (sight_of after_change)) l (sight_of document).nodes (sight_of after_change).nodes) label
        (subst (λ f. ChildrenChange (seen_change change (sight_of document) (sight_of after_change)) was.label f (sight_of after_change).nodes)
        (sym (ap (seen_among rules at_root) children))
        (subst (λ f. ChildrenChange (seen_change change (sight_of document) (sight_of after_change)) was.label (seen_among rules at_root was.children) f)
        (sym (ap (seen_among rules at_root) others)) c)))
    children-lead-seen (p ∷ ps) above at holds nodes =
        let r = way-seen rules was holds g at_root p ps [] document.nodes normal at in
        let c = children-seen r.around (record {
          outside = r.outside;
          outside_all = r.outside_all;
          outside_fewer = r.outside_fewer;
          old_seen = r.old_seen;
          new_seen = λ q. ap (λ f. stands q (seen_among rules at_root f)) nodes ∙ r.new_seen q;
          old_all = r.old_all;
        }) in
        below_root refl above
        (subst (λ f. ChangesIn (seen_change change (sight_of document) (sight_of after_change))
        (passed_below (passed ps) (child_at [] document.nodes p)) (sight_of document).nodes f)
        (sym (ap (seen_among rules at_root) nodes)) (r.leads (seen_change change (sight_of document) (sight_of after_change)) c))

module _ (rules : List SpaceRule) (first : ℕ) (edit : Edit) (document : Document ℕ) (new : Edited ℕ) (normal : IsNormal document.nodes)
    (once : AreOnce (document.root ∷ labels document.nodes)) (low : AreBelow first (document.root ∷ labels document.nodes)) where
  abbrev after : Document ℕ
  after = after_edit document new

  abbrev sight : Document ℕ → Document ℕ
  sight d = seen rules d

  once_all : (k : ℕ) → stands (λ m. m == k) document.nodes ≤ 1
  once_all k = let most = once.at k in let sum = occurs-labels (λ m. m == k) document.nodes in omega arith

  low_all : (k : ℕ) → first ≤ k → stands (λ m. m == k) document.nodes ≡ 0
  low_all k high = let none = low.at k high in let sum = occurs-labels (λ m. m == k) document.nodes in omega arith

  used_all : (k : ℕ) → 1 ≤ stands (λ m. m == k) document.nodes → IsUnder first k
  used_all k some = under-by first k (stands (λ m. m == k) document.nodes) (low_all k) some (nat_lt k first) refl

  pub record LeadsSeen : Type 0 where
    pub change : Change
    pub change_is : change_of edit document after ≡ Some change
    pub leads : Leads (seen_change change (sight document) (sight after)) (sight document) (sight after)

  -- an element with other attributes
  element-leads-seen : (p : ℕ) (ps : List ℕ) (was now : Found ℕ) (change : Change) (name : List ℕ) (old more : List Written)
      → was.content ≡ Some (Element name old) → filter is_declaration more ≡ filter is_declaration old
      → value_of (scope_at was) space_name more ≡ value_of (scope_at was) space_name old → change.of_attributes ≡ true
      → change.node ≡ was.label
      → change.before ≡ sibling_labels was.children → change.above ≡ passed (p ∷ ps) (root_of document)
      → node_at document (p ∷ ps) ≡ Some was
      → new.nodes ≡ children_changed (content_replaced (spot_from p ps).position (Element name more)) (spot_from p ps).above document.nodes
      → Leads (seen_change change (sight document) (sight after)) (sight document) (sight after)
  element-leads-seen p ps was now change name old more content same space of_attributes node before above at nodes =
      let r = way-element rules was name old more content same space at_root p ps [] document.nodes refl normal at in
      below_root refl above
      (subst (λ f. ChangesIn (seen_change change (sight document) (sight after))
      (passed_below (passed ps) (child_at [] document.nodes p)) (sight document).nodes f)
      (sym (ap (seen_among rules at_root) nodes)) (r.leads (seen_change change (sight document) (sight after)) (record {
        of_attributes = of_attributes;
        node = node;
        before = told-seen change.before (seen_among rules r.around was.children) (sight document).nodes
            (λ k. (
            let same : occurs (λ m. m == k) change.before ≡ occurs (λ m. m == k) (sibling_labels was.children) = ap
            (occurs (λ m. m == k)) before in
            let few = siblings-fewer rules r.around (λ m. m == k) was.children in
            omega arith
            )) (λ k. r.inner (λ m. m == k));
        declarations = same;
      })))

  pub edit-leads-seen : edited_nodes first edit document ≡ Ok new → KeepsSpace edit document after → LeadsSeen
  edit-leads-seen e keeps = let c = edit-led first edit document new e in by (changes_attributes edit) refl c.path c.path_is c.is_led
    where
      at-path : (b : Bool) → b ≡ true → (o : Option (List ℕ)) (path : List ℕ) → cond b (Some (path_of edit)) o ≡ Some path
          → path_of edit ≡ path
      at-path true t o path h = some_same (path_of edit) path h
      at-path false t o path h = absurd (cc)

      by : (b : Bool) → changes_attributes edit ≡ b → (path : List ℕ) → changed_path edit ≡ Some path
          → Led first document new b path → LeadsSeen
      by false f path pe (children_led was at holds g nodes split) =
          let now = with_children was (g was.children) in
          let there : node_at after path ≡ Some now =
          ap (λ f. node_at (record { root = document.root; nodes = f }) path) nodes ∙ found-changed g path (root_of document) was at in
          let change = change_between false (passed path (root_of document)) was now in
          record {
            change = change;
            change_is = change-is edit document after false path was now f pe at there;
            leads = children-lead-seen rules (IsUnder first) document new normal once_all used_all change was g split refl refl refl refl path refl at holds nodes;
          }
      by true f _ pe (attributes_led {p = p} {ps = ps} was at name old more content named apart set same nodes now there has scope) =
          let way : path_of edit ≡ p ∷ ps = at-path (changes_attributes edit) f _ (p ∷ ps) pe in
          let said : space_said now ≡ space_said was = keeps f was now (ap (node_at document) way ∙ at) (ap (node_at after) way ∙ there) in
          let space : value_of (scope_at was) space_name more ≡ value_of (scope_at was) space_name old =
          ap (λ s. value_of s space_name more) scope ∙ sym (ap (λ c. space_in c (scope_at now)) has) ∙ said ∙ ap
          (λ c. space_in c (scope_at was)) content in
          let change = change_between true (passed (p ∷ ps) (root_of document)) was now in
          record {
            change = change;
            change_is = change-is edit document after true (p ∷ ps) was now f pe at there;
            leads = element-leads-seen p ps was now change name old more content same space refl refl refl refl at nodes;
          }
