-- What an edit changes: the children of one node, or its attributes, and of these children some between others that stay.
use Rattle.std.proofs.Common.{◌≡◌, ◌<◌, arith, ℕ, ◌+◌, ◌-◌, ◌==◌, Bool, true, false, not, cond, List, [], ◌∷◌, ◌++◌, Option, None, Some}
use Rattle.std.proofs.Common.{refl, sym, ap, ◌∙◌}
use Rattle.std.specs.Prelude.{Result, Ok, Err}
use Rattle.std.specs.List.{list_all, list_any}
use Rattle.std.specs.Option.{option_map, option_and_then}
use Rattle.spec_document.specs.declared.parent.Parent.{Parent}
use Rattle.spec_document.specs.Character.{is_char}
use Rattle.spec_document.specs.Forest.{Content, Element, Text, Comment, Instruction, Forest, Empty, Node, Document, numbered, size, followed}
use Rattle.spec_document.specs.Declaration.{within}
use Rattle.spec_document.specs.Place.{Found, root_of, found_in, child_at, node_from, node_at, scope_at}
use Rattle.spec_document.specs.Fault.{Fault}
use Rattle.spec_document.specs.NodeFaults.{content_faults}
use Rattle.spec_document.specs.Balance.{alone}
use Rattle.spec_document.specs.Document.{nodes_of}
use Rattle.spec_edit.specs.Splice.{Spot, spot_from, first_siblings, later_siblings, replaced, content_replaced, below_changed, children_changed}
use Rattle.spec_edit.specs.Splice.{met, inserted, deleted}
use Rattle.spec_edit.specs.Edit.{Edit, Insert, Delete, SetText, SetAttribute, RemoveAttribute, Rename, Edited}
use Rattle.spec_edit.specs.Edit.{depth_of, tree_with, tree_faults, renewed, scope_around, with_content, with_element}
use Rattle.spec_edit.specs.Edit.{parent_by, inserts, is_position, inserted_below, inserted_in, is_document_element, deletes, with_text, text_set}
use Rattle.spec_edit.specs.Edit.{makes_anew, is_named, with_attribute, without_attribute, attributes_changed, attribute_set, attribute_removed, renamed}
use Rattle.spec_edit.specs.Edit.{by_content, by_node, edited_nodes}
use Rattle.spec_change.specs.Change.{changed_path}
use Rattle.spec_edit.proofs.Around.{below, IsChild, child, some_same, first-later}
use Rattle.spec_edit.proofs.Shapes.{answered, ok_same, answer_ok, if_ok, same_nodes}
use Rattle.spec_edit.proofs.Numbers.{one_if, occurs, stands, stands_around, stands-followed, stands-filled, stands-outside, occurs-labels, unlike}
use Rattle.spec_edit.proofs.Numbers.{read_nodes, read_numbers}
use Rattle.spec_change.proofs.Branches.{Branch, branch, branches, flat, flat-branches, branches-followed, meets}
use Rattle.spec_change.proofs.Branches.{Parted, none_parted, deletion_parted, renewal_parted, insertion_parted}

-- ---- Answers and ways

unless_ok : {A : Type 0} (b : Bool) (r : Result A Fault) (n : ℕ) (x : A) → cond b (Err (record { number = n; line = 0 })) r ≡ Ok x
    → (b ≡ false) × (r ≡ Ok x)
unless_ok true r n x e = absurd (cc)
unless_ok false r n x e = (refl, e)

and-some : {A : Type 0} (o : Option A) → option_and_then Some o ≡ o
and-some None = refl
and-some (Some x) = refl

then-steps : {L : Type 0} (p q : ℕ) (qs : List ℕ) → ((y : Found L) → node_from (q ∷ qs) y
    ≡ option_and_then (λ x. child_at x.above x.children (spot_from q qs).position) (node_from (spot_from q qs).above y))
    → (o : Option (Found L)) → option_and_then (node_from (q ∷ qs)) o
    ≡ option_and_then (λ x. child_at x.above x.children (spot_from q qs).position) (option_and_then (node_from (spot_from q qs).above) o)
then-steps p q qs same None = refl
then-steps p q qs same (Some y) = same y

path-spot : {L : Type 0} (p : ℕ) (ps : List ℕ) (node : Found L)
    → node_from (p ∷ ps) node ≡ option_and_then (λ x. child_at x.above x.children (spot_from p ps).position) (node_from (spot_from p ps).above node)
path-spot p [] node = and-some (child_at node.above node.children p)
path-spot p (q ∷ qs) node = then-steps p q qs (path-spot q qs) (child_at node.above node.children p)

-- ---- The same node after a change below it

abbrev pub with_children : Found ℕ → Forest ℕ → Found ℕ
with_children node children = record { label = node.label; content = node.content; children = children; above = node.above }

child-changed : (above : List Content) (change : Forest ℕ → Forest ℕ) (p : ℕ) (f : Forest ℕ)
    → child_at above (below_changed change p f) p ≡ option_map (λ y. with_children y (change y.children)) (child_at above f p)
child-changed above change p Empty = refl
child-changed above change p (Node l c f s) =
    let here : Option (Found ℕ) = Some (found_in above l c f) in
    let there = child_at above s (p - 1) in
    elim (p == 1) as (λ b. (p == 1) ≡ b
    → child_at above (cond b (Node l c (change f) s) (Node l c f (below_changed change (p - 1) s))) p
    ≡ option_map (λ y. with_children y (change y.children)) (cond b here there)) [
      | true ↦ λ e i. cond (e i) (Some (found_in above l c (change f))) there
      | false ↦ λ e. (λ i. cond (e i) here (child_at above (below_changed change (p - 1) s) (p - 1))) ∙ child-changed above change (p - 1) s
    ] refl

child-content : (above : List Content) (new : Content) (p : ℕ) (f : Forest ℕ)
    → child_at above (content_replaced p new f) p ≡ option_map (λ y. found_in above y.label new y.children) (child_at above f p)
child-content above new p Empty = refl
child-content above new p (Node l c f s) =
    let here : Option (Found ℕ) = Some (found_in above l c f) in
    let there = child_at above s (p - 1) in
    elim (p == 1) as (λ b. (p == 1) ≡ b
    → child_at above (cond b (Node l new f s) (Node l c f (content_replaced (p - 1) new s))) p
    ≡ option_map (λ y. found_in above y.label new y.children) (cond b here there)) [
      | true ↦ λ e i. cond (e i) (Some (found_in above l new f)) there
      | false ↦ λ e. (λ i. cond (e i) here (child_at above (content_replaced (p - 1) new s) (p - 1))) ∙ child-content above new (p - 1) s
    ] refl

steps-changed : (change : Forest ℕ → Forest ℕ) (ps : List ℕ) (x : Found ℕ) → ((y : Found ℕ) → node_from ps y ≡ Some x
    → node_from ps (with_children y (children_changed change ps y.children)) ≡ Some (with_children x (change x.children)))
    → (o : Option (Found ℕ)) → option_and_then (node_from ps) o ≡ Some x
    → option_and_then (node_from ps) (option_map (λ y. with_children y (children_changed change ps y.children)) o) ≡ Some (with_children x (change x.children))
steps-changed change ps x go None e = absurd (cc)
steps-changed change ps x go (Some y) e = go y e

pub found-changed : (change : Forest ℕ → Forest ℕ) (ps : List ℕ) (node x : Found ℕ) → node_from ps node ≡ Some x
    → node_from ps (with_children node (children_changed change ps node.children)) ≡ Some (with_children x (change x.children))
found-changed change [] node x e = ap (λ n. Some (with_children n (change n.children))) (some_same node x e)
found-changed change (p ∷ ps) node x e =
    ap (option_and_then (node_from ps)) (child-changed node.above (children_changed change ps) p node.children)
    ∙ steps-changed change ps x (λ y h. found-changed change ps y x h) (child_at node.above node.children p) e

-- ---- What an edit changes

pub record IsChanged (first : ℕ) (path : List ℕ) (document : Document ℕ) (new : Edited ℕ) : Type 0 where
  pub was : Found ℕ
  pub now : Found ℕ
  pub was_at : node_at document path ≡ Some was
  pub now_at : node_at (record { root = document.root; nodes = new.nodes }) path ≡ Some now
  pub parted : Parted first (branches was.children) (branches now.children)
  -- how many of the other numbers pass a test
  pub outside : (ℕ → Bool) → ℕ
  pub was_stands : (p : ℕ → Bool) → stands p document.nodes ≡ outside p + stands p was.children
  pub now_stands : (p : ℕ → Bool) → stands p new.nodes ≡ outside p + stands p now.children

-- the way to the node whose attributes change, or to its parent where it is made anew
abbrev way_by : Bool → ℕ → List ℕ → List ℕ
way_by true p ps = (spot_from p ps).above
way_by false p ps = p ∷ ps

module _ (first : ℕ) (document : Document ℕ) (new : Edited ℕ) where
  -- the children of a node
  children-are : (above : List ℕ) (y : Found ℕ) → node_at document above ≡ Some y → (change : Forest ℕ → Forest ℕ) (made : ℕ)
      → answered (record { nodes = children_changed change above document.nodes; made = made }) ≡ Ok new
      → Parted first (branches y.children) (branches (change y.children)) → IsChanged first above document new
  children-are above y at change made h parted =
      let is = ok_same (record { nodes = children_changed change above document.nodes; made = made }) new h in
      let nodes : new.nodes ≡ children_changed change above document.nodes = sym (ap (λ d. d.nodes) is) in
      let b = below above (root_of document) y at in
      record {
        was = y;
        now = with_children y (change y.children);
        was_at = at;
        now_at = ap (λ f. node_at (record { root = document.root; nodes = f }) above) nodes ∙ found-changed change above (root_of document) y at;
        parted = parted;
        outside = λ p. stands_around p b.around;
        was_stands = λ p. ap (stands p) b.whole ∙ stands-filled p b.around y.children;
        now_stands = λ p. ap (stands p) (nodes ∙ b.changed change) ∙ stands-filled p b.around (change y.children);
      }

  -- ---- Insert

  insertion : (spot : Spot) (body : List (List ℕ)) (x : Found ℕ) (at : node_at document spot.above ≡ Some x) (parent : Parent)
      → (read : Result (Forest ℕ) Fault) → nodes_of (scope_at x) first parent body ≡ read → inserts same_nodes spot document read ≡ Ok new
      → IsChanged first spot.above document new
  insertion spot body x at parent (Err fault) e h = absurd (cc)
  insertion spot body x at parent (Ok nodes) e h =
      let n = spot.position - 1 in
      let before = first_siblings n x.children in
      let after = later_siblings n x.children in
      let numbers = read_numbers (scope_at x) first parent body nodes (read_nodes (scope_at x) first parent body nodes e) in
      let p = insertion_parted first (branches before) (branches nodes) (branches after) (branches (met nodes after)) (branches (met before (met nodes after)))
      (λ k low. fresh nodes numbers.0 k low) (meets nodes after) (meets before (met nodes after)) in
      let whole : branches x.children ≡ branches before ++ branches after =
      ap branches (sym (first-later n x.children)) ∙ branches-followed before after in
      children-are spot.above x at (inserted n nodes) (size nodes) h (record {
        front = p.front;
        gone = p.gone;
        brought = p.brought;
        behind = p.behind;
        old_is = whole ∙ p.old_is;
        new_is = p.new_is;
        fresh = p.fresh;
      })
    where
      fresh : (f : Forest ℕ) → numbered first f ≡ f → (k : ℕ) → k < first → occurs (λ m. m == k) (flat (branches f)) ≡ 0
      fresh f same k low =
          ap (occurs (λ m. m == k)) (flat-branches f) ∙ occurs-labels (λ m. m == k) f ∙ ap (stands (λ m. m == k)) (sym same)
          ∙ stands-outside (λ m. m == k) first f (λ m h g. unlike m k (λ equal. omega arith))

  insertion-below : (spot : Spot) (body : List (List ℕ)) (x : Found ℕ) → node_at document spot.above ≡ Some x → (parent : Option Parent)
      → inserted_below same_nodes first spot body document x parent ≡ Ok new → IsChanged first spot.above document new
  insertion-below spot body x at None h = absurd (cc)
  insertion-below spot body x at (Some parent) h =
      let read = nodes_of (scope_at x) first parent body in
      let i = if_ok (is_position spot.position x.children) (inserts same_nodes spot document read) 6 new h in
      insertion spot body x at parent read refl i.1

  insertion-in : (spot : Spot) (body : List (List ℕ)) (o : Option (Found ℕ)) → node_at document spot.above ≡ o
      → inserted_in same_nodes first spot body document o ≡ Ok new → IsChanged first spot.above document new
  insertion-in spot body None at h = absurd (cc)
  insertion-in spot body (Some x) at h = insertion-below spot body x at (parent_by x.content x) h

  -- ---- Of a node

  abbrev IsHere : Spot → (y x : Found ℕ) → Type 0
  IsHere spot y x = IsChild y.above y.children spot.position x

  -- the node as it is found
  abbrev here : (spot : Spot) (y x : Found ℕ) → IsHere spot y x → Found ℕ
  here spot y x i = found_in y.above i.label i.content i.children

  along : (old was new now : List Branch) → old ≡ was → new ≡ now → Parted first was now → Parted first old new
  along old was new now e f p =
      record {
        front = p.front;
        gone = p.gone;
        brought = p.brought;
        behind = p.behind;
        old_is = e ∙ p.old_is;
        new_is = f ∙ p.new_is;
        fresh = p.fresh;
      }

  whole-is : (spot : Spot) (y x : Found ℕ) (i : IsHere spot y x) → branches y.children ≡ branches i.before ++ (branch i.label i.children ∷ branches i.after)
  whole-is spot y x i = ap branches i.whole ∙ branches-followed i.before (Node i.label i.content i.children i.after)

  deletion : (spot : Spot) (y x : Found ℕ) → node_at document spot.above ≡ Some y → IsHere spot y x
      → answered (record { nodes = children_changed (deleted (spot.position - 1)) spot.above document.nodes; made = 0 }) ≡ Ok new
      → IsChanged first spot.above document new
  deletion spot y x at i h =
      let p = spot.position in
      let from = i.from in
      let next : p - 1 + 1 ≡ p = omega arith in
      let is : deleted (p - 1) y.children ≡ met i.before i.after =
      ap (λ n. met (first_siblings (p - 1) y.children) (later_siblings n y.children)) next ∙ (λ j. met (i.first j) (i.later j)) in
      children-are spot.above y at (deleted (p - 1)) 0 h
      (along (branches y.children) _ (branches (deleted (p - 1) y.children)) _ (whole-is spot y x i) (ap branches is)
      (deletion_parted first (branches i.before) (branch i.label i.children) (branches i.after) (branches (met i.before i.after)) (meets i.before i.after)))

  content_kept : (spot : Spot) (y x : Found ℕ) → node_at document spot.above ≡ Some y → IsHere spot y x → (content : Content)
      → answered (with_content spot document content) ≡ Ok new → IsChanged first spot.above document new
  content_kept spot y x at i content h =
      let all = branches i.before ++ (branch i.label i.children ∷ branches i.after) in
      let now : branches (content_replaced spot.position content y.children) ≡ all =
      ap branches (i.content_is content) ∙ branches-followed i.before (Node i.label content i.children i.after) in
      children-are spot.above y at (content_replaced spot.position content) 0 h
      (along (branches y.children) all (branches (content_replaced spot.position content y.children)) all (whole-is spot y x i) now (none_parted first all))

  renewal : (spot : Spot) (y x : Found ℕ) → node_at document spot.above ≡ Some y → (i : IsHere spot y x) → (content : Content)
      → renewed same_nodes first spot document (here spot y x i) content ≡ Ok new → IsChanged first spot.above document new
  renewal spot y x at i content h =
      let p = spot.position in
      let tree = tree_with content (here spot y x i) in
      let others = numbered first tree in
      let a = answer_ok (tree_faults first (here spot y x i) tree) (Ok (record {
        nodes = children_changed (replaced (p - 1) p others) spot.above document.nodes;
        made = size tree;
      })) new h in
      let now : branches (replaced (p - 1) p others y.children) ≡ branches i.before ++ (branches others ++ branches i.after) =
      (λ j. branches (followed (i.first j) (followed others (i.later j)))) ∙ branches-followed i.before (followed others i.after)
      ∙ ap (λ bs. branches i.before ++ bs) (branches-followed others i.after) in
      children-are spot.above y at (replaced (p - 1) p others) (size tree) a.1
      (along (branches y.children) _ (branches (replaced (p - 1) p others y.children)) _ (whole-is spot y x i) now
      (renewal_parted first (branches i.before) (branch i.label i.children) (branches others) (branches i.after) (λ n low. fresh tree n low)))
    where
      fresh : (f : Forest (Unit {0})) → (n : ℕ) → n < first → occurs (λ m. m == n) (flat (branches (numbered first f))) ≡ 0
      fresh f n low =
          ap (occurs (λ m. m == n)) (flat-branches (numbered first f)) ∙ occurs-labels (λ m. m == n) (numbered first f)
          ∙ stands-outside (λ m. m == n) first f (λ m h g. unlike m n (λ equal. omega arith))

  -- attributes of the node itself
  attributes-are : (p : ℕ) (ps : List ℕ) (y x : Found ℕ) → node_at document (spot_from p ps).above ≡ Some y
      → child_at y.above y.children (spot_from p ps).position ≡ Some x → IsHere (spot_from p ps) y x → (content : Content)
      → answered (with_content (spot_from p ps) document content) ≡ Ok new → IsChanged first (p ∷ ps) document new
  attributes-are p ps y x at found i content h =
      let spot = spot_from p ps in
      let change = content_replaced spot.position content in
      let is = ok_same (with_content spot document content) new h in
      let nodes : new.nodes ≡ children_changed change spot.above document.nodes = sym (ap (λ d. d.nodes) is) in
      let b = below spot.above (root_of document) y at in
      let after : Document ℕ = record { root = document.root; nodes = new.nodes } in
      let outer : node_at after spot.above ≡ Some (with_children y (change y.children)) =
      ap (λ f. node_at (record { root = document.root; nodes = f }) spot.above) nodes ∙ found-changed change spot.above (root_of document) y at in
      record {
        was = x;
        now = found_in y.above x.label content x.children;
        was_at = path-spot p ps (root_of document) ∙ ap (option_and_then (λ z. child_at z.above z.children spot.position)) at ∙ found;
        now_at = path-spot p ps (root_of after) ∙ ap (option_and_then (λ z. child_at z.above z.children spot.position)) outer
            ∙ child-content y.above content spot.position y.children ∙ ap (option_map (λ z. found_in y.above z.label content z.children)) found;
        parted = none_parted first (branches x.children);
        outside = λ t. stands_around t b.around + (stands t i.before + one_if (t i.label) + stands t i.after);
        was_stands = λ t. (
            let whole : stands t document.nodes ≡ stands_around t b.around + stands t (followed i.before (Node i.label i.content i.children i.after)) =
            ap (stands t) b.whole ∙ stands-filled t b.around y.children ∙ ap (λ f. stands_around t b.around + stands t f) i.whole in
            let parts = stands-followed t i.before (Node i.label i.content i.children i.after) in
            let children : stands t x.children ≡ stands t i.children = ap (λ z. stands t z.children) i.is in
            omega arith
            );
        now_stands = λ t. (
            let whole : stands t new.nodes ≡ stands_around t b.around + stands t (followed i.before (Node i.label content i.children i.after)) =
            ap (stands t) (nodes ∙ b.changed change) ∙ stands-filled t b.around (change y.children)
            ∙ ap (λ f. stands_around t b.around + stands t f) (i.content_is content) in
            let parts = stands-followed t i.before (Node i.label content i.children i.after) in
            let children : stands t x.children ≡ stands t i.children = ap (λ z. stands t z.children) i.is in
            omega arith
            );
      }

  -- ---- At a node that is not the root

  at_content : (change : Found ℕ → Content → Result (Edited ℕ) Fault) (x : Found ℕ) (above : List Content) (l : ℕ) (c : Content) (f : Forest ℕ)
      → x ≡ found_in above l c f → by_content change x x.content ≡ Ok new → change (found_in above l c f) c ≡ Ok new
  at_content change x above l c f is h = ap (λ y. by_content change y y.content) (sym is) ∙ h

  -- the parent, the node, and what is made of it
  record Reaches (change : Found ℕ → Content → Result (Edited ℕ) Fault) (spot : Spot) : Type 0 where
    y : Found ℕ
    x : Found ℕ
    at : node_at document spot.above ≡ Some y
    found : child_at y.above y.children spot.position ≡ Some x
    child : IsHere spot y x
    changed : change (here spot y x child) child.content ≡ Ok new

  reaches-child : (change : Found ℕ → Content → Result (Edited ℕ) Fault) (spot : Spot) (y : Found ℕ) → node_at document spot.above ≡ Some y
      → (o : Option (Found ℕ)) → child_at y.above y.children spot.position ≡ o → by_node change o ≡ Ok new → Reaches change spot
  reaches-child change spot y at None e h = absurd (cc)
  reaches-child change spot y at (Some x) e h =
      let i = child y.above y.children spot.position x e in
      record { y = y; x = x; at = at; found = e; child = i; changed = at_content change x y.above i.label i.content i.children i.is h }

  reaches-below : (change : Found ℕ → Content → Result (Edited ℕ) Fault) (spot : Spot) (o : Option (Found ℕ)) → node_at document spot.above ≡ o
      → by_node change (option_and_then (λ y. child_at y.above y.children spot.position) o) ≡ Ok new → Reaches change spot
  reaches-below change spot None e h = absurd (cc)
  reaches-below change spot (Some y) e h = reaches-child change spot y e (child_at y.above y.children spot.position) refl h

  reaches : (change : Found ℕ → Content → Result (Edited ℕ) Fault) (p : ℕ) (ps : List ℕ) → by_node change (node_at document (p ∷ ps)) ≡ Ok new
      → Reaches change (spot_from p ps)
  reaches change p ps h =
      let spot = spot_from p ps in
      reaches-below change spot (node_at document spot.above) refl (ap (by_node change) (sym (path-spot p ps (root_of document))) ∙ h)

  -- ---- Each edit

  deletes-changed : (spot : Spot) (y x : Found ℕ) → node_at document spot.above ≡ Some y → (i : IsHere spot y x)
      → deletes spot document (here spot y x i) i.content ≡ Ok new → IsChanged first spot.above document new
  deletes-changed spot y x at i h =
      let u = unless_ok (is_document_element (here spot y x i) i.content)
      (Ok (record { nodes = children_changed (deleted (spot.position - 1)) spot.above document.nodes; made = 0 })) 9 new h in
      deletion spot y x at i u.1

  text-changed : (spot : Spot) (y x : Found ℕ) → node_at document spot.above ≡ Some y → (i : IsHere spot y x) → (value : List ℕ)
      → answered (with_text spot document value) ≡ Ok new → IsChanged first spot.above document new
  text-changed spot y x at i [] h = deletion spot y x at i h
  text-changed spot y x at i (c ∷ cs) h = content_kept spot y x at i (Text (c ∷ cs)) h

  set-changed : (spot : Spot) (y x : Found ℕ) → node_at document spot.above ≡ Some y → (i : IsHere spot y x) → (value : List ℕ) (content : Content)
      → text_set spot document value content ≡ Ok new → IsChanged first spot.above document new
  set-changed spot y x at i value (Element name attributes) h = absurd (cc)
  set-changed spot y x at i value (Text text) h =
      let r = if_ok (list_all is_char value) (Ok (with_text spot document value)) 8 new h in text-changed spot y x at i value r.1
  set-changed spot y x at i value (Comment text) h =
      let r = if_ok (list_all is_char value) (Ok (with_content spot document (Comment value))) 8 new h in
      content_kept spot y x at i (Comment value) r.1
  set-changed spot y x at i value (Instruction target text) h =
      let r = if_ok (list_all is_char value) (Ok (with_content spot document (Instruction target value))) 8 new h in
      content_kept spot y x at i (Instruction target value) r.1

  renamed-changed : (spot : Spot) (y x : Found ℕ) → node_at document spot.above ≡ Some y → (i : IsHere spot y x) → (name : List ℕ) (content : Content)
      → renamed same_nodes first spot document name (here spot y x i) content ≡ Ok new → IsChanged first spot.above document new
  renamed-changed spot y x at i name (Element own attributes) h = renewal spot y x at i (Element name attributes) h
  renamed-changed spot y x at i name (Text text) h = absurd (cc)
  renamed-changed spot y x at i name (Comment text) h = absurd (cc)
  renamed-changed spot y x at i name (Instruction target text) h = renewal spot y x at i (Instruction name text) h

  attributes-changed : (p : ℕ) (ps : List ℕ) (name : List ℕ) (y x : Found ℕ) → node_at document (spot_from p ps).above ≡ Some y
      → child_at y.above y.children (spot_from p ps).position ≡ Some x → (i : IsHere (spot_from p ps) y x)
      → (content : Content) (b : Bool)
      → cond b (renewed same_nodes first (spot_from p ps) document (here (spot_from p ps) y x i) content)
      (with_element (spot_from p ps) document (here (spot_from p ps) y x i) content) ≡ Ok new
      → IsChanged first (way_by b p ps) document new
  attributes-changed p ps name y x at found i content true h = renewal (spot_from p ps) y x at i content h
  attributes-changed p ps name y x at found i content false h =
      let spot = spot_from p ps in
      let node = here spot y x i in
      let faults = content_faults (within content (scope_around node)) (depth_of node) (alone 0) content in
      let a = answer_ok faults (Ok (with_content spot document content)) new h in
      attributes-are p ps y x at found i content a.1

  set-attribute-changed : (p : ℕ) (ps : List ℕ) (name value : List ℕ) (y x : Found ℕ) → node_at document (spot_from p ps).above ≡ Some y
      → child_at y.above y.children (spot_from p ps).position ≡ Some x → (i : IsHere (spot_from p ps) y x) → (content : Content)
      → attribute_set same_nodes first (spot_from p ps) document name value (here (spot_from p ps) y x i) content ≡ Ok new
      → IsChanged first (way_by (makes_anew name) p ps) document new
  set-attribute-changed p ps name value y x at found i (Element own attributes) h =
      let spot = spot_from p ps in
      let content = Element own (with_attribute name value attributes) in
      let r = if_ok (list_all is_char value) (attributes_changed same_nodes first spot document (here spot y x i) name content) 8 new h in
      attributes-changed p ps name y x at found i content (makes_anew name) r.1
  set-attribute-changed p ps name value y x at found i (Text text) h = absurd (cc)
  set-attribute-changed p ps name value y x at found i (Comment text) h = absurd (cc)
  set-attribute-changed p ps name value y x at found i (Instruction target text) h = absurd (cc)

  remove-attribute-changed : (p : ℕ) (ps : List ℕ) (name : List ℕ) (y x : Found ℕ) → node_at document (spot_from p ps).above ≡ Some y
      → child_at y.above y.children (spot_from p ps).position ≡ Some x → (i : IsHere (spot_from p ps) y x) → (content : Content)
      → attribute_removed same_nodes first (spot_from p ps) document name (here (spot_from p ps) y x i) content ≡ Ok new
      → IsChanged first (way_by (makes_anew name) p ps) document new
  remove-attribute-changed p ps name y x at found i (Element own attributes) h =
      let spot = spot_from p ps in
      let content = Element own (without_attribute name attributes) in
      let r = if_ok (list_any (is_named name) attributes) (attributes_changed same_nodes first spot document (here spot y x i) name content) 6 new h in
      attributes-changed p ps name y x at found i content (makes_anew name) r.1
  remove-attribute-changed p ps name y x at found i (Text text) h = absurd (cc)
  remove-attribute-changed p ps name y x at found i (Comment text) h = absurd (cc)
  remove-attribute-changed p ps name y x at found i (Instruction target text) h = absurd (cc)

pub record Changes (first : ℕ) (edit : Edit) (document : Document ℕ) (new : Edited ℕ) : Type 0 where
  pub path : List ℕ
  pub path_is : changed_path edit ≡ Some path
  pub changed : IsChanged first path document new

way-is : (b : Bool) (p : ℕ) (ps : List ℕ) → cond (not b) (Some (p ∷ ps)) (Some (spot_from p ps).above) ≡ Some (way_by b p ps)
way-is true p ps = refl
way-is false p ps = refl

pub changes : (first : ℕ) (edit : Edit) (document : Document ℕ) (new : Edited ℕ) → edited_nodes first edit document ≡ Ok new
    → Changes first edit document new
changes first (Insert [] body) document new h = absurd (cc)
changes first (Insert (p ∷ ps) body) document new h =
    let spot = spot_from p ps in
    record { path = spot.above; path_is = refl; changed = insertion-in first document new spot body (node_at document spot.above) refl h }
changes first (Delete []) document new h = absurd (cc)
changes first (Delete (p ∷ ps)) document new h =
    let spot = spot_from p ps in
    let r = reaches first document new (deletes spot document) p ps h in
    record { path = spot.above; path_is = refl; changed = deletes-changed first document new spot r.y r.x r.at r.child r.changed }
changes first (SetText [] value) document new h = absurd (cc)
changes first (SetText (p ∷ ps) value) document new h =
    let spot = spot_from p ps in
    let r = reaches first document new (λ node. text_set spot document value) p ps h in
    record { path = spot.above; path_is = refl; changed = set-changed first document new spot r.y r.x r.at r.child value r.child.content r.changed }
changes first (SetAttribute [] name value) document new h = absurd (cc)
changes first (SetAttribute (p ∷ ps) name value) document new h =
    let spot = spot_from p ps in
    let r = reaches first document new (attribute_set same_nodes first spot document name value) p ps h in
    record {
      path = way_by (makes_anew name) p ps;
      path_is = way-is (makes_anew name) p ps;
      changed = set-attribute-changed first document new p ps name value r.y r.x r.at r.found r.child r.child.content r.changed;
    }
changes first (RemoveAttribute [] name) document new h = absurd (cc)
changes first (RemoveAttribute (p ∷ ps) name) document new h =
    let spot = spot_from p ps in
    let r = reaches first document new (attribute_removed same_nodes first spot document name) p ps h in
    record {
      path = way_by (makes_anew name) p ps;
      path_is = way-is (makes_anew name) p ps;
      changed = remove-attribute-changed first document new p ps name r.y r.x r.at r.found r.child r.child.content r.changed;
    }
changes first (Rename [] name) document new h = absurd (cc)
changes first (Rename (p ∷ ps) name) document new h =
    let spot = spot_from p ps in
    let r = reaches first document new (renamed same_nodes first spot document name) p ps h in
    record { path = spot.above; path_is = refl; changed = renamed-changed first document new spot r.y r.x r.at r.child name r.child.content r.changed }
