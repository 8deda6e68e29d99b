-- An edit leaves siblings but those at its place and the texts beside them.
use Rattle.std.proofs.Common.{◌≡◌, ℕ, zero, suc, ◌+◌, ◌-◌, ◌≤◌, Bool, true, false, cond, List, [], ◌∷◌, Option, Some, None, arith, refl, sym, ap, ◌∙◌, subst}
use Rattle.std.specs.Prelude.{Result, Ok, Err}
use Rattle.std.specs.List.{list_all, list_any}
use Rattle.spec_document.specs.declared.parent.Parent.{Parent}
use Rattle.spec_document.specs.Balance.{alone}
use Rattle.spec_document.specs.Character.{is_char}
use Rattle.spec_document.specs.Declaration.{within}
use Rattle.spec_document.specs.Document.{nodes_of}
use Rattle.spec_document.specs.Fault.{Fault}
use Rattle.spec_document.specs.Forest.{Content, Element, Text, Comment, Instruction, Forest, Empty, Node, Document, followed, numbered, size}
use Rattle.spec_document.specs.NodeFaults.{content_faults}
use Rattle.spec_document.specs.Place.{Found, node_at, scope_at}
use Rattle.spec_edit.specs.Edit.{Edit, Insert, Delete, SetText, SetAttribute, RemoveAttribute, Rename, Edited, attribute_removed, attribute_set}
use Rattle.spec_edit.specs.Edit.{attributes_changed, by_content, by_node, deletes, depth_of, edited_nodes, inserted_below, inserted_in, inserts}
use Rattle.spec_edit.specs.Edit.{is_document_element, is_named, is_position, makes_anew, parent_by, renamed, renewed, scope_around, text_set}
use Rattle.spec_edit.specs.Edit.{tree_faults, tree_with, with_attribute, with_content, with_element, with_text, without_attribute}
use Rattle.spec_edit.specs.Judged.{path_of}
use Rattle.spec_edit.specs.Splice.{Spot, spot_from, children_changed, content_replaced, deleted, first_siblings, inserted, later_siblings, replaced}
use Rattle.spec_edit.specs.Splice.{sibling_count}
use Rattle.spec_edit.proofs.Around.{first-later}
use Rattle.spec_edit.proofs.Shapes.{answer_ok, answered, if_ok, ok_same}
use Rattle.xt_strip.specs.Edited.{gone_by}
use Rattle.xt_edit.specs.Seam.{between, one_of, text_at, text_before}
use Rattle.xt_edit.proofs.Seams.{seam}
use Rattle.xt_strip.proofs.Sharing.{first-next, followed-assoc, first-none, later-next, later-none, next, unlike}

-- ---- Fewer that stay

first-first : (n m : ℕ) (f : Forest ℕ) → n ≤ m → first_siblings n (first_siblings m f) ≡ first_siblings n f
first-first n m Empty h = refl
first-first zero m f h = first-none (first_siblings m f) ∙ sym (first-none f)
first-first (suc n) zero f h = absurd (omega arith)
first-first (suc n) (suc m) (Node l c i s) h =
    ap (first_siblings (suc n)) (ap (λ k. first_siblings k (Node l c i s)) (next m) ∙ first-next m l c i s)
    ∙ ap (λ k. first_siblings k (Node l c i (first_siblings m s))) (next n) ∙ first-next n l c i (first_siblings m s)
    ∙ ap (Node l c i) (first-first n m s (omega arith))
    ∙ sym (first-next n l c i s) ∙ ap (λ k. first_siblings k (Node l c i s)) (sym (next n))

later-later : (n m : ℕ) (f : Forest ℕ) → later_siblings m (later_siblings n f) ≡ later_siblings (n + m) f
later-later n m Empty = refl
later-later zero m f = ap (later_siblings m) (later-none f) ∙ ap (λ k. later_siblings k f) (is m)
  where
    is : (m : ℕ) → m ≡ 0 + m
    is m = omega arith
later-later (suc n) m (Node l c i s) =
    let is : 1 + (n + m) ≡ suc n + m = omega arith in
    ap (later_siblings m) (ap (λ k. later_siblings k (Node l c i s)) (next n) ∙ later-next n l c i s)
    ∙ later-later n m s ∙ sym (later-next (n + m) l c i s) ∙ ap (λ k. later_siblings k (Node l c i s)) is

-- what stands there after a change, between siblings that stay
pub record Stays (from to : ℕ) (change : Forest ℕ → Forest ℕ) (siblings : Forest ℕ) : Type 0 where
  pub others : Forest ℕ
  pub is : change siblings ≡ replaced from to others siblings

wider : (change : Forest ℕ → Forest ℕ) (start end from to : ℕ) (s : Forest ℕ) → Stays start end change s → from ≤ start → end ≤ to
    → Stays from to change s
wider change start end from to s stays h k =
    let front = first_siblings from s in
    let more = later_siblings from (first_siblings start s) in
    let back = later_siblings to s in
    let also = first_siblings (to - end) (later_siblings end s) in
    let first : first_siblings start s ≡ followed front more =
    sym (first-later from (first_siblings start s)) ∙ ap (λ f. followed f more) (first-first from start s h) in
    let till : end + (to - end) ≡ to = omega arith in
    let later : later_siblings end s ≡ followed also back =
    sym (first-later (to - end) (later_siblings end s))
    ∙ ap (followed also) (later-later end (to - end) s ∙ ap (λ n. later_siblings n s) till) in
    record {
      others = followed more (followed stays.others also);
      is = stays.is ∙ (λ i. followed (first i) (followed stays.others (later i)))
          ∙ followed-assoc front more (followed stays.others (followed also back))
          ∙ ap (λ f. followed front (followed more f)) (sym (followed-assoc stays.others also back))
          ∙ ap (followed front) (sym (followed-assoc more (followed stays.others also) back));
    }

-- ---- Each kind of change

abbrev headed : Content → Forest ℕ → Forest ℕ
headed c Empty = Empty
headed c (Node l d f s) = Node l c f Empty

content-at : (index : ℕ) (c : Content) (s : Forest ℕ) → index + 1 ≤ sibling_count s
    → content_replaced (index + 1) c s ≡ replaced index (index + 1) (headed c (later_siblings index s)) s
content-at index c Empty h = absurd (omega arith)
content-at zero c (Node l d f s) h = ap (λ x. Node l c f x) (sym (later-none s))
content-at (suc n) c (Node l d f s) h =
    let is : suc n + 1 ≡ 1 + (n + 1) = omega arith in
    ap (λ m. content_replaced m c (Node l d f s)) is ∙ content-next n l d f s
    ∙ ap (Node l d f) (content-at n c s (omega arith))
    ∙ ap (λ x. followed (Node l d f (first_siblings n s)) (followed x (later_siblings (n + 1) s)))
    (ap (headed c) (sym (later-next n l d f s) ∙ ap (λ m. later_siblings m (Node l d f s)) (sym (next n))))
    ∙ (λ i. followed (first i) (followed (headed c (later_siblings (suc n) (Node l d f s))) (later i)))
  where
    content-next : (n l : ℕ) (d : Content) (f s : Forest ℕ) → content_replaced (1 + (n + 1)) c (Node l d f s) ≡ Node l d f (content_replaced (n + 1) c s)
    content-next n l d f s =
        let back : 1 + (n + 1) - 1 ≡ n + 1 = omega arith in
        ap (λ b. cond b (Node l c f s) (Node l d f (content_replaced (1 + (n + 1) - 1) c s))) (unlike (1 + (n + 1)) 1 (λ e. omega arith))
        ∙ ap (λ m. Node l d f (content_replaced m c s)) back

    first : Node l d f (first_siblings n s) ≡ first_siblings (suc n) (Node l d f s)
    first = sym (first-next n l d f s) ∙ ap (λ m. first_siblings m (Node l d f s)) (sym (next n))

    later : later_siblings (n + 1) s ≡ later_siblings (suc n + 1) (Node l d f s)
    later =
        let is : 1 + (n + 1) ≡ suc n + 1 = omega arith in
        sym (later-next (n + 1) l d f s) ∙ ap (λ m. later_siblings m (Node l d f s)) is

-- the siblings from the text before those up to the text behind them
abbrev pub start_of : ℕ → Forest ℕ → ℕ
start_of from s = from - one_of (text_before from s)

abbrev pub end_of : ℕ → Forest ℕ → ℕ
end_of to s = to + one_of (text_at to s)

-- the change leaves all others of any siblings among which it may be made
pub record IsMadeAt (from to : ℕ) (above : List ℕ) (document : Document ℕ) (new : Edited ℕ) : Type 0 where
  pub change : Forest ℕ → Forest ℕ
  pub nodes_are : new.nodes ≡ children_changed change above document.nodes
  pub stays : (s : Forest ℕ) → to ≤ sibling_count s → Stays (start_of from s) (end_of to s) change s

module _ (document : Document ℕ) (new : Edited ℕ) (spot : Spot) (index : ℕ) (position : spot.position ≡ index + 1) where
  nodes : (f : Forest ℕ) (made : ℕ) → answered (record { nodes = f; made = made }) ≡ Ok new → new.nodes ≡ f
  nodes f made h = sym (ap (λ d. d.nodes) (ok_same (record { nodes = f; made = made }) new h))

  before : spot.position - 1 ≡ index
  before = omega arith

  insertion : (others : Forest ℕ)
      → answered (record { nodes = children_changed (inserted (spot.position - 1) others) spot.above document.nodes; made = size others }) ≡ Ok new
      → IsMadeAt index index spot.above document new
  insertion others h = record {
    change = inserted index others;
    nodes_are = nodes (children_changed (inserted (spot.position - 1) others) spot.above document.nodes) (size others) h
        ∙ ap (λ n. children_changed (inserted n others) spot.above document.nodes) before;
    stays = λ s within. record {
      others = between (text_before index s) others (text_at index s);
      is = sym (seam index index others s within);
    };
  }

  deletion : answered (record { nodes = children_changed (deleted (spot.position - 1)) spot.above document.nodes; made = 0 }) ≡ Ok new
      → IsMadeAt index (index + 1) spot.above document new
  deletion h = record {
    change = deleted index;
    nodes_are = nodes (children_changed (deleted (spot.position - 1)) spot.above document.nodes) 0 h
        ∙ ap (λ n. children_changed (deleted n) spot.above document.nodes) before;
    stays = λ s within. record {
      others = between (text_before index s) Empty (text_at (index + 1) s);
      is = sym (seam index (index + 1) Empty s (omega arith));
    };
  }

  one-stays : (change : Forest ℕ → Forest ℕ) (s : Forest ℕ) → Stays index (index + 1) change s → Stays (start_of index s) (end_of (index + 1) s) change s
  one-stays change s stays = wider change index (index + 1) (start_of index s) (end_of (index + 1) s) s stays (omega arith) (omega arith)

  content_kept : (content : Content) → answered (with_content spot document content) ≡ Ok new → IsMadeAt index (index + 1) spot.above document new
  content_kept content h = record {
    change = content_replaced (index + 1) content;
    nodes_are = nodes (children_changed (content_replaced spot.position content) spot.above document.nodes) 0 h
        ∙ ap (λ n. children_changed (content_replaced n content) spot.above document.nodes) position;
    stays = λ s within. one-stays (content_replaced (index + 1) content) s
        (record { others = headed content (later_siblings index s); is = content-at index content s within });
  }

  renewal : (first : ℕ) (x : Found ℕ) (content : Content) → renewed (λ nodes. nodes) first spot document x content ≡ Ok new
      → IsMadeAt index (index + 1) spot.above document new
  renewal first x content h =
      let tree = tree_with content x in
      let others = numbered first tree in
      let a = answer_ok (tree_faults first x tree) (Ok (record {
        nodes = children_changed (replaced (spot.position - 1) spot.position others) spot.above document.nodes;
        made = size tree;
      })) new h in
      record {
        change = replaced index (index + 1) others;
        nodes_are = nodes (children_changed (replaced (spot.position - 1) spot.position others) spot.above document.nodes) (size tree) a.1
            ∙ (λ i. children_changed (replaced (before i) (position i) others) spot.above document.nodes);
        stays = λ s within. one-stays (replaced index (index + 1) others) s (record { others = others; is = refl });
      }

  -- ---- Each edit

  insertion-read : (read : Result (Forest ℕ) Fault) → inserts (λ nodes. nodes) spot document read ≡ Ok new → IsMadeAt index index spot.above document new
  insertion-read (Err fault) h = absurd (cc)
  insertion-read (Ok others) h = insertion others h

  insertion-below : (first : ℕ) (body : List (List ℕ)) (x : Found ℕ) (parent : Option Parent)
      → inserted_below (λ nodes. nodes) first spot body document x parent ≡ Ok new → IsMadeAt index index spot.above document new
  insertion-below first body x None h = absurd (cc)
  insertion-below first body x (Some parent) h =
      let read = nodes_of (scope_at x) first parent body in
      let i = if_ok (is_position spot.position x.children) (inserts (λ nodes. nodes) spot document read) 6 new h in
      insertion-read read i.1

  insertion-in : (first : ℕ) (body : List (List ℕ)) (o : Option (Found ℕ)) → inserted_in (λ nodes. nodes) first spot body document o ≡ Ok new
      → IsMadeAt index index spot.above document new
  insertion-in first body None h = absurd (cc)
  insertion-in first body (Some x) h = insertion-below first body x (parent_by x.content x) h

  abbrev One : Type 0
  One = IsMadeAt index (index + 1) spot.above document new

  by-content : (change : Found ℕ → Content → Result (Edited ℕ) Fault) → ((x : Found ℕ) (c : Content) → change x c ≡ Ok new → One)
      → (x : Found ℕ) (o : Option Content) → by_content change x o ≡ Ok new → One
  by-content change go x None h = absurd (cc)
  by-content change go x (Some c) h = go x c h

  by-node : (change : Found ℕ → Content → Result (Edited ℕ) Fault) → ((x : Found ℕ) (c : Content) → change x c ≡ Ok new → One)
      → (o : Option (Found ℕ)) → by_node change o ≡ Ok new → One
  by-node change go None h = absurd (cc)
  by-node change go (Some x) h = by-content change go x x.content h

  text-made : (value : List ℕ) → answered (with_text spot document value) ≡ Ok new → One
  text-made [] h = deletion h
  text-made (c ∷ cs) h = content_kept (Text (c ∷ cs)) h

  set-made : (value : List ℕ) (content : Content) → text_set spot document value content ≡ Ok new → One
  set-made value (Element name attributes) h = absurd (cc)
  set-made value (Text text) h = text-made value (if_ok (list_all is_char value) (Ok (with_text spot document value)) 8 new h).1
  set-made value (Comment text) h =
      content_kept (Comment value) (if_ok (list_all is_char value) (Ok (with_content spot document (Comment value))) 8 new h).1
  set-made value (Instruction target text) h =
      content_kept (Instruction target value) (if_ok (list_all is_char value) (Ok (with_content spot document (Instruction target value))) 8 new h).1

  renamed-made : (first : ℕ) (name : List ℕ) (x : Found ℕ) (content : Content)
      → renamed (λ nodes. nodes) first spot document name x content ≡ Ok new → One
  renamed-made first name x (Element own attributes) h = renewal first x (Element name attributes) h
  renamed-made first name x (Text text) h = absurd (cc)
  renamed-made first name x (Comment text) h = absurd (cc)
  renamed-made first name x (Instruction target text) h = renewal first x (Instruction name text) h

  attributes-made : (first : ℕ) (x : Found ℕ) (content : Content) (b : Bool)
      → cond b (renewed (λ nodes. nodes) first spot document x content) (with_element spot document x content) ≡ Ok new → One
  attributes-made first x content true h = renewal first x content h
  attributes-made first x content false h =
      content_kept content (answer_ok (content_faults (within content (scope_around x)) (depth_of x) (alone 0) content)
      (Ok (with_content spot document content)) new h).1

  set-attribute-made : (first : ℕ) (name value : List ℕ) (x : Found ℕ) (content : Content)
      → attribute_set (λ nodes. nodes) first spot document name value x content ≡ Ok new → One
  set-attribute-made first name value x (Element own attributes) h =
      let content = Element own (with_attribute name value attributes) in
      attributes-made first x content (makes_anew name)
      (if_ok (list_all is_char value) (attributes_changed (λ nodes. nodes) first spot document x name content) 8 new h).1
  set-attribute-made first name value x (Text text) h = absurd (cc)
  set-attribute-made first name value x (Comment text) h = absurd (cc)
  set-attribute-made first name value x (Instruction target text) h = absurd (cc)

  remove-attribute-made : (first : ℕ) (name : List ℕ) (x : Found ℕ) (content : Content)
      → attribute_removed (λ nodes. nodes) first spot document name x content ≡ Ok new → One
  remove-attribute-made first name x (Element own attributes) h =
      let content = Element own (without_attribute name attributes) in
      attributes-made first x content (makes_anew name)
      (if_ok (list_any (is_named name) attributes) (attributes_changed (λ nodes. nodes) first spot document x name content) 6 new h).1
  remove-attribute-made first name x (Text text) h = absurd (cc)
  remove-attribute-made first name x (Comment text) h = absurd (cc)
  remove-attribute-made first name x (Instruction target text) h = absurd (cc)

-- any edit at this spot
pub made-from : (first : ℕ) (edit : Edit) (document : Document ℕ) (new : Edited ℕ) (p : ℕ) (ps : List ℕ) (index to : ℕ)
    → path_of edit ≡ p ∷ ps → (spot_from p ps).position ≡ index + 1 → to ≡ index + gone_by edit → edited_nodes first edit document ≡ Ok new
    → IsMadeAt index to (spot_from p ps).above document new
made-from first (Insert path body) document new p ps index to e position t h =
    let spot = spot_from p ps in
    let till : to ≡ index = omega arith in
    subst (λ n. IsMadeAt index n spot.above document new) (sym till)
    (insertion-in document new spot index position first body (node_at document spot.above)
    (subst (λ q. edited_nodes first (Insert q body) document ≡ Ok new) e h))
made-from first (Delete path) document new p ps index to e position t h =
    let spot = spot_from p ps in
    subst (λ n. IsMadeAt index n spot.above document new) (sym t)
    (by-node document new spot index position (deletes spot document)
    (λ x c d. deletion document new spot index position
    (if_not (is_document_element x c) (Ok (record { nodes = children_changed (deleted (spot.position - 1)) spot.above document.nodes; made = 0 })) d))
    (node_at document (p ∷ ps)) (subst (λ q. edited_nodes first (Delete q) document ≡ Ok new) e h))
  where
    if_not : (b : Bool) (r : Result (Edited ℕ) Fault) → cond b (Err (record { number = 9; line = 0 })) r ≡ Ok new → r ≡ Ok new
    if_not true r d = absurd (cc)
    if_not false r d = d
made-from first (SetText path value) document new p ps index to e position t h =
    let spot = spot_from p ps in
    subst (λ n. IsMadeAt index n spot.above document new) (sym t)
    (by-node document new spot index position (λ node. text_set spot document value)
    (λ x c d. set-made document new spot index position value c d)
    (node_at document (p ∷ ps)) (subst (λ q. edited_nodes first (SetText q value) document ≡ Ok new) e h))
made-from first (SetAttribute path name value) document new p ps index to e position t h =
    let spot = spot_from p ps in
    subst (λ n. IsMadeAt index n spot.above document new) (sym t)
    (by-node document new spot index position (attribute_set (λ nodes. nodes) first spot document name value)
    (λ x c d. set-attribute-made document new spot index position first name value x c d)
    (node_at document (p ∷ ps)) (subst (λ q. edited_nodes first (SetAttribute q name value) document ≡ Ok new) e h))
made-from first (RemoveAttribute path name) document new p ps index to e position t h =
    let spot = spot_from p ps in
    subst (λ n. IsMadeAt index n spot.above document new) (sym t)
    (by-node document new spot index position (attribute_removed (λ nodes. nodes) first spot document name)
    (λ x c d. remove-attribute-made document new spot index position first name x c d)
    (node_at document (p ∷ ps)) (subst (λ q. edited_nodes first (RemoveAttribute q name) document ≡ Ok new) e h))
made-from first (Rename path name) document new p ps index to e position t h =
    let spot = spot_from p ps in
    subst (λ n. IsMadeAt index n spot.above document new) (sym t)
    (by-node document new spot index position (renamed (λ nodes. nodes) first spot document name)
    (λ x c d. renamed-made document new spot index position first name x c d)
    (node_at document (p ∷ ps)) (subst (λ q. edited_nodes first (Rename q name) document ≡ Ok new) e h))
