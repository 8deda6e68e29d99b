-- What a move makes where it is not refused: what is moved, and what around it stays.
use Rattle.std.proofs.Common.{◌≡◌, ◌≤◌, arith, ℕ, zero, suc, ◌+◌, ◌-◌, Bool, true, false, cond, List, [], ◌∷◌, ◌++◌, Option, None, Some}
use Rattle.std.proofs.Common.{refl, sym, ap, ◌∙◌, map}
use Rattle.std.specs.Prelude.{Result, Ok, Err, nat_lt}
use Rattle.std.specs.Option.{option_and_then}
use Rattle.std.proofs.lemmas.Bool.{ltb-true, ltb-false}
use Rattle.spec_document.specs.declared.parent.Parent.{Parent}
use Rattle.spec_document.specs.Forest.{Content, Forest, Empty, Node, Document, labels, followed}
use Rattle.spec_document.specs.Place.{Found, root_of, child_at, node_from, node_at, scope_at}
use Rattle.spec_document.specs.Fault.{Fault}
use Rattle.spec_document.specs.NodeFaults.{node_faults}
use Rattle.spec_document.specs.Numbering.{number_faults}
use Rattle.spec_document.specs.Top.{top_faults, kept}
use Rattle.spec_document.specs.Document.{elements_beside}
use Rattle.spec_edit.specs.Splice.{Spot, spot_of, spot_from, first_siblings, later_siblings, met, inserted, deleted, children_changed}
use Rattle.spec_edit.specs.Edit.{Edited, without_lines, depth_of, by_content, by_node, parent_by}
use Rattle.spec_edit.proofs.Around.{Around, filled, IsChild, child, IsBelow, below, later-none, first-later, not_zero}
use Rattle.spec_edit.proofs.Shapes.{answered, ok_same, answer_ok, append_none, same_nodes}
use Rattle.spec_move.specs.Move.{is_path, goes_through, origin_faults, target_faults, keeps_labels, rearranged, path_without, tree_of}
use Rattle.spec_move.specs.Move.{height_faults, move_faults, placed, with_placed}
use Rattle.spec_move.specs.Move.{moved_below, moved_between, moved_from, moved_at, moved_there, moved_nodes}

-- ---- Siblings before and from an index

first-none : {L : Type 0} (f : Forest L) → first_siblings 0 f ≡ Empty
first-none Empty = refl
first-none (Node l c f s) = refl

first-step : {L : Type 0} (n : ℕ) (l : L) (c : Content) (f s : Forest L) → 1 ≤ n
    → first_siblings n (Node l c f s) ≡ Node l c f (first_siblings (n - 1) s)
first-step n l c f s h = λ i. cond (not_zero n h i) Empty (Node l c f (first_siblings (n - 1) s))

later-step : {L : Type 0} (n : ℕ) (l : L) (c : Content) (f s : Forest L) → 1 ≤ n → later_siblings n (Node l c f s) ≡ later_siblings (n - 1) s
later-step n l c f s h = λ i. cond (not_zero n h i) (Node l c f s) (later_siblings (n - 1) s)

pub first-first : {L : Type 0} (m n : ℕ) (f : Forest L) → m ≤ n → first_siblings m (first_siblings n f) ≡ first_siblings m f
first-first zero n f h = first-none (first_siblings n f) ∙ sym (first-none f)
first-first (suc m) n Empty h = refl
first-first (suc m) n (Node l c f s) h =
    ap (first_siblings (suc m)) (first-step n l c f s (omega arith))
    ∙ first-step (suc m) l c f (first_siblings (n - 1) s) (omega arith)
    ∙ ap (Node l c f) (first-first (suc m - 1) (n - 1) s (omega arith))
    ∙ sym (first-step (suc m) l c f s (omega arith))

pub later-later : {L : Type 0} (n m : ℕ) (f : Forest L) → later_siblings m (later_siblings n f) ≡ later_siblings (n + m) f
later-later zero m f =
    let same : m ≡ zero + m = omega arith in ap (later_siblings m) (later-none f) ∙ ap (λ k. later_siblings k f) same
later-later (suc n) m Empty = refl
later-later (suc n) m (Node l c f s) =
    let same : suc n - 1 + m ≡ suc n + m - 1 = omega arith in
    ap (later_siblings m) (later-step (suc n) l c f s (omega arith))
    ∙ later-later (suc n - 1) m s
    ∙ ap (λ k. later_siblings k s) same
    ∙ sym (later-step (suc n + m) l c f s (omega arith))

pub first-of-later : {L : Type 0} (m n : ℕ) (f : Forest L) → m ≤ n
    → first_siblings (n - m) (later_siblings m f) ≡ later_siblings m (first_siblings n f)
first-of-later zero n f h =
    let same : n - zero ≡ n = omega arith in
    (λ i. first_siblings (same i) (later-none f i)) ∙ sym (later-none (first_siblings n f))
first-of-later (suc m) n Empty h = refl
first-of-later (suc m) n (Node l c f s) h =
    let same : n - suc m ≡ n - 1 - (suc m - 1) = omega arith in
    (λ i. first_siblings (same i) (later-step (suc m) l c f s (omega arith) i))
    ∙ first-of-later (suc m - 1) (n - 1) s (omega arith)
    ∙ sym (later-step (suc m) l c f (first_siblings (n - 1) s) (omega arith))
    ∙ ap (later_siblings (suc m)) (sym (first-step n l c f s (omega arith)))

-- ---- Siblings in another order

-- the node goes behind what stood after it, or before what stood ahead of it
pub data Reordered {L : Type 0} (label : L) (content : Content) (children siblings others : Forest L) : Type 0 where
  is_later : (before between after : Forest L) → siblings ≡ followed before (Node label content children (followed between after))
      → others ≡ met before (met (met between (Node label content children Empty)) after) → Reordered label content children siblings others
  is_earlier : (before between after : Forest L) → siblings ≡ followed before (followed between (Node label content children after))
      → others ≡ met before (met (met (Node label content children Empty) between) after) → Reordered label content children siblings others

followed-all : {L : Type 0} (f g h : Forest L) → followed (followed f g) h ≡ followed f (followed g h)
followed-all Empty g h = refl
followed-all (Node l c f s) g h = ap (Node l c f) (followed-all s g h)

pub reordered : {L : Type 0} (above : List Content) (f : Forest L) (p to : ℕ) (x : Found L) (i : IsChild above f p x)
    → Reordered i.label i.content i.children f (rearranged (p - 1) to (Node i.label i.content i.children Empty) f)
reordered {L} above f p to x i = by (nat_lt from to) refl
  where
    from : ℕ
    from = p - 1

    tree : Forest L
    tree = Node i.label i.content i.children Empty

    next : from + 1 ≡ p
    next = let some = i.from in omega arith

    behind : later_siblings (from + 1) f ≡ i.after
    behind = ap (λ n. later_siblings n f) next ∙ i.later

    by : (b : Bool) → nat_lt from to ≡ b → Reordered i.label i.content i.children f (rearranged from to tree f)
    by true e =
        let k = to - (from + 1) in
        let less = ltb-true from to e in
        let all : from + 1 + k ≡ to = omega arith in
        is_later i.before (first_siblings k i.after) (later_siblings k i.after)
        (i.whole ∙ ap (λ g. followed i.before (Node i.label i.content i.children g)) (sym (first-later k i.after)))
        ((λ j. cond (e j) (met (first_siblings from f) (met (met (first_siblings k (later_siblings (from + 1) f)) tree) (later_siblings to f)))
        (met (first_siblings to f) (met (met tree (first_siblings (from - to) (later_siblings to f))) (later_siblings (from + 1) f))))
        ∙ (λ j. met (i.first j) (met (met (first_siblings k (behind j)) tree)
        ((ap (λ n. later_siblings n f) (sym all) ∙ sym (later-later (from + 1) k f) ∙ ap (later_siblings k) behind) j))))
    by false e =
        let k = to - (from + 1) in
        let most : to ≤ from = ltb-false from to e in
        is_earlier (first_siblings to i.before) (later_siblings to i.before) i.after
        (i.whole ∙ ap (λ g. followed g (Node i.label i.content i.children i.after)) (sym (first-later to i.before))
        ∙ followed-all (first_siblings to i.before) (later_siblings to i.before) (Node i.label i.content i.children i.after))
        ((λ j. cond (e j) (met (first_siblings from f) (met (met (first_siblings k (later_siblings (from + 1) f)) tree) (later_siblings to f)))
        (met (first_siblings to f) (met (met tree (first_siblings (from - to) (later_siblings to f))) (later_siblings (from + 1) f))))
        ∙ (λ j. met ((sym (first-first to from f most) ∙ ap (first_siblings to) i.first) j)
        (met (met tree ((first-of-later to from f most ∙ ap (later_siblings to) i.first) j)) (behind j))))

-- ---- The node at a path as one of its parent's children

and-some : {A : Type 0} (o : Option A) → option_and_then Some o ≡ o
and-some None = refl
and-some (Some x) = refl

then-steps : {L : Type 0} (p q : ℕ) (qs : List ℕ) → ((y : Found L) → node_from (q ∷ qs) y
    ≡ option_and_then (λ x. child_at x.above x.children (spot_from q qs).position) (node_from (spot_from q qs).above y))
    → (o : Option (Found L)) → option_and_then (node_from (q ∷ qs)) o
    ≡ option_and_then (λ x. child_at x.above x.children (spot_from q qs).position) (option_and_then (node_from (spot_from q qs).above) o)
then-steps p q qs same None = refl
then-steps p q qs same (Some y) = same y

pub path-spot : {L : Type 0} (p : ℕ) (ps : List ℕ) (node : Found L)
    → node_from (p ∷ ps) node ≡ option_and_then (λ x. child_at x.above x.children (spot_from p ps).position) (node_from (spot_from p ps).above node)
path-spot p [] node = and-some (child_at node.above node.children p)
path-spot p (q ∷ qs) node = then-steps p q qs (path-spot q qs) (child_at node.above node.children p)

pub record IsPlace {L : Type 0} (document : Document L) (spot : Spot) (x : Found L) : Type 0 where
  pub parent : Found L
  pub at : node_at document spot.above ≡ Some parent
  pub below : IsBelow (root_of document) spot.above parent
  pub child : IsChild parent.above parent.children spot.position x

place-steps : {L : Type 0} (document : Document L) (spot : Spot) (x : Found L) (o : Option (Found L)) → node_at document spot.above ≡ o
    → option_and_then (λ y. child_at y.above y.children spot.position) o ≡ Some x → IsPlace document spot x
place-steps document spot x None e h = absurd (cc)
place-steps document spot x (Some y) e h =
    record { parent = y; at = e; below = below spot.above (root_of document) y e; child = child y.above y.children spot.position x h }

pub place : {L : Type 0} (document : Document L) (p : ℕ) (ps : List ℕ) (x : Found L) → node_at document (p ∷ ps) ≡ Some x
    → IsPlace document (spot_from p ps) x
place document p ps x e =
    place-steps document (spot_from p ps) x (node_at document (spot_from p ps).above) refl (sym (path-spot p ps (root_of document)) ∙ e)

-- ---- What a move makes

-- within one parent
pub record Turn (document : Document ℕ) (new : Edited ℕ) : Type 0 where
  pub around : Around ℕ
  pub label : ℕ
  pub content : Content
  pub children : Forest ℕ
  pub siblings : Forest ℕ
  pub others : Forest ℕ
  pub order : Reordered label content children siblings others
  pub whole : document.nodes ≡ filled around siblings
  pub nodes_are : new.nodes ≡ filled around others
  pub made_are : new.made ≡ 0

-- to another parent
pub record Carriage (first : ℕ) (path : List ℕ) (document : Document ℕ) (new : Edited ℕ) : Type 0 where
  pub from : Spot
  pub to : Spot
  -- the node, the one above it before, and the one above it afterwards
  pub node : Found ℕ
  pub place : IsPlace document from node
  pub target : Found ℕ
  pub target_at : node_at document to.above ≡ Some target
  pub parent : Parent
  pub stands : parent_by target.content target ≡ Some parent
  pub apart : goes_through to.above path ≡ false
  -- the nodes that are moved, and how they are put in
  pub tree : Forest ℕ
  pub tree_is : tree ≡ Node place.child.label place.child.content place.child.children Empty
  pub keeps : Bool
  pub keeps_is : keeps_labels place.parent target ≡ keeps
  pub nodes : Edited ℕ
  pub nodes_put : nodes ≡ placed same_nodes keeps first (kept (elements_beside parent) tree)
  pub top : top_faults (elements_beside parent) (without_lines tree) ≡ []
  pub unfaulted : node_faults (scope_at target) (depth_of target + 1) (without_lines tree) ≡ []
  pub levels : height_faults target tree ≡ []
  pub limited : keeps ≡ false → number_faults first (map (λ l. l.first) (labels (kept (elements_beside parent) (without_lines tree)))) ≡ []
  pub nodes_are : new.nodes ≡ children_changed (inserted (to.position - 1) nodes.nodes) (path_without from place.parent to.above)
      (filled place.below.around (met place.child.before place.child.after))
  pub made_are : new.made ≡ nodes.made

pub data Shape (first : ℕ) (path : List ℕ) (document : Document ℕ) (new : Edited ℕ) : Type 0 where
  is_still : new.nodes ≡ document.nodes → new.made ≡ 0 → Shape first path document new
  is_turn : Turn document new → Shape first path document new
  is_carriage : Carriage first path document new → Shape first path document new

-- ---- The siblings that are left

pub whole_at : {L : Type 0} (document : Document L) (spot : Spot) (x : Found L) (s : IsPlace document spot x)
    → document.nodes ≡ filled s.below.around (followed s.child.before (Node s.child.label s.child.content s.child.children s.child.after))
whole_at document spot x s = s.below.whole ∙ ap (filled s.below.around) s.child.whole

pub deleted_at : {L : Type 0} (document : Document L) (spot : Spot) (x : Found L) (s : IsPlace document spot x)
    → children_changed (deleted (spot.position - 1)) spot.above document.nodes ≡ filled s.below.around (met s.child.before s.child.after)
deleted_at document spot x s =
    let some = s.child.from in
    let next : spot.position - 1 + 1 ≡ spot.position = omega arith in
    s.below.changed (deleted (spot.position - 1))
    ∙ ap (filled s.below.around) (ap (λ n. met (first_siblings (spot.position - 1) s.parent.children) (later_siblings n s.parent.children)) next
    ∙ (λ j. met (s.child.first j) (s.child.later j)))

-- ---- The steps of a move

unless_ok : {A : Type 0} (b : Bool) (r : Result A Fault) (n : ℕ) (x : A) → cond b (Err (record { number = n; line = 0 })) r ≡ Ok x
    → (b ≡ false) × (r ≡ Ok x)
unless_ok true r n x e = absurd (cc)
unless_ok false r n x e = (refl, e)

if_not : {A : Type 0} (b : Bool) (xs : List A) → cond b [] xs ≡ [] → b ≡ false → xs ≡ []
if_not true xs e same = absurd (cc)
if_not false xs e same = e

module _ (first : ℕ) (path : List ℕ) (document : Document ℕ) (new : Edited ℕ) (from to : Spot) (x : Found ℕ) (s : IsPlace document from x) where
  abbrev moved_tree : Forest ℕ
  moved_tree = Node s.child.label s.child.content s.child.children Empty

  abbrev turned : Edited ℕ
  turned =
      record {
        nodes = children_changed (rearranged (from.position - 1) (to.position - 1) moved_tree) from.above document.nodes;
        made = 0;
      }

  turn : answered turned ≡ Ok new → Shape first path document new
  turn h =
      let change = rearranged (from.position - 1) (to.position - 1) moved_tree in
      let is = ok_same turned new h in
      is_turn (record {
        around = s.below.around;
        label = s.child.label;
        content = s.child.content;
        children = s.child.children;
        siblings = s.parent.children;
        others = change s.parent.children;
        order = reordered s.parent.above s.parent.children from.position (to.position - 1) x s.child;
        whole = s.below.whole;
        nodes_are = sym (ap (λ d. d.nodes) is) ∙ s.below.changed change;
        made_are = sym (ap (λ d. d.made) is);
      })

  carriage : (target : Found ℕ) → node_at document to.above ≡ Some target → (parent : Parent) → parent_by target.content target ≡ Some parent
      → goes_through to.above path ≡ false → moved_below same_nodes first from to document s.parent target moved_tree parent ≡ Ok new
      → Shape first path document new
  carriage target at parent stands apart h =
      let keeps = keeps_labels s.parent target in
      let beside = elements_beside parent in
      let nodes = placed same_nodes keeps first (kept beside moved_tree) in
      let lines = without_lines moved_tree in
      let top = top_faults beside lines in
      let own = node_faults (scope_at target) (depth_of target + 1) lines in
      let high = height_faults target moved_tree in
      let numbers = number_faults first (map (λ l. l.first) (labels (kept beside lines))) in
      let a = answer_ok (move_faults keeps first beside target moved_tree) (Ok (with_placed from to s.parent document nodes)) new h in
      let is = ok_same (with_placed from to s.parent document nodes) new a.1 in
      let outer = append_none (top ++ own ++ high) (cond keeps [] numbers) a.0 in
      let middle = append_none (top ++ own) high outer.0 in
      let inner = append_none top own middle.0 in
      is_carriage (record {
        from = from;
        to = to;
        node = x;
        place = s;
        target = target;
        target_at = at;
        parent = parent;
        stands = stands;
        apart = apart;
        tree = moved_tree;
        tree_is = refl;
        keeps = keeps;
        keeps_is = refl;
        nodes = nodes;
        nodes_put = refl;
        top = inner.0;
        unfaulted = inner.1;
        levels = middle.1;
        limited = if_not keeps numbers outer.1;
        nodes_are = sym (ap (λ d. d.nodes) is)
            ∙ ap (children_changed (inserted (to.position - 1) nodes.nodes) (path_without from s.parent to.above)) (deleted_at document from x s);
        made_are = sym (ap (λ d. d.made) is);
      })

  between : (target : Found ℕ) → node_at document to.above ≡ Some target → (parent : Option Parent) → parent_by target.content target ≡ parent
      → moved_between same_nodes first path from to document s.parent target moved_tree parent ≡ Ok new → Shape first path document new
  between target at None e h = absurd (cc)
  between target at (Some parent) e h =
      let i = unless_ok (goes_through to.above path) (moved_below same_nodes first from to document s.parent target moved_tree parent) 15 new h in
      carriage target at parent e i.0 i.1

  from_place : (o : Option (Found ℕ)) → node_at document to.above ≡ o
      → moved_from same_nodes first path from to document moved_tree (Some s.parent) o ≡ Ok new → Shape first path document new
  from_place None e h = absurd (cc)
  from_place (Some target) e h = between target e (parent_by target.content target) refl h

  at_place : (b : Bool) → is_path from.above to.above ≡ b
      → cond b (answered turned)
      (moved_from same_nodes first path from to document moved_tree (node_at document from.above) (node_at document to.above)) ≡ Ok new
      → Shape first path document new
  at_place true e h = turn h
  at_place false e h =
      from_place (node_at document to.above) refl
      (ap (λ o. moved_from same_nodes first path from to document moved_tree o (node_at document to.above)) (sym s.at) ∙ h)

at-node : (first : ℕ) (document : Document ℕ) (new : Edited ℕ) (p : ℕ) (ps : List ℕ) (to : Spot) (o : Option (Found ℕ))
    → node_at document (p ∷ ps) ≡ o
    → by_node (λ node content. moved_at same_nodes first (p ∷ ps) (spot_from p ps) to document (tree_of node content)) o ≡ Ok new
    → Shape first (p ∷ ps) document new
at-node first document new p ps to None e h = absurd (cc)
at-node first document new p ps to (Some x) e h =
    let from = spot_from p ps in
    let s = place document p ps x e in
    let change : Found ℕ → Content → Result (Edited ℕ) Fault =
    λ node content. moved_at same_nodes first (p ∷ ps) from to document (tree_of node content) in
    at_place first (p ∷ ps) document new from to x s (is_path from.above to.above) refl
    (ap (λ y. by_content change y y.content) (sym s.child.is) ∙ h)

there : (first : ℕ) (document : Document ℕ) (new : Edited ℕ) (p : ℕ) (ps other : List ℕ)
    → moved_there same_nodes first (p ∷ ps) other document ≡ Ok new → Shape first (p ∷ ps) document new
there first document new p ps [] h = absurd (cc)
there first document new p ps (q ∷ qs) h = at-node first document new p ps (spot_from q qs) (node_at document (p ∷ ps)) refl h

still-or : (first : ℕ) (document : Document ℕ) (new : Edited ℕ) (p : ℕ) (ps other : List ℕ) (b : Bool)
    → cond b (answered (record { nodes = document.nodes; made = 0 })) (moved_there same_nodes first (p ∷ ps) other document) ≡ Ok new
    → Shape first (p ∷ ps) document new
still-or first document new p ps other true h =
    let is = ok_same (record { nodes = document.nodes; made = 0 }) new h in
    is_still (sym (ap (λ d. d.nodes) is)) (sym (ap (λ d. d.made) is))
still-or first document new p ps other false h = there first document new p ps other h

pub shape : (first : ℕ) (path other : List ℕ) (document : Document ℕ) (new : Edited ℕ) → moved_nodes first path other document ≡ Ok new
    → Shape first path document new
shape first [] other document new h = absurd (cc)
shape first (p ∷ ps) other document new h =
    let a = answer_ok (origin_faults document (p ∷ ps) ++ target_faults document (spot_of other))
    (cond (is_path (p ∷ ps) other) (answered (record { nodes = document.nodes; made = 0 }))
    (moved_there same_nodes first (p ∷ ps) other document)) new h in
    still-or first document new p ps other (is_path (p ∷ ps) other) a.1
