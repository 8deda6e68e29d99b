-- What a move makes where it is not refused.
use Rattle.std.proofs.Common.{◌≡◌, ◌≤◌, arith, ℕ, ◌+◌, ◌-◌, ◌==◌, Bool, true, false, cond, List, [], ◌∷◌, ◌++◌, Option, None, Some, length}
use Rattle.std.proofs.Common.{refl, sym, ap, ◌∙◌}
use Rattle.std.specs.Prelude.{Result, Ok, Err, nat_lt}
use Rattle.std.proofs.lemmas.Bool.{eqb-true, ltb-true, ltb-false}
use Rattle.spec_document.specs.declared.parent.Parent.{Parent}
use Rattle.spec_document.specs.Forest.{Content, Forest, Empty, Node, Document, followed, IsNormal}
use Rattle.spec_document.specs.Place.{Found, root_of, found_in, child_at, node_at}
use Rattle.spec_document.specs.Fault.{Fault}
use Rattle.spec_document.specs.Top.{kept}
use Rattle.spec_document.specs.Document.{elements_beside}
use Rattle.spec_edit.specs.Splice.{Spot, spot_of, spot_from, first_siblings, later_siblings, children_changed, met, inserted, deleted}
use Rattle.spec_edit.specs.Edit.{Edited, by_content, by_node, element_count, parent_by}
use Rattle.spec_edit.proofs.Around.{Around, filled, above_in, content_in, child, below, site, not_zero, some_same, first-later}
use Rattle.spec_edit.proofs.Shapes.{ok_same, answer_ok, answered, same_nodes, parent_same}
use Rattle.spec_edit.proofs.Normal.{IsAbove, parent-above}
use Rattle.spec_move.specs.Move.{is_path, goes_through, origin_faults, target_faults, keeps_labels, siblings_between, put_in, rearranged, path_without, tree_of}
use Rattle.spec_move.specs.Move.{move_faults, placed, with_placed, carried, moved_below, moved_between, moved_from, moved_at, moved_there, moved_nodes}
use Rattle.spec_move.proofs.Around.{path-spot, way-kept, apart-of, steps_of}

-- ---- A node below its parent

pub record Place (document : Document ℕ) (spot : Spot) (old x : Found ℕ) : Type 0 where
  pub around : Around ℕ
  pub before : Forest ℕ
  pub label : ℕ
  pub content : Content
  pub children : Forest ℕ
  pub after : Forest ℕ
  pub is : x ≡ found_in old.above label content children
  pub above : old.above ≡ above_in [] around
  pub own : old.content ≡ content_in None around
  pub siblings : old.children ≡ followed before (Node label content children after)
  pub first : first_siblings (spot.position - 1) old.children ≡ before
  pub later : later_siblings spot.position old.children ≡ after
  pub from : 1 ≤ spot.position
  pub whole : document.nodes ≡ filled around old.children
  pub changed : (change : Forest ℕ → Forest ℕ) → children_changed change spot.above document.nodes ≡ filled around (change old.children)

pub place : (document : Document ℕ) (spot : Spot) (old x : Found ℕ) → node_at document spot.above ≡ Some old
    → child_at old.above old.children spot.position ≡ Some x → Place document spot old x
place document spot old x there e =
    let b = below spot.above (root_of document) old there in
    let i = child old.above old.children spot.position x e in
    record {
      around = b.around;
      before = i.before;
      label = i.label;
      content = i.content;
      children = i.children;
      after = i.after;
      is = i.is;
      above = b.above;
      own = b.content;
      siblings = i.whole;
      first = i.first;
      later = i.later;
      from = i.from;
      whole = b.whole;
      changed = b.changed;
    }

-- the node alone, with what is below it
abbrev pub tree : {document : Document ℕ} {spot : Spot} {old x : Found ℕ} → Place document spot old x → Forest ℕ
tree p = Node p.label p.content p.children Empty

-- ---- Within one parent

-- the node goes behind some of the later siblings, or before some of the earlier ones
pub data Rearranged {L : Type 0} (before nodes after whole : Forest L) : Type 0 where
  is_later : (between rest : Forest L) → after ≡ followed between rest → whole ≡ met before (met (met between nodes) rest)
      → Rearranged before nodes after whole
  is_earlier : (front between : Forest L) → before ≡ followed front between → whole ≡ met front (met (met nodes between) after)
      → Rearranged before nodes after whole

pub record Within (document : Document ℕ) (new : Edited ℕ) : Type 0 where
  pub spot : Spot
  pub old : Found ℕ
  pub node : Found ℕ
  pub at : Place document spot old node
  pub siblings : Forest ℕ
  pub order : Rearranged at.before (tree at) at.after siblings
  pub nodes_are : new.nodes ≡ filled at.around siblings
  pub made_are : new.made ≡ 0

-- ---- To another parent

-- where the new parent is once the node was taken away, and what stands there
pub record Carrying (document : Document ℕ) (from to : Spot) (old node next : Found ℕ) (at : Place document from old node) : Type 0 where
  pub into : Around ℕ
  pub siblings : Forest ℕ
  pub left : filled at.around (met at.before at.after) ≡ filled into siblings
  pub above : next.above ≡ above_in [] into
  pub own : next.content ≡ content_in None into
  -- only one of the two parents is the root
  pub top : next.content ≡ None → next.children ≡ document.nodes
  pub apart : next.content ≡ None → old.content ≡ None → ⊥
  pub carried_is : (nodes : Forest ℕ) → carried from to old nodes document ≡ filled into (inserted (to.position - 1) nodes siblings)

pub record Between (first : ℕ) (document : Document ℕ) (new : Edited ℕ) : Type 0 where
  pub from : Spot
  pub to : Spot
  pub old : Found ℕ
  pub node : Found ℕ
  -- the new parent, as it was
  pub next : Found ℕ
  pub parent : Parent
  pub stands : parent_by next.content next ≡ Some parent
  pub at : Place document from old node
  pub carrying : Carrying document from to old node next at
  pub unfaulted : move_faults (keeps_labels old next) first (elements_beside parent) next (tree at) ≡ []
  pub nodes_are : new.nodes
      ≡ carried from to old (placed same_nodes (keeps_labels old next) first (kept (elements_beside parent) (tree at))).nodes document
  pub made_are : new.made ≡ (placed same_nodes (keeps_labels old next) first (kept (elements_beside parent) (tree at))).made

pub data Move (first : ℕ) (document : Document ℕ) (new : Edited ℕ) : Type 0 where
  is_still : new.nodes ≡ document.nodes → new.made ≡ 0 → Move first document new
  is_within : Within document new → Move first document new
  is_between : Between first document new → Move first document new

-- ---- Siblings in parts

some-of : (n : ℕ) → (n == 0) ≡ false → 1 ≤ n
some-of n other = omega (arith, apart-of n 0 other)

-- those behind an index of those behind another
later-later : {L : Type 0} (n m k : ℕ) (f : Forest L) → k ≡ n + m → later_siblings m (later_siblings n f) ≡ later_siblings k f
later-later n m k Empty e = refl
later-later n m k (Node l c f s) e =
    elim (n == 0) as (λ b. (n == 0) ≡ b → later_siblings m (cond b (Node l c f s) (later_siblings (n - 1) s)) ≡ later_siblings k (Node l c f s)) [
      | true ↦ λ none.
          let is = eqb-true n 0 none in
          let same : m ≡ k = omega arith in
          ap (λ j. later_siblings j (Node l c f s)) same
      | false ↦ λ other.
          let some = some-of n other in
          later-later (n - 1) m (k - 1) s (omega arith)
          ∙ sym (ap (λ b. cond b (Node l c f s) (later_siblings (k - 1) s)) (not_zero k (omega arith)))
    ] refl

-- those before an index, by an earlier one
first-split : {L : Type 0} (n m k : ℕ) (f : Forest L) → k ≡ n + m
    → first_siblings k f ≡ followed (first_siblings n f) (first_siblings m (later_siblings n f))
first-split n m k Empty e = refl
first-split n m k (Node l c f s) e =
    elim (n == 0) as (λ b. (n == 0) ≡ b → first_siblings k (Node l c f s)
    ≡ followed (cond b Empty (Node l c f (first_siblings (n - 1) s))) (first_siblings m (cond b (Node l c f s) (later_siblings (n - 1) s)))) [
      | true ↦ λ none.
          let is = eqb-true n 0 none in
          let same : k ≡ m = omega arith in
          ap (λ j. first_siblings j (Node l c f s)) same
      | false ↦ λ other.
          let some = some-of n other in
          ap (λ b. cond b Empty (Node l c f (first_siblings (k - 1) s))) (not_zero k (omega arith))
          ∙ ap (Node l c f) (first-split (n - 1) m (k - 1) s (omega arith))
    ] refl

rearranged-is : {L : Type 0} (from to : ℕ) (nodes f before after : Forest L) → first_siblings from f ≡ before → later_siblings (from + 1) f ≡ after
    → Rearranged before nodes after (rearranged from to nodes f)
rearranged-is from to nodes f before after first later =
    elim (nat_lt from to) as (λ b. nat_lt from to ≡ b → Rearranged before nodes after (cond b
    (put_in from to (met (siblings_between (from + 1) to f) nodes) f) (put_in to (from + 1) (met nodes (siblings_between to from f)) f))) [
      | true ↦ λ e.
          let less = ltb-true from to e in
          let between = siblings_between (from + 1) to f in
          let rest = later_siblings to f in
          is_later between rest
          (sym later ∙ sym (first-later (to - (from + 1)) (later_siblings (from + 1) f))
          ∙ ap (followed between) (later-later (from + 1) (to - (from + 1)) to f (omega arith)))
          (ap (λ g. met g (met (met between nodes) rest)) first)
      | false ↦ λ e.
          let most = ltb-false from to e in
          let between = siblings_between to from f in
          is_earlier (first_siblings to f) between (sym first ∙ first-split to (from - to) from f (omega arith))
          (ap (λ g. met (first_siblings to f) (met (met nodes between) g)) later)
    ] refl

-- ---- From the answer

root-path : (document : Document ℕ) (path : List ℕ) (x : Found ℕ) → node_at document path ≡ Some x → x.content ≡ None → path ≡ []
root-path document [] x e none = refl
root-path document (p ∷ ps) x e none =
    let s = site document p ps x e in absurd (let no = sym (ap (λ n. n.content) s.is) ∙ none in cc)

unless_ok : {A : Type 0} (b : Bool) (r : Result A Fault) (n : ℕ) (x : A) → cond b (Err (record { number = n; line = 0 })) r ≡ Ok x
    → (b ≡ false) × (r ≡ Ok x)
unless_ok true r n x e = absurd (cc)
unless_ok false r n x e = (refl, e)

module _ (document : Document ℕ) (p : ℕ) (ps : List ℕ) (to : Spot) (old x next : Found ℕ)
    (there : node_at document (spot_from p ps).above ≡ Some old) (child : child_at old.above old.children (spot_from p ps).position ≡ Some x)
    (way : node_at document to.above ≡ Some next) (at : Place document (spot_from p ps) old x) where
  abbrev from : Spot
  from = spot_from p ps

  abbrev left : Document ℕ
  left = record { root = document.root; nodes = children_changed (deleted (from.position - 1)) from.above document.nodes }

  deleted-is : left.nodes ≡ filled at.around (met at.before at.after)
  deleted-is =
      let positive = at.from in
      let more : from.position - 1 + 1 ≡ from.position = omega arith in
      at.changed (deleted (from.position - 1))
      ∙ ap (filled at.around) (ap (λ n. met (first_siblings (from.position - 1) old.children) (later_siblings n old.children)) more
      ∙ (λ i. met (at.first i) (at.later i)))

  root-above : next.content ≡ None → next.children ≡ document.nodes
  root-above none =
      let is = root-path document to.above next way none in
      sym (ap (λ n. n.children) (some_same (root_of document) next (sym (ap (node_at document) is) ∙ way)))

  apart-above : is_path from.above to.above ≡ false → next.content ≡ None → old.content ≡ None → ⊥
  apart-above apart none same =
      let is = root-path document to.above next way none in
      let was = root-path document from.above old there same in
      let no = (λ i. is_path (sym was i) (sym is i)) ∙ apart in cc

  pub carrying-by : IsNormal document.nodes → IsAbove next.content → is_path from.above to.above ≡ false → goes_through to.above (p ∷ ps) ≡ false
      → Carrying document from to old x next at
  carrying-by normal is apart through =
      let k = way-kept p ps (root_of document) old x next to.above there child way apart through normal is in
      let b = below (path_without from old to.above) (root_of left) k.now k.there in
      record {
        into = b.around;
        siblings = k.now.children;
        left = sym deleted-is ∙ b.whole;
        above = sym k.above ∙ b.above;
        own = sym k.content ∙ b.content;
        top = root-above;
        apart = apart-above apart;
        carried_is = λ nodes. b.changed (inserted (to.position - 1) nodes);
      }

pub above-by : (next : Found ℕ) (parent : Parent) → parent_by next.content next ≡ Some parent → IsAbove next.content
above-by next parent e =
    parent-above next.content (length next.above) (element_count next.children) parent (parent_same next.content next ∙ e)

module _ (first : ℕ) (document : Document ℕ) (new : Edited ℕ) (normal : IsNormal document.nodes) where
  pub within : (from to : Spot) (old x : Found ℕ) (at : Place document from old x)
      → answered (record {
        nodes = children_changed (rearranged (from.position - 1) (to.position - 1) (tree at)) from.above document.nodes;
        made = 0;
      }) ≡ Ok new
      → Move first document new
  within from to old x at h =
      let change = rearranged (from.position - 1) (to.position - 1) (tree at) in
      let is = ok_same (record { nodes = children_changed change from.above document.nodes; made = 0 }) new h in
      let positive = at.from in
      let next : from.position - 1 + 1 ≡ from.position = omega arith in
      is_within (record {
        spot = from;
        old = old;
        node = x;
        at = at;
        siblings = change old.children;
        order = rearranged-is (from.position - 1) (to.position - 1) (tree at) old.children at.before at.after at.first
            (ap (λ n. later_siblings n old.children) next ∙ at.later);
        nodes_are = sym (ap (λ d. d.nodes) is) ∙ at.changed change;
        made_are = sym (ap (λ d. d.made) is);
      })

  module _ (p : ℕ) (ps : List ℕ) (to : Spot) (old x : Found ℕ)
      (there : node_at document (spot_from p ps).above ≡ Some old) (child : child_at old.above old.children (spot_from p ps).position ≡ Some x)
      (at : Place document (spot_from p ps) old x) where
    between : (next : Found ℕ) → node_at document to.above ≡ Some next → (parent : Parent) → parent_by next.content next ≡ Some parent
        → is_path (spot_from p ps).above to.above ≡ false → goes_through to.above (p ∷ ps) ≡ false
        → moved_below same_nodes first (spot_from p ps) to document old next (tree at) parent ≡ Ok new → Move first document new
    between next way parent stands apart through h =
        let from = spot_from p ps in
        let keeps = keeps_labels old next in
        let beside = elements_beside parent in
        let made = with_placed from to old document (placed same_nodes keeps first (kept beside (tree at))) in
        let a = answer_ok (move_faults keeps first beside next (tree at)) (Ok made) new h in
        let is = ok_same made new a.1 in
        is_between (record {
          from = from;
          to = to;
          old = old;
          node = x;
          next = next;
          parent = parent;
          stands = stands;
          at = at;
          carrying = carrying-by document p ps to old x next there child way at normal (above-by next parent stands) apart through;
          unfaulted = a.0;
          nodes_are = sym (ap (λ d. d.nodes) is);
          made_are = sym (ap (λ d. d.made) is);
        })

    parted : (next : Found ℕ) → node_at document to.above ≡ Some next → is_path (spot_from p ps).above to.above ≡ false → (o : Option Parent)
        → parent_by next.content next ≡ o → moved_between same_nodes first (p ∷ ps) (spot_from p ps) to document old next (tree at) o ≡ Ok new
        → Move first document new
    parted next way apart None stands h = absurd (cc)
    parted next way apart (Some parent) stands h =
        let i = unless_ok (goes_through to.above (p ∷ ps)) (moved_below same_nodes first (spot_from p ps) to document old next (tree at) parent) 15 new h in
        between next way parent stands apart i.0 i.1

    to-other : is_path (spot_from p ps).above to.above ≡ false → (o : Option (Found ℕ)) → node_at document to.above ≡ o
        → moved_from same_nodes first (p ∷ ps) (spot_from p ps) to document (tree at) (Some old) o ≡ Ok new → Move first document new
    to-other apart None way h = absurd (cc)
    to-other apart (Some next) way h = parted next way apart (parent_by next.content next) refl h

    by-parents : (b : Bool) → is_path (spot_from p ps).above to.above ≡ b
        → cond b (answered (record {
          nodes = children_changed (rearranged ((spot_from p ps).position - 1) (to.position - 1) (tree at)) (spot_from p ps).above document.nodes;
          made = 0;
        })) (moved_from same_nodes first (p ∷ ps) (spot_from p ps) to document (tree at) (Some old) (node_at document to.above)) ≡ Ok new
        → Move first document new
    by-parents true e h = within (spot_from p ps) to old x at h
    by-parents false e h = to-other e (node_at document to.above) refl h

    by-site : by_content (λ node content. moved_at same_nodes first (p ∷ ps) (spot_from p ps) to document (tree_of node content)) x x.content ≡ Ok new
        → Move first document new
    by-site h =
        let from = spot_from p ps in
        let change : Found ℕ → Content → Result (Edited ℕ) Fault =
        λ node content. moved_at same_nodes first (p ∷ ps) from to document (tree_of node content) in
        by-parents (is_path from.above to.above) refl
        (ap (λ o. cond (is_path from.above to.above) (answered (record {
          nodes = children_changed (rearranged (from.position - 1) (to.position - 1) (tree at)) from.above document.nodes;
          made = 0;
        })) (moved_from same_nodes first (p ∷ ps) from to document (tree at) o (node_at document to.above))) (sym there)
        ∙ ap (λ y. by_content change y y.content) (sym at.is) ∙ h)

  at-node : (p : ℕ) (ps : List ℕ) (to : Spot) (o : Option (Found ℕ)) → node_at document (p ∷ ps) ≡ o
      → by_node (λ node content. moved_at same_nodes first (p ∷ ps) (spot_from p ps) to document (tree_of node content)) o ≡ Ok new
      → Move first document new
  at-node p ps to None e h = absurd (cc)
  at-node p ps to (Some x) e h =
      let from = spot_from p ps in
      let s = steps_of (node_at document from.above) (λ y. child_at y.above y.children from.position) x (sym (path-spot p ps (root_of document)) ∙ e) in
      by-site p ps to s.middle x s.is s.rest (place document from s.middle x s.is s.rest) h

  there : (path other : List ℕ) → moved_there same_nodes first path other document ≡ Ok new → Move first document new
  there [] other h = absurd (cc)
  there (p ∷ ps) [] h = absurd (cc)
  there (p ∷ ps) (q ∷ qs) h = at-node p ps (spot_from q qs) (node_at document (p ∷ ps)) refl h

  by-paths : (path other : List ℕ) (b : Bool)
      → cond b (answered (record { nodes = document.nodes; made = 0 })) (moved_there same_nodes first path other document) ≡ Ok new
      → Move first document new
  by-paths path other true h =
      let is = ok_same (record { nodes = document.nodes; made = 0 }) new h in
      is_still (sym (ap (λ d. d.nodes) is)) (sym (ap (λ d. d.made) is))
  by-paths path other false h = there path other h

  pub move : (path other : List ℕ) → moved_nodes first path other document ≡ Ok new → Move first document new
  move path other h =
      let a = answer_ok (origin_faults document path ++ target_faults document (spot_of other))
      (cond (is_path path other) (answered (record { nodes = document.nodes; made = 0 })) (moved_there same_nodes first path other document)) new h in
      by-paths path other (is_path path other) a.1
