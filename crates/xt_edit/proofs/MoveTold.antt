-- The change that a move makes is what the code tells, where the ways lead to its nodes.
use Rattle.std.proofs.Common.{◌≡◌, ◌==◌, ◌≤◌, arith, ℕ, ◌-◌, Bool, true, false, cond, List, ◌∷◌, ◌++◌, Option, None, Some, Ok, refl, sym, ap, ◌∙◌, subst}
use Rattle.std.specs.Prelude.{◌&&◌}
use Rattle.std.specs.Option.{option_map, option_and_then}
use Rattle.std.specs.declared.rc.Rc.{Rc}
use Rattle.std.specs.declared.alloc.Global.{Global}
use Rattle.std.proofs.lemmas.Slice.Eq.{bytes_eq-Decides}
use Rattle.spec_document.specs.Document.{elements_beside}
use Rattle.spec_document.specs.Forest.{Document, Forest, Empty, Node as Tree, labels}
use Rattle.spec_document.specs.Place.{Found, root_of, node_at}
use Rattle.spec_document.specs.Top.{kept}
use Rattle.spec_edit.specs.Edit.{Edited}
use Rattle.spec_edit.specs.Splice.{children_changed, deleted, inserted, spot_of}
use Rattle.spec_edit.proofs.Around.{IsChild, child, some_same}
use Rattle.spec_edit.proofs.Numbers.{AreOnce, AreBelow as AreLow, below-from, occurs, occurs-labels, once-from}
use Rattle.spec_edit.proofs.Shapes.{answer_ok, ok_same, same_nodes}
use Rattle.spec_change.specs.Change.{Change, change_at, change_between, passed, sibling_labels}
use Rattle.spec_change.proofs.Branches.{branches}
use Rattle.spec_change.proofs.Changing.{with_children, found-changed}
use Rattle.spec_move.specs.Changed.{IsMove, MoveChange, in_order, between, change_by, changes_between, move_change}
use Rattle.spec_move.specs.Move.{goes_through, is_path, keeps_labels, move_faults, moved_nodes, origin_faults, path_below, placed, rearranged, target_faults, with_placed}
use Rattle.xt_base.specs.declared.codes.EditCode.{EditCode}
use Rattle.xt_edit.specs.Changed.{taken_out}
use Rattle.xt_edit.specs.declared.relocation.Ends.{Ends}
use Rattle.xt_edit.specs.MoveTelling.{AreReorderedAt, AreTold, AreToldAt, AreToldBetween, between_in, reordered_among, way_to_new}
use Rattle.xt_edit.specs.Moving.{AreAt, IsFewerBy, IsLeast, new_parent, old_parent, tree_in}
use Rattle.xt_edit.specs.Reordered.{IsReordered}
use Rattle.xt_edit.specs.Site.{IsThere, found_there, spot_in}
use Rattle.xt_edit.specs.Telling.{WayTo, change_among, way_at}
use Rattle.xt_edit.proofs.Apart.{Parts}
use Rattle.xt_edit.proofs.Between.{parts-told}
use Rattle.xt_edit.proofs.Carried.{fewer-is}
use Rattle.xt_edit.proofs.Moved.{AreSingle, once-single, children-single, rearranged-told, still-told, left-parts, left-single, put-parts}
use Rattle.xt_edit.proofs.Moves.{another-is, below_itself, paths_refused, still-is, within-is}
use Rattle.xt_tree.specs.declared.node.Node.{Node}
use Rattle.xt_tree.specs.Numbers.{are_distinct, IsNumbered}
use Rattle.xt_tree.specs.View.{forest_of, tree_of}

-- ---- The change at a path

some-none : {A : Type 0} (x : A) → Some x ≡ None → ⊥
some-none x e = cc

-- what a map of an option gives, is given of what is in it
record Mapped {A B : Type 0} (f : A → B) (o : Option A) (y : B) : Type 0 where
  value : A
  is : o ≡ Some value
  gives : f value ≡ y

mapped : {A B : Type 0} (f : A → B) (o : Option A) (y : B) → Some y ≡ option_map f o → Mapped f o y
mapped f None y e = absurd (some-none y e)
mapped f (Some x) y e = record { value = x; is = refl; gives = sym (some_same y (f x) e) }

none-mapped : {A B : Type 0} (f : A → B) (o : Option A) → None ≡ option_map f o → o ≡ None
none-mapped f None e = refl
none-mapped f (Some x) e = absurd (some-none (f x) (sym e))

way-of : Document ℕ → List ℕ → Found ℕ → WayTo
way-of document path node = record { node = node.label; above = passed path (root_of document); children = node.children }

module _ (old new : Document ℕ) (path : List ℕ) where
  by-old : Option (Found ℕ) → Option Change
  by-old o = option_and_then (λ was. option_map (change_between false (passed path (root_of old)) was) (node_at new path)) o

  pub no-old : None ≡ way_at old path → None ≡ change_at false old new path
  unfolding way-of by-old
  no-old e = sym (ap by-old (none-mapped (way-of old path) (node_at old path) e))

  none-new : (o : Option (Found ℕ)) → option_and_then (λ was. option_map (change_between false (passed path (root_of old)) was) None) o ≡ None
  none-new None = refl
  none-new (Some was) = refl

  pub no-new : None ≡ option_map (λ node. node.children) (node_at new path) → None ≡ change_at false old new path
  no-new e =
      sym (ap (λ n. option_and_then (λ was. option_map (change_between false (passed path (root_of old)) was) n) (node_at old path))
      (none-mapped (λ node. node.children) (node_at new path) e) ∙ none-new (node_at old path))

  -- both nodes, by what was found of them
  record Both (node : ℕ) (above : List ℕ) (children after : Forest ℕ) : Type 0 where
    was : Found ℕ
    now : Found ℕ
    was_at : node_at old path ≡ Some was
    now_at : node_at new path ≡ Some now
    way : way-of old path was ≡ record { node = node; above = above; children = children }
    after_is : now.children ≡ after
    told : change_at false old new path ≡ Some (change_between false (passed path (root_of old)) was now)

  both : (node : ℕ) (above : List ℕ) (children after : Forest ℕ) → Some (record { node = node; above = above; children = children }) ≡ way_at old path
      → Some after ≡ option_map (λ node. node.children) (node_at new path) → Both node above children after
  unfolding way-of by-old
  both node above children after way then =
      let w = mapped (way-of old path) (node_at old path) (record { node = node; above = above; children = children }) way in
      let n = mapped (λ (x : Found ℕ). x.children) (node_at new path) after then in
      record {
        was = w.value;
        now = n.value;
        was_at = w.is;
        now_at = n.is;
        way = w.gives;
        after_is = n.gives;
        told = ap by-old w.is ∙ ap (option_map (change_between false (passed path (root_of old)) w.value)) n.is;
      }

  pub reordered-is : (moved : ℕ) → AreReorderedAt moved old new path → (node : ℕ) (above : List ℕ) (children after : Forest ℕ)
      → Some (record { node = node; above = above; children = children }) ≡ way_at old path
      → Some after ≡ option_map (λ node. node.children) (node_at new path)
      → change_at false old new path ≡ Some (reordered_among node above moved children after)
  unfolding way-of
  reordered-is moved are node above children after way then =
      let b = both node above children after way then in
      let r = are b.was b.was_at b.now b.now_at in
      b.told
      ∙ (λ i. Some (record {
        of_attributes = false;
        node = b.was.label;
        above = passed path (root_of old);
        before = sibling_labels b.was.children;
        after = sibling_labels b.now.children;
        gone = sym r.gone i;
        brought = r.brought i;
      }))
      ∙ (λ i. Some (reordered_among (b.way i).node (b.way i).above moved (b.way i).children (b.after_is i)))

  pub told-is : AreToldAt old new path → (node : ℕ) (above : List ℕ) (xs ys : List (Rc Node Global))
      → Some (record { node = node; above = above; children = forest_of xs }) ≡ way_at old path
      → Some (forest_of ys) ≡ option_map (λ node. node.children) (node_at new path)
      → change_at false old new path ≡ Some (change_among false node above xs ys)
  unfolding way-of
  told-is are node above xs ys way then =
      let b = both node above (forest_of xs) (forest_of ys) way then in
      let children : forest_of xs ≡ b.was.children = sym (ap (λ w. w.children) b.way) in
      let r = are b.was b.was_at b.now b.now_at xs ys children (sym b.after_is) in
      b.told
      ∙ (λ i. Some (record {
        of_attributes = false;
        node = (b.way i).node;
        above = (b.way i).above;
        before = sibling_labels (b.way i).children;
        after = sibling_labels (b.after_is i);
        gone = sym r.0 i;
        brought = sym r.1 i;
      }))

-- ---- The children of the parents

and-first : (a b : Bool) → (a && b) ≡ true → a ≡ true
and-first true b h = refl
and-first false b h = absurd (cc)

pub numbered-once : (document : Document ℕ) → IsNumbered document → AreOnce (document.root ∷ labels document.nodes)
numbered-once document numbers =
    let all = document.root ∷ labels document.nodes in
    once-from are_distinct (λ n ns. refl) all (and-first (are_distinct all) _ numbers)

single-labels : (f : Forest ℕ) → AreSingle f → (n : ℕ) → occurs (λ m. m == n) (labels f) ≤ 1
single-labels f single n = let is = occurs-labels (λ m. m == n) f in let one = single n in omega arith

-- the node as a child, and as a tree
record Site_of (document : Document ℕ) (ends : Ends) : Type 0 where
  is_child : IsChild (old_parent document ends).above (old_parent document ends).children ends.site.spot.position
      (found_there document (spot_in ends.site.spot) ends.site.node.now)
  label_is : is_child.label ≡ (tree_of ends.site.node.now).number
  tree_is : Tree is_child.label is_child.content is_child.children Empty ≡ tree_in ends.site.node.now

site-of : (document : Document ℕ) (ends : Ends) → IsThere document (spot_in ends.site.spot) ends.site.node.now → Site_of document ends
site-of document ends t =
    let spot = spot_in ends.site.spot in
    let outer = old_parent document ends in
    let x = found_there document spot ends.site.node.now in
    let i = child outer.above outer.children spot.position x t.child in
    let content : i.content ≡ (tree_of ends.site.node.now).content = some_same i.content (tree_of ends.site.node.now).content (sym (ap (λ n. n.content) i.is)) in
    record {
      is_child = i;
      label_is = sym (ap (λ n. n.label) i.is);
      tree_is = λ j. Tree (sym (ap (λ n. n.label) i.is) j) (content j) (sym (ap (λ n. n.children) i.is) j) Empty;
    }

told-of : (moved : ℕ) (was now : Forest ℕ) (l : ℕ) (f g : Forest ℕ) → IsReordered l f g → l ≡ moved → f ≡ was → g ≡ now → IsReordered moved was now
told-of moved was now l f g r a b c =
    subst (λ h. IsReordered moved was h) c (subst (λ h. IsReordered moved h g) b (subst (λ n. IsReordered n f g) a r))

module _ (old new : Document ℕ) (path other : List ℕ) (ends : Ends) (at : AreAt old path other ends) (q : IsMove path other old new)
    (numbers : IsNumbered old) where
  abbrev from : List ℕ
  from = ends.site.spot.parent.now

  abbrev to : List ℕ
  to = ends.to.spot.parent.now

  abbrev outer : Found ℕ
  outer = old_parent old ends

  abbrev index : ℕ
  index = ends.to.spot.position - 1

  once : AreOnce (old.root ∷ labels old.nodes)
  once = numbered-once old numbers

  low : AreLow q.first (old.root ∷ labels old.nodes)
  low = below-from q.first (old.root ∷ labels old.nodes) q.below

  outer-single : AreSingle outer.children
  outer-single = children-single old from outer at.from.there.parent (once-single old once)

  own : Site_of old ends
  own = site-of old ends at.from.there

  -- what the move made, by what the definition comes to
  made-is : (e : Edited ℕ) → moved_nodes q.first path other old ≡ Ok e → new ≡ record { root = old.root; nodes = e.nodes }
  made-is e is = q.new_is ∙ ap (λ d. record { root = old.root; nodes = d.nodes }) (ok_same q.edited e (sym q.edited_is ∙ is))

  -- ---- Within one parent

  abbrev Told_of : Found ℕ → Found ℕ → Type 0
  Told_of was now = IsReordered (tree_of ends.site.node.now).number was.children now.children

  stood : (was now : Found ℕ) → outer ≡ was → outer ≡ now → Told_of was now
  stood was now a b =
      told-of (tree_of ends.site.node.now).number was.children now.children own.is_child.label outer.children outer.children
      (still-told ends.site.spot.position outer (found_there old (spot_in ends.site.spot) ends.site.node.now) own.is_child outer-single)
      own.label_is (ap (λ n. n.children) a) (ap (λ n. n.children) b)

  abbrev change : Forest ℕ → Forest ℕ
  change = rearranged (ends.site.spot.position - 1) index (tree_in ends.site.node.now)

  moved : (was now : Found ℕ) → outer ≡ was → with_children outer (change outer.children) ≡ now → Told_of was now
  moved was now a b =
      told-of (tree_of ends.site.node.now).number was.children now.children own.is_child.label outer.children
      (rearranged (ends.site.spot.position - 1) index
      (Tree own.is_child.label own.is_child.content own.is_child.children Empty) outer.children)
      (rearranged-told ends.site.spot.position outer (found_there old (spot_in ends.site.spot) ends.site.node.now) own.is_child outer-single index)
      own.label_is (ap (λ n. n.children) a)
      (ap (λ t. rearranged (ends.site.spot.position - 1) index t outer.children) own.tree_is ∙ ap (λ n. n.children) b)

  pub are-reordered : is_path from to ≡ true → AreReorderedAt (tree_of ends.site.node.now).number old new from
  are-reordered same was e now f = by (is_path path other) refl
    where
      is_outer : outer ≡ was
      is_outer = some_same outer was (sym at.from.there.parent ∙ e)

      by : (b : Bool) → is_path path other ≡ b → Told_of was now
      by true p =
          let is = made-is (record { nodes = old.nodes; made = 0 }) (still-is q.first old path other ends at p) in
          stood was now is_outer (some_same outer now (sym at.from.there.parent ∙ sym (ap (λ d. node_at d from) is) ∙ f))
      by false p =
          let is = made-is (record { nodes = children_changed change from old.nodes; made = 0 }) (within-is q.first old path other ends at p same) in
          moved was now is_outer (some_same (with_children outer (change outer.children)) now
          (sym (found-changed change from (root_of old) outer at.from.there.parent) ∙ sym (ap (λ d. node_at d from) is) ∙ f))

  -- ---- To another parent

  abbrev left : Document ℕ
  left = taken_out old ends.site

  abbrev way : List ℕ
  way = way_to_new old ends

  -- what is put in
  abbrev put_by : Bool → Forest ℕ → Forest ℕ
  put_by keeps tree = (placed same_nodes keeps q.first (kept (elements_beside ends.to.parent) tree)).nodes

  abbrev keeps : Bool
  keeps = keeps_labels outer (new_parent old ends)

  abbrev put : Forest ℕ
  put = put_by keeps (tree_in ends.site.node.now)

  abbrev carried_there : Document ℕ
  carried_there = record { root = old.root; nodes = children_changed (inserted index put) way left.nodes }

  different : is_path from to ≡ false → is_path path other ≡ false
  different apart = by (is_path path other) refl
    where
      by : (b : Bool) → is_path path other ≡ b → is_path path other ≡ false
      by false e = e
      by true e =
          let same = (bytes_eq-Decides path other).0 e in
          let spots = some_same (spot_in ends.site.spot) (spot_in ends.to.spot) (sym at.from.spot_is ∙ ap spot_of same ∙ at.to.is) in
          absurd (let no : true ≡ false = sym ((bytes_eq-Decides from to).1 (ap (λ s. s.above) spots)) ∙ apart in cc)

  carried-is : is_path from to ≡ false → new ≡ carried_there
  carried-is apart = by (goes_through to path) refl
    where
      by : (b : Bool) → goes_through to path ≡ b → new ≡ carried_there
      by true e =
          absurd (let no = sym q.edited_is ∙ below_itself q.first old path other ends at (different apart) apart e in cc)
      by false e =
          let h = sym (another-is q.first old path other ends at (different apart) apart e) ∙ q.edited_is in
          let all = with_placed (spot_in ends.site.spot) (spot_in ends.to.spot) outer old
          (placed same_nodes keeps q.first (kept (elements_beside ends.to.parent) (tree_in ends.site.node.now))) in
          let a = answer_ok (move_faults keeps q.first (elements_beside ends.to.parent) (new_parent old ends) (tree_in ends.site.node.now)) (Ok all) q.edited h in
          q.new_is ∙ ap (λ d. record { root = old.root; nodes = d.nodes }) (sym (ok_same all q.edited a.1))

  leaves : AreToldAt old left from
  leaves was e now f =
      let is_outer = some_same outer was (sym at.from.there.parent ∙ e) in
      let take = deleted (ends.site.spot.position - 1) in
      let is_now = some_same (with_children outer (take outer.children)) now
      (sym (found-changed take from (root_of old) outer at.from.there.parent) ∙ f) in
      subst (λ g. AreTold g now.children) (ap (λ n. n.children) is_outer)
      (subst (λ g. AreTold outer.children g) (ap (λ n. n.children) is_now)
      (parts-told outer.children (take outer.children)
      (left-parts ends.site.spot.position outer (found_there old (spot_in ends.site.spot) ends.site.node.now) own.is_child)
      (single-labels outer.children outer-single)))

  enters : is_path from to ≡ false → AreToldAt left new way
  enters apart was e now f =
      let x = found_there old (spot_in ends.site.spot) ends.site.node.now in
      let spot = spot_in ends.site.spot in
      let i = own.is_child in
      let single = children-single left way was e (left-single q.first old spot outer x at.from.there.parent i (elements_beside ends.to.parent) once low) in
      let parts = subst (λ t. Parts (branches was.children) (branches (inserted index (put_by keeps t) was.children))) own.tree_is
      (put-parts q.first old spot outer x at.from.there.parent i (elements_beside ends.to.parent) once low keeps way was e index) in
      let is_now = some_same (with_children was (inserted index put was.children)) now
      (sym (found-changed (inserted index put) way (root_of left) was e) ∙ sym (ap (λ d. node_at d way) (carried-is apart)) ∙ f) in
      subst (λ g. AreTold was.children g) (ap (λ n. n.children) is_now)
      (parts-told was.children (inserted index put was.children) parts (single-labels was.children single))

  pub are-told : is_path from to ≡ false → AreToldBetween old ends new
  are-told apart = record { leaves = leaves; enters = enters apart }

  -- ---- The change of the move

  by-spots : move_change path other old new ≡ change_by (spot_in ends.site.spot) (spot_in ends.to.spot) old new
  by-spots =
      ap (option_and_then (λ f. option_and_then (λ t. change_by f t old new) (spot_of other))) at.from.spot_is
      ∙ ap (option_and_then (λ t. change_by (spot_in ends.site.spot) t old new)) at.to.is

  abbrev by_way : Bool → Option MoveChange
  by_way b =
      cond b (option_map in_order (change_at false old new from))
      (option_and_then (changes_between (spot_in ends.site.spot) (spot_in ends.to.spot) old new) (node_at old from))

  pub in-order-is : is_path from to ≡ true → option_map in_order (change_at false old new from) ≡ move_change path other old new
  in-order-is same = sym (by-spots ∙ ap by_way same)

  pub between-is : is_path from to ≡ false → between_in old ends new ≡ move_change path other old new
  between-is apart =
      sym (by-spots ∙ ap by_way apart
      ∙ ap (option_and_then (changes_between (spot_in ends.site.spot) (spot_in ends.to.spot) old new)) at.from.there.parent)

-- paths of a move that is accepted have no fault
pub no-fault : (old new : Document ℕ) (path other : List ℕ) (code : EditCode) → IsMove path other old new
    → IsLeast code (origin_faults old path ++ target_faults old (spot_of other)) → ⊥
no-fault old new path other code q least_is = let no = sym q.edited_is ∙ paths_refused old path other code least_is q.first in cc

-- ---- The way to the new parent

pub way-is : (old left : Document ℕ) (ends : Ends) (fewer : ℕ) (way : List ℕ) → IsThere old (spot_in ends.site.spot) ends.site.node.now
    → left ≡ taken_out old ends.site → IsFewerBy old left ends.site.spot.parent.now fewer
    → way ≡ path_below ends.site.spot.parent.now ends.site.spot.position fewer ends.to.spot.parent.now → way ≡ way_to_new old ends
way-is old _ ends fewer _ t is by e =
    e ∙ ap (λ n. path_below ends.site.spot.parent.now ends.site.spot.position n ends.to.spot.parent.now)
    (fewer-is old ends.site fewer t (subst (λ d. IsFewerBy old d ends.site.spot.parent.now fewer) is by))

-- told by the way of a document that is the one without the node
pub enters-by : (old left new : Document ℕ) (ends : Ends) (way : List ℕ) → left ≡ taken_out old ends.site → way ≡ way_to_new old ends
    → AreToldAt (taken_out old ends.site) new (way_to_new old ends) → AreToldAt left new way
enters-by old _ new ends there is e told = subst (λ d. AreToldAt d new there) (sym is) (subst (λ w. AreToldAt (taken_out old ends.site) new w) (sym e) told)

pub both-told : (old left new : Document ℕ) (ends : Ends) (way : List ℕ) → left ≡ taken_out old ends.site → way ≡ way_to_new old ends
    → (l e : Option Change) → l ≡ change_at false old left ends.site.spot.parent.now → e ≡ change_at false left new way
    → option_and_then (λ x. option_map (between x) e) l ≡ between_in old ends new
both-told old _ new ends _ is w l e by_left by_entered =
    (λ i. option_and_then (λ x. option_map (between x) (by_entered i)) (by_left i))
    ∙ (λ i. option_and_then (λ x. option_map (between x) (change_at false (is i) new (w i))) (change_at false old (is i) ends.site.spot.parent.now))

pub none-entered : (l : Option Change) → None ≡ option_and_then (λ x. option_map (between x) None) l
none-entered None = refl
none-entered (Some x) = refl
