-- The place of an edit, and what stands there afterwards.
use Rattle.std.proofs.Common.{◌≡◌, ℕ, ◌+◌, ◌≤◌, ◌<◌, Bool, true, false, if◌then◌else◌, List, [], ◌∷◌, length, get_or, Option, Some, None, arith, refl, sym, ap, ◌∙◌, subst}
use Rattle.std.specs.Option.{ForSome, option_map}
use Rattle.std.specs.Prelude.{Result, Ok, IfOk, IfSome}
use Rattle.std.specs.declared.rc.Rc.{Rc}
use Rattle.std.specs.declared.alloc.Global.{Global}
use Rattle.spec_change.specs.Change.{IsEdit}
use Rattle.spec_change.proofs.Changing.{found-changed}
use Rattle.spec_document.specs.Forest.{Content, Forest, Document}
use Rattle.spec_document.specs.Place.{Found, node_at, root_of}
use Rattle.spec_edit.specs.Edit.{Edit, Edited, edited_nodes}
use Rattle.spec_edit.specs.Judged.{path_of}
use Rattle.spec_edit.specs.Splice.{Spot, children_changed, replaced, sibling_count, spot_from, spot_of}
use Rattle.spec_edit.proofs.Around.{some_same}
use Rattle.spec_seen.specs.Seen.{Around, at_root, seen_among}
use Rattle.spec_stylesheet.specs.Sheet.{SpaceRule}
use Rattle.xt_edit.specs.Seam.{is_text, one_of, text_at}
use Rattle.xt_edit.proofs.Seams.{changed-there, one-before, text-there}
use Rattle.xt_tree.specs.View.{forest_of, tree_of}
use Rattle.xt_tree.specs.declared.node.Node.{Node}
use Rattle.xt_strip.specs.Along.{IsSpliced, children_in}
use Rattle.xt_strip.specs.Edited.{gone_by, one_text}
use Rattle.xt_strip.proofs.Edits.{IsMadeAt, made-from, start_of, end_of}
use Rattle.xt_strip.proofs.Sharing.{if_found}

some_apart : {A : Type 0} (x : A) → None ≡ Some x → ⊥
some_apart x e = cc

with_some : {s : Forest ℕ} (o : Option (Found ℕ)) → Some s ≡ option_map (λ node. node.children) o → ForSome o (λ node. s ≡ node.children)
with_some {s} o e x at = some_same s x.children (e ∙ ap (option_map (λ node. node.children)) at)

made-at : (first : ℕ) (edit : Edit) (document : Document ℕ) (new : Edited ℕ) (spot : Spot) (index to : ℕ) (path : List ℕ) → path_of edit ≡ path
    → spot_of path ≡ Some spot → spot.position ≡ index + 1 → to ≡ index + gone_by edit → edited_nodes first edit document ≡ Ok new
    → IsMadeAt index to spot.above document new
made-at first edit document new spot index to [] e s p t h = absurd (cc)
made-at first edit document new spot index to (q ∷ qs) e s p t h =
    let is : spot_from q qs ≡ spot = some_same (spot_from q qs) spot s in
    subst (λ (x : Spot). IsMadeAt index to x.above document new) is
    (made-from first edit document new q qs index to e (ap (λ (x : Spot). x.position) is ∙ p) t h)

-- an edit at a spot below siblings, of which there are enough
pub edit_spliced : (edit : Edit) (old new : Document ℕ) (above : List ℕ) (position index to from till : ℕ) (s : Forest ℕ) → IsEdit edit old new
    → spot_of (path_of edit) ≡ Some (record { above = above; position = position }) → position ≡ index + 1 → to ≡ index + gone_by edit
    → Some s ≡ children_in old above → to ≤ sibling_count s → from ≡ start_of index s → till ≡ end_of to s
    → IsSpliced above from till old new
edit_spliced edit old new above position index to from till s is at p t there within f e =
    let made = made-at is.first edit old is.edited (record { above = above; position = position }) index to (path_of edit) refl at p t is.edited_is in
    let stays = made.stays s within in
    let here = with_some (node_at old above) there in
    let stands : replaced (start_of index s) (end_of to s) stays.others ≡ replaced from till stays.others =
    λ i. replaced (sym f i) (sym e i) stays.others in
    let least = one-before index s in
    record {
      others = stays.others;
      is = is.new_is ∙ ap (λ nodes. record { root = old.root; nodes = nodes }) (
          made.nodes_are
          ∙ changed-there made.change (replaced from till stays.others) above old
          (λ node found. let same = here node found in
          ap made.change (sym same) ∙ stays.is ∙ ap (λ g. g s) stands ∙ ap (replaced from till stays.others) same)
          );
      within = λ node found. let same = ap sibling_count (here node found) in omega arith;
    }

-- the children that stand at the place then
pub children_then : (change : Forest ℕ → Forest ℕ) (old new : Document ℕ) (path : List ℕ) (s t : Forest ℕ)
    → new ≡ record { root = old.root; nodes = children_changed change path old.nodes } → Some s ≡ children_in old path → Some t ≡ children_in new path
    → t ≡ change s
children_then change old new path s t is there now = by (node_at old path) refl there
  where
    by : (o : Option (Found ℕ)) → node_at old path ≡ o → Some s ≡ option_map (λ node. node.children) o → t ≡ change s
    by None at e = absurd (some_apart s (sym e))
    by (Some x) at e =
        let same : s ≡ x.children = some_same s x.children e in
        let found = ap (λ d. children_in d path) is ∙ ap (option_map (λ node. node.children)) (found-changed change path (root_of old) x at) in
        some_same t (change x.children) (now ∙ found) ∙ ap change (sym same)

-- so many stand before it
within_here : {s : Forest ℕ} (n : ℕ) (o : Option (Found ℕ)) → Some s ≡ option_map (λ node. node.children) o
    → ForSome o (λ node. n ≤ sibling_count node.children) → n ≤ sibling_count s
within_here {s} n None e h = absurd (some_apart s (sym e))
within_here {s} n (Some x) e h =
    let same = ap sibling_count (some_same s x.children e) in let least = h x refl in omega arith

-- others stand at the place, whatever its end
pub others_stand : (path : List ℕ) (from to : ℕ) (old new : Document ℕ) (others was now : Forest ℕ) → IsSpliced path from to old new
    → Some was ≡ children_in old path → Some now ≡ children_in new path
    → ((given : Forest ℕ) → now ≡ replaced from to given was → from ≤ sibling_count was → others ≡ given)
    → new ≡ record { root = old.root; nodes = children_changed (replaced from to others) path old.nodes }
others_stand path from to old new others was now s there then_there given =
    let stands = children_then (replaced from to s.others) old new path was now s.is there then_there in
    let same : others ≡ s.others = given s.others stands (within_here from (node_at old path) there s.within) in
    s.is ∙ ap (λ f. record { root = old.root; nodes = children_changed (replaced from to f) path old.nodes }) (sym same)

-- what is seen below the root
pub nodes_after : {E : Type 0} (rules : List SpaceRule) (path : List ℕ) (change : Forest ℕ → Forest ℕ) (old new : Document ℕ) (around : Around) (before seen : Forest ℕ)
    (r : Result (Option (Forest ℕ)) E) → new ≡ record { root = old.root; nodes = children_changed change path old.nodes }
    → around ≡ at_root → before ≡ old.nodes → seen ≡ seen_among rules at_root old.nodes
    → (seen ≡ seen_among rules around before → IfOk r (λ found. IfSome found (λ nodes. nodes ≡ seen_among rules around (children_changed change path before))))
    → IfOk r (λ found. IfSome found (λ nodes. nodes ≡ seen_among rules at_root new.nodes))
nodes_after rules path change old new around before seen r new_is at is shown said =
    if_found r (λ nodes e.
    e ∙ (λ i. seen_among rules (at i) (children_changed change path (is i))) ∙ ap (λ d. seen_among rules at_root d.nodes) (sym new_is))
    (said (shown ∙ (λ i. seen_among rules (sym at i) (sym is i))))

-- ---- Texts among siblings

one-if : (b : Bool) (t : Forest ℕ) → (if b then 1 else 0) ≡ one_of (if b then Some t else None)
one-if true t = refl
one-if false t = refl

pub one_there : (xs : List (Rc Node Global)) (k : ℕ) (x : Rc Node Global) (content : Content) → k < length xs → x ≡ get_or xs k x
    → content ≡ (tree_of x.value).content → one_text content ≡ one_of (text_at k (forest_of xs))
one_there xs k x content h is same =
    one-if (is_text content) _ ∙ ap one_of (sym (text-there xs k x content (is_text content) h is same refl))
