-- What a move makes of the children of the nodes that the moved one leaves and comes to.
use Rattle.std.proofs.Common.{◌≡◌, ◌≤◌, ◌<◌, arith, ℕ, ◌+◌, ◌-◌, ◌==◌, Bool, true, false, List, ◌∷◌, ◌++◌, Option, None, Some, refl, sym, ap, ◌∙◌, subst}
use Rattle.std.specs.Prelude.{nat_lt}
use Rattle.std.proofs.lemmas.Bool.{ltb-true, ltb-false}
use Rattle.spec_document.specs.Forest.{Element, Text, Comment, Instruction, Forest, Empty, Node, Document, labels, plain, numbered, followed}
use Rattle.spec_document.specs.Place.{Found, root_of, node_at}
use Rattle.spec_document.specs.Top.{kept, without_texts}
use Rattle.spec_edit.specs.Splice.{Spot, first_siblings, later_siblings, children_changed, met, inserted, deleted}
use Rattle.spec_edit.proofs.Around.{IsChild, below, filled, first-later}
use Rattle.spec_edit.proofs.Shapes.{same_nodes}
use Rattle.spec_edit.proofs.Numbers.{occurs, occurs-labels, stands, stands-filled, stands-followed, stands-met}
use Rattle.spec_edit.proofs.Numbers.{added-earlier, numbered-again, AreOnce, AreBelow}
use Rattle.spec_change.proofs.Branches.{branch, branches, flat-branches, branches-followed, meets}
use Rattle.spec_move.specs.Move.{placed, rearranged}
use Rattle.spec_move.proofs.Shapes.{reordered}
use Rattle.xt_edit.specs.Reordered.{IsReordered}
use Rattle.xt_edit.proofs.Apart.{AreApart, Parts, deletion-parts, insertion-parts}
use Rattle.xt_edit.proofs.Reordering.{times, others-told, itself-told}

-- each number stands once
abbrev pub AreSingle : Forest ℕ → Type 0
AreSingle f = (n : ℕ) → stands (λ m. m == n) f ≤ 1

pub times-branches : (n : ℕ) (f : Forest ℕ) → times n (branches f) ≡ stands (λ m. m == n) f
times-branches n f = ap (occurs (λ m. m == n)) (flat-branches f) ∙ occurs-labels (λ m. m == n) f

pub once-single : (document : Document ℕ) → AreOnce (document.root ∷ labels document.nodes) → AreSingle document.nodes
once-single document once n = let one = once.at n in let sum = occurs-labels (λ m. m == n) document.nodes in omega arith

-- below a node there are no more than in the document
pub children-most : (document : Document ℕ) (path : List ℕ) (was : Found ℕ) → node_at document path ≡ Some was → (p : ℕ → Bool)
    → stands p was.children ≤ stands p document.nodes
children-most document path was at p =
    let b = below path (root_of document) was at in
    let whole = ap (stands p) b.whole ∙ stands-filled p b.around was.children in
    omega arith

pub children-single : (document : Document ℕ) (path : List ℕ) (was : Found ℕ) → node_at document path ≡ Some was → AreSingle document.nodes
    → AreSingle was.children
children-single document path was at single n =
    let most = children-most document path was at (λ m. m == n) in let one = single n in omega arith

labels-single : (f : Forest ℕ) → AreSingle f → (n : ℕ) → occurs (λ m. m == n) (labels f) ≤ 1
labels-single f single n = let is = occurs-labels (λ m. m == n) f in let one = single n in omega arith

-- ---- Within one parent

module _ (position : ℕ) (old x : Found ℕ) (i : IsChild old.above old.children position x) (single : AreSingle old.children) where
  abbrev tree : Forest ℕ
  tree = Node i.label i.content i.children Empty

  pub rearranged-told : (to : ℕ) → IsReordered i.label old.children (rearranged (position - 1) to tree old.children)
  rearranged-told to =
      others-told i.label i.content i.children old.children (rearranged (position - 1) to tree old.children)
      (reordered old.above old.children position to x i) (labels-single old.children single)

  pub still-told : IsReordered i.label old.children old.children
  still-told = itself-told i.label i.content i.children i.before i.after old.children i.whole (labels-single old.children single)

-- ---- Where the node is taken away

left-siblings : (position : ℕ) (old x : Found ℕ) (i : IsChild old.above old.children position x)
    → deleted (position - 1) old.children ≡ met i.before i.after
left-siblings position old x i =
    let positive = i.from in
    let more : position - 1 + 1 ≡ position = omega arith in
    ap (λ n. met (first_siblings (position - 1) old.children) (later_siblings n old.children)) more ∙ (λ j. met (i.first j) (i.later j))

pub left-parts : (position : ℕ) (old x : Found ℕ) (i : IsChild old.above old.children position x)
    → Parts (branches old.children) (branches (deleted (position - 1) old.children))
left-parts position old x i =
    subst (λ bs. Parts bs (branches (deleted (position - 1) old.children)))
    (sym (ap branches i.whole ∙ branches-followed i.before (Node i.label i.content i.children i.after)))
    (subst (λ f. Parts (branches i.before ++ (branch i.label i.children ∷ branches i.after)) (branches f)) (sym (left-siblings position old x i))
    (deletion-parts (branches i.before) (branch i.label i.children) (branches i.after) (branches (met i.before i.after)) (meets i.before i.after)))

-- ---- Where nodes are put in

pub entered-parts : (index : ℕ) (nodes children : Forest ℕ) → AreApart (branches children) (branches nodes)
    → Parts (branches children) (branches (inserted index nodes children))
entered-parts index nodes children apart =
    let before = first_siblings index children in
    let after = later_siblings index children in
    let whole : branches children ≡ branches before ++ branches after = ap branches (sym (first-later index children)) ∙ branches-followed before after in
    subst (λ bs. Parts bs (branches (inserted index nodes children))) (sym whole)
    (insertion-parts (branches before) (branches nodes) (branches after) (branches (met nodes after)) (branches (met before (met nodes after)))
    (subst (λ bs. AreApart bs (branches nodes)) whole apart) (meets nodes after) (meets before (met nodes after)))

without-most : (p : ℕ → Bool) (f : Forest ℕ) → stands p (without_texts f) ≤ stands p f
without-most p Empty = omega arith
without-most p (Node l (Element n a) f s) = let rest = without-most p s in omega arith
without-most p (Node l (Text t) f s) = let rest = without-most p s in omega arith
without-most p (Node l (Comment t) f s) = let rest = without-most p s in omega arith
without-most p (Node l (Instruction n t) f s) = let rest = without-most p s in omega arith

kept-most : (p : ℕ → Bool) (beside : Option ℕ) (f : Forest ℕ) → stands p (kept beside f) ≤ stands p f
kept-most p None f = omega arith
kept-most p (Some others) f = without-most p f

module _ (first : ℕ) (document : Document ℕ) (from : Spot) (old x : Found ℕ) (at : node_at document from.above ≡ Some old)
    (i : IsChild old.above old.children from.position x) (beside : Option ℕ)
    (once : AreOnce (document.root ∷ labels document.nodes)) (low : AreBelow first (document.root ∷ labels document.nodes)) where
  abbrev own : Forest ℕ
  own = Node i.label i.content i.children Empty

  abbrev left : Forest ℕ
  left = children_changed (deleted (from.position - 1)) from.above document.nodes

  pub left-most : (p : ℕ → Bool) → stands p left + stands p own ≤ stands p document.nodes
  left-most p =
      let b = below from.above (root_of document) old at in
      let now = ap (stands p) (b.changed (deleted (from.position - 1)) ∙ ap (filled b.around) (left-siblings from.position old x i))
      ∙ stands-filled p b.around (met i.before i.after) in
      let was = ap (stands p) (b.whole ∙ ap (filled b.around) i.whole)
      ∙ stands-filled p b.around (followed i.before (Node i.label i.content i.children i.after)) in
      let all = stands-followed p i.before (Node i.label i.content i.children i.after) in
      let fewer = stands-met p i.before i.after in
      omega arith

  pub left-single : AreSingle left
  left-single n = let most = left-most (λ m. m == n) in let one = once-single document once n in omega arith

  earlier : (k : ℕ) → 1 ≤ stands (λ m. m == k) left → k < first
  earlier k some = by (nat_lt k first) refl
    where
      by : (b : Bool) → nat_lt k first ≡ b → k < first
      by true e = ltb-true k first e
      by false e = absurd (
          let none = low.at k (ltb-false k first e) in
          let most = left-most (λ m. m == k) in
          let sum = occurs-labels (λ m. m == k) document.nodes in
          omega arith
          )

  -- the numbers of what is put in do not stand in what is left
  put-fresh : (keeps : Bool) (k : ℕ) → 1 ≤ stands (λ m. m == k) left
      → stands (λ m. m == k) (placed same_nodes keeps first (kept beside own)).nodes ≡ 0
  put-fresh true k some =
      let most = left-most (λ m. m == k) in
      let kept_own = kept-most (λ m. m == k) beside own in
      let one = once-single document once k in
      omega arith
  put-fresh false k some =
      let nodes = plain (kept beside own) in added-earlier k first (numbered first nodes) (numbered-again first first nodes) (earlier k some)

  pub put-parts : (keeps : Bool) (path : List ℕ) (was : Found ℕ) → node_at (record { root = document.root; nodes = left }) path ≡ Some was
      → (index : ℕ)
      → Parts (branches was.children) (branches (inserted index (placed same_nodes keeps first (kept beside own)).nodes was.children))
  put-parts keeps path was there index =
      let nodes = (placed same_nodes keeps first (kept beside own)).nodes in
      entered-parts index nodes was.children (λ n some. (
      let most = children-most (record { root = document.root; nodes = left }) path was there (λ m. m == n) in
      let old_is = times-branches n was.children in
      let new_is = times-branches n nodes in
      let none = put-fresh keeps n (omega arith) in
      omega arith
      ))
