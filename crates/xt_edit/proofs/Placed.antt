-- The nodes that come to another parent, and what is answered there.
use Rattle.std.proofs.Common.{◌≡◌, ◌≤◌, arith, ℕ, zero, suc, ◌+◌, ◌==◌, Bool, true, false, cond, List, [], ◌∷◌, ◌++◌, length, map, refl, sym, ap, ◌∙◌, Option, None, Some}
use Rattle.std.specs.Prelude.{Ok}
use Rattle.std.specs.declared.rc.Rc.{Rc}
use Rattle.std.specs.declared.alloc.Global.{Global}
use Rattle.spec_document.specs.Document.{elements_beside}
use Rattle.spec_document.specs.Fault.{Fault, least, answer_of}
use Rattle.spec_document.specs.Forest.{Content, Element, Text, Comment, Instruction, Document, Forest, Empty, Node as Tree, labels, plain, size}
use Rattle.spec_document.specs.NodeFaults.{node_faults}
use Rattle.spec_document.specs.Numbering.{number_faults, number_limit}
use Rattle.spec_document.specs.Place.{scope_at}
use Rattle.spec_document.specs.Top.{kept, top_faults}
use Rattle.spec_edit.specs.Edit.{Edited, depth_of, without_lines}
use Rattle.spec_edit.proofs.Numbers.{lines_limit, size-numbered, size-plain, size-without}
use Rattle.spec_edit.proofs.Shapes.{append_none}
use Rattle.spec_move.specs.Move.{height_faults, keeps_labels, placed, with_placed}
use Rattle.spec_move.proofs.Numbers.{lines-kept}
use Rattle.xt_edit.specs.Moving.{moved_in, new_parent, old_parent, tree_in}
use Rattle.xt_edit.specs.Placing.{faults_in, is_dropped, placed_in}
use Rattle.xt_edit.specs.Site.{spot_in}
use Rattle.xt_edit.specs.declared.relocation.Ends.{Ends}
use Rattle.xt_edit.proofs.Renewed.{unfaulted, no_least}
use Rattle.xt_tree.specs.declared.node.Node.{Node}
use Rattle.xt_tree.specs.View.{forest_of, tree_of}

abbrev pub moved_to : (keeps : Bool) → ℕ → Document ℕ → Ends → Edited ℕ
moved_to keeps first document ends =
    with_placed (spot_in ends.site.spot) (spot_in ends.to.spot) (old_parent document ends) document (placed_in keeps first ends)

-- where nothing is at fault, the nodes are put there
pub moved-is : (first : ℕ) (document : Document ℕ) (ends : Ends) (keeps : Bool)
    → keeps ≡ keeps_labels (old_parent document ends) (new_parent document ends) → None ≡ least (faults_in document keeps first ends)
    → moved_in first document ends ≡ Ok (moved_to keeps first document ends)
moved-is first document ends keeps is none =
    sym (ap (λ k. answer_of (faults_in document k first ends) (Ok (moved_to k first document ends))) is)
    ∙ unfaulted (faults_in document keeps first ends) (Ok (moved_to keeps first document ends)) none

-- ---- Numbers

if_made : (keeps : Bool) (faults : List Fault) → cond keeps [] faults ≡ [] → keeps ≡ false → faults ≡ []
if_made true faults e is = absurd (cc)
if_made false faults e is = e

not-dropped : (beside : Option ℕ) (content : Content) (children : Forest ℕ) (label : ℕ) → is_dropped beside content ≡ false
    → kept beside (Tree label content children Empty) ≡ Tree label content children Empty
not-dropped None content children label e = refl
not-dropped (Some others) (Element name attributes) children label e = refl
not-dropped (Some others) (Text text) children label e = absurd (cc)
not-dropped (Some others) (Comment text) children label e = refl
not-dropped (Some others) (Instruction target text) children label e = refl

module _ (first : ℕ) (document : Document ℕ) (ends : Ends) (keeps : Bool) (none : None ≡ least (faults_in document keeps first ends)) where
  abbrev beside : Option ℕ
  beside = elements_beside ends.to.parent

  abbrev tree : Forest ℕ
  tree = tree_in ends.site.node.now

  numbered : keeps ≡ false → number_faults first (map (λ l. l.first) (labels (kept beside (without_lines tree)))) ≡ []
  numbered is =
      let new = new_parent document ends in
      let numbers = number_faults first (map (λ l. l.first) (labels (kept beside (without_lines tree)))) in
      if_made keeps numbers
      (append_none (top_faults beside (without_lines tree) ++ node_faults (scope_at new) (depth_of new + 1) (without_lines tree) ++ height_faults new tree)
      (cond keeps [] numbers) (no_least (faults_in document keeps first ends) none)).1 is

  kept-limit : keeps ≡ false → 1 ≤ size (kept beside tree) → first + size (kept beside tree) ≤ number_limit
  kept-limit is some =
      let same : size (kept beside (without_lines tree)) ≡ size (kept beside tree) = ap size (lines-kept beside tree) ∙ size-without (kept beside tree) in
      let limit = lines_limit first (kept beside (without_lines tree)) (numbered is) (omega arith) in
      omega arith

  pub has-room : keeps ≡ false → is_dropped beside (tree_of ends.site.node.now).content ≡ false → first + size tree ≤ number_limit
  has-room is stays =
      let same : size (kept beside tree) ≡ size tree =
      ap size (not-dropped beside (tree_of ends.site.node.now).content (tree_of ends.site.node.now).children (tree_of ends.site.node.now).number stays) in
      let limit = kept-limit is (omega arith) in
      omega arith

  pub nodes-limit : (nodes : Forest ℕ) → nodes ≡ (placed_in keeps first ends).nodes → keeps ≡ false → 1 ≤ size nodes → first + size nodes ≤ number_limit
  nodes-limit nodes e is some =
      let same : size nodes ≡ size (kept beside tree) = ap size (e ∙ ap (λ k. (placed_in k first ends).nodes) is)
      ∙ size-numbered first (plain (kept beside tree)) ∙ size-plain (kept beside tree) in
      let limit = kept-limit is (omega arith) in
      omega arith

-- the number after those that were given
pub next-is : (keeps : Bool) (first : ℕ) (f nodes : Forest ℕ) → nodes ≡ (placed (λ g. g) keeps first f).nodes
    → cond keeps first (first + size nodes) ≡ first + (placed (λ g. g) keeps first f).made
next-is true first f nodes e = omega arith
next-is false first f nodes e = ap (λ n. first + n) (ap size e ∙ size-numbered first (plain f) ∙ size-plain f)

pub some-of : (n : ℕ) → (n == 0) ≡ false → 1 ≤ n
some-of zero e = absurd (cc)
some-of (suc n) e = omega arith

pub some-size : (xs : List (Rc Node Global)) → 1 ≤ length xs → 1 ≤ size (forest_of xs)
some-size [] h = absurd (omega arith)
some-size (x ∷ xs) h = omega arith
