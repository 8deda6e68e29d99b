-- The numbers of nodes through a move: each stands once, as before or among those of nodes that are made anew.
use Rattle.std.proofs.Common.{◌≡◌, ◌≤◌, arith, ℕ, suc, zero, ◌+◌, ◌-◌, Bool, true, false, List, ◌∷◌, Option, None, Some, refl, sym, ap, ◌∙◌}
use Rattle.std.specs.Prelude.{Ok}
use Rattle.spec_document.specs.Forest.{Content, Element, Text, Comment, Instruction, Forest, Empty, Node}
use Rattle.spec_document.specs.Forest.{Document, plain, size, labels, numbered, followed}
use Rattle.spec_document.specs.Balance.{alone}
use Rattle.spec_document.specs.Numbering.{number_limit}
use Rattle.spec_document.specs.Top.{kept, without_texts}
use Rattle.spec_document.specs.Document.{elements_beside}
use Rattle.spec_edit.specs.Splice.{met, inserted, first_siblings, later_siblings}
use Rattle.spec_edit.specs.Edit.{Edited, without_lines}
use Rattle.spec_edit.proofs.Around.{filled, first-later}
use Rattle.spec_edit.proofs.Shapes.{same_nodes}
use Rattle.spec_edit.proofs.Numbers.{stands, stands_around, stands-followed, stands-met, stands-filled}
use Rattle.spec_edit.proofs.Numbers.{size-numbered, size-plain, size-without, numbered-again}
use Rattle.spec_edit.proofs.Numbers.{lines_limit, stands-changed, Grows, Numbers, AreOnce, AreBelow, once-grown, below-grown}
use Rattle.spec_move.specs.Move.{moved_nodes, placed, path_without}
use Rattle.spec_move.proofs.Shapes.{Reordered, is_later, is_earlier, Carriage, Shape, is_still, is_turn, is_carriage, shape, whole_at}

-- ---- Siblings in another order

reordered-most : (p : ℕ → Bool) (label : ℕ) (content : Content) (children siblings others : Forest ℕ)
    → Reordered label content children siblings others → stands p others ≤ stands p siblings
reordered-most p l c f siblings others (is_later before between after whole is) =
    let old = ap (stands p) whole in
    let now = ap (stands p) is in
    let outer = stands-met p before (met (met between (Node l c f Empty)) after) in
    let middle = stands-met p (met between (Node l c f Empty)) after in
    let inner = stands-met p between (Node l c f Empty) in
    let all = stands-followed p before (Node l c f (followed between after)) in
    let rest = stands-followed p between after in
    omega arith
reordered-most p l c f siblings others (is_earlier before between after whole is) =
    let old = ap (stands p) whole in
    let now = ap (stands p) is in
    let outer = stands-met p before (met (met (Node l c f Empty) between) after) in
    let middle = stands-met p (met (Node l c f Empty) between) after in
    let inner = stands-met p (Node l c f Empty) between in
    let all = stands-followed p before (followed between (Node l c f after)) in
    let rest = stands-followed p between (Node l c f after) in
    omega arith

-- ---- What is put in

without-most : (p : ℕ → Bool) (f : Forest ℕ) → stands p (without_texts f) ≤ stands p f
without-most p Empty = omega arith
without-most p (Node l (Element n a) f s) = let rest = without-most p s in omega arith
without-most p (Node l (Text t) f s) = let rest = without-most p s in omega arith
without-most p (Node l (Comment t) f s) = let rest = without-most p s in omega arith
without-most p (Node l (Instruction n t) f s) = let rest = without-most p s in omega arith

kept-most : (p : ℕ → Bool) (beside : Option ℕ) (f : Forest ℕ) → stands p (kept beside f) ≤ stands p f
kept-most p None f = omega arith
kept-most p (Some others) f = without-most p f

lines-without : {L : Type 0} (f : Forest L) → without_texts (without_lines f) ≡ without_lines (without_texts f)
lines-without Empty = refl
lines-without (Node l (Element n a) f s) = ap (Node (alone 0) (Element n a) (without_lines f)) (lines-without s)
lines-without (Node l (Text t) f s) = lines-without s
lines-without (Node l (Comment t) f s) = ap (Node (alone 0) (Comment t) (without_lines f)) (lines-without s)
lines-without (Node l (Instruction n t) f s) = ap (Node (alone 0) (Instruction n t) (without_lines f)) (lines-without s)

pub lines-kept : {L : Type 0} (beside : Option ℕ) (f : Forest L) → kept beside (without_lines f) ≡ without_lines (kept beside f)
lines-kept None f = refl
lines-kept (Some others) f = lines-without f

-- where these come to what is left, no number stands more often
inserted-most : (p : ℕ → Bool) (n : ℕ) (nodes f : Forest ℕ) → stands p (inserted n nodes f) ≤ stands p f + stands p nodes
inserted-most p n nodes f =
    let outer = stands-met p (first_siblings n f) (met nodes (later_siblings n f)) in
    let inner = stands-met p nodes (later_siblings n f) in
    let all = stands-followed p (first_siblings n f) (later_siblings n f) in
    let same = ap (stands p) (first-later n f) in
    omega arith

-- ---- Moves

none_more : (first : ℕ) (old new : Forest ℕ) (made : ℕ) → made ≡ 0 → ((p : ℕ → Bool) → stands p new ≤ stands p old) → Grows first old new made
none_more first old new made none most =
    record {
      nodes = Empty;
      fresh = refl;
      many = sym none;
      limit = λ some. absurd (omega arith);
      most = λ p. let h = most p in omega arith;
    }

-- the tree is gone, and the nodes that are put in have come
carried-most : (first : ℕ) (path : List ℕ) (document : Document ℕ) (new : Edited ℕ) (c : Carriage first path document new) (p : ℕ → Bool)
    → stands p new.nodes + stands p c.tree ≤ stands p document.nodes + stands p c.nodes.nodes
carried-most first path document new c p =
    let s = c.place in
    let i = s.child in
    let around = s.below.around in
    let left = filled around (met i.before i.after) in
    let node = Node i.label i.content i.children i.after in
    let old : stands p document.nodes ≡ stands_around p around + stands p (followed i.before node) =
    ap (stands p) (whole_at document c.from c.node s) ∙ stands-filled p around (followed i.before node) in
    let rest : stands p left ≡ stands_around p around + stands p (met i.before i.after) = stands-filled p around (met i.before i.after) in
    let all = stands-followed p i.before node in
    let fewer = stands-met p i.before i.after in
    let own = ap (stands p) c.tree_is in
    let is = ap (stands p) c.nodes_are in
    let n = c.to.position - 1 in
    let now = stands-changed p (stands p c.nodes.nodes) (inserted n c.nodes.nodes) (inserted-most p n c.nodes.nodes)
    (path_without c.from s.parent c.to.above) left in
    omega arith

carried-grows : (first : ℕ) (path : List ℕ) (document : Document ℕ) (new : Edited ℕ) (c : Carriage first path document new) (keeps : Bool)
    → c.keeps ≡ keeps → c.nodes ≡ placed same_nodes keeps first (kept (elements_beside c.parent) c.tree)
    → Grows first document.nodes new.nodes new.made
carried-grows first path document new c true e is =
    none_more first document.nodes new.nodes new.made (c.made_are ∙ ap (λ n. n.made) is) (λ p.
    let most = carried-most first path document new c p in
    let put : stands p c.nodes.nodes ≡ stands p (kept (elements_beside c.parent) c.tree) = ap (λ n. stands p n.nodes) is in
    let some = kept-most p (elements_beside c.parent) c.tree in
    omega arith)
carried-grows first path document new c false e is =
    let beside = elements_beside c.parent in
    let own = kept beside c.tree in
    let fresh = numbered first (plain own) in
    let many : size fresh ≡ size own = size-numbered first (plain own) ∙ size-plain own in
    let made : new.made ≡ size own = c.made_are ∙ ap (λ n. n.made) is in
    let lines : size (kept beside (without_lines c.tree)) ≡ size own = ap size (lines-kept beside c.tree) ∙ size-without own in
    record {
      nodes = fresh;
      fresh = numbered-again first first (plain own);
      many = many ∙ sym made;
      limit = λ some. let limit = lines_limit first (kept beside (without_lines c.tree)) (c.limited e) (omega arith) in omega arith;
      most = λ p. (
          let most = carried-most first path document new c p in
          let put : stands p c.nodes.nodes ≡ stands p fresh = ap (λ n. stands p n.nodes) is in
          omega arith
          );
    }

pub grows : (first : ℕ) (path : List ℕ) (document : Document ℕ) (new : Edited ℕ) → Shape first path document new
    → Grows first document.nodes new.nodes new.made
grows first path document new (is_still is none) =
    none_more first document.nodes new.nodes new.made none (λ p. let same = ap (stands p) is in omega arith)
grows first path document new (is_turn t) =
    none_more first document.nodes new.nodes new.made t.made_are (λ p.
    let old : stands p document.nodes ≡ stands_around p t.around + stands p t.siblings =
    ap (stands p) t.whole ∙ stands-filled p t.around t.siblings in
    let now : stands p new.nodes ≡ stands_around p t.around + stands p t.others =
    ap (stands p) t.nodes_are ∙ stands-filled p t.around t.others in
    let most = reordered-most p t.label t.content t.children t.siblings t.others t.order in
    omega arith)
grows first path document new (is_carriage c) = carried-grows first path document new c c.keeps refl c.nodes_put

none_given : (first made limit : ℕ) → (1 ≤ made → first + made ≤ limit) → first ≤ limit → first + made ≤ limit
none_given first zero limit h k = omega arith
none_given first (suc made) limit h k = h (omega arith)

pub move_numbers : (first : ℕ) (path other : List ℕ) (document : Document ℕ) (new : Edited ℕ) → moved_nodes first path other document ≡ Ok new
    → AreOnce (document.root ∷ labels document.nodes) → AreBelow first (document.root ∷ labels document.nodes) → Numbers first document.root new
move_numbers first path other document new e once low =
    let g = grows first path document new (shape first path other document new e) in
    record {
      once = once-grown first new.made document.root document.nodes new.nodes g low once;
      below = below-grown first new.made document.root document.nodes new.nodes g low;
      limit = λ h. none_given first new.made number_limit g.limit h;
    }
