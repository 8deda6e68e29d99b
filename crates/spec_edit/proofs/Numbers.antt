-- The numbers of nodes through an edit: each stands once, as before or among those that are new.
use Rattle.std.proofs.Common.{cond, ◌≡◌, ◌≤◌, ◌<◌, arith, ℕ, zero, suc, ◌+◌, ◌-◌, ◌==◌, Bool, true, false, not, List}
use Rattle.std.proofs.Common.{[], ◌∷◌, ◌++◌, Option, None, Some, if◌then◌else◌, refl}
use Rattle.std.proofs.Common.{sym, ap, ◌∙◌, eq-eqb, length, map, drop, length-drop, length-append}
use Rattle.std.proofs.lemmas.List.{length-map}
use Rattle.std.specs.Prelude.{Result, Ok, Err, ◌&&◌, ◌||◌, nat_lt, nat_eq}
use Rattle.std.specs.List.{list_any, list_all, IsDistinct, AllByRecursion}
use Rattle.std.proofs.lemmas.Bool.{eqb-true, and_parts, ltb-true, ltb-false}
use Rattle.spec_document.specs.declared.parent.Parent.{Parent}
use Rattle.spec_document.specs.Scope.{Scope}
use Rattle.spec_document.specs.Forest.{Content, Element, Text, Comment, Instruction, Forest, Empty, Node, Document, plain, size, labels, numbered, followed}
use Rattle.spec_document.specs.Fault.{Fault}
use Rattle.spec_document.specs.NodeFaults.{node_faults}
use Rattle.spec_document.specs.Numbering.{number_limit, number_faults}
use Rattle.spec_document.specs.Top.{top_faults, kept}
use Rattle.spec_document.specs.Body.{events_at, line_faults}
use Rattle.spec_document.specs.Balance.{LineNumbers, forest_of, unbalanced_line}
use Rattle.spec_document.specs.Document.{nodes_of, nodes_by, elements_beside, depth_of}
use Rattle.spec_edit.specs.Splice.{below_changed, children_changed, text_before, last_before, met}
use Rattle.spec_edit.specs.Edit.{Edit, Edited, edited_nodes, without_lines}
use Rattle.spec_edit.specs.Judged.{path_of}
use Rattle.spec_edit.proofs.Around.{Around, Here, Below, filled}
use Rattle.spec_edit.proofs.Shapes.{Shape, is_insertion, is_deletion, is_change, is_renewal, shape, anew, ok_same, answer_ok, append_none}

-- ---- How many numbers pass a test

abbrev pub one_if : Bool → ℕ
one_if b = if b then 1 else 0

abbrev pub occurs : (ℕ → Bool) → List ℕ → ℕ
occurs p [] = 0
occurs p (n ∷ ns) = one_if (p n) + occurs p ns

-- the same in a forest
abbrev pub stands : (ℕ → Bool) → Forest ℕ → ℕ
stands p Empty = 0
stands p (Node label content children siblings) = one_if (p label) + stands p children + stands p siblings

-- and around siblings
abbrev pub stands_around : (ℕ → Bool) → Around ℕ → ℕ
stands_around p Here = 0
stands_around p (Below before label content inner after) = stands p before + one_if (p label) + stands_around p inner + stands p after

pub occurs-append : (p : ℕ → Bool) (xs ys : List ℕ) → occurs p (xs ++ ys) ≡ occurs p xs + occurs p ys
occurs-append p [] ys = omega arith
occurs-append p (x ∷ xs) ys = let rest = occurs-append p xs ys in omega arith

pub occurs-labels : (p : ℕ → Bool) (f : Forest ℕ) → occurs p (labels f) ≡ stands p f
occurs-labels p Empty = refl
occurs-labels p (Node l c f s) =
    let below = occurs-labels p f in
    let behind = occurs-labels p s in
    let both = occurs-append p (labels f) (labels s) in
    omega arith

pub stands-followed : (p : ℕ → Bool) (f g : Forest ℕ) → stands p (followed f g) ≡ stands p f + stands p g
stands-followed p Empty g = omega arith
stands-followed p (Node l c f s) g = let rest = stands-followed p s g in omega arith

stands-text : (p : ℕ → Bool) (l : ℕ) (text : List ℕ) (children others : Forest ℕ)
    → stands p (text_before l text children others) ≤ one_if (p l) + stands p children + stands p others
stands-text p l text children Empty = omega arith
stands-text p l text children (Node k (Element n a) f s) = omega arith
stands-text p l text children (Node k (Text t) f s) = omega arith
stands-text p l text children (Node k (Comment t) f s) = omega arith
stands-text p l text children (Node k (Instruction n t) f s) = omega arith

stands-last : (p : ℕ → Bool) (l : ℕ) (c : Content) (children others : Forest ℕ)
    → stands p (last_before l c children others) ≤ one_if (p l) + stands p children + stands p others
stands-last p l (Element n a) children others = omega arith
stands-last p l (Text t) children others = stands-text p l t children others
stands-last p l (Comment t) children others = omega arith
stands-last p l (Instruction n t) children others = omega arith

pub stands-met : (p : ℕ → Bool) (f g : Forest ℕ) → stands p (met f g) ≤ stands p f + stands p g
stands-met p Empty g = omega arith
stands-met p (Node l c f Empty) g = let last = stands-last p l c f g in omega arith
stands-met p (Node l c f (Node k d h s)) g = let rest = stands-met p (Node k d h s) g in omega arith

pub stands-filled : (p : ℕ → Bool) (around : Around ℕ) (f : Forest ℕ) → stands p (filled around f) ≡ stands_around p around + stands p f
stands-filled p Here f = omega arith
stands-filled p (Below before l c inner after) f =
    let below = stands-filled p inner f in
    let whole = stands-followed p before (Node l c (filled inner f) after) in
    omega arith

-- ---- Nodes that are numbered in document order

pub size-numbered : {L : Type 0} (n : ℕ) (f : Forest L) → size (numbered n f) ≡ size f
size-numbered n Empty = refl
size-numbered n (Node l c f s) = λ i. 1 + size-numbered (n + 1) f i + size-numbered (n + 1 + size f) s i

pub size-plain : {L : Type 0} (f : Forest L) → size (plain f) ≡ size f
size-plain Empty = refl
size-plain (Node l c f s) = λ i. 1 + size-plain f i + size-plain s i

-- only places are asked
pub numbered-again : {L : Type 0} (n m : ℕ) (f : Forest L) → numbered n (numbered m f) ≡ numbered n f
numbered-again n m Empty = refl
numbered-again n m (Node l c f s) =
    (λ i. Node n c (numbered-again (n + 1) (m + 1) f i) (numbered (n + 1 + size-numbered (m + 1) f i) (numbered (m + 1 + size f) s)))
    ∙ ap (Node n c (numbered (n + 1) f)) (numbered-again (n + 1 + size f) (m + 1 + size f) s)

pub stands-outside : {L : Type 0} (p : ℕ → Bool) (n : ℕ) (f : Forest L) → ((m : ℕ) → n ≤ m → m < n + size f → p m ≡ false)
    → stands p (numbered n f) ≡ 0
stands-outside p n Empty out = refl
stands-outside p n (Node l c f s) out =
    let own : one_if (p n) ≡ 0 = ap one_if (out n (omega arith) (omega arith)) in
    let below = stands-outside p (n + 1) f (λ m h k. out m (omega arith) (omega arith)) in
    let behind = stands-outside p (n + 1 + size f) s (λ m h k. out m (omega arith) (omega arith)) in
    omega arith

pub unlike : (m n : ℕ) → (m ≡ n → ⊥) → (m == n) ≡ false
unlike m n h =
    elim (m == n) as (λ b. (m == n) ≡ b → b ≡ false) [
      | true ↦ λ e. absurd (h (eqb-true m n e))
      | false ↦ λ _. refl
    ] refl

one-most : (b : Bool) → one_if b ≤ 1
one-most true = omega arith
one-most false = omega arith

pub stands-once : {L : Type 0} (m n : ℕ) (f : Forest L) → stands (λ k. k == m) (numbered n f) ≤ 1
stands-once m n Empty = omega arith
stands-once m n (Node l c f s) =
    by_order (nat_lt m (n + 1)) refl (nat_lt m (n + 1 + size f)) refl (stands-once m (n + 1) f) (stands-once m (n + 1 + size f) s)
  where
    is : ℕ → Bool
    is k = k == m

    by_order : (a : Bool) → nat_lt m (n + 1) ≡ a → (b : Bool) → nat_lt m (n + 1 + size f) ≡ b
        → stands is (numbered (n + 1) f) ≤ 1 → stands is (numbered (n + 1 + size f) s) ≤ 1
        → one_if (is n) + stands is (numbered (n + 1) f) + stands is (numbered (n + 1 + size f) s) ≤ 1
    by_order true e b g h k =
        let here = ltb-true m (n + 1) e in
        let below = stands-outside is (n + 1) f (λ j i o. unlike j m (λ same. omega arith)) in
        let behind = stands-outside is (n + 1 + size f) s (λ j i o. unlike j m (λ same. omega arith)) in
        let own = one-most (is n) in
        omega arith
    by_order false e true g h k =
        let low = ltb-false m (n + 1) e in
        let high = ltb-true m (n + 1 + size f) g in
        let own : one_if (is n) ≡ 0 = ap one_if (unlike n m (λ same. omega arith)) in
        let behind = stands-outside is (n + 1 + size f) s (λ j i o. unlike j m (λ same. omega arith)) in
        omega arith
    by_order false e false g h k =
        let low = ltb-false m (n + 1) e in
        let high = ltb-false m (n + 1 + size f) g in
        let own : one_if (is n) ≡ 0 = ap one_if (unlike n m (λ same. omega arith)) in
        let below = stands-outside is (n + 1) f (λ j i o. unlike j m (λ same. omega arith)) in
        omega arith

-- ---- The nodes of a body

pub length-labels : {L : Type 0} (f : Forest L) → length (labels f) ≡ size f
length-labels Empty = refl
length-labels (Node l c f s) =
    let below = length-labels f in
    let behind = length-labels s in
    let both = length-append (labels f) (labels s) in
    omega arith

map-none : {A B : Type 0} (g : A → B) (xs : List A) → map g xs ≡ [] → xs ≡ []
map-none g [] e = refl
map-none g (x ∷ xs) e = absurd (cc)

-- where no number is over the limit, and there are some
pub within_limit : (first : ℕ) (lines : List ℕ) → number_faults first lines ≡ [] → 1 ≤ length lines → first + length lines ≤ number_limit
within_limit first lines e some =
    let none : length (drop (number_limit - first) lines) ≡ 0 = ap length (map-none _ (drop (number_limit - first) lines) e) in
    let left : length (drop (number_limit - first) lines) ≡ length lines - (number_limit - first) = length-drop (number_limit - first) lines in
    omega arith

-- a forest has lines where it stands, one for each node
pub lines_limit : (first : ℕ) (f : Forest LineNumbers) → number_faults first (map (λ l. l.first) (labels f)) ≡ [] → 1 ≤ size f
    → first + size f ≤ number_limit
lines_limit first f e some =
    let many : length (map (λ (l : LineNumbers). l.first) (labels f)) ≡ size f = length-map (labels f) (λ l. l.first) ∙ length-labels f in
    let limit = within_limit first (map (λ l. l.first) (labels f)) e (omega arith) in
    omega arith

pub size-without : {L : Type 0} (f : Forest L) → size (without_lines f) ≡ size f
size-without Empty = refl
size-without (Node l c f s) = λ i. 1 + size-without f i + size-without s i

-- what is read where a body's lines make nodes
pub record IsRead (scope : Scope) (first : ℕ) (parent : Parent) (body : List (List ℕ)) (nodes : Forest ℕ) : Type 0 where
  pub forest : Forest LineNumbers
  pub balanced : forest_of (events_at body) ≡ Some forest
  pub top : top_faults (elements_beside parent) forest ≡ []
  pub unfaulted : node_faults scope (depth_of parent + 1) forest ≡ []
  pub limited : number_faults first (map (λ l. l.first) (labels (kept (elements_beside parent) forest))) ≡ []
  pub nodes_are : numbered first (kept (elements_beside parent) forest) ≡ nodes

read-steps : (scope : Scope) (first : ℕ) (parent : Parent) (body : List (List ℕ)) (nodes : Forest ℕ) (o : Option (Forest LineNumbers))
    → forest_of (events_at body) ≡ o
    → elim o as (λ _. Result (Forest ℕ) Fault) [
      | None ↦ Err (record { number = 9; line = unbalanced_line None [] (events_at body) })
      | Some forest ↦ nodes_by scope first parent forest
    ] ≡ Ok nodes
    → IsRead scope first parent body nodes
read-steps scope first parent body nodes None e h = absurd (cc)
read-steps scope first parent body nodes (Some forest) e h =
    let others = elements_beside parent in
    let a = answer_ok (top_faults others forest ++ node_faults scope (depth_of parent + 1) forest
    ++ number_faults first (map (λ l. l.first) (labels (kept others forest)))) (Ok (numbered first (kept others forest))) nodes h in
    let outer = append_none (top_faults others forest ++ node_faults scope (depth_of parent + 1) forest)
    (number_faults first (map (λ l. l.first) (labels (kept others forest)))) a.0 in
    let inner = append_none (top_faults others forest) (node_faults scope (depth_of parent + 1) forest) outer.0 in
    record {
      forest = forest;
      balanced = e;
      top = inner.0;
      unfaulted = inner.1;
      limited = outer.1;
      nodes_are = ok_same (numbered first (kept others forest)) nodes a.1;
    }

pub read_nodes : (scope : Scope) (first : ℕ) (parent : Parent) (body : List (List ℕ)) (nodes : Forest ℕ)
    → nodes_of scope first parent body ≡ Ok nodes → IsRead scope first parent body nodes
read_nodes scope first parent body nodes e =
    let a = answer_ok (line_faults body) _ nodes e in read-steps scope first parent body nodes (forest_of (events_at body)) refl a.1

-- they are numbered in document order, and their numbers are below the limit
pub read_numbers : (scope : Scope) (first : ℕ) (parent : Parent) (body : List (List ℕ)) (nodes : Forest ℕ)
    → IsRead scope first parent body nodes → (numbered first nodes ≡ nodes) × (1 ≤ size nodes → first + size nodes ≤ number_limit)
read_numbers scope first parent body nodes r =
    let f = kept (elements_beside parent) r.forest in
    let many : size nodes ≡ size f = ap size (sym r.nodes_are) ∙ size-numbered first f in (
      ap (numbered first) (sym r.nodes_are) ∙ numbered-again first first f ∙ r.nodes_are,
      λ some. let limit = lines_limit first f r.limited (omega arith) in omega arith,
    )

none_given : (first made limit : ℕ) → (1 ≤ made → first + made ≤ limit) → first ≤ limit → first + made ≤ limit
none_given first zero limit h k = omega arith
none_given first (suc made) limit h k = h (omega arith)

pub read_limit : (scope : Scope) (first : ℕ) (parent : Parent) (body : List (List ℕ)) (nodes : Forest ℕ) → IsRead scope first parent body nodes
    → (numbered first nodes ≡ nodes) × (first ≤ number_limit → first + size nodes ≤ number_limit)
read_limit scope first parent body nodes r =
    let numbers = read_numbers scope first parent body nodes r in
    (numbers.0, λ h. none_given first (size nodes) number_limit numbers.1 h)

-- ---- Changes at a place

-- what changes the siblings at a place by so many numbers at most changes the whole forest by no more
stands-below : (p : ℕ → Bool) (more : ℕ) (change : Forest ℕ → Forest ℕ) → ((f : Forest ℕ) → stands p (change f) ≤ stands p f + more)
    → (n : ℕ) (f : Forest ℕ) → stands p (below_changed change n f) ≤ stands p f + more
stands-below p more change most n Empty = omega arith
stands-below p more change most n (Node l c f s) =
    elim (n == 1) as (λ b. stands p (cond b (Node l c (change f) s) (Node l c f (below_changed change (n - 1) s)))
    ≤ one_if (p l) + stands p f + stands p s + more) [
      | true ↦ let below = most f in omega arith
      | false ↦ let behind = stands-below p more change most (n - 1) s in omega arith
    ]

pub stands-changed : (p : ℕ → Bool) (more : ℕ) (change : Forest ℕ → Forest ℕ) → ((f : Forest ℕ) → stands p (change f) ≤ stands p f + more)
    → (ps : List ℕ) (f : Forest ℕ) → stands p (children_changed change ps f) ≤ stands p f + more
stands-changed p more change most [] f = most f
stands-changed p more change most (n ∷ ps) f =
    stands-below p more (children_changed change ps) (stands-changed p more change most ps) n f

-- ---- What an edit makes

-- of these numbers no more stand there than before and among new ones
pub record Grows (first : ℕ) (old new : Forest ℕ) (made : ℕ) : Type 0 where
  pub nodes : Forest ℕ
  pub fresh : numbered first nodes ≡ nodes
  pub many : size nodes ≡ made
  pub limit : 1 ≤ made → first + made ≤ number_limit
  pub most : (p : ℕ → Bool) → stands p new ≤ stands p old + stands p nodes

none_more : (first : ℕ) (old new : Forest ℕ) (made : ℕ) → made ≡ 0 → ((p : ℕ → Bool) → stands p new ≤ stands p old) → Grows first old new made
none_more first old new made none most =
    record {
      nodes = Empty;
      fresh = refl;
      many = sym none;
      limit = λ some. absurd (omega arith);
      most = λ p. let h = most p in omega arith;
    }

pub grows : (first : ℕ) (path : List ℕ) (document : Document ℕ) (new : Edited ℕ) → Shape first path document new → Grows first document.nodes new.nodes new.made
grows first path document new (is_insertion s) =
    let numbers = read_numbers _ first s.parent s.body s.nodes (read_nodes _ first s.parent s.body s.nodes s.read) in
    record {
      nodes = s.nodes;
      fresh = numbers.0;
      many = sym s.made_are;
      limit = λ some. (let made = s.made_are in let limit = numbers.1 (omega arith) in omega arith);
      most = λ p. (
          let old : stands p document.nodes ≡ stands_around p s.around + stands p (followed s.before s.after) =
          ap (stands p) s.whole ∙ stands-filled p s.around (followed s.before s.after) in
          let is : stands p new.nodes ≡ stands_around p s.around + stands p (met s.before (met s.nodes s.after)) =
          ap (stands p) s.nodes_are ∙ stands-filled p s.around (met s.before (met s.nodes s.after)) in
          let all = stands-followed p s.before s.after in
          let outer = stands-met p s.before (met s.nodes s.after) in
          let inner = stands-met p s.nodes s.after in
          omega arith
          );
    }
grows first path document new (is_deletion s) =
    none_more first document.nodes new.nodes new.made s.made_are (λ p.
    let node = Node s.label s.content s.children s.after in
    let old : stands p document.nodes ≡ stands_around p s.around + stands p (followed s.before node) =
    ap (stands p) s.whole ∙ stands-filled p s.around (followed s.before node) in
    let is : stands p new.nodes ≡ stands_around p s.around + stands p (met s.before s.after) =
    ap (stands p) s.nodes_are ∙ stands-filled p s.around (met s.before s.after) in
    let all = stands-followed p s.before node in
    let outer = stands-met p s.before s.after in
    omega arith)
grows first path document new (is_change s) =
    none_more first document.nodes new.nodes new.made s.made_are (λ p.
    let node = Node s.label s.old_content s.children s.after in
    let other = Node s.label s.content s.children s.after in
    let old : stands p document.nodes ≡ stands_around p s.around + stands p (followed s.before node) =
    ap (stands p) s.whole ∙ stands-filled p s.around (followed s.before node) in
    let is : stands p new.nodes ≡ stands_around p s.around + stands p (followed s.before other) =
    ap (stands p) s.nodes_are ∙ stands-filled p s.around (followed s.before other) in
    let all = stands-followed p s.before node in
    let now = stands-followed p s.before other in
    omega arith)
grows first path document new (is_renewal s) =
    let tree = anew s.content s.children in
    record {
      nodes = numbered first tree;
      fresh = numbered-again first first tree;
      many = size-numbered first tree ∙ sym s.made_are;
      limit = λ some. (
          let made = s.made_are in
          let many : size (without_lines tree) ≡ size tree = size-without tree in
          let limit = lines_limit first (without_lines tree) s.limited (omega arith) in
          omega arith
          );
      most = λ p. (
          let node = Node s.label s.old_content s.children s.after in
          let other = Node first s.content (numbered (first + 1) (plain s.children)) s.after in
          let old : stands p document.nodes ≡ stands_around p s.around + stands p (followed s.before node) =
          ap (stands p) s.whole ∙ stands-filled p s.around (followed s.before node) in
          let is : stands p new.nodes ≡ stands_around p s.around + stands p (followed s.before other) =
          ap (stands p) s.nodes_are ∙ stands-filled p s.around (followed s.before other) in
          let all = stands-followed p s.before node in
          let now = stands-followed p s.before other in
          omega arith
          );
    }

-- ---- Each number once, and all below a limit

pub record AreOnce (ns : List ℕ) : Type 0 where
  pub at : (n : ℕ) → occurs (λ m. m == n) ns ≤ 1

pub record AreBelow (limit : ℕ) (ns : List ℕ) : Type 0 where
  pub at : (n : ℕ) → limit ≤ n → occurs (λ m. m == n) ns ≡ 0

pub added-once : (n first : ℕ) (f : Forest ℕ) → numbered first f ≡ f → stands (λ m. m == n) f ≤ 1
added-once n first f e = let once = stands-once n first f in let same = ap (stands (λ m. m == n)) e in omega arith

pub added-earlier : (n first : ℕ) (f : Forest ℕ) → numbered first f ≡ f → n < first → stands (λ m. m == n) f ≡ 0
added-earlier n first f e low =
    ap (stands (λ m. m == n)) (sym e) ∙ stands-outside (λ m. m == n) first f (λ m h k. unlike m n (λ same. omega arith))

pub added-later : (n first : ℕ) (f : Forest ℕ) → numbered first f ≡ f → first + size f ≤ n → stands (λ m. m == n) f ≡ 0
added-later n first f e high =
    ap (stands (λ m. m == n)) (sym e) ∙ stands-outside (λ m. m == n) first f (λ m h k. unlike m n (λ same. omega arith))

-- the numbers of the new nodes are apart from all old ones, which are below the first of them
pub once-grown : (first made root : ℕ) (old new : Forest ℕ) → Grows first old new made → AreBelow first (root ∷ labels old)
    → AreOnce (root ∷ labels old) → AreOnce (root ∷ labels new)
once-grown first made root old new g low once = record { at = λ n. by n (nat_lt n first) refl }
  where
    by : (n : ℕ) (b : Bool) → nat_lt n first ≡ b → occurs (λ m. m == n) (root ∷ labels new) ≤ 1
    by n true e =
        let earlier = ltb-true n first e in
        let now = occurs-labels (λ m. m == n) new in
        let was = occurs-labels (λ m. m == n) old in
        let most = g.most (λ m. m == n) in
        let none = added-earlier n first g.nodes g.fresh earlier in
        let one = once.at n in
        omega arith
    by n false e =
        let now = occurs-labels (λ m. m == n) new in
        let was = occurs-labels (λ m. m == n) old in
        let most = g.most (λ m. m == n) in
        let none = low.at n (ltb-false n first e) in
        let one = added-once n first g.nodes g.fresh in
        omega arith

pub below-grown : (first made root : ℕ) (old new : Forest ℕ) → Grows first old new made → AreBelow first (root ∷ labels old)
    → AreBelow (first + made) (root ∷ labels new)
below-grown first made root old new g low =
    record {
      at = λ n high. (
          let now = occurs-labels (λ m. m == n) new in
          let was = occurs-labels (λ m. m == n) old in
          let most = g.most (λ m. m == n) in
          let none = low.at n (omega arith) in
          let many = g.many in
          let later = added-later n first g.nodes g.fresh (omega arith) in
          omega arith
          );
    }

-- ---- The same by other words

pub below-from : (limit : ℕ) (ns : List ℕ) → list_all (λ n. nat_lt n limit) ns ≡ true → AreBelow limit ns
below-from limit [] h = record { at = λ n k. refl }
below-from limit (m ∷ ns) h =
    let parts = and_parts (nat_lt m limit) (list_all (λ n. nat_lt n limit) ns) h in
    let less = ltb-true m limit parts.0 in
    let rest = below-from limit ns parts.1 in
    record {
      at = λ n k. (
          let own : one_if (m == n) ≡ 0 = ap one_if (unlike m n (λ same. omega arith)) in
          let more = rest.at n k in
          omega arith
          );
    }

one-itself : (n : ℕ) → one_if (n == n) ≡ 1
one-itself n = ap one_if (eq-eqb n n refl)

pub below-to : (limit : ℕ) (ns : List ℕ) → AreBelow limit ns → list_all (λ n. nat_lt n limit) ns ≡ true
below-to limit [] b = refl
below-to limit (m ∷ ns) b =
    both (nat_lt m limit) (list_all (λ n. nat_lt n limit) ns) (less (nat_lt m limit) refl)
    (below-to limit ns (record { at = λ n k. (let none = b.at n k in omega arith) }))
  where
    both : (a b : Bool) → a ≡ true → b ≡ true → (a && b) ≡ true
    both true b h k = k
    both false b h k = absurd (cc)

    less : (a : Bool) → nat_lt m limit ≡ a → nat_lt m limit ≡ true
    less true e = e
    less false e = absurd (let none = b.at m (ltb-false m limit e) in let own = one-itself m in omega arith)

pub among-none : (n : ℕ) (ns : List ℕ) → list_any (λ m. m == n) ns ≡ false → occurs (λ m. m == n) ns ≡ 0
among-none n [] h = refl
among-none n (m ∷ ns) h = by (m == n) h (among-none n ns)
  where
    by : (b : Bool) → (b || list_any (λ m. m == n) ns) ≡ false → (list_any (λ m. m == n) ns ≡ false → occurs (λ m. m == n) ns ≡ 0)
        → one_if b + occurs (λ m. m == n) ns ≡ 0
    by true h rest = absurd (cc)
    by false h rest = let none = rest h in omega arith

pub none-among : (n : ℕ) (ns : List ℕ) → occurs (λ m. m == n) ns ≡ 0 → list_any (λ m. m == n) ns ≡ false
none-among n [] h = refl
none-among n (m ∷ ns) h = by (m == n) h (none-among n ns)
  where
    by : (b : Bool) → one_if b + occurs (λ m. m == n) ns ≡ 0 → (occurs (λ m. m == n) ns ≡ 0 → list_any (λ m. m == n) ns ≡ false)
        → (b || list_any (λ m. m == n) ns) ≡ false
    by true h rest = absurd (omega arith)
    by false h rest = rest (omega arith)

pub once-head : (n : ℕ) (ns : List ℕ) → AreOnce (n ∷ ns) → occurs (λ m. m == n) ns ≡ 0
once-head n ns o = let most = o.at n in let own = one-itself n in omega arith

pub once-tail : (n : ℕ) (ns : List ℕ) → AreOnce (n ∷ ns) → AreOnce ns
once-tail n ns o = record { at = λ m. let most = o.at m in omega arith }

pub once-cons : (n : ℕ) (ns : List ℕ) → occurs (λ m. m == n) ns ≡ 0 → AreOnce ns → AreOnce (n ∷ ns)
once-cons n ns none o = record { at = λ k. by k (n == k) refl }
  where
    by : (k : ℕ) (b : Bool) → (n == k) ≡ b → one_if (n == k) + occurs (λ m. m == k) ns ≤ 1
    by k true e =
        let same = ap (λ j. occurs (λ m. m == j) ns) (eqb-true n k e) in
        let own : one_if (n == k) ≡ 1 = ap one_if e in
        omega arith
    by k false e = let own : one_if (n == k) ≡ 0 = ap one_if e in let most = o.at k in omega arith

-- by any test that says of each whether it stands among the others
pub once-from : (test : List ℕ → Bool) → ((n : ℕ) (ns : List ℕ) → test (n ∷ ns) ≡ (not (list_any (λ m. m == n) ns) && test ns))
    → (ns : List ℕ) → test ns ≡ true → AreOnce ns
once-from test is [] h = record { at = λ n. omega arith }
once-from test is (n ∷ ns) h =
    let parts = and_parts (not (list_any (λ m. m == n) ns)) (test ns) (sym (is n ns) ∙ h) in
    once-cons n ns (among-none n ns (not_true (list_any (λ m. m == n) ns) parts.0)) (once-from test is ns parts.1)
  where
    not_true : (b : Bool) → not b ≡ true → b ≡ false
    not_true true h = absurd (cc)
    not_true false h = refl

pub once-to : (test : List ℕ → Bool) → test [] ≡ true → ((n : ℕ) (ns : List ℕ) → test (n ∷ ns) ≡ (not (list_any (λ m. m == n) ns) && test ns))
    → (ns : List ℕ) → AreOnce ns → test ns ≡ true
once-to test none is [] o = none
once-to test none is (n ∷ ns) o =
    is n ns ∙ (λ i. not (none-among n ns (once-head n ns o) i) && test ns) ∙ once-to test none is ns (once-tail n ns o)

-- and by std's word
apart-none : (n : ℕ) (ns : List ℕ) → AllByRecursion (λ m. nat_eq n m ≡ false) ns → occurs (λ m. m == n) ns ≡ 0
apart-none n [] h = refl
apart-none n (m ∷ ns) h =
    let own : one_if (m == n) ≡ 0 = ap one_if (unlike m n (λ same. distinct_not n m h.0 (sym same))) in
    let rest = apart-none n ns h.1 in
    omega arith
  where
    distinct_not : (a b : ℕ) → nat_eq a b ≡ false → a ≡ b → ⊥
    distinct_not a b e same = let is : true ≡ false = sym (eq-eqb a b same) ∙ e in cc

none-apart : (n : ℕ) (ns : List ℕ) → occurs (λ m. m == n) ns ≡ 0 → AllByRecursion (λ m. nat_eq n m ≡ false) ns
none-apart n [] h = tt
none-apart n (m ∷ ns) h =
    (unlike n m (λ same. let own : one_if (m == n) ≡ 1 = ap one_if (eq-eqb m n (sym same)) in omega arith), none-apart n ns (omega arith))

pub once-distinct : (ns : List ℕ) → IsDistinct nat_eq ns → AreOnce ns
unfolding IsDistinct
once-distinct [] h = record { at = λ n. omega arith }
once-distinct (n ∷ ns) h = once-cons n ns (apart-none n ns h.0) (once-distinct ns h.1)

pub distinct-once : (ns : List ℕ) → AreOnce ns → IsDistinct nat_eq ns
unfolding IsDistinct
distinct-once [] o = tt
distinct-once (n ∷ ns) o = (none-apart n ns (once-head n ns o), distinct-once ns (once-tail n ns o))

-- ---- The numbers of a document through an edit

pub record Numbers (first : ℕ) (root : ℕ) (new : Edited ℕ) : Type 0 where
  pub once : AreOnce (root ∷ labels new.nodes)
  pub below : AreBelow (first + new.made) (root ∷ labels new.nodes)
  pub limit : first ≤ number_limit → first + new.made ≤ number_limit

pub edit_numbers : (first : ℕ) (edit : Edit) (document : Document ℕ) (new : Edited ℕ) → edited_nodes first edit document ≡ Ok new
    → AreOnce (document.root ∷ labels document.nodes) → AreBelow first (document.root ∷ labels document.nodes) → Numbers first document.root new
edit_numbers first edit document new e once low =
    let g = grows first (path_of edit) document new (shape first document new edit e) in
    record {
      once = once-grown first new.made document.root document.nodes new.nodes g low once;
      below = below-grown first new.made document.root document.nodes new.nodes g low;
      limit = λ h. none_given first new.made number_limit g.limit h;
    }
