-- Siblings that meet others, taken apart where they meet.
use Rattle.std.proofs.Common.{◌≡◌, ◌≢◌, ◌<◌, ◌≤◌, append_assoc, subst, eq-eqb, arith, ℕ, zero, suc, ◌+◌, ◌-◌, ◌==◌, Bool, true, false, cond, List, []}
use Rattle.std.proofs.Common.{◌∷◌, ◌++◌, length, get_or, if◌then◌else◌, refl, ap, sym, ◌∙◌, Option, None, Some}
use Rattle.std.specs.Option.{option_and_then, ForSome}
use Rattle.std.specs.Prelude.{min, nat_lt}
use Rattle.std.proofs.lemmas.Bool.{eqb-true, ltb-true, ltb-false}
use Rattle.spec_document.specs.Forest.{Content, Element, Text, Comment, Instruction, Forest, Empty, Node, Document, followed}
use Rattle.spec_document.specs.Place.{Found, root_of, found_in, child_at, node_from, node_at}
use Rattle.spec_edit.specs.Splice.{first_siblings, later_siblings, replaced, text_before as before_text, last_before, met, sibling_count}
use Rattle.spec_edit.specs.Splice.{below_changed, children_changed}
use Rattle.std.specs.declared.rc.Rc.{Rc}
use Rattle.std.specs.declared.alloc.Global.{Global}
use Rattle.xt_tree.specs.declared.node.Node.{Node as Code}
use Rattle.xt_tree.specs.View.{tree_of, forest_of}
use Rattle.xt_edit.specs.Seam.{put_in, is_text, text_first, text_at, text_before, one_of, begun, between}

true_false : true ≡ false → ⊥
true_false e = cc

pub met-none : (f : Forest ℕ) → met f Empty ≡ f
met-none Empty = refl
met-none (Node l (Element n a) f Empty) = refl
met-none (Node l (Text t) f Empty) = refl
met-none (Node l (Comment t) f Empty) = refl
met-none (Node l (Instruction n t) f Empty) = refl
met-none (Node l c f (Node k d g h)) = ap (Node l c f) (met-none (Node k d g h))

pub followed-none : (f : Forest ℕ) → followed f Empty ≡ f
followed-none Empty = refl
followed-none (Node l c f s) = ap (Node l c f) (followed-none s)

-- one node before others, of which at least one is there
last_before-more : (l : ℕ) (c : Content) (f : Forest ℕ) (k : ℕ) (d : Content) (g s h : Forest ℕ)
    → last_before l c f (followed (Node k d g s) h) ≡ followed (last_before l c f (Node k d g s)) h
last_before-more l (Element n a) f k d g s h = refl
last_before-more l (Text t) f k (Element n a) g s h = refl
last_before-more l (Text t) f k (Text u) g s h = refl
last_before-more l (Text t) f k (Comment u) g s h = refl
last_before-more l (Text t) f k (Instruction n u) g s h = refl
last_before-more l (Comment t) f k d g s h = refl
last_before-more l (Instruction n t) f k d g s h = refl

pub met-more : (f : Forest ℕ) (k : ℕ) (d : Content) (g s h : Forest ℕ) → met f (followed (Node k d g s) h) ≡ followed (met f (Node k d g s)) h
met-more Empty k d g s h = refl
met-more (Node l c f Empty) k d g s h = last_before-more l c f k d g s h
met-more (Node l c f (Node m e i j)) k d g s h = ap (Node l c f) (met-more (Node m e i j) k d g s h)

-- ---- Three that meet

before-there : (l : ℕ) (c : Content) (f : Forest ℕ) (k : ℕ) (t : List ℕ) (i g h : Forest ℕ)
    → met (Node l c f (before_text k t i g)) h ≡ Node l c f (met (before_text k t i g) h)
before-there l c f k t i Empty h = refl
before-there l c f k t i (Node m (Element n a) g s) h = refl
before-there l c f k t i (Node m (Text u) g s) h = refl
before-there l c f k t i (Node m (Comment u) g s) h = refl
before-there l c f k t i (Node m (Instruction n u) g s) h = refl

met-there : (l : ℕ) (c : Content) (f : Forest ℕ) (k : ℕ) (d : Content) (i j g h : Forest ℕ)
    → met (Node l c f (met (Node k d i j) g)) h ≡ Node l c f (met (met (Node k d i j) g) h)
met-there l c f k (Element n a) i Empty g h = refl
met-there l c f k (Text t) i Empty g h = before-there l c f k t i g h
met-there l c f k (Comment t) i Empty g h = refl
met-there l c f k (Instruction n t) i Empty g h = refl
met-there l c f k d i (Node m e j s) g h = refl

text-assoc : (l : ℕ) (t : List ℕ) (f : Forest ℕ) (k : ℕ) (u : List ℕ) (g h : Forest ℕ)
    → before_text l t f (before_text k u g h) ≡ last_before l (Text (t ++ u)) f h
text-assoc l t f k u g Empty = refl
text-assoc l t f k u g (Node m (Element n a) i j) = refl
text-assoc l t f k u g (Node m (Text v) i j) = ap (λ w. Node l (Text w) f j) (sym (append_assoc t u v))
text-assoc l t f k u g (Node m (Comment v) i j) = refl
text-assoc l t f k u g (Node m (Instruction n v) i j) = refl

last-assoc : (l : ℕ) (t : List ℕ) (f g h : Forest ℕ) → before_text l t f (met g h) ≡ met (before_text l t f g) h
last-assoc l t f Empty h = refl
last-assoc l t f (Node k (Element n a) g Empty) h = refl
last-assoc l t f (Node k (Text u) g Empty) h = text-assoc l t f k u g h
last-assoc l t f (Node k (Comment u) g Empty) h = refl
last-assoc l t f (Node k (Instruction n u) g Empty) h = refl
last-assoc l t f (Node k (Element n a) g (Node m e i j)) h = refl
last-assoc l t f (Node k (Text u) g (Node m e i j)) h = refl
last-assoc l t f (Node k (Comment u) g (Node m e i j)) h = refl
last-assoc l t f (Node k (Instruction n u) g (Node m e i j)) h = refl

node-assoc : (l : ℕ) (c : Content) (f g h : Forest ℕ) → last_before l c f (met g h) ≡ met (last_before l c f g) h
node-assoc l (Text t) f g h = last-assoc l t f g h
node-assoc l (Element n a) f Empty h = refl
node-assoc l (Comment t) f Empty h = refl
node-assoc l (Instruction n t) f Empty h = refl
node-assoc l (Element n a) f (Node k d i j) h = refl
node-assoc l (Comment t) f (Node k d i j) h = refl
node-assoc l (Instruction n t) f (Node k d i j) h = refl

pub met-assoc : (f g h : Forest ℕ) → met f (met g h) ≡ met (met f g) h
met-assoc Empty g h = refl
met-assoc (Node l c f Empty) g h = node-assoc l c f g h
met-assoc (Node l c f (Node k d i j)) g h = ap (Node l c f) (met-assoc (Node k d i j) g h) ∙ sym (met-there l c f k d i j g h)

-- ---- Siblings up to an index, and from it on

pub later-all : (s : Forest ℕ) → later_siblings 0 s ≡ s
later-all Empty = refl
later-all (Node l c f s) = refl

pub first-none : (s : Forest ℕ) → first_siblings 0 s ≡ Empty
first-none Empty = refl
first-none (Node l c f s) = refl

not_zero : (n : ℕ) → 0 < n → (n == 0) ≡ false
not_zero n h = elim (n == 0) as (λ b. (n == 0) ≡ b → b ≡ false) [
  | true ↦ λ e. absurd (let is : n ≡ 0 = eqb-true n 0 e in omega arith)
  | false ↦ λ _. refl
] refl

pub first-more : (n : ℕ) (l : ℕ) (c : Content) (f s : Forest ℕ) → 0 < n → first_siblings n (Node l c f s) ≡ Node l c f (first_siblings (n - 1) s)
first-more n l c f s h = ap (λ b. cond b Empty (Node l c f (first_siblings (n - 1) s))) (not_zero n h)

pub later-more : (n : ℕ) (l : ℕ) (c : Content) (f s : Forest ℕ) → 0 < n → later_siblings n (Node l c f s) ≡ later_siblings (n - 1) s
later-more n l c f s h = ap (λ b. cond b (Node l c f s) (later_siblings (n - 1) s)) (not_zero n h)

later-later : (m n : ℕ) (s : Forest ℕ) → later_siblings (m + n) s ≡ later_siblings n (later_siblings m s)
later-later m n Empty = refl
later-later zero n (Node l c f s) = let e : zero + n ≡ n = omega arith in ap (λ k. later_siblings k (Node l c f s)) e
later-later (suc m) n (Node l c f s) =
    let e : suc m + n - 1 ≡ m + n = omega arith in
    let d : suc m - 1 ≡ m = omega arith in
    later-more (suc m + n) l c f s (omega arith)
    ∙ ap (λ k. later_siblings k s) e
    ∙ later-later m n s
    ∙ ap (λ k. later_siblings n (later_siblings k s)) (sym d)
    ∙ ap (later_siblings n) (sym (later-more (suc m) l c f s (omega arith)))

-- ---- What stands behind

met-apart : (f : Forest ℕ) (l : ℕ) (c : Content) (g h : Forest ℕ) → is_text c ≡ false → met f (Node l c g h) ≡ followed f (Node l c g h)
met-apart Empty l c g h e = refl
met-apart (Node k (Element n a) i Empty) l c g h e = refl
met-apart (Node k (Comment t) i Empty) l c g h e = refl
met-apart (Node k (Instruction n t) i Empty) l c g h e = refl
met-apart (Node k (Text t) i Empty) l (Element n a) g h e = refl
met-apart (Node k (Text t) i Empty) l (Text u) g h e = absurd (cc)
met-apart (Node k (Text t) i Empty) l (Comment u) g h e = refl
met-apart (Node k (Text t) i Empty) l (Instruction n u) g h e = refl
met-apart (Node k d i (Node m e j s)) l c g h p = ap (Node k d i) (met-apart (Node m e j s) l c g h p)

-- a text that stands first is taken to the nodes before it
behind : (nodes later : Forest ℕ) → met nodes later ≡ followed (met nodes (begun (text_first later))) (later_siblings (one_of (text_first later)) later)
behind nodes Empty = met-none nodes ∙ sym (followed-none nodes) ∙ ap (λ f. followed f Empty) (sym (met-none nodes))
behind nodes (Node l c f s) =
    elim (is_text c) as (λ b. is_text c ≡ b → met nodes (Node l c f s)
    ≡ followed (met nodes (begun (cond b (Some (Node l c f Empty)) None)))
    (later_siblings (one_of (cond b (Some (Node l c f Empty)) None)) (Node l c f s))) [
      | true ↦ λ e. met-more nodes l c f Empty s ∙ ap (followed (met nodes (Node l c f Empty))) (sym (later-all s))
      | false ↦ λ e. met-apart nodes l c f s e ∙ ap (λ g. followed g (Node l c f s)) (sym (met-none nodes))
    ] refl

-- ---- What stands before

last-apart : (l : ℕ) (c : Content) (f others : Forest ℕ) → is_text c ≡ false → last_before l c f others ≡ Node l c f others
last-apart l (Element n a) f others e = refl
last-apart l (Text t) f others e = absurd (cc)
last-apart l (Comment t) f others e = refl
last-apart l (Instruction n t) f others e = refl

-- the last of some siblings, where it is a text, is taken to the nodes behind it
abbrev IsParted : ℕ → Forest ℕ → Forest ℕ → Type 0
IsParted n s others =
    met (first_siblings n s) others ≡ followed (first_siblings (n - one_of (text_at (n - 1) s)) s) (met (begun (text_at (n - 1) s)) others)

parted-one : (l : ℕ) (c : Content) (f s others : Forest ℕ) → IsParted 1 (Node l c f s) others
parted-one l c f s others =
    elim (is_text c) as (λ b. is_text c ≡ b → met (first_siblings 1 (Node l c f s)) others
    ≡ followed (first_siblings (1 - one_of (cond b (Some (Node l c f Empty)) None)) (Node l c f s))
    (met (begun (cond b (Some (Node l c f Empty)) None)) others)) [
      | true ↦ λ e. ap (λ g. met (Node l c f g) others) (first-none s)
      | false ↦ λ e. ap (λ g. met (Node l c f g) others) (first-none s) ∙ last-apart l c f others e
          ∙ ap (λ g. followed (Node l c f g) others) (sym (first-none s))
    ] refl

one-small : (o : Option (Forest ℕ)) → one_of o ≤ 1
one-small None = omega arith
one-small (Some t) = omega arith

-- among at least two siblings the first stays where it is
parted-more : (n l : ℕ) (c : Content) (f s others : Forest ℕ) → 1 < n → n - 1 ≤ sibling_count s → IsParted (n - 1) s others → IsParted n (Node l c f s) others
parted-more n l c f Empty others h g e = absurd (omega arith)
parted-more n l c f (Node k d i j) others h g e =
    let s : Forest ℕ = Node k d i j in
    let whole : Forest ℕ = Node l c f s in
    let same : text_at (n - 1) whole ≡ text_at (n - 1 - 1) s = ap text_first (later-more (n - 1) l c f s (omega arith)) in
    let text = text_at (n - 1 - 1) s in
    let small = one-small text in
    let less : n - one_of text - 1 ≡ n - 1 - one_of text = omega arith in
    ap (λ g. met g others) (first-more n l c f s (omega arith) ∙ ap (Node l c f) (first-more (n - 1) k d i j (omega arith)))
    ∙ ap (λ g. Node l c f (met g others)) (sym (first-more (n - 1) k d i j (omega arith)))
    ∙ ap (Node l c f) e
    ∙ ap (λ m. Node l c f (followed (first_siblings m s) (met (begun text) others))) (sym less)
    ∙ ap (λ g. followed g (met (begun text) others)) (sym (first-more (n - one_of text) l c f s (omega arith)))
    ∙ ap (λ t. followed (first_siblings (n - one_of t) whole) (met (begun t) others)) (sym same)

parted : (n : ℕ) (s others : Forest ℕ) → 0 < n → n ≤ sibling_count s → IsParted n s others
parted n Empty others h g = absurd (omega arith)
parted n (Node l c f s) others h g =
    elim (n == 1) as (λ b. (n == 1) ≡ b → IsParted n (Node l c f s) others) [
      | true ↦ λ e. subst (λ m. IsParted m (Node l c f s) others) (sym (eqb-true n 1 e)) (parted-one l c f s others)
      | false ↦ λ e.
          let more : n ≢ 1 = λ is. true_false (sym (eq-eqb n 1 is) ∙ e) in
          parted-more n l c f s others (omega arith) (omega arith) (parted (n - 1) s others (omega arith) (omega arith))
    ] refl

before : (n : ℕ) (s others : Forest ℕ) → n ≤ sibling_count s
    → met (first_siblings n s) others ≡ followed (first_siblings (n - one_of (text_before n s)) s) (met (begun (text_before n s)) others)
before n s others h =
    elim (n == 0) as (λ b. (n == 0) ≡ b → met (first_siblings n s) others
    ≡ followed (first_siblings (n - one_of (cond b None (text_at (n - 1) s))) s) (met (begun (cond b None (text_at (n - 1) s))) others)) [
      | true ↦ λ e.
          let is : n ≡ 0 = eqb-true n 0 e in
          let less : n - 0 ≡ 0 = omega arith in
          let none : first_siblings n s ≡ Empty = ap (λ m. first_siblings m s) is ∙ first-none s in
          let still : first_siblings (n - 0) s ≡ Empty = ap (λ m. first_siblings m s) less ∙ first-none s in
          ap (λ g. met g others) none ∙ ap (λ g. followed g others) (sym still)
      | false ↦ λ e.
          let more : n ≢ 0 = λ is. true_false (sym (eq-eqb n 0 is) ∙ e) in
          parted n s others (omega arith) h
    ] refl

pub one-before : (n : ℕ) (s : Forest ℕ) → one_of (text_before n s) ≤ n
one-before n s =
    elim (n == 0) as (λ b. (n == 0) ≡ b → one_of (cond b None (text_at (n - 1) s)) ≤ n) [
      | true ↦ λ e. omega arith
      | false ↦ λ e.
          let more : n ≢ 0 = λ is. true_false (sym (eq-eqb n 0 is) ∙ e) in
          let small = one-small (text_at (n - 1) s) in
          omega arith
    ] refl

-- ---- Nodes that are put in with the texts beside them

pub seam : (from to : ℕ) (nodes s : Forest ℕ) → from ≤ sibling_count s
    → replaced (from - one_of (text_before from s)) (to + one_of (text_at to s)) (between (text_before from s) nodes (text_at to s)) s
    ≡ put_in from to nodes s
seam from to nodes s h =
    let text = begun (text_before from s) in
    let front = first_siblings (from - one_of (text_before from s)) s in
    let later = later_siblings to s in
    let more = one_of (text_at to s) in
    ap (λ g. followed front (followed (between (text_before from s) nodes (text_at to s)) g)) (later-later to more s)
    ∙ ap (followed front) (sym (behind (met text nodes) later))
    ∙ ap (followed front) (sym (met-assoc text nodes later))
    ∙ sym (before from s (met nodes later) h)

-- ---- Changes where a path leads

below-there : (above : List Content) (f g : Forest ℕ → Forest ℕ) (p : ℕ) (s : Forest ℕ)
    → ((child : Found ℕ) → child_at above s p ≡ Some child → f child.children ≡ g child.children) → below_changed f p s ≡ below_changed g p s
below-there above f g p Empty h = refl
below-there above f g p (Node l c i s) h =
    elim (p == 1) as (λ b. ((child : Found ℕ) → cond b (Some (found_in above l c i)) (child_at above s (p - 1)) ≡ Some child
    → f child.children ≡ g child.children)
    → cond b (Node l c (f i) s) (Node l c i (below_changed f (p - 1) s)) ≡ cond b (Node l c (g i) s) (Node l c i (below_changed g (p - 1) s))) [
      | true ↦ λ k. ap (λ j. Node l c j s) (k (found_in above l c i) refl)
      | false ↦ λ k. ap (Node l c i) (below-there above f g (p - 1) s k)
    ] h

there : (f g : Forest ℕ → Forest ℕ) (path : List ℕ) (node : Found ℕ) → ForSome (node_from path node) (λ n. f n.children ≡ g n.children)
    → children_changed f path node.children ≡ children_changed g path node.children
there f g [] node h = h node refl
there f g (p ∷ path) node h =
    below-there node.above (children_changed f path) (children_changed g path) p node.children
    (λ child e. there f g path child (subst (λ o. ForSome (option_and_then (node_from path) o) (λ n. f n.children ≡ g n.children)) e h))

pub changed-there : (f g : Forest ℕ → Forest ℕ) (path : List ℕ) (document : Document ℕ) → ForSome (node_at document path) (λ n. f n.children ≡ g n.children)
    → children_changed f path document.nodes ≡ children_changed g path document.nodes
changed-there f g path document h = there f g path (root_of document) h

for_some_both : {A : Type 0} (o : Option A) (P Q R : A → Type 0) → ((x : A) → P x → Q x → R x) → ForSome o P → ForSome o Q → ForSome o R
for_some_both o P Q R step p q x e = step x (p x e) (q x e)

-- what is spliced in, with the texts beside it, is put between
spliced-is : (document : Document ℕ) (parent : List ℕ) (from to start end : ℕ) (nodes joined siblings : Forest ℕ) (front back : Option (Forest ℕ))
    → ForSome (node_at document parent) (λ n. siblings ≡ n.children) → ForSome (node_at document parent) (λ n. from ≤ sibling_count n.children)
    → front ≡ text_before from siblings → back ≡ text_at to siblings → start ≡ from - one_of front → end ≡ to + one_of back
    → joined ≡ between front nodes back
    → children_changed (replaced start end joined) parent document.nodes ≡ children_changed (put_in from to nodes) parent document.nodes
spliced-is document parent from to start end nodes joined siblings front back are within f b s e j =
    changed-there (replaced start end joined) (put_in from to nodes) parent document
    (for_some_both (node_at document parent) (λ n. siblings ≡ n.children) (λ n. from ≤ sibling_count n.children)
    (λ n. replaced start end joined n.children ≡ put_in from to nodes n.children)
    (λ n is most.
    let front_is : front ≡ text_before from n.children = f ∙ ap (text_before from) is in
    let back_is : back ≡ text_at to n.children = b ∙ ap (text_at to) is in
    (λ i. replaced (s i) (e i) (j i) n.children)
    ∙ (λ i. replaced (from - one_of (front_is i)) (to + one_of (back_is i)) (between (front_is i) nodes (back_is i)) n.children)
    ∙ seam from to nodes n.children most)
    are within)

-- ---- An index past the last sibling

pub count-length : (xs : List (Rc Code Global)) → sibling_count (forest_of xs) ≡ length xs
count-length [] = refl
count-length (x ∷ xs) = let rest = count-length xs in omega (arith, rest)

first-all : (n : ℕ) (s : Forest ℕ) → sibling_count s ≤ n → first_siblings n s ≡ s
first-all n Empty h = refl
first-all n (Node l c f s) h = first-more n l c f s (omega arith) ∙ ap (Node l c f) (first-all (n - 1) s (omega arith))

-- up to the index, or all of them
first-least : (n m : ℕ) (s : Forest ℕ) → m ≡ min n (sibling_count s) → first_siblings m s ≡ first_siblings n s
first-least n m s e =
    elim (nat_lt n (sibling_count s)) as (λ b. nat_lt n (sibling_count s) ≡ b → first_siblings m s ≡ first_siblings n s) [
      | true ↦ λ k. let less = ltb-true n (sibling_count s) k in let same : m ≡ n = omega arith in ap (λ i. first_siblings i s) same
      | false ↦ λ k. let more = ltb-false n (sibling_count s) k in first-all m s (omega arith) ∙ sym (first-all n s more)
    ] refl

-- the same where an index past the last sibling is the one after it
pub put-is : (document : Document ℕ) (parent : List ℕ) (from to least start end : ℕ) (nodes joined : Forest ℕ) (xs : List (Rc Code Global))
    (front back : Option (Forest ℕ))
    → ForSome (node_at document parent) (λ n. forest_of xs ≡ n.children) → least ≡ min from (length xs)
    → front ≡ text_before least (forest_of xs) → back ≡ text_at to (forest_of xs) → start ≡ least - one_of front → end ≡ to + one_of back
    → joined ≡ between front nodes back
    → children_changed (replaced start end joined) parent document.nodes ≡ children_changed (put_in from to nodes) parent document.nodes
put-is document parent from to least start end nodes joined xs front back are l f b s e j =
    let many = count-length xs in
    spliced-is document parent least to start end nodes joined (forest_of xs) front back are
    (λ n at. let same = ap sibling_count (are n at) in omega arith) f b s e j
    ∙ changed-there (put_in least to nodes) (put_in from to nodes) parent document
    (λ n at.
    let is = are n at in
    let same = ap sibling_count is in
    ap (λ g. met g (met nodes (later_siblings to n.children))) (first-least from least n.children (omega arith)))

-- ---- Nodes that are shared

followed-assoc : (f g h : Forest ℕ) → followed (followed f g) h ≡ followed f (followed g h)
followed-assoc Empty g h = refl
followed-assoc (Node l c f s) g h = ap (Node l c f) (followed-assoc s g h)

pub one-more : (f : Forest ℕ) (x : Rc Code Global) (xs : List (Rc Code Global))
    → followed (followed f (forest_of (x ∷ []))) (forest_of xs) ≡ followed f (forest_of (x ∷ xs))
one-more f x xs = followed-assoc f (forest_of (x ∷ [])) (forest_of xs)

pub met-first : (f new : Forest ℕ) (xs : List (Rc Code Global)) (x : Rc Code Global) (rest : List (Rc Code Global)) → xs ≡ x ∷ rest
    → new ≡ met f (forest_of (x ∷ [])) → followed new (forest_of rest) ≡ met f (forest_of xs)
met-first f new xs x rest e n =
    ap (λ g. followed g (forest_of rest)) n
    ∙ sym (met-more f (tree_of x.value).number (tree_of x.value).content (tree_of x.value).children Empty (forest_of rest))
    ∙ ap (λ ys. met f (forest_of ys)) (sym e)

text_here : (x : Rc Code Global) (rest : Forest ℕ) (b : Bool) → b ≡ is_text (tree_of x.value).content
    → text_first (Node (tree_of x.value).number (tree_of x.value).content (tree_of x.value).children rest)
    ≡ (if b then Some (forest_of (x ∷ [])) else None)
text_here x rest b e = ap (λ d. cond d (Some (forest_of (x ∷ []))) None) (sym e)

text_in : (xs : List (Rc Code Global)) (k : ℕ) (x : Rc Code Global) (b : Bool) → k < length xs → x ≡ get_or xs k x
    → b ≡ is_text (tree_of x.value).content → text_at k (forest_of xs) ≡ (if b then Some (forest_of (x ∷ [])) else None)
text_in [] k x b h is e = absurd (omega arith)
text_in (y ∷ xs) zero x b h is e =
    text_here y (forest_of xs) b (e ∙ ap (λ z. is_text (tree_of z.value).content) is)
    ∙ ap (λ z. cond b (Some (forest_of (z ∷ []))) None) (sym is)
text_in (y ∷ xs) (suc k) x b h is e =
    let less : suc k - 1 ≡ k = omega arith in
    ap text_first (later-more (suc k) (tree_of y.value).number (tree_of y.value).content (tree_of y.value).children (forest_of xs) (omega arith))
    ∙ ap (λ m. text_at m (forest_of xs)) less
    ∙ text_in xs k x b (omega arith) is e

pub text-there : (xs : List (Rc Code Global)) (k : ℕ) (x : Rc Code Global) (content : Content) (b : Bool) → k < length xs → x ≡ get_or xs k x
    → content ≡ (tree_of x.value).content → b ≡ is_text content → text_at k (forest_of xs) ≡ (if b then Some (forest_of (x ∷ [])) else None)
text-there xs k x content b h is c e = text_in xs k x b h is (e ∙ ap is_text c)

pub text-past : (xs : List (Rc Code Global)) (k : ℕ) → length xs ≤ k → text_at k (forest_of xs) ≡ None
text-past [] k h = refl
text-past (y ∷ xs) k h =
    ap text_first (later-more k (tree_of y.value).number (tree_of y.value).content (tree_of y.value).children (forest_of xs) (omega arith))
    ∙ text-past xs (k - 1) (omega arith)
