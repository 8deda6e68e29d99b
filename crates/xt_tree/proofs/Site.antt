-- The only sibling at or below which a number stands.
use Rattle.std.proofs.Common.{◌≡◌, ℕ, zero, suc, ◌+◌, ◌-◌, ◌<◌, ◌≤◌, ◌==◌, Bool, true, false, cond, List, [], ◌∷◌, length, get_or, Option, Some, None, refl, sym, ap}
use Rattle.std.proofs.Common.{◌∙◌, arith, if◌then◌else◌, ⊎_elim, ◌++◌, append_assoc}
use Rattle.std.specs.Option.{option_map, option_or}
use Rattle.std.proofs.lemmas.Bool.{eqb-true}
use Rattle.std.specs.declared.rc.Rc.{Rc}
use Rattle.std.specs.declared.alloc.Global.{Global}
use Rattle.spec_document.specs.Forest as spec
use Rattle.spec_document.specs.Forest.{Forest, size}
use Rattle.xt_tree.specs.Keys.{last_key, Rises, has_number, keys_of}
use Rattle.xt_tree.specs.declared.node.Node.{Node, out-Node}
use Rattle.xt_tree.specs.View.{tree_of, forest_of, first_tree, way_to}
use Rattle.xt_tree.specs.Step.{IsStep}
use Rattle.xt_tree.proofs.Views.{view-Node}
use Rattle.xt_tree.proofs.Bools.{not_true, or_cases, apart, or_false}

abbrev Siblings : Type 0
Siblings = List (Rc Node Global)

-- ---- Where nothing has a number

pub no_tree : (n : ℕ) (f : Forest ℕ) → has_number n f ≡ false → first_tree n f ≡ None
no_tree n spec.Empty h = refl
no_tree n (spec.Node l c f g) h =
    let own = or_false (l == n) _ h in
    let below = or_false (has_number n f) (has_number n g) own.1 in
    rw (own.0, no_tree n f below.0) (no_tree n g below.1)

pub no_way : (n p : ℕ) (f : Forest ℕ) → has_number n f ≡ false → way_to n p f ≡ None
no_way n p spec.Empty h = refl
no_way n p (spec.Node l c f g) h =
    let own = or_false (l == n) _ h in
    let below = or_false (has_number n f) (has_number n g) own.1 in
    rw (own.0, no_way n 1 f below.0) (no_way n (p + 1) g below.1)

-- ---- Keys and where they stand

pub last-above : (key : ℕ → ℕ) (low : ℕ) (f : Forest ℕ) → Rises key low f → low ≤ last_key key low f
last-above key low spec.Empty h = omega arith
last-above key low (spec.Node l c f g) h =
    let below = last-above key (key l) f h.1 in
    let behind = last-above key (last_key key (key l) f) g h.2 in
    omega (arith, h.0)

-- a node's key lies between the bounds
pub key-range : (key : ℕ → ℕ) (n low : ℕ) (f : Forest ℕ) → Rises key low f → has_number n f ≡ true → (low < key n) × (key n ≤ last_key key low f)
key-range key n low spec.Empty h e = absurd (cc)
key-range key n low (spec.Node l c f g) h e =
    let below = last-above key (key l) f h.1 in
    let behind = last-above key (last_key key (key l) f) g h.2 in
    ⊎_elim
    (λ own. let is : key n ≡ key l = ap key (sym (eqb-true l n own)) in (omega (arith, h.0), omega arith))
    (λ other. ⊎_elim
    (λ e. let r = key-range key n (key l) f h.1 e in (omega (arith, h.0, r.0), omega (arith, r.1)))
    (λ e. let r = key-range key n (last_key key (key l) f) g h.2 e in (omega (arith, h.0, r.0), omega (arith, r.1)))
    (or_cases (has_number n f) (has_number n g) other))
    (or_cases (l == n) _ e)

pub not-above : (key : ℕ → ℕ) (n low : ℕ) (f : Forest ℕ) → Rises key low f → key n ≤ low → has_number n f ≡ false
not-above key n low f h lt = not_true (has_number n f) (λ e. let r = key-range key n low f h e in omega (arith, r.0))

pub not-below : (key : ℕ → ℕ) (n low : ℕ) (f : Forest ℕ) → Rises key low f → last_key key low f < key n → has_number n f ≡ false
not-below key n low f h lt = not_true (has_number n f) (λ e. let r = key-range key n low f h e in omega (arith, r.1))

-- where the first sibling has a higher key
pub before-first : (key : ℕ → ℕ) (n low : ℕ) (xs : Siblings) → Rises key low (forest_of xs) → (0 < length xs → key n < get_or (keys_of key xs) 0 0)
    → has_number n (forest_of xs) ≡ false
before-first key n low [] h lt = refl
before-first key n low (x ∷ xs) h lt =
    let first = key (tree_of x.value).number in
    let less : key n < first = lt (omega arith) in
    let from : first - 1 < first = omega (arith, h.0) in
    not-above key n (first - 1) (forest_of (x ∷ xs)) (from, h.1, h.2) (omega arith)

-- a number stands only at a sibling or below it
abbrev pub OnlyAt : ℕ → Siblings → ℕ → Type 0
OnlyAt n [] i = ⊥
OnlyAt n (x ∷ xs) zero = has_number n (forest_of xs) ≡ false
OnlyAt n (x ∷ xs) (suc i) = ((tree_of x.value).number == n ≡ false) × (has_number n (tree_of x.value).children ≡ false) × OnlyAt n xs i

-- a sibling's key is above the bound
key-above : (key : ℕ → ℕ) (low : ℕ) (xs : Siblings) (i : ℕ) → Rises key low (forest_of xs) → i < length xs → low < get_or (keys_of key xs) i 0
key-above key low [] i h lt = absurd (omega arith)
key-above key low (x ∷ xs) zero h lt = h.0
key-above key low (x ∷ xs) (suc i) h lt =
    let own = key (tree_of x.value).number in
    let below = last-above key own (tree_of x.value).children h.1 in
    let behind = key-above key (last_key key own (tree_of x.value).children) xs i h.2 (omega arith) in
    omega (arith, h.0)

-- the last sibling whose key is no higher is the only one
pub site : (key : ℕ → ℕ) (n low : ℕ) (xs : Siblings) (i : ℕ) → Rises key low (forest_of xs) → i < length xs
    → get_or (keys_of key xs) i 0 ≤ key n → (suc i < length xs → key n < get_or (keys_of key xs) (suc i) 0) → OnlyAt n xs i
site key n low [] i h within le lt = omega arith
site key n low (x ∷ xs) zero h within le lt =
    before-first key n (last_key key (key (tree_of x.value).number) (tree_of x.value).children) xs h.2 (λ some. lt (omega arith))
site key n low (x ∷ xs) (suc i) h within le lt =
    let t = tree_of x.value in
    let below = last-above key (key t.number) t.children h.1 in
    let above = key-above key (last_key key (key t.number) t.children) xs i h.2 (omega arith) in
    let less : last_key key (key t.number) t.children < key n = omega arith in (
      apart t.number n (λ e. let is : key n ≡ key t.number = ap key (sym e) in omega arith),
      not-below key n (key t.number) t.children h.1 less,
      site key n (last_key key (key t.number) t.children) xs i h.2 (omega arith) le (λ some. lt (omega arith)),
    )

-- ---- What follows for a number that stands only there

or_nothing : {A : Type 0} (o : Option A) → option_or o None ≡ o
or_nothing None = refl
or_nothing (Some a) = refl

pub tree-only : (n : ℕ) (xs : Siblings) (i : ℕ) (d : Rc Node Global) → OnlyAt n xs i
    → first_tree n (forest_of xs) ≡ (let t = tree_of (get_or xs i d).value in if t.number == n then Some t else first_tree n t.children)
tree-only n [] i d h = absurd h
tree-only n (x ∷ xs) zero d h =
    let t = tree_of x.value in
    ap (λ o. if t.number == n then Some t else option_or (first_tree n t.children) o) (no_tree n (forest_of xs) h)
    ∙ ap (λ o. if t.number == n then Some t else o) (or_nothing (first_tree n t.children))
tree-only n (x ∷ xs) (suc i) d h = rw (h.0, no_tree n (tree_of x.value).children h.1) (tree-only n xs i d h.2)

pub way-only : (n p : ℕ) (xs : Siblings) (i : ℕ) (d : Rc Node Global) → OnlyAt n xs i
    → way_to n p (forest_of xs)
    ≡ (let t = tree_of (get_or xs i d).value in if t.number == n then Some ((p + i) ∷ []) else option_map (λ way. (p + i) ∷ way) (way_to n 1 t.children))
way-only n p [] i d h = absurd h
way-only n p (x ∷ xs) zero d h =
    let t = tree_of x.value in
    let none : p + 0 ≡ p = omega arith in
    ap (λ o. if t.number == n then Some (p ∷ []) else option_or (option_map (λ way. p ∷ way) (way_to n 1 t.children)) o)
    (no_way n (p + 1) (forest_of xs) h)
    ∙ ap (λ o. if t.number == n then Some (p ∷ []) else o) (or_nothing (option_map (λ way. p ∷ way) (way_to n 1 t.children)))
    ∙ ap (λ q. if t.number == n then Some (q ∷ []) else option_map (λ way. q ∷ way) (way_to n 1 t.children)) (sym none)
way-only n p (x ∷ xs) (suc i) d h =
    let t = tree_of (get_or xs i d).value in
    let more : p + 1 + i ≡ p + suc i = omega arith in
    rw (h.0, no_way n 1 (tree_of x.value).children h.1) (way-only n (p + 1) xs i d h.2
    ∙ ap (λ q. if t.number == n then Some (q ∷ []) else option_map (λ way. q ∷ way) (way_to n 1 t.children)) more)

-- what holds of a sibling's children
children-rise : (key : ℕ → ℕ) (low : ℕ) (xs : Siblings) (i : ℕ) (d : Rc Node Global) → i < length xs → Rises key low (forest_of xs)
    → Rises key (key (tree_of (get_or xs i d).value).number) (tree_of (get_or xs i d).value).children
children-rise key low [] i d lt h = absurd (omega arith)
children-rise key low (x ∷ xs) zero d lt h = h.1
children-rise key low (x ∷ xs) (suc i) d lt h =
    children-rise key (last_key key (key (tree_of x.value).number) (tree_of x.value).children) xs i d (omega arith) h.2

children-smaller : (xs : Siblings) (i : ℕ) (d : Rc Node Global) → i < length xs → size (tree_of (get_or xs i d).value).children < size (forest_of xs)
children-smaller [] i d lt = absurd (omega arith)
children-smaller (x ∷ xs) zero d lt = omega arith
children-smaller (x ∷ xs) (suc i) d lt = let less = children-smaller xs i d (omega arith) in omega arith

-- some sibling stands at a position
pub some_sibling : (xs : Siblings) (i : ℕ) → i < length xs → Rc Node Global
some_sibling [] i lt = absurd (omega arith)
some_sibling (x ∷ xs) i lt = x

-- ---- One step down: to the sibling before the first one of a higher key

pub step : (key : ℕ → ℕ) (n low : ℕ) (xs : Siblings) (i : ℕ) (node : Node) → Rises key low (forest_of xs) → i < length xs
    → get_or (keys_of key xs) i 0 ≤ key n → (suc i < length xs → key n < get_or (keys_of key xs) (suc i) 0)
    → ((other : Rc Node Global) → node ≡ (get_or xs i other).value)
    → IsStep key n xs node (1 + i)
step key n low xs i node h within le lt is =
    let d = some_sibling xs i within in
    let only = site key n low xs i h within le lt in
    rw (is d) (record {
      rises = children-rise key low xs i d within h;
      smaller = children-smaller xs i d within;
      tree = tree-only n xs i d only;
      way = way-only n 1 xs i d only;
    })

-- ---- The node of a step as it is, and its number

numbered_so : (node : Node) (n : ℕ) (b : Bool) → ((out-Node node).id.number == n) ≡ b → ((tree_of node).number == n) ≡ b
numbered_so node n b e = ap (λ t. t.number == n) (view-Node node) ∙ e

pub children-is : (node : Node) (xs : Siblings) → xs ≡ (out-Node node).children.items → (tree_of node).children ≡ forest_of xs
children-is node xs e = ap (λ t. t.children) (view-Node node) ∙ ap forest_of (sym e)

pub step_here : (key : ℕ → ℕ) (n : ℕ) (xs : Siblings) (node : Node) (position : ℕ) → IsStep key n xs node position → ((out-Node node).id.number == n) ≡ true
    → first_tree n (forest_of xs) ≡ Some (tree_of node)
step_here key n xs node position s e =
    s.tree ∙ ap (λ b. cond b (Some (tree_of node)) (first_tree n (tree_of node).children)) (numbered_so node n true e)

pub step_on : (key : ℕ → ℕ) (n : ℕ) (xs ys : Siblings) (node : Node) (position : ℕ) → IsStep key n xs node position
    → ((out-Node node).id.number == n) ≡ false → ys ≡ (out-Node node).children.items
    → first_tree n (forest_of xs) ≡ first_tree n (forest_of ys)
step_on key n xs ys node position s e is =
    s.tree ∙ ap (λ b. cond b (Some (tree_of node)) (first_tree n (tree_of node).children)) (numbered_so node n false e)
    ∙ ap (first_tree n) (children-is node ys is)

pub way_here : (key : ℕ → ℕ) (n : ℕ) (xs : Siblings) (node : Node) (position : ℕ) → IsStep key n xs node position → ((out-Node node).id.number == n) ≡ true
    → way_to n 1 (forest_of xs) ≡ Some (position ∷ [])
way_here key n xs node position s e =
    s.way ∙ ap (λ b. cond b (Some (position ∷ [])) (option_map (λ way. position ∷ way) (way_to n 1 (tree_of node).children))) (numbered_so node n true e)

pub way_on : (key : ℕ → ℕ) (n : ℕ) (xs ys : Siblings) (node : Node) (position : ℕ) → IsStep key n xs node position
    → ((out-Node node).id.number == n) ≡ false → ys ≡ (out-Node node).children.items
    → way_to n 1 (forest_of xs) ≡ option_map (λ way. position ∷ way) (way_to n 1 (forest_of ys))
way_on key n xs ys node position s e is =
    s.way ∙ ap (λ b. cond b (Some (position ∷ [])) (option_map (λ way. position ∷ way) (way_to n 1 (tree_of node).children))) (numbered_so node n false e)
    ∙ ap (λ f. option_map (λ way. position ∷ way) (way_to n 1 f)) (children-is node ys is)

pub step_rises : (key : ℕ → ℕ) (n : ℕ) (xs ys : Siblings) (node : Node) (position : ℕ) → IsStep key n xs node position
    → ys ≡ (out-Node node).children.items → (low : ℕ) × Rises key low (forest_of ys)
step_rises key n xs ys node position s is = (key (tree_of node).number, rw (children-is node ys is) at s.rises)

pub step_smaller : (key : ℕ → ℕ) (n : ℕ) (xs ys : Siblings) (node : Node) (position : ℕ) → IsStep key n xs node position
    → ys ≡ (out-Node node).children.items → size (forest_of ys) < size (forest_of xs)
step_smaller key n xs ys node position s is = rw (children-is node ys is) at s.smaller

-- a way, gone on with
pub joined_way : (path before : List ℕ) (position : ℕ) (way : Option (List ℕ)) → path ≡ before ++ position ∷ []
    → option_map (λ way. path ++ way) way ≡ option_map (λ way. before ++ way) (option_map (λ way. position ∷ way) way)
joined_way path before position None e = refl
joined_way path before position (Some way) e = ap (λ p. Some (p ++ way)) e ∙ ap Some (append_assoc before (position ∷ []) way)
