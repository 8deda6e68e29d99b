-- Siblings by their indices and positions, and the keys before and behind them.
use Rattle.std.proofs.Common.{◌≡◌, ◌⊎◌, ℕ, zero, suc, ◌-◌, ◌<◌, ◌≤◌, ◌==◌, true, false, cond, min, List, [], ◌∷◌, ◌++◌, length, take}
use Rattle.std.proofs.Common.{drop, get_or, refl, sym, ap, ◌∙◌, arith}
use Rattle.std.proofs.Common.{Option, Some, None, inl, inr, ⊎_elim}
use Rattle.std.proofs.lemmas.List.{drop_all, take_all, take_min}
use Rattle.std.proofs.lemmas.Bool.{eqb-true}
use borrow.Author.Tests.{leb-true, leb-false}
use Rattle.std.proofs.Math.Dec.{leb}
use Rattle.std.specs.declared.rc.Rc.{Rc}
use Rattle.std.specs.declared.alloc.Global.{Global}
use Rattle.spec_document.specs.Forest as spec
use Rattle.spec_document.specs.Forest.{Forest, size, followed}
use Rattle.spec_edit.specs.Splice.{first_siblings, later_siblings, replaced}
use Rattle.xt_tree.specs.declared.node.Node.{Node}
use Rattle.xt_tree.specs.Keys.{last_key}
use Rattle.xt_tree.specs.Room.{Between, first_key, room_below}
use Rattle.xt_tree.specs.View.{Tree, tree_of, tree_at, forest_of}
use Rattle.xt_tree.proofs.Bools.{apart}
use Rattle.xt_tree.proofs.Distinct.{none_some, some_same}
use Rattle.xt_tree.proofs.Site.{some_sibling}
use Rattle.xt_tree.proofs.Views.{tree_at-zero, forest_of-append}

abbrev pub Siblings : Type 0
Siblings = List (Rc Node Global)

some_is : (n : ℕ) → (suc n == 0) ≡ false
some_is n = apart (suc n) 0 (λ e. omega arith)

before_it : (n : ℕ) → suc n - 1 ≡ n
before_it n = omega arith

-- ---- The first siblings and the others

pub first-take : (n : ℕ) (xs : Siblings) → first_siblings n (forest_of xs) ≡ forest_of (take n xs)
first-take zero [] = refl
first-take (suc n) [] = refl
first-take zero (x ∷ xs) = refl
first-take (suc n) (x ∷ xs) =
    let t = tree_of x.value in
    ap (λ b. cond b spec.Empty (spec.Node t.number t.content t.children (first_siblings (suc n - 1) (forest_of xs)))) (some_is n)
    ∙ ap (λ m. spec.Node t.number t.content t.children (first_siblings m (forest_of xs))) (before_it n)
    ∙ ap (spec.Node t.number t.content t.children) (first-take n xs)

pub later-drop : (n : ℕ) (xs : Siblings) → later_siblings n (forest_of xs) ≡ forest_of (drop n xs)
later-drop zero [] = refl
later-drop (suc n) [] = refl
later-drop zero (x ∷ xs) = refl
later-drop (suc n) (x ∷ xs) =
    ap (λ b. cond b (forest_of (x ∷ xs)) (later_siblings (suc n - 1) (forest_of xs))) (some_is n)
    ∙ ap (λ m. later_siblings m (forest_of xs)) (before_it n) ∙ later-drop n xs

drop-min : (n : ℕ) (xs : Siblings) → drop (min n (length xs)) xs ≡ drop n xs
drop-min n xs =
    ⊎_elim (λ h. ap (λ m. drop m xs) (min-left n (length xs) h))
    (λ h. ap (λ m. drop m xs) (min-right n (length xs) h) ∙ drop_all (length xs) xs (omega arith) ∙ sym (drop_all n xs h)) (either n (length xs))
  where
    either : (m k : ℕ) → (m ≤ k) ⊎ (k ≤ m)
    either m k = elim (leb m k) as (λ b. leb m k ≡ b → (m ≤ k) ⊎ (k ≤ m)) [
      | true ↦ λ e. inl (leb-true m k e)
      | false ↦ λ e. inr (omega (arith, leb-false m k e))
    ] refl

    min-left : (m k : ℕ) → m ≤ k → min m k ≡ m
    min-left m k h = omega arith

    min-right : (m k : ℕ) → k ≤ m → min m k ≡ k
    min-right m k h = omega arith

-- ---- Keys by indices

pub first-past : (key : ℕ → ℕ) (n high : ℕ) (xs : Siblings) → length xs ≤ n → first_key key high (later_siblings n (forest_of xs)) ≡ high
first-past key n high xs h = ap (first_key key high) (later-drop n xs ∙ ap forest_of (drop_all n xs h))

first-at : (key : ℕ → ℕ) (n high : ℕ) (xs : Siblings) (d : Rc Node Global) → n < length xs
    → first_key key high (later_siblings n (forest_of xs)) ≡ key (tree_of (get_or xs n d).value).number
first-at key n high [] d h = absurd (omega arith)
first-at key zero high (x ∷ xs) d h = refl
first-at key (suc n) high (x ∷ xs) d h =
    ap (λ b. first_key key high (cond b (forest_of (x ∷ xs)) (later_siblings (suc n - 1) (forest_of xs)))) (some_is n)
    ∙ ap (λ m. first_key key high (later_siblings m (forest_of xs))) (before_it n) ∙ first-at key n high xs d (omega arith)

last-at : (key : ℕ → ℕ) (n low : ℕ) (xs : Siblings) (d : Rc Node Global) → n < length xs
    → last_key key low (first_siblings (suc n) (forest_of xs))
    ≡ last_key key (key (tree_of (get_or xs n d).value).number) (tree_of (get_or xs n d).value).children
last-at key n low [] d h = absurd (omega arith)
last-at key zero low (x ∷ xs) d h = ap (last_key key low) (first-take 1 (x ∷ xs))
last-at key (suc n) low (x ∷ xs) d h =
    let below = last_key key (key (tree_of x.value).number) (tree_of x.value).children in
    ap (last_key key low) (first-take (suc (suc n)) (x ∷ xs)) ∙ ap (last_key key below) (sym (first-take (suc n) xs))
    ∙ last-at key n below xs d (omega arith)

size-sibling : (n : ℕ) (xs : Siblings) (d : Rc Node Global) → n < length xs → size (tree_of (get_or xs n d).value).children < size (forest_of xs)
size-sibling n [] d h = absurd (omega arith)
size-sibling zero (x ∷ xs) d h = omega arith
size-sibling (suc n) (x ∷ xs) d h = let less = size-sibling n xs d (omega arith) in omega arith

-- the same of the sibling that stands there
pub first_sibling : (key : ℕ → ℕ) (n high : ℕ) (xs : Siblings) (node : Node) → n < length xs → ((other : Rc Node Global) → node ≡ (get_or xs n other).value)
    → first_key key high (later_siblings n (forest_of xs)) ≡ key (tree_of node).number
first_sibling key n high xs node h is =
    let d = some_sibling xs n h in
    first-at key n high xs d h ∙ ap (λ m. key (tree_of m).number) (sym (is d))

pub last_sibling : (key : ℕ → ℕ) (n low : ℕ) (xs : Siblings) (node : Node) → n < length xs → ((other : Rc Node Global) → node ≡ (get_or xs n other).value)
    → last_key key low (first_siblings (suc n) (forest_of xs)) ≡ last_key key (key (tree_of node).number) (tree_of node).children
last_sibling key n low xs node h is =
    let d = some_sibling xs n h in
    last-at key n low xs d h ∙ ap (λ m. last_key key (key (tree_of m).number) (tree_of m).children) (sym (is d))

pub smaller_sibling : (n : ℕ) (xs : Siblings) (node : Node) → n < length xs → ((other : Rc Node Global) → node ≡ (get_or xs n other).value)
    → size (tree_of node).children < size (forest_of xs)
smaller_sibling n xs node h is =
    let d = some_sibling xs n h in
    let less = size-sibling n xs d h in
    let same = ap (λ m. size (tree_of m).children) (is d) in
    omega (arith, less, same)

pub last-none : (key : ℕ → ℕ) (low : ℕ) (xs : Siblings) → last_key key low (first_siblings 0 (forest_of xs)) ≡ low
last-none key low xs = ap (last_key key low) (first-take 0 xs)

pub last-whole : (key : ℕ → ℕ) (low : ℕ) (xs : Siblings) → last_key key low (first_siblings (length xs) (forest_of xs)) ≡ last_key key low (forest_of xs)
last-whole key low xs = ap (last_key key low) (first-take (length xs) xs ∙ ap forest_of (take_all (length xs) xs (omega arith)))

pub first-least : (n : ℕ) (xs : Siblings) → first_siblings (min n (length xs)) (forest_of xs) ≡ first_siblings n (forest_of xs)
first-least n xs = first-take (min n (length xs)) xs ∙ ap forest_of (take_min n xs) ∙ sym (first-take n xs)

-- ---- Siblings with others among them

pub followed-Empty : (f : Forest ℕ) → followed f spec.Empty ≡ f
followed-Empty spec.Empty = refl
followed-Empty (spec.Node l c f g) = ap (spec.Node l c f) (followed-Empty g)

pub followed-followed : (f g h : Forest ℕ) → followed (followed f g) h ≡ followed f (followed g h)
followed-followed spec.Empty g h = refl
followed-followed (spec.Node l c f o) g h = ap (spec.Node l c f) (followed-followed o g h)

-- one sibling more
pub one_more : (xs : Siblings) (x : Rc Node Global) (rest : Forest ℕ)
    → followed (forest_of (xs ++ x ∷ [])) rest
    ≡ followed (forest_of xs) (spec.Node (tree_of x.value).number (tree_of x.value).content (tree_of x.value).children rest)
one_more xs x rest = ap (λ f. followed f rest) (forest_of-append xs (x ∷ [])) ∙ followed-followed (forest_of xs) (forest_of (x ∷ [])) rest

-- siblings of three parts
pub three_parts : (from to : ℕ) (xs : Siblings) (others one two : Forest ℕ)
    → one ≡ followed spec.Empty (forest_of (take (min from (length xs)) xs)) → two ≡ followed one others
    → followed two (forest_of (drop (min to (length xs)) xs)) ≡ replaced from to others (forest_of xs)
three_parts from to xs others one two e h =
    let behind = forest_of (drop (min to (length xs)) xs) in
    ap (λ f. followed f behind) (h ∙ ap (λ f. followed f others) e)
    ∙ followed-followed (forest_of (take (min from (length xs)) xs)) others behind
    ∙ ap (λ ys. followed (forest_of ys) (followed others behind)) (take_min from xs)
    ∙ ap (λ ys. followed (forest_of (take from xs)) (followed others (forest_of ys))) (drop-min to xs)
    ∙ ap (λ f. followed (forest_of (take from xs)) (followed others f)) (sym (later-drop to xs))
    ∙ ap (λ f. followed f (followed others (later_siblings to (forest_of xs)))) (sym (first-take from xs))

-- ---- The sibling at a position

later-none : (f : Forest ℕ) → later_siblings 0 f ≡ f
later-none spec.Empty = refl
later-none (spec.Node l c f g) = refl

-- where there is none
pub room_below-none : (key : ℕ → ℕ) (room : ℕ → Forest ℕ → ℕ → Option Between) (p high : ℕ) (f : Forest ℕ) → tree_at f p ≡ None
    → room_below key room p f high ≡ None
room_below-none key room p high spec.Empty e = refl
room_below-none key room p high (spec.Node l c f g) e =
    elim (p == 1) as (λ b. cond b (Some (record { number = l; content = c; children = f })) (tree_at g (p - 1)) ≡ None
    → cond b (room (key l) f (first_key key high g)) (room_below key room (p - 1) g high) ≡ None) [
      | true ↦ λ e. absurd (none_some _ (sym e))
      | false ↦ λ e. room_below-none key room (p - 1) high g e
    ] e

-- where there is one, its position is above 0
tree_at-some : (p : ℕ) (f : Forest ℕ) (t : Tree) → tree_at f p ≡ Some t → 0 < p
tree_at-some zero f t e = absurd (none_some t (sym (tree_at-zero f) ∙ e))
tree_at-some (suc n) f t e = omega arith

pub room_below-some : (key : ℕ → ℕ) (room : ℕ → Forest ℕ → ℕ → Option Between) (p high : ℕ) (f : Forest ℕ) (t : Tree) → tree_at f p ≡ Some t
    → room_below key room p f high ≡ room (key t.number) t.children (first_key key high (later_siblings p f))
room_below-some key room p high spec.Empty t e = absurd (none_some t e)
room_below-some key room p high (spec.Node l c f g) t e =
    elim (p == 1) as (λ b. (p == 1) ≡ b → cond b (Some (record { number = l; content = c; children = f })) (tree_at g (p - 1)) ≡ Some t
    → cond b (room (key l) f (first_key key high g)) (room_below key room (p - 1) g high)
    ≡ room (key t.number) t.children (first_key key high (later_siblings p (spec.Node l c f g)))) [
      | true ↦ λ is e.
          let one : p ≡ 1 = eqb-true p 1 is in
          let same : record { number = l; content = c; children = f } ≡ t = some_same _ t e in
          ap (λ h. room (key l) f (first_key key high h)) (sym (later-none g))
          ∙ ap (λ t. room (key t.number) t.children (first_key key high (later_siblings 0 g))) same
          ∙ ap (λ p. room (key t.number) t.children (first_key key high (later_siblings p (spec.Node l c f g)))) (sym one)
      | false ↦ λ _ e.
          let more = tree_at-some (p - 1) g t e in
          let some : (p == 0) ≡ false = apart p 0 (λ z. omega arith) in
          room_below-some key room (p - 1) high g t e
          ∙ ap (λ b. room (key t.number) t.children (first_key key high (cond b (spec.Node l c f g) (later_siblings (p - 1) g)))) (sym some)
    ] refl e
