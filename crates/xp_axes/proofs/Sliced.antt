-- Siblings in slices: those before one, it, and those after it.
use Rattle.std.proofs.Common.{◌≡◌, ◌≤◌, ◌<◌, ℕ, ◌+◌, ◌-◌, ◌==◌, Bool, true, false, cond, zero, suc, List, [], ◌∷◌}
use Rattle.std.proofs.Common.{◌++◌, refl, sym, ap, ◌∙◌, arith, length, take, drop, get_or, append_assoc}
use Rattle.std.proofs.lemmas.Bool.{eqb-true}
use Rattle.std.specs.declared.rc.Rc.{Rc}
use Rattle.std.specs.declared.alloc.Global.{Global}
use Rattle.spec_document.specs.Forest.{Forest, Empty}
use Rattle.std.specs.Prelude.{map}
use Rattle.std.specs.List.{slice_range, range_with_len}
use Rattle.spec_document.specs.declared.axis.Axis.{Axis}
use Rattle.xt_tree.specs.View.{forest_of, tree_of, itself}
use Rattle.spec_node.specs.declared.node_ref.Part.{Part}
use Rattle.xt_tree.specs.declared.node.Node.{Node}
use Rattle.spec_node.specs.declared.node_ref.NodeRef.{NodeRef}
use Rattle.xp_axes.specs.declared.extent.Extent.{Extent}
use Rattle.xp_axes.specs.declared.extent.Extent.TheVariants.{Nothing, Themselves, WithAllBelow}
use Rattle.xp_axes.specs.Along.{if_taken, taken, taken_one, around, before, after, is_above, is_end, along}
use Rattle.xp_axes.proofs.Picked.{one_more}

not_zero_suc : (i : ℕ) → (suc i == 0) ≡ false
not_zero_suc i = elim (suc i == 0) as (λ t. (suc i == 0) ≡ t → t ≡ false)
    [ true ↦ λ e. absurd (let is : suc i ≡ 0 = eqb-true (suc i) 0 e in omega arith) | false ↦ λ e. refl ] refl

later : (inner : ℕ → Forest ℕ → List NodeRef) (b a : Extent) (i : ℕ) (x : Rc Node Global) (xs : List (Rc Node Global))
    → around inner b a (suc i) (forest_of (x ∷ xs))
    ≡ taken_one b (tree_of x.value).number (tree_of x.value).children ++ around inner b a i (forest_of xs)
later inner b a i x xs =
    let back : suc i - 1 ≡ i = omega arith in
    ap (λ t. cond t (inner (tree_of x.value).number (tree_of x.value).children ++ taken a (forest_of xs))
    (taken_one b (tree_of x.value).number (tree_of x.value).children ++ around inner b a (suc i - 1) (forest_of xs))) (not_zero_suc i)
    ∙ ap (λ n. taken_one b (tree_of x.value).number (tree_of x.value).children ++ around inner b a n (forest_of xs)) back

none : (b : Extent) → [] ≡ taken b Empty
none Nothing = refl
none Themselves = refl
none WithAllBelow = refl

-- an index past the siblings
pub around_past : (inner : ℕ → Forest ℕ → List NodeRef) (b a : Extent) (i : ℕ) (xs : List (Rc Node Global)) → length xs ≤ i
    → around inner b a i (forest_of xs) ≡ taken b (forest_of xs)
around_past inner b a i [] h = none b
around_past inner b a zero (x ∷ xs) h = absurd (omega arith)
around_past inner b a (suc i) (x ∷ xs) h =
    later inner b a i x xs ∙ ap (λ ns. taken_one b (tree_of x.value).number (tree_of x.value).children ++ ns) (around_past inner b a i xs (omega arith))
    ∙ one_more b (tree_of x.value).number (tree_of x.value).content (tree_of x.value).children (forest_of xs)

pub around_at : (inner : ℕ → Forest ℕ → List NodeRef) (b a : Extent) (i : ℕ) (xs : List (Rc Node Global)) (d : Rc Node Global) → i < length xs
    → around inner b a i (forest_of xs)
    ≡ (taken b (forest_of (take i xs)) ++ inner (tree_of (get_or xs i d).value).number (tree_of (get_or xs i d).value).children)
    ++ taken a (forest_of (drop (i + 1) xs))
around_at inner b a i [] d h = absurd (omega arith)
around_at inner b a zero (x ∷ xs) d h =
    ap (λ ns. (ns ++ inner (tree_of x.value).number (tree_of x.value).children) ++ taken a (forest_of xs)) (none b)
around_at inner b a (suc i) (x ∷ xs) d h =
    let t = tree_of x.value in
    let c = tree_of (get_or xs i d).value in
    let one = taken_one b t.number t.children in
    let before = taken b (forest_of (take i xs)) in
    let index : suc i + 1 ≡ suc (i + 1) = omega arith in
    later inner b a i x xs
    ∙ ap (λ ns. one ++ ns) (around_at inner b a i xs d (omega arith))
    ∙ sym (append_assoc one (before ++ inner c.number c.children) (taken a (forest_of (drop (i + 1) xs))))
    ∙ ap (λ ns. ns ++ taken a (forest_of (drop (i + 1) xs)))
    (sym (append_assoc one before (inner c.number c.children))
    ∙ ap (λ ns. ns ++ inner c.number c.children) (one_more b t.number t.content t.children (forest_of (take i xs))))
    ∙ ap (λ n. (taken b (forest_of (take (suc i) (x ∷ xs))) ++ inner c.number c.children) ++ taken a (forest_of (drop n (x ∷ xs)))) (sym index)

-- ---- One step of the way, as the code takes it

abbrev pub rest_of : List ℕ → List ℕ
rest_of path = take (length path - 1) (drop 1 path)

take_whole : {A : Type 0} (xs : List A) → take (length xs) xs ≡ xs
take_whole [] = refl
take_whole (x ∷ xs) = ap (λ ys. x ∷ ys) (take_whole xs)

pub path_parts : (path : List ℕ) → 1 ≤ length path → get_or path 0 0 ∷ rest_of path ≡ path
path_parts [] h = absurd (omega arith)
path_parts (p ∷ path) h =
    let count : length (p ∷ path) - 1 ≡ length path = omega arith in
    ap (λ n. p ∷ take n path) count ∙ ap (λ ps. p ∷ ps) (take_whole path)

pub record Past (x : Axis) (t : Part) (path : List ℕ) (l : ℕ) (z above : Bool) (self : NodeRef) (found one : List NodeRef) : Type 0 where
  pub some : 1 ≤ length path
  pub end : z ≡ is_end t (rest_of path)
  pub above_is : above ≡ is_above x z
  pub self_is : self ≡ itself l
  pub one_is : one ≡ found ++ if_taken above self

begun : (x : Axis) (t : Part) (path : List ℕ) (l : ℕ) (z above : Bool) (self : NodeRef) (found one : List NodeRef)
    → Past x t path l z above self found one
    → one ≡ found ++ if_taken (is_above x (is_end t (rest_of path))) (itself l)
begun x t path l z above self found one p = p.one_is ∙ (λ i. found ++ if_taken ((p.above_is ∙ ap (is_above x) p.end) i) (p.self_is i))

pub gone_past : (x : Axis) (t : Part) (at_end : ℕ → Forest ℕ → List NodeRef) (path : List ℕ) (l : ℕ) (z above : Bool) (self : NodeRef)
    (found one two : List NodeRef)
    → Past x t path l z above self found one → (i : ℕ) (xs : List (Rc Node Global)) → i ≡ get_or path 0 0 - 1 → length xs ≤ i
    → (b : Extent) → b ≡ before x z → two ≡ one ++ taken b (forest_of xs) → two ≡ found ++ along x t at_end path l (forest_of xs)
gone_past x t at_end path l z above self found one two p i xs is h b b_is two_is =
    let e = is_end t (rest_of path) in
    let own = if_taken (is_above x e) (itself l) in
    let inner = along x t at_end (rest_of path) in
    let past = around_past inner (before x e) (after x e) i xs h in
    two_is ∙ (λ j. begun x t path l z above self found one p j ++ taken ((b_is ∙ ap (before x) p.end) j) (forest_of xs))
    ∙ append_assoc found own (taken (before x e) (forest_of xs))
    ∙ ap (λ ns. found ++ (own ++ ns)) (sym past ∙ ap (λ k. around inner (before x e) (after x e) k (forest_of xs)) is)
    ∙ ap (λ ps. found ++ along x t at_end ps l (forest_of xs)) (path_parts path p.some)

pub drop_whole : {A : Type 0} (i : ℕ) (xs : List A) → i ≤ length xs → take (length xs - i) (drop i xs) ≡ drop i xs
drop_whole zero xs h = let same : length xs - 0 ≡ length xs = omega arith in ap (λ n. take n xs) same ∙ take_whole xs
drop_whole (suc i) [] h = absurd (omega arith)
drop_whole (suc i) (x ∷ xs) h = let same : length (x ∷ xs) - suc i ≡ length xs - i = omega arith in
    ap (λ n. take n (drop i xs)) same ∙ drop_whole i xs (omega arith)

pub gone_on : (x : Axis) (t : Part) (at_end : ℕ → Forest ℕ → List NodeRef) (path : List ℕ) (l : ℕ) (z above : Bool) (self : NodeRef)
    (found one two three four : List NodeRef)
    → Past x t path l z above self found one → (i : ℕ) (xs : List (Rc Node Global)) (d : Rc Node Global) → i ≡ get_or path 0 0 - 1
    → i < length xs
    → (b a : Extent) → b ≡ before x z → two ≡ one ++ taken b (forest_of (take i xs))
    → (cl : ℕ) (cf : Forest ℕ) → cl ≡ (tree_of (get_or xs i d).value).number → cf ≡ (tree_of (get_or xs i d).value).children
    → three ≡ two ++ along x t at_end (rest_of path) cl cf
    → a ≡ after x z → four ≡ three ++ taken a (forest_of (slice_range xs (i + 1) (length xs)))
    → four ≡ found ++ along x t at_end path l (forest_of xs)
gone_on x t at_end path l z above self found one two three four p i xs d is h b a b_is two_is cl cf cl_is cf_is three_is a_is four_is =
    let e = is_end t (rest_of path) in
    let own = if_taken (is_above x e) (itself l) in
    let inner = along x t at_end (rest_of path) in
    let child = tree_of (get_or xs i d).value in
    let before_ones = taken (before x e) (forest_of (take i xs)) in
    let child_ones = inner child.number child.children in
    let after_ones = taken (after x e) (forest_of (drop (i + 1) xs)) in
    let two_now : two ≡ (found ++ own) ++ before_ones
    = two_is ∙ (λ j. begun x t path l z above self found one p j ++ taken ((b_is ∙ ap (before x) p.end) j) (forest_of (take i xs))) in
    let three_now : three ≡ ((found ++ own) ++ before_ones) ++ child_ones = three_is ∙ (λ j. two_now j ++ inner (cl_is j) (cf_is j)) in
    let four_now : four ≡ (((found ++ own) ++ before_ones) ++ child_ones) ++ after_ones
    = four_is ∙ (λ j. three_now j ++ taken ((a_is ∙ ap (after x) p.end) j) (forest_of (drop_whole (i + 1) xs (omega arith) j))) in
    four_now
    ∙ ap (λ ns. ns ++ after_ones)
    (ap (λ ns. ns ++ child_ones) (append_assoc found own before_ones) ∙ append_assoc found (own ++ before_ones) child_ones)
    ∙ append_assoc found ((own ++ before_ones) ++ child_ones) after_ones
    ∙ ap (λ ns. found ++ ns)
    (ap (λ ns. ns ++ after_ones) (append_assoc own before_ones child_ones) ∙ append_assoc own (before_ones ++ child_ones) after_ones
    ∙ ap (λ ns. own ++ ns)
    (sym (around_at inner (before x e) (after x e) i xs d h) ∙ ap (λ k. around inner (before x e) (after x e) k (forest_of xs)) is))
    ∙ ap (λ ps. found ++ along x t at_end ps l (forest_of xs)) (path_parts path p.some)

-- ---- Numbers from 1

range_more : (s n : ℕ) → range_with_len s (n + 1) ≡ range_with_len s n ++ (s + n) ∷ []
range_more s zero = let same : s ≡ s + 0 = omega arith in ap (λ (k : ℕ). k ∷ []) same
range_more s (suc n) =
    let same : suc n + 1 ≡ suc (n + 1) = omega arith in
    let last : s + 1 + n ≡ s + suc n = omega arith in
    ap (range_with_len s) same ∙ ap (λ ns. s ∷ ns) (range_more (s + 1) n ∙ ap (λ (k : ℕ). range_with_len (s + 1) n ++ k ∷ []) last)

map_append : {A B : Type 0} (f : A → B) (xs ys : List A) → map f (xs ++ ys) ≡ map f xs ++ map f ys
map_append f [] ys = refl
map_append f (x ∷ xs) ys = ap (λ zs. f x ∷ zs) (map_append f xs ys)

pub mapped_range : {B : Type 0} (f : ℕ → B) (n : ℕ) → map f (range_with_len 1 (n + 1)) ≡ map f (range_with_len 1 n) ++ f (n + 1) ∷ []
mapped_range f n =
    let same : 1 + n ≡ n + 1 = omega arith in
    ap (map f) (range_more 1 n) ∙ map_append f (range_with_len 1 n) ((1 + n) ∷ []) ∙ ap (λ (k : ℕ). map f (range_with_len 1 n) ++ f k ∷ []) same
