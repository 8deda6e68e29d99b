-- A document keeps its invariant where nodes are taken out: what is left of its entries is some of them, in their order.
use Rattle.std.proofs.Common.{◌≡◌, ℕ, ◌+◌, ◌≤◌, ◌==◌, true, false, Bool, not, List, [], ◌∷◌, ◌++◌, map, refl, ◌∙◌, subst, arith}
use Rattle.std.specs.Prelude.{◌&&◌, ◌||◌, nat_lt}
use Rattle.std.specs.List.{list_all}
use Rattle.std.proofs.lemmas.Bool.{and_parts}
use Rattle.spec_document.specs.Forest.{Content, Forest, height, labels}
use Rattle.spec_document.specs.Numbering.{number_limit}
use Rattle.spec_edit.specs.Depth.{ElementsFit}
use Rattle.xt_tree.specs.Keys.{has_number}
use Rattle.xt_tree.specs.Numbers.{IsDocument, IsNumbered, are_distinct, are_numbers}
use Rattle.xt_tree.specs.Thinned.{LosesNodes, at_end, loses, keeps}
use Rattle.xt_tree.proofs.Apart.{are_few, has-among}
use Rattle.xt_tree.proofs.Distinct.{is_among, not_false, or_neither}
use Rattle.xt_tree.proofs.Entries.{AllNamed, Entry, Kept, entries, found-named, named-found, names-below, names-of, numbers, numbers-entries}
use Rattle.xt_tree.proofs.Rising.{Sorted, final, final-labels, labels-rise, sorted-labels}

-- the second list is the first without some of its items
data Among {A : Type 0} : List A → List A → Type 0 where
  no_more : Among [] []
  skips : {x : A} {xs ys : List A} → Among xs ys → Among (x ∷ xs) ys
  takes : {x : A} {xs ys : List A} → Among xs ys → Among (x ∷ xs) (x ∷ ys)

behind : {A : Type 0} (zs : List A) {xs ys : List A} → Among xs ys → Among (zs ++ xs) ys
behind [] a = a
behind (z ∷ zs) a = skips (behind zs a)

one_after_another : {A : Type 0} {xs ys zs ws : List A} → Among xs ys → Among zs ws → Among (xs ++ zs) (ys ++ ws)
one_after_another no_more b = b
one_after_another (skips a) b = skips (one_after_another a b)
one_after_another (takes a) b = takes (one_after_another a b)

mapped : {A B : Type 0} (f : A → B) {xs ys : List A} → Among xs ys → Among (map f xs) (map f ys)
mapped f no_more = no_more
mapped f (skips a) = skips (mapped f a)
mapped f (takes a) = takes (mapped f a)

entries_left : (above : List Content) {f g : Forest ℕ} → LosesNodes f g → Among (entries above f) (entries above g)
entries_left above at_end = no_more
entries_left above (loses {content} {children} h) = skips (behind (entries (content ∷ above) children) (entries_left above h))
entries_left above (keeps {content} h k) = takes (one_after_another (entries_left (content ∷ above) h) (entries_left above k))

labels_left : {f g : Forest ℕ} → LosesNodes f g → Among (labels f) (labels g)
labels_left {f} {g} h =
    subst (λ ns. Among (labels f) ns) (numbers-entries [] g)
    (subst (λ ns. Among ns (numbers (entries [] g))) (numbers-entries [] f) (mapped (λ e. e.number) (entries_left [] h)))

-- ---- Numbers

and_true : (a b : Bool) → a ≡ true → b ≡ true → (a && b) ≡ true
and_true true b h k = k
and_true false b h k = absurd (cc)

not_true : (a : Bool) → a ≡ false → not a ≡ true
not_true true h = absurd (cc)
not_true false h = refl

or_false : (a b : Bool) → a ≡ false → b ≡ false → (a || b) ≡ false
or_false true b h k = absurd (cc)
or_false false b h k = k

not_left : (n : ℕ) {xs ys : List ℕ} → Among xs ys → is_among n xs ≡ false → is_among n ys ≡ false
not_left n no_more h = refl
not_left n (skips {x} {xs} a) h = not_left n a (or_neither (x == n) (is_among n xs) h).1
not_left n (takes {x} {xs} {ys} a) h =
    let parts = or_neither (x == n) (is_among n xs) h in or_false (x == n) (is_among n ys) parts.0 (not_left n a parts.1)

distinct_left : {xs ys : List ℕ} → Among xs ys → are_distinct xs ≡ true → are_distinct ys ≡ true
distinct_left no_more h = refl
distinct_left (skips {x} {xs} a) h = distinct_left a (and_parts (not (is_among x xs)) (are_distinct xs) h).1
distinct_left (takes {x} {xs} {ys} a) h =
    let parts = and_parts (not (is_among x xs)) (are_distinct xs) h in
    and_true (not (is_among x ys)) (are_distinct ys) (not_true (is_among x ys) (not_left x a (not_false (is_among x xs) parts.0)))
    (distinct_left a parts.1)

all_left : {A : Type 0} (p : A → Bool) {xs ys : List A} → Among xs ys → list_all p xs ≡ true → list_all p ys ≡ true
all_left p no_more h = refl
all_left p (skips {x} {xs} a) h = all_left p a (and_parts (p x) (list_all p xs) h).1
all_left p (takes {x} {xs} {ys} a) h =
    let parts = and_parts (p x) (list_all p xs) h in and_true (p x) (list_all p ys) parts.0 (all_left p a parts.1)

numbers_left : {xs ys : List ℕ} → Among xs ys → are_numbers xs ≡ true → are_numbers ys ≡ true
numbers_left {xs} {ys} a h =
    let below : ℕ → Bool = λ n. nat_lt n number_limit in
    let parts = and_parts (are_distinct xs) (list_all below xs) h in
    and_true (are_distinct ys) (list_all below ys) (distinct_left a parts.0) (all_left below a parts.1)

-- ---- Depth

less_high : {f g : Forest ℕ} → LosesNodes f g → height g ≤ height f
less_high at_end = omega arith
less_high (loses h) = let behind = less_high h in omega arith
less_high (keeps h k) = let below = less_high h in let behind = less_high k in omega arith

fits_left : (depth : ℕ) {f g : Forest ℕ} → LosesNodes f g → ElementsFit depth f → ElementsFit depth g
fits_left depth at_end e = tt
fits_left depth (loses h) e = fits_left depth h e.2
fits_left depth (keeps h k) e = (e.0, fits_left (depth + 1) h e.1, fits_left depth k e.2)

-- ---- Keys

sorted_above : (key : ℕ → ℕ) (low above : ℕ) (xs : List ℕ) → low ≤ above → Sorted key above xs → Sorted key low xs
sorted_above key low above [] h s = tt
sorted_above key low above (x ∷ xs) h s = (omega (arith, s.0), s.1)

sorted_left : (key : ℕ → ℕ) (low : ℕ) {xs ys : List ℕ} → Among xs ys → Sorted key low xs → Sorted key low ys
sorted_left key low no_more s = tt
sorted_left key low (skips {x} {ys} a) s = sorted_above key low (key x) ys (omega (arith, s.0)) (sorted_left key (key x) a s.1)
sorted_left key low (takes {x} a) s = (s.0, sorted_left key (key x) a s.1)

final_from : (key : ℕ → ℕ) (low above : ℕ) (xs : List ℕ) → low ≤ above → final key low xs ≤ final key above xs
final_from key low above [] h = h
final_from key low above (x ∷ xs) h = omega arith

final_left : (key : ℕ → ℕ) (low : ℕ) {xs ys : List ℕ} → Among xs ys → Sorted key low xs → final key low ys ≤ final key low xs
final_left key low no_more s = omega arith
final_left key low (skips {x} {ys} a) s =
    let more = final_left key (key x) a s.1 in
    let less = final_from key low (key x) ys (omega (arith, s.0)) in
    omega arith
final_left key low (takes {x} a) s = final_left key (key x) a s.1

-- ---- Names

named_left : (kept : Kept) {xs ys : List Entry} → Among xs ys → AllNamed kept xs → AllNamed kept ys
named_left kept no_more h = tt
named_left kept (skips a) h = named_left kept a h.1
named_left kept (takes a) h = (h.0, named_left kept a h.1)

-- the root has a number of its own
root_apart : (root : ℕ) (f : Forest ℕ) → IsNumbered (record { root = root; nodes = f }) → has_number root f ≡ false
root_apart root f h =
    let parts = and_parts (are_distinct (root ∷ labels f)) (list_all (λ n. nat_lt n number_limit) (root ∷ labels f)) h in
    has-among root f ∙ not_false _ (and_parts (not (is_among root (labels f))) (are_distinct (labels f)) parts.0).0

-- ---- The document

pub document_left : (key : ℕ → ℕ) (kept : Kept) (root : ℕ) {f g : Forest ℕ} → LosesNodes f g
    → IsDocument key kept (record { root = root; nodes = f }) → IsDocument key kept (record { root = root; nodes = g })
document_left key kept root {f} {g} h d =
    let left = labels_left h in
    let sorted = sorted-labels key 0 f d.rises in
    let all = named-found kept [] f (are_few root f d.numbers).apart (names-below kept root f (root_apart root f d.numbers) d.names) in
    record {
      numbers = numbers_left (takes left) d.numbers;
      depth = omega (arith, less_high h, d.depth);
      fits = fits_left 1 h d.fits;
      rises = labels-rise key 0 g (sorted_left key 0 left sorted);
      limit = omega (arith, final_left key 0 left sorted, final-labels key 0 f, final-labels key 0 g, d.limit);
      names = names-of kept root f g d.names (found-named kept [] g (named_left kept (entries_left [] h) all));
    }
