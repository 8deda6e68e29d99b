-- Children in another order: which of them are gone is told by the order of those that stay.
use Rattle.std.proofs.Common.{◌≡◌, ◌≤◌, ◌<◌, arith, ℕ, ◌+◌, ◌==◌, Bool, true, false, not, cond, List, [], ◌∷◌, ◌++◌, map, length, Option, None, Some}
use Rattle.std.proofs.Common.{refl, sym, ap, ◌∙◌, eq-eqb, subst, append_assoc}
use Rattle.std.specs.Prelude.{nat_lt}
use Rattle.std.specs.List.{filter}
use Rattle.std.proofs.lemmas.Bool.{ltb-true, ltb-false}
use Rattle.std.proofs.lemmas.List.{length-map}
use Rattle.std.proofs.lemmas.List.Elements.{filter-append}
use Rattle.spec_document.specs.Forest.{Content, Forest, Empty, Node, labels, followed}
use Rattle.spec_edit.specs.Splice.{met}
use Rattle.spec_edit.proofs.Numbers.{one_if, occurs, occurs-append, unlike, none-among}
use Rattle.spec_change.specs.Change.{sibling_labels, is_among}
use Rattle.spec_change.proofs.Branches.{Branch, branch, branches, flat, flat-branches, flat-append, number-branches, branches-followed, Meets, beside, joins, meets}
use Rattle.spec_change.proofs.Gone.{some-among}
use Rattle.spec_move.proofs.Shapes.{Reordered, is_later, is_earlier}
use Rattle.xt_edit.specs.Reordered.{others_than, past_next, is_staying, numbers_unless, gone_by, gone_from, staying_by, IsReordered}

-- ---- Numbers that pass a test

here-once : (n : ℕ) → one_if (n == n) ≡ 1
here-once n = ap one_if (eq-eqb n n refl)

pub filter-all : (test : ℕ → Bool) (ns : List ℕ) → ((n : ℕ) → 1 ≤ occurs (λ m. m == n) ns → test n ≡ true) → filter test ns ≡ ns
filter-all test [] h = refl
filter-all test (n ∷ ns) h =
    let own = here-once n in
    (λ i. cond (h n (omega arith) i) (n ∷ filter test ns) (filter test ns))
    ∙ ap (λ ks. n ∷ ks) (filter-all test ns (λ k some. h k (omega arith)))

pub filter-none : (test : ℕ → Bool) (ns : List ℕ) → ((n : ℕ) → 1 ≤ occurs (λ m. m == n) ns → test n ≡ false) → filter test ns ≡ []
filter-none test [] h = refl
filter-none test (n ∷ ns) h =
    let own = here-once n in
    (λ i. cond (h n (omega arith) i) (n ∷ filter test ns) (filter test ns)) ∙ filter-none test ns (λ k some. h k (omega arith))

-- ---- How often a number stands in siblings

abbrev pub times : ℕ → List Branch → ℕ
times n bs = occurs (λ m. m == n) (flat bs)

abbrev pub own : ℕ → Branch → ℕ
own n b = occurs (λ m. m == n) (b.number ∷ b.below)

times-cons : (n : ℕ) (b : Branch) (bs : List Branch) → times n (b ∷ bs) ≡ own n b + times n bs
times-cons n b bs = occurs-append (λ m. m == n) (b.number ∷ b.below) (flat bs)

pub times-append : (n : ℕ) (bs cs : List Branch) → times n (bs ++ cs) ≡ times n bs + times n cs
times-append n bs cs = ap (occurs (λ m. m == n)) (flat-append bs cs) ∙ occurs-append (λ m. m == n) (flat bs) (flat cs)

own-number : (b : Branch) → 1 ≤ own b.number b
own-number b = let here = here-once b.number in omega arith

-- a sibling of another number
other-than : (n : ℕ) (b : Branch) → own n b ≡ 0 → (b.number == n) ≡ false
other-than n b none = unlike b.number n (λ same. (let some = own-number b in let is = ap (λ k. own k b) same in omega arith))

-- ---- Some of a list, in its order

pub data Some_of : List Branch → List Branch → Type 0 where
  ends : Some_of [] []
  stays : {b : Branch} → {bs cs : List Branch} → Some_of bs cs → Some_of (b ∷ bs) (b ∷ cs)
  goes : {b : Branch} → {bs cs : List Branch} → Some_of bs cs → Some_of (b ∷ bs) cs

pub all-of : (bs : List Branch) → Some_of bs bs
all-of [] = ends
all-of (b ∷ bs) = stays (all-of bs)

both-of : {bs cs ds es : List Branch} → Some_of bs cs → Some_of ds es → Some_of (bs ++ ds) (cs ++ es)
both-of ends s = s
both-of (stays r) s = stays (both-of r s)
both-of (goes r) s = goes (both-of r s)

then-of : {bs cs ds : List Branch} → Some_of bs cs → Some_of cs ds → Some_of bs ds
then-of ends s = s
then-of (stays r) (stays s) = stays (then-of r s)
then-of (stays r) (goes s) = goes (then-of r s)
then-of (goes r) s = goes (then-of r s)

pub meets-of : (fs gs hs : List Branch) → Meets fs gs hs → Some_of (fs ++ gs) hs
meets-of fs gs _ beside = all-of (fs ++ gs)
meets-of fs gs _ (joins b rest e) = subst (λ ks. Some_of (fs ++ ks) (fs ++ rest)) (sym e) (both-of (all-of fs) (goes (all-of rest)))

most-of : {bs cs : List Branch} → (n : ℕ) → Some_of bs cs → times n cs ≤ times n bs
most-of n ends = omega arith
most-of n (stays {b} {bs} {cs} r) =
    let one = times-cons n b bs in let two = times-cons n b cs in let rest = most-of n r in omega arith
most-of n (goes {b} {bs} {cs} r) = let one = times-cons n b bs in let rest = most-of n r in omega arith

-- ---- One of them put elsewhere

abbrev when : Bool → ℕ → ℕ
when true n = n
when false n = 0

-- without it, and whether it is still there
record Parted (m : Branch) (bs cs : List Branch) : Type 0 where
  kept : List Branch
  some : Some_of bs kept
  still : Bool
  numbers : others_than m.number (map (λ (b : Branch). b.number) cs) ≡ map (λ (b : Branch). b.number) kept
  long : length cs ≡ length kept + one_if still
  counted : (n : ℕ) → times n cs ≡ times n kept + when still (own n m)

all-others : (m : Branch) (cs : List Branch) → times m.number cs ≡ 0
    → others_than m.number (map (λ (b : Branch). b.number) cs) ≡ map (λ (b : Branch). b.number) cs
all-others m [] none = refl
all-others m (c ∷ cs) none =
    let parts = times-cons m.number c cs in
    (λ i. cond (not (other-than m.number c (omega arith) i)) (c.number ∷ others_than m.number (map (λ (b : Branch). b.number) cs))
    (others_than m.number (map (λ (b : Branch). b.number) cs)))
    ∙ ap (λ ns. c.number ∷ ns) (all-others m cs (omega arith))

first-gone : (m : Branch) (qs cs : List Branch) → Some_of (m ∷ qs) cs → ((n : ℕ) → times n (m ∷ qs) ≤ 1) → Parted m qs cs
first-gone m qs _ (stays {cs = cs} r) once =
    let all = times-cons m.number m qs in
    let most = once m.number in
    let here = own-number m in
    let fewer = most-of m.number r in
    record {
      kept = cs;
      some = r;
      still = true;
      numbers = (λ i. cond (not (eq-eqb m.number m.number refl i)) (m.number ∷ others_than m.number (map (λ (b : Branch). b.number) cs))
          (others_than m.number (map (λ (b : Branch). b.number) cs)))
          ∙ all-others m cs (omega arith);
      long = omega arith;
      counted = λ n. (let parts = times-cons n m cs in omega arith);
    }
first-gone m qs cs (goes r) once =
    let all = times-cons m.number m qs in
    let most = once m.number in
    let here = own-number m in
    let fewer = most-of m.number r in
    record {
      kept = cs;
      some = r;
      still = false;
      numbers = all-others m cs (omega arith);
      long = omega arith;
      counted = λ n. omega arith;
    }

one-gone : (m : Branch) (ps qs cs : List Branch) → Some_of (ps ++ (m ∷ qs)) cs → ((n : ℕ) → times n (ps ++ (m ∷ qs)) ≤ 1) → Parted m (ps ++ qs) cs
one-gone m [] qs cs r once = first-gone m qs cs r once
one-gone m (p ∷ ps) qs _ (stays {cs = cs} r) once =
    let t = one-gone m ps qs cs r (λ n. (let all = times-cons n p (ps ++ (m ∷ qs)) in let most = once n in omega arith)) in
    let all = times-cons m.number p (ps ++ (m ∷ qs)) in
    let inner = times-append m.number ps (m ∷ qs) in
    let last = times-cons m.number m qs in
    let most = once m.number in
    let here = own-number m in
    record {
      kept = p ∷ t.kept;
      some = stays t.some;
      still = t.still;
      numbers = (λ i. cond (not (other-than m.number p (omega arith) i)) (p.number ∷ others_than m.number (map (λ (b : Branch). b.number) cs))
          (others_than m.number (map (λ (b : Branch). b.number) cs)))
          ∙ ap (λ ns. p.number ∷ ns) t.numbers;
      long = (let long = t.long in omega arith);
      counted = λ n. (
          let rest = t.counted n in
          let one = times-cons n p cs in
          let two = times-cons n p t.kept in
          omega arith
          );
    }
one-gone m (p ∷ ps) qs cs (goes r) once =
    let t = one-gone m ps qs cs r (λ n. (let all = times-cons n p (ps ++ (m ∷ qs)) in let most = once n in omega arith)) in
    record { kept = t.kept; some = goes t.some; still = t.still; numbers = t.numbers; long = t.long; counted = t.counted }

-- the one that moved is still ahead
pub data Moving (m : Branch) : List Branch → List Branch → Type 0 where
  moves : {bs cs : List Branch} → Some_of bs cs → Moving m (m ∷ bs) cs
  waits : {b : Branch} → {bs cs : List Branch} → Moving m bs cs → Moving m (b ∷ bs) (b ∷ cs)
  drops : {b : Branch} → {bs cs : List Branch} → Moving m bs cs → Moving m (b ∷ bs) cs

moving : (m : Branch) (ps qs cs : List Branch) → Some_of (ps ++ qs) cs → Moving m (ps ++ (m ∷ qs)) cs
moving m [] qs cs r = moves r
moving m (p ∷ ps) qs _ (stays {cs = cs} r) = waits (moving m ps qs cs r)
moving m (p ∷ ps) qs cs (goes r) = drops (moving m ps qs cs r)

moving-most : {m : Branch} → {bs cs : List Branch} → (n : ℕ) → Moving m bs cs → times n cs + own n m ≤ times n bs
moving-most {m} n (moves {bs} {cs} r) = let all = times-cons n m bs in let fewer = most-of n r in omega arith
moving-most n (waits {b} {bs} {cs} r) =
    let one = times-cons n b bs in let two = times-cons n b cs in let rest = moving-most n r in omega arith
moving-most n (drops {b} {bs} {cs} r) = let one = times-cons n b bs in let rest = moving-most n r in omega arith

-- ---- The walk over the siblings before

abbrev gone_in : (staying : Option ℕ) → (kept : List ℕ) → List Branch → List ℕ
gone_in staying kept [] = []
gone_in staying kept (b ∷ bs) =
    gone_by (past_next kept b.number) kept (numbers_unless (is_staying staying b.number) b.number b.below) (λ rest. gone_in staying rest bs)

gone-branches : (staying : Option ℕ) (kept : List ℕ) (f : Forest ℕ) → gone_from staying kept f ≡ gone_in staying kept (branches f)
gone-branches staying kept Empty = refl
gone-branches staying kept (Node l c f s) =
    λ i. gone_by (past_next kept l) kept (numbers_unless (is_staying staying l) l (labels f)) (λ rest. gone-branches staying rest s i)

not-next : (b : Branch) (cs : List Branch) → times b.number cs ≡ 0 → past_next (map (λ (c : Branch). c.number) cs) b.number ≡ None
not-next b [] none = refl
not-next b (c ∷ cs) none =
    let parts = times-cons b.number c cs in
    λ i. cond (other-than b.number c (omega arith) i) (Some (map (λ (d : Branch). d.number) cs)) None

abbrev staying_if : Bool → ℕ → Option ℕ
staying_if true n = Some n
staying_if false n = None

if-staying : (still : Bool) (m n : ℕ) → (m == n) ≡ false → is_staying (staying_if still m) n ≡ false
if-staying true m n e = e
if-staying false m n e = refl

when-most : (still : Bool) (n : ℕ) → when still n ≤ n
when-most true n = omega arith
when-most false n = omega arith

module _ (all : List ℕ) where
  abbrev test : ℕ → Bool
  test n = not (is_among all n)

  stays-out : (b : Branch) (bs : List Branch) → ((n : ℕ) → 1 ≤ own n b → 1 ≤ occurs (λ m. m == n) all)
      → filter test (flat (b ∷ bs)) ≡ filter test (flat bs)
  stays-out b bs h =
      filter-append test (b.number ∷ b.below) (flat bs)
      ∙ ap (λ ns. ns ++ filter test (flat bs)) (filter-none test (b.number ∷ b.below) (λ n some. ap not (some-among n all (h n some))))

  goes-in : (b : Branch) (bs : List Branch) → ((n : ℕ) → 1 ≤ own n b → occurs (λ m. m == n) all ≡ 0)
      → filter test (flat (b ∷ bs)) ≡ (b.number ∷ b.below) ++ filter test (flat bs)
  goes-in b bs h =
      filter-append test (b.number ∷ b.below) (flat bs)
      ∙ ap (λ ns. ns ++ filter test (flat bs)) (filter-all test (b.number ∷ b.below) (λ n some. ap not (none-among n all (h n some))))

  -- the next of those that are kept
  next-kept : (staying : Option ℕ) (b : Branch) (bs cs : List Branch)
      → gone_in staying (map (λ (c : Branch). c.number) (b ∷ cs)) (b ∷ bs) ≡ gone_in staying (map (λ (c : Branch). c.number) cs) bs
  next-kept staying b bs cs =
      λ i. gone_by (cond (eq-eqb b.number b.number refl i) (Some (map (λ (c : Branch). c.number) cs)) None) (map (λ (c : Branch). c.number) (b ∷ cs))
      (numbers_unless (is_staying staying b.number) b.number b.below) (λ rest. gone_in staying rest bs)

  next-other : (staying : Option ℕ) (b : Branch) (bs cs : List Branch) → times b.number cs ≡ 0 → (stay : Bool) → is_staying staying b.number ≡ stay
      → gone_in staying (map (λ (c : Branch). c.number) cs) (b ∷ bs)
      ≡ numbers_unless stay b.number b.below ++ gone_in staying (map (λ (c : Branch). c.number) cs) bs
  next-other staying b bs cs none stay e =
      λ i. gone_by (not-next b cs none i) (map (λ (c : Branch). c.number) cs)
      (numbers_unless (e i) b.number b.below) (λ rest. gone_in staying rest bs)

  -- behind the one that moved
  told-behind : (staying : Option ℕ) {bs cs : List Branch} → Some_of bs cs → ((n : ℕ) → times n bs ≤ 1)
      → ((n : ℕ) → 1 ≤ times n bs → occurs (λ m. m == n) all ≡ times n cs)
      → ((n : ℕ) → 1 ≤ times n bs → is_staying staying n ≡ false)
      → gone_in staying (map (λ (c : Branch). c.number) cs) bs ≡ filter test (flat bs)
  told-behind staying ends once there apart = refl
  told-behind staying (stays {b} {bs} {cs} r) once there apart =
      next-kept staying b bs cs
      ∙ told-behind staying r
      (λ n. (let parts = times-cons n b bs in let most = once n in omega arith))
      (λ n some. (
      let one = times-cons n b bs in let two = times-cons n b cs in let most = once n in let is = there n (omega arith) in omega arith
      ))
      (λ n some. (let parts = times-cons n b bs in apart n (omega arith)))
      ∙ sym (stays-out b bs (λ n some. (
      let one = times-cons n b bs in let two = times-cons n b cs in let is = there n (omega arith) in omega arith
      )))
  told-behind staying (goes {b} {bs} {cs} r) once there apart =
      let parts = times-cons b.number b bs in
      let here = own-number b in
      let fewer = most-of b.number r in
      let most = once b.number in
      next-other staying b bs cs (omega arith) false (apart b.number (omega arith))
      ∙ ap (λ ns. (b.number ∷ b.below) ++ ns) (told-behind staying r
      (λ n. (let parts = times-cons n b bs in let most = once n in omega arith))
      (λ n some. (let one = times-cons n b bs in there n (omega arith)))
      (λ n some. (let parts = times-cons n b bs in apart n (omega arith))))
      ∙ sym (goes-in b bs (λ n some. (
      let one = times-cons n b bs in let most = once n in let fewer = most-of n r in let is = there n (omega arith) in omega arith
      )))

  moved-here : (still : Bool) (m : Branch) (bs cs : List Branch) → Some_of bs cs → ((n : ℕ) → times n (m ∷ bs) ≤ 1)
      → ((n : ℕ) → 1 ≤ times n (m ∷ bs) → occurs (λ k. k == n) all ≡ times n cs + when still (own n m))
      → gone_in (staying_if still m.number) (map (λ (c : Branch). c.number) cs) (m ∷ bs) ≡ filter test (flat (m ∷ bs))
  moved-here true m bs cs r once there =
      let parts = times-cons m.number m bs in
      let here = own-number m in
      let fewer = most-of m.number r in
      let most = once m.number in
      next-other (Some m.number) m bs cs (omega arith) true (eq-eqb m.number m.number refl)
      ∙ told-behind (Some m.number) r
      (λ n. (let all = times-cons n m bs in let most = once n in omega arith))
      (λ n some. (let all = times-cons n m bs in let most = once n in let is = there n (omega arith) in omega arith))
      (λ n some. other-than n m (let all = times-cons n m bs in let most = once n in omega arith))
      ∙ sym (stays-out m bs (λ n some. (let all = times-cons n m bs in let is = there n (omega arith) in omega arith)))
  moved-here false m bs cs r once there =
      let parts = times-cons m.number m bs in
      let here = own-number m in
      let fewer = most-of m.number r in
      let most = once m.number in
      next-other None m bs cs (omega arith) false refl
      ∙ ap (λ ns. (m.number ∷ m.below) ++ ns) (told-behind None r
      (λ n. (let all = times-cons n m bs in let most = once n in omega arith))
      (λ n some. (let all = times-cons n m bs in let is = there n (omega arith) in omega arith))
      (λ n some. refl))
      ∙ sym (goes-in m bs (λ n some. (
      let all = times-cons n m bs in let most = once n in let fewer = most-of n r in let is = there n (omega arith) in omega arith
      )))

  told-moved : (still : Bool) {m : Branch} {bs cs : List Branch} → Moving m bs cs → ((n : ℕ) → times n bs ≤ 1)
      → ((n : ℕ) → 1 ≤ times n bs → occurs (λ k. k == n) all ≡ times n cs + when still (own n m))
      → gone_in (staying_if still m.number) (map (λ (c : Branch). c.number) cs) bs ≡ filter test (flat bs)
  told-moved still {m} (moves {bs} {cs} r) once there = moved-here still m bs cs r once there
  told-moved still {m} (waits {b} {bs} {cs} r) once there =
      next-kept (staying_if still m.number) b bs cs
      ∙ told-moved still r
      (λ n. (let parts = times-cons n b bs in let most = once n in omega arith))
      (λ n some. (
      let one = times-cons n b bs in let two = times-cons n b cs in let most = once n in let is = there n (omega arith) in omega arith
      ))
      ∙ sym (stays-out b bs (λ n some. (
      let one = times-cons n b bs in let two = times-cons n b cs in let is = there n (omega arith) in omega arith
      )))
  told-moved still {m} (drops {b} {bs} {cs} r) once there =
      let parts = times-cons b.number b bs in
      let here = own-number b in
      let fewer = moving-most b.number r in
      let most = once b.number in
      next-other (staying_if still m.number) b bs cs (omega arith) false
      (if-staying still m.number b.number (other-than b.number m (omega arith)))
      ∙ ap (λ ns. (b.number ∷ b.below) ++ ns) (told-moved still r
      (λ n. (let parts = times-cons n b bs in let most = once n in omega arith))
      (λ n some. (let one = times-cons n b bs in there n (omega arith))))
      ∙ sym (goes-in b bs (λ n some. (
      let one = times-cons n b bs in
      let most = once n in
      let fewer = moving-most n r in
      let own_most = when-most still (own n m) in
      let is = there n (omega arith) in
      omega arith
      )))

less-than : (m n : ℕ) → m < n → nat_lt m n ≡ true
less-than m n h = by (nat_lt m n) refl
  where
    by : (b : Bool) → nat_lt m n ≡ b → nat_lt m n ≡ true
    by true e = e
    by false e = absurd (let most = ltb-false m n e in omega arith)

not-less : (m n : ℕ) → n ≤ m → nat_lt m n ≡ false
not-less m n h = by (nat_lt m n) refl
  where
    by : (b : Bool) → nat_lt m n ≡ b → nat_lt m n ≡ false
    by true e = absurd (let less = ltb-true m n e in omega arith)
    by false e = e

staying-is : (still : Bool) (moved : ℕ) (kept after : List ℕ) → length after ≡ length kept + one_if still
    → staying_by moved kept after ≡ staying_if still moved
staying-is true moved kept after e = ap (λ b. cond b (Some moved) None) (less-than (length kept) (length after) (omega arith))
staying-is false moved kept after e = ap (λ b. cond b (Some moved) None) (not-less (length kept) (length after) (omega arith))

-- ---- Children with one of them put elsewhere

pub reordered-told : (m : Branch) (os rs ps qs : List Branch) (was now : Forest ℕ) → branches was ≡ os ++ (m ∷ rs) → os ++ rs ≡ ps ++ qs
    → Some_of (ps ++ (m ∷ qs)) (branches now) → ((n : ℕ) → occurs (λ k. k == n) (labels was) ≤ 1) → IsReordered m.number was now
reordered-told m os rs ps qs was now whole same some once =
    let all = labels now in
    let old : labels was ≡ flat (os ++ (m ∷ rs)) = sym (flat-branches was) ∙ ap flat whole in
    let new : flat (branches now) ≡ all = flat-branches now in
    let old_once : (n : ℕ) → times n (os ++ (m ∷ rs)) ≤ 1 =
    λ n. (let is = ap (occurs (λ k. k == n)) old in let most = once n in omega arith) in
    let around : (n : ℕ) → times n (os ++ (m ∷ rs)) ≡ times n (ps ++ (m ∷ qs)) = λ n. (
    let one = times-append n os (m ∷ rs) in
    let two = times-append n ps (m ∷ qs) in
    let three = times-cons n m rs in
    let four = times-cons n m qs in
    let both = ap (times n) same in
    let five = times-append n os rs in
    let six = times-append n ps qs in
    omega arith
    ) in
    let t = one-gone m ps qs (branches now) some (λ n. (let is = around n in let most = old_once n in omega arith)) in
    let way : Moving m (os ++ (m ∷ rs)) t.kept = moving m os rs t.kept (subst (λ bs. Some_of bs t.kept) (sym same) t.some) in
    let counted : (n : ℕ) → occurs (λ k. k == n) all ≡ times n t.kept + when t.still (own n m) =
    λ n. (let is = ap (occurs (λ k. k == n)) new in let parts = t.counted n in omega arith) in
    let after : sibling_labels now ≡ map (λ (b : Branch). b.number) (branches now) = sym (number-branches now) in
    let kept : others_than m.number (sibling_labels now) ≡ map (λ (b : Branch). b.number) t.kept =
    ap (others_than m.number) after ∙ t.numbers in
    let staying : staying_by m.number (others_than m.number (sibling_labels now)) (sibling_labels now) ≡ staying_if t.still m.number =
    staying-is t.still m.number (others_than m.number (sibling_labels now)) (sibling_labels now)
    (let one = ap length kept ∙ length-map t.kept (λ b. b.number) in
    let two = ap length after ∙ length-map (branches now) (λ b. b.number) in
    let long = t.long in
    omega arith) in
    record {
      gone = (λ i. gone_from (staying i) (kept i) was)
          ∙ gone-branches (staying_if t.still m.number) (map (λ (b : Branch). b.number) t.kept) was
          ∙ ap (gone_in (staying_if t.still m.number) (map (λ (b : Branch). b.number) t.kept)) whole
          ∙ told-moved all t.still way old_once (λ n _. counted n)
          ∙ ap (filter (λ n. not (is_among all n))) (sym old);
      brought = filter-none (λ n. not (is_among (labels was) n)) all (λ n here. ap not (some-among n (labels was) (
          let is = counted n in
          let most = moving-most n way in
          let less = when-most t.still (own n m) in
          let same_old = ap (occurs (λ k. k == n)) old in
          omega arith
          )));
    }

-- the same of siblings that are put elsewhere where texts meet
pub others-told : (label : ℕ) (content : Content) (children was now : Forest ℕ) → Reordered label content children was now
    → ((n : ℕ) → occurs (λ k. k == n) (labels was) ≤ 1) → IsReordered label was now
others-told l c f was now (is_later before inner after whole is) once =
    let m = branch l f in
    let own_one = Node l c f Empty in
    let fs = branches before in
    let gs = branches inner in
    let hs = branches after in
    let first : Some_of (gs ++ m ∷ []) (branches (met inner own_one)) = meets-of gs (m ∷ []) _ (meets inner own_one) in
    let second : Some_of ((gs ++ m ∷ []) ++ hs) (branches (met (met inner own_one) after)) =
    then-of (both-of first (all-of hs)) (meets-of (branches (met inner own_one)) hs _ (meets (met inner own_one) after)) in
    let third : Some_of (fs ++ ((gs ++ m ∷ []) ++ hs)) (branches (met before (met (met inner own_one) after))) =
    then-of (both-of (all-of fs) second) (meets-of fs (branches (met (met inner own_one) after)) _ (meets before (met (met inner own_one) after))) in
    reordered-told m fs (gs ++ hs) (fs ++ gs) hs was now
    (ap branches whole ∙ branches-followed before (Node l c f (followed inner after))
    ∙ ap (λ bs. fs ++ (m ∷ bs)) (branches-followed inner after))
    (sym (append_assoc fs gs hs))
    (subst (λ bs. Some_of bs (branches now)) (ap (λ bs. fs ++ bs) (append_assoc gs (m ∷ []) hs) ∙ sym (append_assoc fs gs (m ∷ hs)))
    (subst (λ g. Some_of (fs ++ ((gs ++ m ∷ []) ++ hs)) (branches g)) (sym is) third))
    once
others-told l c f was now (is_earlier before inner after whole is) once =
    let m = branch l f in
    let own_one = Node l c f Empty in
    let fs = branches before in
    let gs = branches inner in
    let hs = branches after in
    let first : Some_of (m ∷ gs) (branches (met own_one inner)) = meets-of (m ∷ []) gs _ (meets own_one inner) in
    let second : Some_of ((m ∷ gs) ++ hs) (branches (met (met own_one inner) after)) =
    then-of (both-of first (all-of hs)) (meets-of (branches (met own_one inner)) hs _ (meets (met own_one inner) after)) in
    let third : Some_of (fs ++ ((m ∷ gs) ++ hs)) (branches (met before (met (met own_one inner) after))) =
    then-of (both-of (all-of fs) second) (meets-of fs (branches (met (met own_one inner) after)) _ (meets before (met (met own_one inner) after))) in
    reordered-told m (fs ++ gs) hs fs (gs ++ hs) was now
    (ap branches whole ∙ branches-followed before (followed inner (Node l c f after))
    ∙ ap (λ bs. fs ++ bs) (branches-followed inner (Node l c f after)) ∙ sym (append_assoc fs gs (m ∷ hs)))
    (append_assoc fs gs hs)
    (subst (λ g. Some_of (fs ++ ((m ∷ gs) ++ hs)) (branches g)) (sym is) third)
    once

-- and where nothing is put elsewhere
pub itself-told : (label : ℕ) (content : Content) (children before after was : Forest ℕ) → was ≡ followed before (Node label content children after)
    → ((n : ℕ) → occurs (λ k. k == n) (labels was) ≤ 1) → IsReordered label was was
itself-told l c f before after was whole once =
    let m = branch l f in
    let is : branches was ≡ branches before ++ (m ∷ branches after) = ap branches whole ∙ branches-followed before (Node l c f after) in
    reordered-told m (branches before) (branches after) (branches before) (branches after) was was is refl
    (subst (λ bs. Some_of bs (branches was)) is (all-of (branches was))) once

-- ---- A turn of the walk

pub next-passed : (staying : Option ℕ) (kept rest listed : List ℕ) (l : ℕ) (c : Content) (f behind : Forest ℕ) → Some rest ≡ past_next kept l
    → listed ++ gone_from staying rest behind ≡ listed ++ gone_from staying kept (Node l c f behind)
next-passed staying kept rest listed l c f behind e =
    ap (λ o. listed ++ gone_by o kept (numbers_unless (is_staying staying l) l (labels f)) (λ ks. gone_from staying ks behind)) e

pub other-passed : (staying : Option ℕ) (kept listed new : List ℕ) (l : ℕ) (c : Content) (f behind : Forest ℕ) → None ≡ past_next kept l
    → new ≡ listed ++ numbers_unless (is_staying staying l) l (labels f)
    → new ++ gone_from staying kept behind ≡ listed ++ gone_from staying kept (Node l c f behind)
other-passed staying kept listed new l c f behind e is =
    let own = numbers_unless (is_staying staying l) l (labels f) in
    ap (λ ns. ns ++ gone_from staying kept behind) is ∙ append_assoc listed own (gone_from staying kept behind)
    ∙ ap (λ o. listed ++ gone_by o kept own (λ ks. gone_from staying ks behind)) e
