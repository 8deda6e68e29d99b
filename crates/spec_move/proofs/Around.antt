-- The node that a path leads to, once another node was taken away.
use Rattle.std.proofs.Common.{◌≡◌, ◌≤◌, ◌<◌, arith, ℕ, ◌+◌, ◌-◌, ◌==◌, Bool, true, false, cond, List, [], ◌∷◌, ◌++◌, Option, None, Some}
use Rattle.std.proofs.Common.{refl, sym, ap, ◌∙◌, subst, eq-eqb}
use Rattle.std.specs.Prelude.{IsTrue, nat_lt, ◌&&◌}
use Rattle.std.specs.Option.{option_and_then}
use Rattle.std.proofs.lemmas.Bool.{eqb-true, ltb-true, ltb-false}
use Rattle.spec_document.specs.Forest.{Content, Element, Text, Comment, Instruction, Forest, Empty, Node, followed, IsNormal}
use Rattle.spec_document.specs.Place.{Found, found_in, child_at, node_from}
use Rattle.spec_edit.specs.Splice.{Spot, spot_from, first_siblings, later_siblings, below_changed, children_changed, text_before, last_before}
use Rattle.spec_edit.specs.Splice.{met, deleted, sibling_count}
use Rattle.spec_edit.specs.Edit.{is_element}
use Rattle.spec_edit.proofs.Around.{Around, Here, Below, filled, content_in, IsChild, child, below, some_same, not_zero}
use Rattle.spec_edit.proofs.Normal.{IsAbove, normal-parts, some-below, some-followed}
use Rattle.spec_move.specs.Move.{is_path, goes_through, position_without, path_without, fewer_by}

-- ---- The node at a path, below its parent

and-some : {A : Type 0} (o : Option A) → option_and_then Some o ≡ o
and-some None = refl
and-some (Some x) = refl

then-steps : {L : Type 0} (p q : ℕ) (qs : List ℕ) → ((y : Found L) → node_from (q ∷ qs) y
    ≡ option_and_then (λ x. child_at x.above x.children (spot_from q qs).position) (node_from (spot_from q qs).above y))
    → (o : Option (Found L)) → option_and_then (node_from (q ∷ qs)) o
    ≡ option_and_then (λ x. child_at x.above x.children (spot_from q qs).position) (option_and_then (node_from (spot_from q qs).above) o)
then-steps p q qs same None = refl
then-steps p q qs same (Some y) = same y

pub path-spot : {L : Type 0} (p : ℕ) (ps : List ℕ) (node : Found L)
    → node_from (p ∷ ps) node ≡ option_and_then (λ x. child_at x.above x.children (spot_from p ps).position) (node_from (spot_from p ps).above node)
path-spot p [] node = and-some (child_at node.above node.children p)
path-spot p (q ∷ qs) node = then-steps p q qs (path-spot q qs) (child_at node.above node.children p)

-- ---- Siblings, counted

pub count-followed : {L : Type 0} (f g : Forest L) → sibling_count (followed f g) ≡ sibling_count f + sibling_count g
count-followed Empty g = omega arith
count-followed (Node l c f s) g = let rest = count-followed s g in omega arith

count-text : {L : Type 0} (l : L) (text : List ℕ) (f g : Forest L) → sibling_count g ≤ sibling_count (text_before l text f g)
count-text l text f Empty = omega arith
count-text l text f (Node k (Element m a) r s) = omega arith
count-text l text f (Node k (Text t) r s) = omega arith
count-text l text f (Node k (Comment t) r s) = omega arith
count-text l text f (Node k (Instruction m t) r s) = omega arith

count-last : {L : Type 0} (l : L) (c : Content) (f g : Forest L) → sibling_count g ≤ sibling_count (last_before l c f g)
count-last l (Element m a) f g = omega arith
count-last l (Text t) f g = count-text l t f g
count-last l (Comment t) f g = omega arith
count-last l (Instruction m t) f g = omega arith

count-met : {L : Type 0} (f g : Forest L) → sibling_count g ≤ sibling_count (met f g)
count-met Empty g = omega arith
count-met (Node l c f Empty) g = count-last l c f g
count-met (Node l c f (Node k d r s)) g = let rest = count-met (Node k d r s) g in omega arith

count-text-most : {L : Type 0} (l : L) (text : List ℕ) (f g : Forest L) → sibling_count (text_before l text f g) ≤ 1 + sibling_count g
count-text-most l text f Empty = omega arith
count-text-most l text f (Node k (Element m a) r s) = omega arith
count-text-most l text f (Node k (Text t) r s) = omega arith
count-text-most l text f (Node k (Comment t) r s) = omega arith
count-text-most l text f (Node k (Instruction m t) r s) = omega arith

count-last-most : {L : Type 0} (l : L) (c : Content) (f g : Forest L) → sibling_count (last_before l c f g) ≤ 1 + sibling_count g
count-last-most l (Element m a) f g = omega arith
count-last-most l (Text t) f g = count-text-most l t f g
count-last-most l (Comment t) f g = omega arith
count-last-most l (Instruction m t) f g = omega arith

count-met-most : {L : Type 0} (f g : Forest L) → sibling_count (met f g) ≤ sibling_count f + sibling_count g
count-met-most Empty g = omega arith
count-met-most (Node l c f Empty) g = let last = count-last-most l c f g in omega arith
count-met-most (Node l c f (Node k d r s)) g = let rest = count-met-most (Node k d r s) g in omega arith

-- ---- One of some siblings

-- the test of a position, and what it decides
child-next : {L : Type 0} (above : List Content) (l : L) (c : Content) (f s : Forest L) (k : ℕ) (x : Found L) → (k == 1) ≡ false
    → child_at above (Node l c f s) k ≡ Some x → child_at above s (k - 1) ≡ Some x
child-next above l c f s k x other e = sym (ap (λ b. cond b (Some (found_in above l c f)) (child_at above s (k - 1))) other) ∙ e

next-child : {L : Type 0} (above : List Content) (l : L) (c : Content) (f s : Forest L) (k : ℕ) (x : Found L) → (k == 1) ≡ false
    → child_at above s (k - 1) ≡ Some x → child_at above (Node l c f s) k ≡ Some x
next-child above l c f s k x other e = ap (λ b. cond b (Some (found_in above l c f)) (child_at above s (k - 1))) other ∙ e

not_one : (k : ℕ) → (k ≡ 1 → ⊥) → (k == 1) ≡ false
not_one k h =
    elim (k == 1) as (λ b. (k == 1) ≡ b → b ≡ false) [
      | true ↦ λ e. absurd (h (eqb-true k 1 e))
      | false ↦ λ _. refl
    ] refl

-- it stands in the first of two or in the second
pub data Either {L : Type 0} (above : List Content) (f g : Forest L) (k : ℕ) (x : Found L) : Type 0 where
  in_first : k ≤ sibling_count f → child_at above f k ≡ Some x → Either above f g k x
  in_second : (m : ℕ) → k ≡ sibling_count f + m → 1 ≤ m → child_at above g m ≡ Some x → Either above f g k x

either-next : {L : Type 0} (above : List Content) (l : L) (c : Content) (f s g : Forest L) (k : ℕ) (x : Found L) → (k == 1) ≡ false → 1 ≤ k
    → Either above s g (k - 1) x → Either above (Node l c f s) g k x
either-next above l c f s g k x other from (in_first most e) = in_first (omega arith) (next-child above l c f s k x other e)
either-next above l c f s g k x other from (in_second m is some e) = in_second m (omega arith) some e

pub either : {L : Type 0} (above : List Content) (f g : Forest L) (k : ℕ) (x : Found L) → child_at above (followed f g) k ≡ Some x → Either above f g k x
either above Empty g k x e = in_second k (omega arith) (child above g k x e).from e
either {L} above (Node l c f s) g k x e =
    elim (k == 1) as (λ b. (k == 1) ≡ b → cond b (Some (found_in above l c f)) (child_at above (followed s g) (k - 1)) ≡ Some x
    → Either above (Node l c f s) g k x) [
      | true ↦ λ is h.
          let one = eqb-true k 1 is in
          in_first (omega arith) (ap (λ b. cond b (Some (found_in above l c f)) (child_at above s (k - 1))) is ∙ h)
      | false ↦ λ other h. either-next above l c f s g k x other (child above (followed (Node l c f s) g) k x e).from (either above s g (k - 1) x h)
    ] refl e

-- ---- An element where siblings met others

no-text-above : {L : Type 0} (above : List Content) (l : L) (t : List ℕ) (f : Forest L) (x : Found L) → Some (found_in above l (Text t) f) ≡ Some x
    → IsAbove x.content → ⊥
no-text-above above l t f x e is =
    let same = some_same (found_in above l (Text t) f) x e in
    let no : IsAbove (Some (Text t)) = subst (λ (o : Option Content). IsAbove o) (sym (ap (λ n. n.content) same)) is in cc

one-last : {L : Type 0} (above : List Content) (l : L) (c : Content) (f g : Forest L) (k : ℕ) (x : Found L) → IsAbove x.content → (k == 1) ≡ true
    → Some (found_in above l c f) ≡ Some x → child_at above (last_before l c f g) k ≡ Some x
one-last above l (Element m a) f g k x is one e = ap (λ b. cond b (Some (found_in above l (Element m a) f)) (child_at above g (k - 1))) one ∙ e
one-last above l (Text t) f g k x is one e = absurd (no-text-above above l t f x e is)
one-last above l (Comment t) f g k x is one e = ap (λ b. cond b (Some (found_in above l (Comment t) f)) (child_at above g (k - 1))) one ∙ e
one-last above l (Instruction m t) f g k x is one e =
    ap (λ b. cond b (Some (found_in above l (Instruction m t) f)) (child_at above g (k - 1))) one ∙ e

-- one of the first is where it was
met-first : {L : Type 0} (above : List Content) (f g : Forest L) (k : ℕ) (x : Found L) → IsAbove x.content → child_at above f k ≡ Some x
    → child_at above (met f g) k ≡ Some x
met-first above Empty g k x is e = absurd (cc)
met-first above (Node l c f Empty) g k x is e =
    elim (k == 1) as (λ b. (k == 1) ≡ b → cond b (Some (found_in above l c f)) None ≡ Some x → child_at above (last_before l c f g) k ≡ Some x) [
      | true ↦ λ one h. one-last above l c f g k x is one h
      | false ↦ λ other h. absurd (cc)
    ] refl e
met-first above (Node l c f (Node m d r s)) g k x is e =
    elim (k == 1) as (λ b. (k == 1) ≡ b → cond b (Some (found_in above l c f)) (child_at above (Node m d r s) (k - 1)) ≡ Some x
    → child_at above (met (Node l c f (Node m d r s)) g) k ≡ Some x) [
      | true ↦ λ one h. ap (λ b. cond b (Some (found_in above l c f)) (child_at above (met (Node m d r s) g) (k - 1))) one ∙ h
      | false ↦ λ other h. next-child above l c f (met (Node m d r s) g) k x other (met-first above (Node m d r s) g (k - 1) x is h)
    ] refl e

later-at : {L : Type 0} (above : List Content) (f : Forest L) (k n : ℕ) (x : Found L) → k ≡ n → child_at above f k ≡ Some x → child_at above f n ≡ Some x
later-at above f k n x same e = ap (child_at above f) (sym same) ∙ e

-- behind one more
behind-one : {L : Type 0} (above : List Content) (l : L) (c : Content) (f g : Forest L) (k n : ℕ) (x : Found L) → n ≡ k + 1 → 1 ≤ k
    → child_at above g k ≡ Some x → child_at above (Node l c f g) n ≡ Some x
behind-one above l c f g k n x is some e =
    next-child above l c f g n x (not_one n (λ one. omega arith)) (later-at above g k (n - 1) x (omega arith) e)

second-text : {L : Type 0} (above : List Content) (l : L) (t : List ℕ) (f g : Forest L) (k n : ℕ) (x : Found L) → IsAbove x.content → 1 ≤ k
    → child_at above g k ≡ Some x → n ≡ k + (sibling_count (text_before l t f g) - sibling_count g) → child_at above (text_before l t f g) n ≡ Some x
second-text above l t f Empty k n x is some e at = absurd (cc)
second-text above l t f (Node m (Element o a) r s) k n x is some e at =
    behind-one above l (Text t) f (Node m (Element o a) r s) k n x (omega arith) some e
second-text above l t f (Node m (Comment u) r s) k n x is some e at = behind-one above l (Text t) f (Node m (Comment u) r s) k n x (omega arith) some e
second-text above l t f (Node m (Instruction o u) r s) k n x is some e at =
    behind-one above l (Text t) f (Node m (Instruction o u) r s) k n x (omega arith) some e
second-text above l t f (Node m (Text u) r s) k n x is some e at =
    let same : k ≡ n = omega arith in
    elim (k == 1) as (λ b. (k == 1) ≡ b → cond b (Some (found_in above m (Text u) r)) (child_at above s (k - 1)) ≡ Some x
    → child_at above (text_before l t f (Node m (Text u) r s)) n ≡ Some x) [
      | true ↦ λ one h. absurd (no-text-above above m u r x h is)
      | false ↦ λ other h. later-at above (text_before l t f (Node m (Text u) r s)) k n x same
          (ap (λ b. cond b (Some (found_in above l (Text (t ++ u)) f)) (child_at above s (k - 1))) other ∙ h)
    ] refl e

second-last : {L : Type 0} (above : List Content) (l : L) (c : Content) (f g : Forest L) (k n : ℕ) (x : Found L) → IsAbove x.content → 1 ≤ k
    → child_at above g k ≡ Some x → n ≡ k + (sibling_count (last_before l c f g) - sibling_count g) → child_at above (last_before l c f g) n ≡ Some x
second-last above l (Element m a) f g k n x is some e at = behind-one above l (Element m a) f g k n x (omega arith) some e
second-last above l (Text t) f g k n x is some e at = second-text above l t f g k n x is some e at
second-last above l (Comment t) f g k n x is some e at = behind-one above l (Comment t) f g k n x (omega arith) some e
second-last above l (Instruction m t) f g k n x is some e at = behind-one above l (Instruction m t) f g k n x (omega arith) some e

-- one of the others is where their front is
met-second : {L : Type 0} (above : List Content) (f g : Forest L) (k n : ℕ) (x : Found L) → IsAbove x.content → 1 ≤ k → child_at above g k ≡ Some x
    → n ≡ k + (sibling_count (met f g) - sibling_count g) → child_at above (met f g) n ≡ Some x
met-second above Empty g k n x is some e at = later-at above g k n x (omega arith) e
met-second above (Node l c f Empty) g k n x is some e at = second-last above l c f g k n x is some e at
met-second above (Node l c f (Node m d r s)) g k n x is some e at =
    let more = count-met (Node m d r s) g in
    behind-one above l c f (met (Node m d r s) g) (n - 1) n x (omega arith) (omega arith)
    (met-second above (Node m d r s) g k (n - 1) x is some e (omega arith))

-- ---- Siblings of which one is taken away

pub child-count : {L : Type 0} (above : List Content) (f : Forest L) (p : ℕ) (x : Found L) → child_at above f p ≡ Some x
    → sibling_count (first_siblings (p - 1) f) + 1 ≡ p
child-count above Empty p x e = absurd (cc)
child-count above (Node l c f s) p x e =
    elim (p == 1) as (λ b. (p == 1) ≡ b → cond b (Some (found_in above l c f)) (child_at above s (p - 1)) ≡ Some x
    → sibling_count (first_siblings (p - 1) (Node l c f s)) + 1 ≡ p) [
      | true ↦ λ one h. let is = eqb-true p 1 one in subst (λ n. sibling_count (first_siblings (n - 1) (Node l c f s)) + 1 ≡ n) (sym is) refl
      | false ↦ λ other h.
          let from = (child above s (p - 1) x h).from in
          let more : (p - 1 == 0) ≡ false = not_zero (p - 1) from in
          let rest = child-count above s (p - 1) x h in
          let is = ap (λ b. sibling_count (cond b Empty (Node l c f (first_siblings (p - 1 - 1) s)))) more in
          omega arith
    ] refl e

-- an element is where a path leads that is as it was without the other
pub deleted-child : {L : Type 0} (above : List Content) (f : Forest L) (p k : ℕ) (y x : Found L) → child_at above f p ≡ Some y
    → child_at above f k ≡ Some x → IsAbove x.content → (k ≡ p → ⊥)
    → child_at above (deleted (p - 1) f) (position_without p (fewer_by p f) k) ≡ Some x
deleted-child {L} above f p k y x d e is apart = by (either above i.before (Node i.label i.content i.children i.after) k x (subst (λ g. child_at above g k ≡ Some x) i.whole e))
  where
    i : IsChild above f p y
    i = child above f p y d

    whole : Forest L
    whole = met i.before i.after

    deleted_is : deleted (p - 1) f ≡ whole
    deleted_is =
        let from = i.from in
        let next : p - 1 + 1 ≡ p = omega arith in
        ap (λ n. met (first_siblings (p - 1) f) (later_siblings n f)) next ∙ (λ j. met (i.first j) (i.later j))

    counted : sibling_count i.before + 1 ≡ p
    counted = ap (λ g. sibling_count g + 1) (sym i.first) ∙ child-count above f p y d

    all : sibling_count f ≡ sibling_count i.before + (1 + sibling_count i.after)
    all = ap sibling_count i.whole ∙ count-followed i.before (Node i.label i.content i.children i.after)

    in-whole : (n : ℕ) → child_at above whole n ≡ Some x → position_without p (fewer_by p f) k ≡ n
        → child_at above (deleted (p - 1) f) (position_without p (fewer_by p f) k) ≡ Some x
    in-whole n h same = (λ j. child_at above (deleted_is j) (same j)) ∙ h

    earlier : (b : Bool) → nat_lt p k ≡ b → k ≤ sibling_count i.before → position_without p (fewer_by p f) k ≡ k
    earlier true e most = absurd (let less = ltb-true p k e in omega (arith, counted))
    earlier false e most = ap (λ b. cond b (k - fewer_by p f) k) e

    later : (b : Bool) → nat_lt p k ≡ b → p < k → position_without p (fewer_by p f) k ≡ k - (sibling_count f - sibling_count whole)
    later true e less = ap (λ b. cond b (k - fewer_by p f) k) e ∙ ap (λ g. k - (sibling_count f - sibling_count g)) deleted_is
    later false e less = absurd (let most = ltb-false p k e in omega arith)

    behind : (m : ℕ) → k ≡ sibling_count i.before + m → 1 ≤ m → child_at above (Node i.label i.content i.children i.after) m ≡ Some x
        → child_at above (deleted (p - 1) f) (position_without p (fewer_by p f) k) ≡ Some x
    behind m at some h =
        let other = not_one m (λ one. apart (omega (arith, counted, at, one))) in
        let rest = child-next above i.label i.content i.children i.after m x other h in
        let from = (child above i.after (m - 1) x rest).from in
        let least = count-met i.before i.after in
        let most = count-met-most i.before i.after in
        let n = k - (sibling_count f - sibling_count whole) in
        in-whole n (met-second above i.before i.after (m - 1) n x is from rest (omega (arith, counted, all)))
        (later (nat_lt p k) refl (omega (arith, counted)))

    by : Either above i.before (Node i.label i.content i.children i.after) k x
        → child_at above (deleted (p - 1) f) (position_without p (fewer_by p f) k) ≡ Some x
    by (in_first most h) = in-whole k (met-first above i.before i.after k x is h) (earlier (nat_lt p k) refl most)
    by (in_second m at some h) = behind m at some h

-- ---- Siblings of which one has other children

changed-same : {L : Type 0} (above : List Content) (f : Forest L) (p : ℕ) (x : Found L) (change : Forest L → Forest L) → child_at above f p ≡ Some x
    → child_at above (below_changed change p f) p
    ≡ Some (record { label = x.label; content = x.content; children = change x.children; above = x.above })
changed-same above Empty p x change e = absurd (cc)
changed-same {L} above (Node l c f s) p x change e =
    elim (p == 1) as (λ b. (p == 1) ≡ b → cond b (Some (found_in above l c f)) (child_at above s (p - 1)) ≡ Some x
    → child_at above (cond b (Node l c (change f) s) (Node l c f (below_changed change (p - 1) s))) p ≡ Some (now x)) [
      | true ↦ λ one h. ap (λ b. cond b (Some (found_in above l c (change f))) (child_at above s (p - 1))) one
          ∙ ap (λ n. Some (now n)) (some_same (found_in above l c f) x h)
      | false ↦ λ other h. ap (λ b. cond b (Some (found_in above l c f)) (child_at above (below_changed change (p - 1) s) (p - 1))) other
          ∙ changed-same above s (p - 1) x change h
    ] refl e
  where
    now : Found L → Found L
    now n = record { label = n.label; content = n.content; children = change n.children; above = n.above }

unlike_one : (k : ℕ) → (k == 1) ≡ false → k ≡ 1 → ⊥
unlike_one k other is = let both : true ≡ false = sym (eq-eqb k 1 is) ∙ other in cc

less-one : (k p : ℕ) → (k ≡ 1 → ⊥) → (p ≡ 1 → ⊥) → k - 1 ≡ p - 1 → k ≡ p
less-one k p some other same = omega (arith, some, other)

changed-other : {L : Type 0} (above : List Content) (f : Forest L) (p k : ℕ) (change : Forest L → Forest L) → (k ≡ p → ⊥)
    → child_at above (below_changed change p f) k ≡ child_at above f k
changed-other above Empty p k change apart = refl
changed-other above (Node l c f s) p k change apart =
    elim (p == 1) as (λ b. (p == 1) ≡ b → child_at above (cond b (Node l c (change f) s) (Node l c f (below_changed change (p - 1) s))) k
    ≡ child_at above (Node l c f s) k) [
      | true ↦ λ one.
          let other = not_one k (λ same. apart (let is = eqb-true p 1 one in omega arith)) in
          ap (λ b. cond b (Some (found_in above l c (change f))) (child_at above s (k - 1))) other
          ∙ sym (ap (λ b. cond b (Some (found_in above l c f)) (child_at above s (k - 1))) other)
      | false ↦ λ one. elim (k == 1) as (λ b. (k == 1) ≡ b → cond b (Some (found_in above l c f)) (child_at above (below_changed change (p - 1) s) (k - 1))
          ≡ cond b (Some (found_in above l c f)) (child_at above s (k - 1))) [
            | true ↦ λ _. refl
            | false ↦ λ other. changed-other above s (p - 1) (k - 1) change (λ same. apart (less-one k p (unlike_one k other) (unlike_one p one) same))
          ] refl
    ] refl

-- ---- The node at a path, once another was taken away

-- where nothing else is changed but what is below it
pub record IsKept {L : Type 0} (found : Option (Found L)) (node : Found L) : Type 0 where
  pub now : Found L
  pub there : found ≡ Some now
  pub label : now.label ≡ node.label
  pub content : now.content ≡ node.content
  pub above : now.above ≡ node.above

-- the node with the sibling at a spot below it taken away
abbrev pub less : {L : Type 0} → Spot → Found L → Found L
less spot node =
    record {
      label = node.label;
      content = node.content;
      children = children_changed (deleted (spot.position - 1)) spot.above node.children;
      above = node.above;
    }

pub normal-children : {L : Type 0} (l : L) (c : Content) (f s : Forest L) → IsNormal (Node l c f s) → IsNormal f
normal-children l (Element m a) f s n = n.0
normal-children l (Text t) f s n = subst IsNormal (sym n.0) tt
normal-children l (Comment t) f s n = subst IsNormal (sym n.0) tt
normal-children l (Instruction m t) f s n = subst IsNormal (sym n.0) tt

-- what leads to a node with something that may stand below it is such itself
pub above-way : {L : Type 0} (around : Around L) (l : L) (c : Content) (f g s : Forest L) → f ≡ filled around g → IsAbove (content_in (Some c) around)
    → IsNormal (Node l c f s) → IsTrue (is_element c)
above-way Here l c f g s whole is n = is
above-way (Below before k d inner after) l c f g s whole is n =
    some-below l c (followed before (Node k d (filled inner g) after)) s (some-followed before k d (filled inner g) after)
    (subst (λ h. IsNormal (Node l c h s)) whole n)

child-normal : {L : Type 0} (above : List Content) (f : Forest L) (k : ℕ) (y : Found L) → child_at above f k ≡ Some y → IsNormal f → IsNormal y.children
child-normal above f k y e n =
    let i = child above f k y e in
    let parts = normal-parts i.before (Node i.label i.content i.children i.after) (subst IsNormal i.whole n) in
    subst (λ (x : Found _). IsNormal x.children) (sym i.is) (normal-children i.label i.content i.children i.after parts.1)

child-above : {L : Type 0} (above : List Content) (f : Forest L) (k : ℕ) (ks : List ℕ) (y new : Found L) → child_at above f k ≡ Some y → IsNormal f
    → node_from ks y ≡ Some new → IsAbove new.content → IsAbove y.content
child-above above f k ks y new e n way is =
    let i = child above f k y e in
    let b = below ks y new way in
    let parts = normal-parts i.before (Node i.label i.content i.children i.after) (subst IsNormal i.whole n) in
    let content : y.content ≡ Some i.content = ap (λ x. x.content) i.is in
    let children : i.children ≡ filled b.around new.children = sym (ap (λ x. x.children) i.is) ∙ b.whole in
    subst IsAbove (sym content) (above-way b.around i.label i.content i.children new.children i.after children
    (subst IsAbove (b.content ∙ ap (λ o. content_in o b.around) content) is) parts.1)

and-false : (b : Bool) → (b && true) ≡ false → b ≡ false
and-false true e = absurd (cc)
and-false false e = refl

pub apart-of : (k p : ℕ) → (k == p) ≡ false → k ≡ p → ⊥
apart-of k p other is = let both : true ≡ false = sym (eq-eqb k p is) ∙ other in cc

-- at the way's first step they part, where the node was taken away from these siblings
kept-beside : {L : Type 0} (p : ℕ) (node x new : Found L) (k : ℕ) (ks : List ℕ) → child_at node.above node.children p ≡ Some x
    → (o : Option (Found L)) → child_at node.above node.children k ≡ o → option_and_then (node_from ks) o ≡ Some new
    → IsNormal node.children → IsAbove new.content → (k ≡ p → ⊥)
    → IsKept (node_from (position_without p (fewer_by p node.children) k ∷ ks) (less (record { above = []; position = p }) node)) new
kept-beside p node x new k ks d None e way n is apart = absurd (cc)
kept-beside p node x new k ks d (Some y) e way n is apart =
    record {
      now = new;
      there = ap (option_and_then (node_from ks))
          (deleted-child node.above node.children p k x y d e (child-above node.above node.children k ks y new e n way is) apart) ∙ way;
      label = refl;
      content = refl;
      above = refl;
    }

-- above the siblings from which it was taken away
kept-above : {L : Type 0} (spot : Spot) (node new : Found L) → node ≡ new → IsKept (Some (less spot node)) new
kept-above spot node new e =
    record { now = less spot node; there = refl; label = ap (λ n. n.label) e; content = ap (λ n. n.content) e; above = ap (λ n. n.above) e }

-- below another child
kept-other : {L : Type 0} (h : ℕ) (spot : Spot) (node new : Found L) (k : ℕ) (ks : List ℕ) → node_from (k ∷ ks) node ≡ Some new → (k ≡ h → ⊥)
    → IsKept (node_from (k ∷ ks) (less (record { above = h ∷ spot.above; position = spot.position }) node)) new
kept-other h spot node new k ks way apart =
    record {
      now = new;
      there = ap (option_and_then (node_from ks))
          (changed-other node.above node.children h k (children_changed (deleted (spot.position - 1)) spot.above) apart) ∙ way;
      label = refl;
      content = refl;
      above = refl;
    }

-- below the same child
kept-through : {L : Type 0} (h : ℕ) (spot : Spot) (node y new : Found L) (path : List ℕ) → child_at node.above node.children h ≡ Some y
    → IsKept (node_from path (less spot y)) new
    → IsKept (node_from (h ∷ path) (less (record { above = h ∷ spot.above; position = spot.position }) node)) new
kept-through h spot node y new path e k =
    record {
      now = k.now;
      there = ap (option_and_then (node_from path))
          (changed-same node.above node.children h y (children_changed (deleted (spot.position - 1)) spot.above) e) ∙ k.there;
      label = k.label;
      content = k.content;
      above = k.above;
    }

-- of a chain of steps the first one and the rest
pub record Steps {A B : Type 0} (o : Option A) (f : A → Option B) (z : B) : Type 0 where
  pub middle : A
  pub is : o ≡ Some middle
  pub rest : f middle ≡ Some z

pub steps_of : {A B : Type 0} (o : Option A) (f : A → Option B) (z : B) → option_and_then f o ≡ Some z → Steps o f z
steps_of None f z e = absurd (cc)
steps_of (Some a) f z e = record { middle = a; is = refl; rest = e }

kept-same : {L : Type 0} (p q : ℕ) (qs : List ℕ) (node old new : Found L) (k : ℕ) (ks : List ℕ)
    → node_from (p ∷ (spot_from q qs).above) node ≡ Some old → node_from (k ∷ ks) node ≡ Some new
    → is_path (p ∷ (spot_from q qs).above) (k ∷ ks) ≡ false → goes_through (k ∷ ks) (p ∷ q ∷ qs) ≡ false → IsNormal node.children → p ≡ k
    → ((y : Found L) → node_from (spot_from q qs).above y ≡ Some old → node_from ks y ≡ Some new → is_path (spot_from q qs).above ks ≡ false
    → goes_through ks (q ∷ qs) ≡ false → IsNormal y.children → IsKept (node_from (path_without (spot_from q qs) old ks) (less (spot_from q qs) y)) new)
    → IsKept (node_from (k ∷ path_without (spot_from q qs) old ks) (less (spot_from p (q ∷ qs)) node)) new
kept-same p q qs node old new k ks there way other through n same go =
    let spot = spot_from q qs in
    let child : Option (Found _) = child_at node.above node.children p in
    let s = steps_of child (node_from spot.above) old there in
    let on = sym (ap (option_and_then (node_from ks)) (ap (child_at node.above node.children) (sym same) ∙ s.is)) ∙ way in
    let apart = sym (ap (λ b. b && is_path spot.above ks) (eq-eqb p k same)) ∙ other in
    let beside = sym (ap (λ b. b && goes_through ks (q ∷ qs)) (eq-eqb k p (sym same))) ∙ through in
    subst (λ m. IsKept (node_from (m ∷ path_without spot old ks) (less (spot_from p (q ∷ qs)) node)) new) same
    (kept-through p spot node s.middle new (path_without spot old ks) s.is
    (go s.middle s.rest on apart beside (child-normal node.above node.children p s.middle s.is n)))

-- the way to a node that is not moved itself, nor below the one that is, nor its parent
pub way-kept : {L : Type 0} (p : ℕ) (ps : List ℕ) (node old x new : Found L) (path : List ℕ)
    → node_from (spot_from p ps).above node ≡ Some old → child_at old.above old.children (spot_from p ps).position ≡ Some x
    → node_from path node ≡ Some new → is_path (spot_from p ps).above path ≡ false → goes_through path (p ∷ ps) ≡ false
    → IsNormal node.children → IsAbove new.content
    → IsKept (node_from (path_without (spot_from p ps) old path) (less (spot_from p ps) node)) new
way-kept p [] node old x new [] there d way other through n is = absurd (cc)
way-kept p [] node old x new (k ∷ ks) there d way other through n is =
    let same = some_same node old there in
    let e = subst (λ (y : Found _). child_at y.above y.children p ≡ Some x) (sym same) d in
    subst (λ y. IsKept (node_from (position_without p (fewer_by p y.children) k ∷ ks) (less (record { above = []; position = p }) node)) new) same
    (kept-beside p node x new k ks e (child_at node.above node.children k) refl way n is (apart-of k p (and-false (k == p) through)))
way-kept p (q ∷ qs) node old x new [] there d way other through n is = kept-above (spot_from p (q ∷ qs)) node new (some_same node new way)
way-kept p (q ∷ qs) node old x new (k ∷ ks) there d way other through n is =
    let spot = spot_from q qs in
    elim (p == k) as (λ b. (p == k) ≡ b
    → IsKept (node_from (k ∷ cond b (path_without spot old ks) ks) (less (spot_from p (q ∷ qs)) node)) new) [
      | true ↦ λ e. kept-same p q qs node old new k ks there way other through n (eqb-true p k e)
          (λ y there way apart through n. way-kept q qs y old x new ks there d way apart through n is)
      | false ↦ λ e. kept-other p spot node new k ks way (λ is. apart-of p k e (sym is))
    ] refl
