-- Siblings of which one was taken away and put in elsewhere.
use Rattle.std.proofs.Common.{◌≡◌, ◌≢◌, ◌≤◌, ◌<◌, arith, ℕ, ◌+◌, ◌-◌, Bool, true, false, cond, List, Some, refl, ap, sym, ◌∙◌}
use Rattle.std.specs.Prelude.{nat_lt}
use Rattle.std.proofs.lemmas.Bool.{ltb-true, ltb-false, lt-ltb}
use Rattle.spec_document.specs.Forest.{Content, Element, Text, Comment, Instruction, Forest, Empty, Node, followed}
use Rattle.spec_document.specs.Place.{Found, child_at}
use Rattle.spec_edit.specs.Splice.{first_siblings, later_siblings, text_before, last_before, met, deleted, sibling_count}
use Rattle.spec_edit.proofs.Around.{IsChild, child, first-later}
use Rattle.spec_move.specs.Move.{position_without, rearranged}
use Rattle.spec_move.proofs.Shapes.{first-first, first-of-later, later-later}
use Rattle.xt_edit.specs.Seam.{put_in}
use Rattle.xt_edit.proofs.Seams.{first-more, first-none, later-all, later-more, met-assoc, met-more}
use Rattle.xt_edit.proofs.Sites.{child-from}

-- ---- How many siblings there are

count-followed : (f g : Forest ℕ) → sibling_count (followed f g) ≡ sibling_count f + sibling_count g
count-followed Empty g = omega arith
count-followed (Node l c f s) g = let rest = count-followed s g in omega arith

count-text : (l : ℕ) (t : List ℕ) (f g : Forest ℕ) → sibling_count (text_before l t f g) ≤ 1 + sibling_count g
count-text l t f Empty = omega arith
count-text l t f (Node k (Element n a) g s) = omega arith
count-text l t f (Node k (Text u) g s) = omega arith
count-text l t f (Node k (Comment u) g s) = omega arith
count-text l t f (Node k (Instruction n u) g s) = omega arith

count-last : (l : ℕ) (c : Content) (f g : Forest ℕ) → sibling_count (last_before l c f g) ≤ 1 + sibling_count g
count-last l (Element n a) f g = omega arith
count-last l (Text t) f g = count-text l t f g
count-last l (Comment t) f g = omega arith
count-last l (Instruction n t) f g = omega arith

count-met : (f g : Forest ℕ) → sibling_count (met f g) ≤ sibling_count f + sibling_count g
count-met Empty g = omega arith
count-met (Node l c f Empty) g = let last = count-last l c f g in omega arith
count-met (Node l c f (Node k d i j)) g = let rest = count-met (Node k d i j) g in omega arith

count-first : (n : ℕ) (s : Forest ℕ) → n ≤ sibling_count s → sibling_count (first_siblings n s) ≡ n
count-first n Empty h = omega arith
count-first n (Node l c f s) h =
    elim (nat_lt 0 n) as (λ b. nat_lt 0 n ≡ b → sibling_count (first_siblings n (Node l c f s)) ≡ n) [
      | true ↦ λ e.
          let some = ltb-true 0 n e in
          let rest = count-first (n - 1) s (omega arith) in
          ap sibling_count (first-more n l c f s some) ∙ omega arith
      | false ↦ λ e.
          let none : n ≡ 0 = (let most = ltb-false 0 n e in omega arith) in
          ap (λ m. sibling_count (first_siblings m (Node l c f s))) none ∙ sym none
    ] refl

-- ---- Siblings parted

first-of : (f g : Forest ℕ) → first_siblings (sibling_count f) (followed f g) ≡ f
first-of Empty g = first-none g
first-of (Node l c f s) g =
    let less : 1 + sibling_count s - 1 ≡ sibling_count s = omega arith in
    first-more (1 + sibling_count s) l c f (followed s g) (omega arith)
    ∙ ap (Node l c f) (ap (λ n. first_siblings n (followed s g)) less ∙ first-of s g)

later-of : (f g : Forest ℕ) → later_siblings (sibling_count f) (followed f g) ≡ g
later-of Empty g = later-all g
later-of (Node l c f s) g =
    let less : 1 + sibling_count s - 1 ≡ sibling_count s = omega arith in
    later-more (1 + sibling_count s) l c f (followed s g) (omega arith) ∙ ap (λ n. later_siblings n (followed s g)) less ∙ later-of s g

-- what meets at least one sibling meets no others
met-some : (f g h : Forest ℕ) → 1 ≤ sibling_count g → met f (followed g h) ≡ followed (met f g) h
met-some f Empty h some = absurd (omega arith)
met-some f (Node k d i j) h some = met-more f k d i j h

met-behind : (f : Forest ℕ) (k : ℕ) (d : Content) (i j h : Forest ℕ) → met (followed f (Node k d i j)) h ≡ followed f (met (Node k d i j) h)
met-behind Empty k d i j h = refl
met-behind (Node l c f Empty) k d i j h = refl
met-behind (Node l c f (Node m e g s)) k d i j h = ap (Node l c f) (met-behind (Node m e g s) k d i j h)

some-behind : (f g h : Forest ℕ) → 1 ≤ sibling_count g → met (followed f g) h ≡ followed f (met g h)
some-behind f Empty h some = absurd (omega arith)
some-behind f (Node k d i j) h some = met-behind f k d i j h

-- ---- Put in where one was taken away

pub record IsShifted (p fewer position : ℕ) (tree s : Forest ℕ) : Type 0 where
  pub some : 1 ≤ position_without p fewer position
  pub is : put_in (position_without p fewer position - 1) (position_without p fewer position - 1) tree (deleted (p - 1) s)
      ≡ rearranged (p - 1) (position - 1) tree s

-- these nodes put in at an index that parts the siblings so
put-at : (n : ℕ) (f g tree s : Forest ℕ) → s ≡ followed f g → n ≡ sibling_count f → put_in n n tree s ≡ met f (met tree g)
put-at n f g tree s whole at =
    (λ i. met (first_siblings (at i) (whole i)) (met tree (later_siblings (at i) (whole i)))) ∙ λ i. met (first-of f g i) (met tree (later-of f g i))

not-less : (a b : ℕ) → b ≤ a → nat_lt a b ≡ false
not-less a b h =
    elim (nat_lt a b) as (λ c. nat_lt a b ≡ c → c ≡ false) [
      | true ↦ λ e. absurd (let less = ltb-true a b e in omega arith)
      | false ↦ λ _. refl
    ] refl

module _ (above : List Content) (s : Forest ℕ) (p fewer position : ℕ) (x : Found ℕ) (e : child_at above s p ≡ Some x) (tree : Forest ℕ)
    (least : 1 ≤ position) (most : position ≤ sibling_count s + 1) (by : fewer ≡ sibling_count s - sibling_count (deleted (p - 1) s)) where
  i : IsChild above s p x
  i = child above s p x e

  abbrev from : ℕ
  from = p - 1

  abbrev to : ℕ
  to = position - 1

  next : from + 1 ≡ p
  next = let some = i.from in omega arith

  behind : later_siblings (from + 1) s ≡ i.after
  behind = ap (λ n. later_siblings n s) next ∙ i.later

  left : deleted from s ≡ met i.before i.after
  left = λ j. met (i.first j) (behind j)

  all : sibling_count s ≡ sibling_count i.before + (1 + sibling_count i.after)
  all = ap sibling_count i.whole ∙ count-followed i.before (Node i.label i.content i.children i.after)

  front : sibling_count i.before ≡ from
  front =
      let within = child-from above s p x e in
      ap sibling_count (sym i.first) ∙ count-first from s (omega (arith, within.0, within.1))

  abbrev either : Bool → Forest ℕ
  either b =
      cond b (met (first_siblings from s) (met (met (first_siblings (to - (from + 1)) (later_siblings (from + 1) s)) tree) (later_siblings to s)))
      (met (first_siblings to s) (met (met tree (first_siblings (from - to) (later_siblings to s))) (later_siblings (from + 1) s)))

  later : p < to → IsShifted p fewer position tree s
  later h =
      let total = all in
      let ahead = front in
      let after_it = next in
      let k = to - p in
      let between = first_siblings k i.after in
      let rest = later_siblings k i.after in
      let parts = first-later k i.after in
      let many : sibling_count between ≡ k = count-first k i.after (omega arith) in
      let both : sibling_count i.after ≡ sibling_count between + sibling_count rest = ap sibling_count (sym parts) ∙ count-followed between rest in
      let joined = met i.before between in
      let few = count-met i.before between in
      let is : deleted from s ≡ followed joined rest =
      left ∙ ap (met i.before) (sym parts) ∙ met-some i.before between rest (omega arith) in
      let count : sibling_count (deleted from s) ≡ sibling_count joined + sibling_count rest = ap sibling_count is ∙ count-followed joined rest in
      let place : position_without p fewer position ≡ position - fewer =
      ap (λ b. cond b (position - fewer) position) (lt-ltb p position (omega arith)) in
      let there : position - fewer ≡ sibling_count joined + 1 = omega arith in
      let same : to - (from + 1) ≡ k = omega arith in
      let end : to ≡ from + 1 + k = omega arith in
      let order : rearranged from to tree s ≡ met i.before (met (met between tree) rest) =
      ap either (lt-ltb from to (omega arith))
      ∙ (λ j. met (i.first j) (met (met (first_siblings (same j) (behind j)) tree)
      ((ap (λ n. later_siblings n s) end ∙ sym (later-later (from + 1) k s) ∙ ap (later_siblings k) behind) j))) in
      record {
        some = omega arith;
        is = put-at (position_without p fewer position - 1) joined rest tree (deleted from s) is (omega arith)
            ∙ sym (met-assoc i.before between (met tree rest)) ∙ ap (met i.before) (met-assoc between tree rest) ∙ sym order;
      }

  earlier : to < from → IsShifted p fewer position tree s
  earlier h =
      let ahead = front in
      let after_it = next in
      let before = first_siblings to i.before in
      let between = later_siblings to i.before in
      let parts = first-later to i.before in
      let many : sibling_count before ≡ to = count-first to i.before (omega arith) in
      let both : sibling_count i.before ≡ sibling_count before + sibling_count between = ap sibling_count (sym parts) ∙ count-followed before between in
      let is : deleted from s ≡ followed before (met between i.after) =
      left ∙ ap (λ g. met g i.after) (sym parts) ∙ some-behind before between i.after (omega arith) in
      let place : position_without p fewer position ≡ position =
      ap (λ b. cond b (position - fewer) position) (not-less p position (omega arith)) in
      let order : rearranged from to tree s ≡ met before (met (met tree between) i.after) =
      ap either (not-less from to (omega arith))
      ∙ (λ j. met ((sym (first-first to from s (omega arith)) ∙ ap (first_siblings to) i.first) j)
      (met (met tree ((first-of-later to from s (omega arith) ∙ ap (later_siblings to) i.first) j)) (behind j))) in
      record {
        some = omega arith;
        is = put-at (position_without p fewer position - 1) before (met between i.after) tree (deleted from s) is (omega arith)
            ∙ ap (met before) (met-assoc tree between i.after) ∙ sym order;
      }

  pub shifted : position ≢ p → to ≢ p → IsShifted p fewer position tree s
  shifted apart other =
      let after_it = next in
      elim (nat_lt p to) as (λ b. nat_lt p to ≡ b → IsShifted p fewer position tree s) [
        | true ↦ λ h. later (ltb-true p to h)
        | false ↦ λ h. let most_it = ltb-false p to h in earlier (omega arith)
      ] refl

-- right behind the node it stays where it is
pub unshifted : (p position : ℕ) (tree : Forest ℕ) → 1 ≤ p → position - 1 ≡ p → (s : Forest ℕ)
    → put_in (p - 1) (p - 1 + 1) tree s ≡ rearranged (p - 1) (position - 1) tree s
unshifted p position tree some at s =
    let from = p - 1 in
    let to = position - 1 in
    let end : to ≡ from + 1 = omega arith in
    let none : to - (from + 1) ≡ 0 = omega arith in
    sym (
    ap (λ b. cond b (met (first_siblings from s) (met (met (first_siblings (to - (from + 1)) (later_siblings (from + 1) s)) tree) (later_siblings to s)))
    (met (first_siblings to s) (met (met tree (first_siblings (from - to) (later_siblings to s))) (later_siblings (from + 1) s))))
    (lt-ltb from to (omega arith))
    ∙ (λ j. met (first_siblings from s)
    (met (met ((ap (λ n. first_siblings n (later_siblings (from + 1) s)) none ∙ first-none (later_siblings (from + 1) s)) j) tree) (later_siblings (end j) s)))
    )
