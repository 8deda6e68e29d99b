-- Lists in pieces: what stands where, as pieces are added.
use Rattle.std.proofs.Common.{◌≡◌, ℕ, zero, suc, ◌+◌, ◌-◌, ◌<◌, ◌≤◌, ◌^◌, List, [], ◌∷◌, ◌++◌, take, drop, length, get_or, map, slice_get, slice_index, Some, refl, sym, ap, subst, ◌∙◌, append_assoc, append-nil, length-append, arith}
use Rattle.std.proofs.lemmas.Grind.{get_or_default_zero}
use Rattle.std.proofs.lemmas.List.{take-append-drop, take-append-le}
use Rattle.std.proofs.Math.Seq.{drop-append-add}
use Rattle.xt_record.specs.Pieced.{flat, starts_from, IsPieced}
use Rattle.xt_record.specs.Taken.{AllWithin, IsPart}
use Rattle.xt_record.specs.declared.entry.Entry.{Entry}
use Rattle.xt_record.proofs.Chaining.{none_some, some_is, split}

-- ---- What stands where

module _ {A : Type 0} where
  -- what stands at a turn, by how an index tells it
  pub got : (xs : List A) (n : ℕ) (x : A) → n < length xs → x ≡ get_or xs n x → slice_get xs n ≡ Some x
  got [] n x lt is = absurd (omega (arith, lt))
  got (y ∷ xs) zero x lt is = ap (λ (z : A). Some z) (sym is)
  got (y ∷ xs) (suc n) x lt is = got xs n x (omega (arith, lt)) is

  pub get_first : (xs ys : List A) (n : ℕ) (x : A) → slice_get xs n ≡ Some x → slice_get (xs ++ ys) n ≡ Some x
  get_first [] ys n x at = absurd (none_some at)
  get_first (y ∷ xs) ys zero x at = at
  get_first (y ∷ xs) ys (suc n) x at = get_first xs ys n x at

  pub get_behind : (xs ys : List A) (turn n : ℕ) (x : A) → turn ≡ length xs + n → slice_get ys n ≡ Some x → slice_get (xs ++ ys) turn ≡ Some x
  get_behind [] ys turn n x e at =
      let same : n ≡ turn = omega (arith, e) in
      subst (λ m. slice_get ys m ≡ Some x) same at
  get_behind (y ∷ xs) ys zero n x e at = absurd (omega (arith, e))
  get_behind (y ∷ xs) ys (suc turn) n x e at = get_behind xs ys turn n x (omega (arith, e)) at

  pub drop_behind : (xs ys : List A) (turn n : ℕ) → turn ≡ length xs + n → drop turn (xs ++ ys) ≡ drop n ys
  drop_behind xs ys turn n e = ap (λ m. drop m (xs ++ ys)) e ∙ drop-append-add xs ys n

  -- some that stand side by side
  pub part_first : (xs ys : List A) (turn n : ℕ) → turn + n ≤ length xs → take n (drop turn (xs ++ ys)) ≡ take n (drop turn xs)
  part_first xs ys zero n le = take-append-le n xs ys (omega (arith, le))
  part_first [] ys (suc turn) n le = absurd (omega (arith, le))
  part_first (x ∷ xs) ys (suc turn) n le = part_first xs ys turn n (omega (arith, le))

  abbrev none : List A
  none = []

  take_nil : (n : ℕ) → take n none ≡ none
  take_nil zero = refl
  take_nil (suc n) = refl

  drop_nil : (n : ℕ) → drop n none ≡ none
  drop_nil zero = refl
  drop_nil (suc n) = refl

  take_join : (xs : List A) (k m n : ℕ) → n ≡ k + m → take k xs ++ take m (drop k xs) ≡ take n xs
  take_join xs zero m n e =
      let same : m ≡ n = omega (arith, e) in
      ap (λ i. take i xs) same
  take_join [] (suc k) m n e = take_nil m ∙ sym (take_nil n)
  take_join (x ∷ xs) (suc k) m zero e = absurd (omega (arith, e))
  take_join (x ∷ xs) (suc k) m (suc n) e = ap (λ (ys : List A). x ∷ ys) (take_join xs k m n (omega (arith, e)))

  drop_join : (xs : List A) (first k at : ℕ) → at ≡ first + k → drop at xs ≡ drop k (drop first xs)
  drop_join xs zero k at e =
      let same : at ≡ k = omega (arith, e) in
      ap (λ i. drop i xs) same
  drop_join [] (suc first) k at e = drop_nil at ∙ sym (drop_nil k)
  drop_join (x ∷ xs) (suc first) k zero e = absurd (omega (arith, e))
  drop_join (x ∷ xs) (suc first) k (suc at) e = drop_join xs first k at (omega (arith, e))

  -- two parts that stand side by side
  pub parts_join : (xs : List A) (first at end : ℕ) → first ≤ at → at ≤ end
      → take (at - first) (drop first xs) ++ take (end - at) (drop at xs) ≡ take (end - first) (drop first xs)
  parts_join xs first at end le up_to =
      ap (λ (ys : List A). take (at - first) (drop first xs) ++ take (end - at) ys) (drop_join xs first (at - first) at (omega (arith, le)))
      ∙ take_join (drop first xs) (at - first) (end - at) (end - first) (omega (arith, le, up_to))

  -- the first of a part, and what is left of it
  pub part_begins : (xs : List A) (from n : ℕ) (x : A) (ys : List A) → take (suc n) (drop from xs) ≡ x ∷ ys
      → (slice_get xs from ≡ Some x) × (take n (drop (suc from) xs) ≡ ys)
  part_begins [] zero n x ys e = absurd (cc)
  part_begins [] (suc from) n x ys e = absurd (cc)
  part_begins (y ∷ xs) zero n x ys e =
      (ap (λ (zs : List A). slice_get zs 0) e, ap (λ (zs : List A). drop 1 zs) e)
  part_begins (y ∷ xs) (suc from) n x ys e = part_begins xs from n x ys e

  pub take_all : (xs : List A) (n : ℕ) → n ≡ length xs → take n xs ≡ xs
  take_all [] zero e = refl
  take_all [] (suc n) e = refl
  take_all (x ∷ xs) zero e = absurd (omega (arith, e))
  take_all (x ∷ xs) (suc n) e = ap (λ (ys : List A). x ∷ ys) (take_all xs n (omega (arith, e)))

  pub rest_whole : (xs : List A) (from n : ℕ) → n ≡ length xs - from → take n (drop from xs) ≡ drop from xs
  rest_whole xs zero n e = take_all xs n (omega (arith, e))
  rest_whole [] (suc from) n e = take_nil n
  rest_whole (x ∷ xs) (suc from) n e = rest_whole xs from n (omega (arith, e))

  get_dropped : (xs : List A) (first n place : ℕ) (x : A) → place ≡ first + n → slice_get xs place ≡ Some x → slice_get (drop first xs) n ≡ Some x
  get_dropped xs zero n place x e at =
      let same : place ≡ n = omega (arith, e) in
      subst (λ m. slice_get xs m ≡ Some x) same at
  get_dropped [] (suc first) n place x e at = absurd (none_some at)
  get_dropped (y ∷ xs) (suc first) n zero x e at = absurd (omega (arith, e))
  get_dropped (y ∷ xs) (suc first) n (suc place) x e at = get_dropped xs first n place x (omega (arith, e)) at

  pub part_length : (xs : List A) (from n : ℕ) → from + n ≤ length xs → length (take n (drop from xs)) ≡ n
  part_length xs zero zero le = refl
  part_length [] zero (suc n) le = absurd (omega (arith, le))
  part_length (x ∷ xs) zero (suc n) le = omega (arith, part_length xs zero n (omega (arith, le)))
  part_length [] (suc from) zero le = absurd (omega (arith, le))
  part_length [] (suc from) (suc n) le = absurd (omega (arith, le))
  part_length (x ∷ xs) (suc from) n le = part_length xs from n (omega (arith, le))

  pub get_taken : (xs : List A) (n i : ℕ) (x : A) → n < i → slice_get xs n ≡ Some x → slice_get (take i xs) n ≡ Some x
  get_taken [] n i x lt at = absurd (none_some at)
  get_taken (y ∷ xs) n zero x lt at = absurd (omega (arith, lt))
  get_taken (y ∷ xs) zero (suc i) x lt at = at
  get_taken (y ∷ xs) (suc n) (suc i) x lt at = get_taken xs n i x (omega (arith, lt)) at

  pub get_part : (xs : List A) (first count n : ℕ) (x : A) → n < count → slice_get xs (first + n) ≡ Some x
      → slice_get (take count (drop first xs)) n ≡ Some x
  get_part xs first count n x lt at = get_taken (drop first xs) n count x lt (get_dropped xs first n (first + n) x refl at)

  -- a part of a part
  pub part_inside : (all : List A) (first count from n : ℕ) (part : List A) → take count (drop first all) ≡ part → from + n ≤ length part
      → take n (drop (first + from) all) ≡ take n (drop from part)
  part_inside all first count from n part is le =
      let rest = drop first all in
      let fits : from + n ≤ length (take count rest) = omega (arith, le, ap (λ (xs : List A). length xs) is) in
      ap (λ (xs : List A). take n xs) (drop_join all first from (first + from) refl)
      ∙ ap (λ (xs : List A). take n (drop from xs)) (sym (take-append-drop count rest))
      ∙ part_first (take count rest) (drop count rest) from n fits ∙ ap (λ (xs : List A). take n (drop from xs)) is

module _ {A B : Type 0} (f : A → B) where
  pub get_map : (xs : List A) (n : ℕ) (x : A) → slice_get xs n ≡ Some x → slice_get (map f xs) n ≡ Some (f x)
  get_map [] n x at = absurd (none_some at)
  get_map (y ∷ xs) zero x at = ap (λ (z : A). Some (f z)) (some_is at)
  get_map (y ∷ xs) (suc n) x at = get_map xs n x at

  pub map_length : (xs : List A) → length (map f xs) ≡ length xs
  map_length [] = refl
  map_length (x ∷ xs) = omega (arith, map_length xs)

  map_taken : (xs : List A) (n : ℕ) → map f (take n xs) ≡ take n (map f xs)
  map_taken xs zero = refl
  map_taken [] (suc n) = refl
  map_taken (x ∷ xs) (suc n) = ap (λ (ys : List B). f x ∷ ys) (map_taken xs n)

  pub map_part : (xs : List A) (from n : ℕ) → map f (take n (drop from xs)) ≡ take n (drop from (map f xs))
  map_part xs zero n = map_taken xs n
  map_part [] (suc from) n = map_taken [] n
  map_part (x ∷ xs) (suc from) n = map_part xs from n

-- ---- Pieces

module _ {A : Type 0} where
  pub flat_more : (ps : List (List A)) (p : List A) → flat (ps ++ p ∷ []) ≡ flat ps ++ p
  flat_more [] p = append-nil p
  flat_more (q ∷ ps) p = ap (λ (xs : List A). q ++ xs) (flat_more ps p) ∙ sym (append_assoc q (flat ps) p)

  starts_more : (n : ℕ) (ps : List (List A)) (p : List A) → starts_from n (ps ++ p ∷ []) ≡ starts_from n ps ++ (n + length (flat ps)) ∷ []
  starts_more n [] p = ap (λ m. m ∷ []) (omega arith)
  starts_more n (q ∷ ps) p =
      let same : (n + length q) + length (flat ps) ≡ n + length (q ++ flat ps) = omega (arith, length-append q (flat ps)) in
      ap (λ xs. n ∷ xs) (starts_more (n + length q) ps p) ∙ ap (λ m. n ∷ (starts_from (n + length q) ps ++ m ∷ [])) same

  -- what stands at a place
  pub record IsPlaced (ps : List (List A)) (n : ℕ) (turns : List ℕ) (place : ℕ) (p : List A) : Type 0 where
    pub before : List A
    pub after : List A
    pub parts : flat ps ≡ before ++ (p ++ after)
    pub start : slice_index turns place ≡ n + length before
    pub next : suc place < length turns → slice_index turns (suc place) ≡ n + (length before + length p)
    pub last : length turns ≤ suc place → after ≡ []
    pub front : flat (take place ps) ≡ before
    pub up_to : flat (take (suc place) ps) ≡ before ++ p
    pub from : flat (drop place ps) ≡ p ++ after
    pub rest : flat (drop (suc place) ps) ≡ after

  starts_count : (n : ℕ) (ps : List (List A)) → length (starts_from n ps) ≡ length ps
  starts_count n [] = refl
  starts_count n (p ∷ ps) = omega (arith, starts_count (n + length p) ps)

  first_start : (n : ℕ) (ps : List (List A)) → 0 < length (starts_from n ps) → slice_index (starts_from n ps) 0 ≡ n
  first_start n [] lt = absurd (omega (arith, lt))
  first_start n (p ∷ ps) lt = refl

  no_start : (n : ℕ) (ps : List (List A)) → length (starts_from n ps) ≤ 0 → flat ps ≡ []
  no_start n [] le = refl
  no_start n (p ∷ ps) le = absurd (omega (arith, le))

  pub placed : (ps : List (List A)) (n place : ℕ) (p : List A) → slice_get ps place ≡ Some p → IsPlaced ps n (starts_from n ps) place p
  placed [] n place p at = absurd (none_some at)
  placed (q ∷ ps) n zero p at =
      let same = some_is at in
      record {
        before = [];
        after = flat ps;
        parts = ap (λ (x : List A). x ++ flat ps) same;
        start = omega arith;
        next = λ lt. first_start (n + length q) ps (omega (arith, lt)) ∙ next_is same;
        last = λ le. no_start (n + length q) ps (omega (arith, le));
        front = refl;
        up_to = append-nil q ∙ same;
        from = ap (λ (x : List A). x ++ flat ps) same;
        rest = refl;
      }
    where
      next_is : q ≡ p → n + length q ≡ n + (0 + length p)
      next_is e = let counts = ap (λ (x : List A). length x) e in omega (arith, counts)
  placed (q ∷ ps) n (suc place) p at =
      let h = placed ps (n + length q) place p at in
      record {
        before = q ++ h.before;
        after = h.after;
        parts = ap (λ (xs : List A). q ++ xs) h.parts ∙ sym (append_assoc q h.before (p ++ h.after));
        start = h.start ∙ sum (length h.before) (length (q ++ h.before)) (length-append q h.before);
        next = λ lt. h.next (omega (arith, lt)) ∙ more (length h.before) (length (q ++ h.before)) (length-append q h.before);
        last = λ le. h.last (omega (arith, le));
        front = ap (λ (xs : List A). q ++ xs) h.front;
        up_to = ap (λ (xs : List A). q ++ xs) h.up_to ∙ sym (append_assoc q h.before p);
        from = h.from;
        rest = h.rest;
      }
    where
      sum : (b c : ℕ) → c ≡ length q + b → (n + length q) + b ≡ n + c
      sum b c e = omega (arith, e)

      more : (b c : ℕ) → c ≡ length q + b → (n + length q) + (b + length p) ≡ n + (c + length p)
      more b c e = omega (arith, e)

-- a piece is added
pub pieced_more : (ps all : List (List Entry)) (turns now : List ℕ) (count sum : ℕ) (p : List Entry) → all ≡ ps ++ p ∷ [] → now ≡ turns ++ count ∷ []
    → sum ≡ count + length p → sum ≤ 2 ^ 62 → IsPieced ps turns count → IsPieced all now sum
pieced_more ps all turns now count sum p more_ps more_turns sum_is le h =
    let first : 0 + length (flat ps) ≡ count = omega (arith, h.counted) in
    let flat_is : flat all ≡ flat ps ++ p = ap (λ (xs : List (List Entry)). flat xs) more_ps ∙ flat_more ps p in
    record {
      starts = more_turns ∙ ap (λ xs. xs ++ count ∷ []) h.starts ∙ ap (λ m. starts_from 0 ps ++ m ∷ []) (sym first) ∙ sym (starts_more 0 ps p)
          ∙ ap (λ (xs : List (List Entry)). starts_from 0 xs) (sym more_ps);
      counted = omega (arith, sum_is, h.counted, ap (λ (xs : List Entry). length xs) flat_is, length-append (flat ps) p);
      fits = le;
    }

-- the piece at a place
pub placed_in : (ps : List (List Entry)) (turns : List ℕ) (count place : ℕ) (p : List Entry) → IsPieced ps turns count → slice_get ps place ≡ Some p
    → IsPlaced ps 0 turns place p
placed_in ps turns count place p h at = subst (λ xs. IsPlaced ps 0 xs place p) (sym h.starts) (placed ps 0 place p at)

pub pieces_count : (ps : List (List Entry)) (turns : List ℕ) (count : ℕ) → IsPieced ps turns count → length turns ≡ length ps
pieces_count ps turns count h = ap (λ xs. length xs) h.starts ∙ starts_count 0 ps

-- where there is an entry there is a piece, and the first begins at 0
pub some_piece : (ps : List (List Entry)) (turns : List ℕ) (count turn : ℕ) → IsPieced ps turns count → turn < length (flat ps) → 0 < length turns
some_piece ps turns count turn h lt = split 0 (length turns) (λ some. some)
    (λ none.
    let empty : flat ps ≡ [] = no_start 0 ps (omega (arith, none, ap (λ xs. length xs) h.starts)) in
    absurd (omega (arith, lt, ap (λ (xs : List Entry). length xs) empty)))

pub first_at : (ps : List (List Entry)) (turns : List ℕ) (count : ℕ) → IsPieced ps turns count → 0 < length turns → slice_index turns 0 ≡ 0
first_at ps turns count h some =
    ap (λ xs. slice_index xs 0) h.starts ∙ first_start 0 ps (omega (arith, some, ap (λ xs. length xs) h.starts))

-- a turn that stands in a piece
pub record IsFound (es : List Entry) (turn start : ℕ) (p : List Entry) : Type 0 where
  pub before : List Entry
  pub after : List Entry
  pub parts : es ≡ before ++ (p ++ after)
  pub start_is : start ≡ length before
  pub from : start ≤ turn
  pub within : turn - start < length p

-- a turn that is not before the piece at a place, nor behind it, stands in it
pub found : (ps : List (List Entry)) (turns slice : List ℕ) (count place turn start : ℕ) (p es : List Entry) → IsPieced ps turns count → flat ps ≡ es
    → slice ≡ turns → turn < length es → place < length slice → slice_index slice place ≤ turn
    → (suc place < length slice → turn < slice_index slice (suc place)) → p ≡ get_or ps place p → start ≡ get_or turns place start
    → IsFound es turn start p
found ps turns slice count place turn start p es h all same lt within from up_to p_is start_is =
    let From : List ℕ → Type 0 = λ xs. slice_index xs place ≤ turn in
    let Up : List ℕ → Type 0 = λ xs. suc place < length xs → turn < slice_index xs (suc place) in
    let inside : place < length turns = omega (arith, within, ap (λ xs. length xs) same) in
    let at = placed_in ps turns count place p h (got ps place p (omega (arith, inside, pieces_count ps turns count h)) p_is) in
    let starts : start ≡ slice_index turns place = start_is ∙ get_or_default_zero turns place start inside in
    let low : slice_index turns place ≤ turn = subst From same from in
    let parts : es ≡ at.before ++ (p ++ at.after) = sym all ∙ at.parts in
    let fits : turn - slice_index turns place < length p = split (suc place) (length turns)
    (λ more. let high = subst Up same up_to more in omega (arith, high, at.start, at.next more, low))
    (λ last.
    let whole : es ≡ at.before ++ p = parts ∙ ap (λ (xs : List Entry). at.before ++ (p ++ xs)) (at.last last)
    ∙ ap (λ (xs : List Entry). at.before ++ xs) (append-nil p) in
    omega (arith, lt, low, at.start, ap (λ (xs : List Entry). length xs) whole, length-append at.before p)) in
    record {
      before = at.before;
      after = at.after;
      parts = parts;
      start_is = omega (arith, starts, at.start);
      from = omega (arith, starts, low);
      within = omega (arith, starts, fits);
    }

-- what stands at it, and what can be shared from it on
pub entry_found : {es : List Entry} {turn start : ℕ} {p : List Entry} (e : Entry) → IsFound es turn start p → slice_get p (turn - start) ≡ Some e
    → slice_get es turn ≡ Some e
entry_found {es} {turn} {start} {p} e h at =
    ap (λ (xs : List Entry). slice_get xs turn) h.parts
    ∙ get_behind h.before (p ++ h.after) turn (turn - start) e (omega (arith, h.from, h.start_is)) (get_first p h.after _ e at)

pub part_found : {es : List Entry} {turn start : ℕ} {p : List Entry} (most ahead : ℕ) (q : List Entry) → IsFound es turn start p
    → IsPart (turn - start) most ahead p q → IsPart turn most ahead es q
part_found {es} {turn} {start} {p} most ahead q h part =
    let n = length q in
    let place : turn ≡ length h.before + (turn - start) = omega (arith, h.from, h.start_is) in
    record {
      part_is = part.part_is ∙ sym (part_first p h.after (turn - start) n part.within)
          ∙ sym (ap (λ (xs : List Entry). take n xs) (drop_behind h.before (p ++ h.after) turn (turn - start) place))
          ∙ ap (λ (xs : List Entry). take n (drop turn xs)) (sym h.parts);
      some = part.some;
      within = omega (
        arith,
        part.within,
        place,
        ap (λ (xs : List Entry). length xs) h.parts,
        length-append h.before (p ++ h.after),
        length-append p h.after,
      );
      few = part.few;
      inside = part.inside;
    }

-- a part is made of a block
pub part_made : (all part : List Entry) (first count from n most ahead : ℕ) → take count (drop first all) ≡ part → from + n ≤ length part → 0 < n
    → n ≤ most → AllWithin ahead (take n (drop from part)) → IsPart from most ahead part (take n (drop (first + from) all))
part_made all part first count from n most ahead is fits some few inside =
    let q = take n (drop (first + from) all) in
    let same : q ≡ take n (drop from part) = part_inside all first count from n part is fits in
    let many : length q ≡ n = ap (λ (xs : List Entry). length xs) same ∙ part_length part from n fits in
    record {
      part_is = same ∙ ap (λ m. take m (drop from part)) (sym many);
      some = omega (arith, some, many);
      within = omega (arith, fits, many);
      few = omega (arith, few, many);
      inside = subst (λ (xs : List Entry). AllWithin ahead xs) (sym same) inside;
    }
