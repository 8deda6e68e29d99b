-- Where one text stands in another, by bytes and by characters.
use Rattle.std.proofs.Common.{◌≡◌, ℕ, zero, suc, ◌+◌, ◌<◌, ◌≤◌, Bool, true, false, eqb, List, [], ◌∷◌, ◌++◌, length, take}
use Rattle.std.proofs.Common.{drop, Some, None, arith, refl, sym, ap, ◌∙◌, append_assoc, inl, inr, length-append, length-drop, length-take}
use Rattle.std.specs.List.{find, starts_with, range_with_len}
use Rattle.std.specs.Option.{option_map_or}
use Rattle.std.specs.Str.{chars, IsUtf8}
use Rattle.std.specs.Str.Pattern.{FindsText, LacksTextAt}
use Rattle.std.proofs.lemmas.Bool.{cases_order, cond-true, cond-false, false_from_ne_true}
use Rattle.std.proofs.lemmas.Bool.Decides.{Decides-eqb, same_from_decides}
use Rattle.std.proofs.lemmas.List.{take-append-drop, take-append-le}
use Rattle.std.proofs.lemmas.List.Prefix.{front_rest}
use Rattle.std.proofs.lemmas.Slice.Eq.{starts_is}
use Rattle.std.proofs.lemmas.Str.{cons_from_encodes, encodes-append, encodes-chars, chars-append, length-le-encodes, IsUtf8-append, IsUtf8-drop, IsUtf8-take}
use Rattle.std.proofs.lemmas.Str.{IsCharBoundary-from_drop}
use lib.Utf8.{encodes, encode}
use Rattle.spec_expression.specs.Strings.{begins_with, first_place, text_before, text_after}

-- ---- beginnings
pub begins_from : (xs ys rest : List ℕ) → xs ≡ ys ++ rest → begins_with xs ys ≡ true
begins_from xs ys rest e = (starts_is Decides-eqb xs ys (begins_with xs ys) refl).1 rest e

pub begins_to : (xs ys : List ℕ) → begins_with xs ys ≡ true → xs ≡ ys ++ drop (length ys) xs
begins_to xs ys h = (starts_is Decides-eqb xs ys (begins_with xs ys) refl).0 h

prefix_of : (ns cs rest : List ℕ) → encodes cs ≡ encodes ns ++ rest → (ds : List ℕ) × (cs ≡ ns ++ ds) × (encodes ds ≡ rest)
prefix_of [] cs rest e = (cs, refl, e)
prefix_of (n ∷ ns) cs rest e =
    let s = cons_from_encodes cs (encodes ns ++ rest) n (e ∙ append_assoc (encode n) (encodes ns) rest) in
    let r = prefix_of ns s.0 rest s.2 in
    (r.0, s.1 ∙ ap (λ t. n ∷ t) r.1, r.2)

-- characters begin with others where their bytes do
pub same_begins_encoded : (cs ns : List ℕ) → starts_with eqb (encodes cs) (encodes ns) ≡ begins_with cs ns
same_begins_encoded cs ns =
    same_from_decides {P = begins_with cs ns ≡ true} (starts_with eqb (encodes cs) (encodes ns)) (begins_with cs ns) (
      λ h. (let r = prefix_of ns cs _ (begins_to (encodes cs) (encodes ns) h) in begins_from cs ns r.0 r.1),
      λ h. begins_from (encodes cs) (encodes ns) (encodes (drop (length ns) cs)) (ap encodes (begins_to cs ns h) ∙ encodes-append ns _),
    )
    (λ h. h, λ h. h)

pub same_begins : (s n : List ℕ) → IsUtf8 s → IsUtf8 n → starts_with eqb s n ≡ begins_with (chars s) (chars n)
same_begins s n us un = rw (encodes-chars s us, encodes-chars n un) at (same_begins_encoded (chars s) (chars n))

-- ---- the first place
find_first : (p : ℕ → Bool) (n a k : ℕ) → a ≤ k → k < a + n → p k ≡ true → ((j : ℕ) → a ≤ j → j < k → p j ≡ false)
    → find p (range_with_len a n) ≡ Some k
find_first p zero a k from below hits misses = absurd (omega arith)
find_first p (suc n) a k from below hits misses =
    elim (cases_order a k) [
      | inl e ↦ cond-true (p a) _ _ (rw e hits) ∙ ap Some e
      | inr o ↦ (let after : a < k = elim o [ inl l ↦ l | inr g ↦ omega arith ] in
          cond-false (p a) _ _ (misses a (omega arith) after)
          ∙ find_first p n (a + 1) k (omega arith) (omega arith) hits (λ j l h. misses j (omega arith) h))
    ]

find_none : (p : ℕ → Bool) (n a : ℕ) → ((j : ℕ) → p j ≡ false) → find p (range_with_len a n) ≡ None
find_none p zero a misses = refl
find_none p (suc n) a misses = cond-false (p a) _ _ (misses a) ∙ find_none p n (a + 1) misses

module _ (cs ns : List ℕ) where
  -- the byte at which a place begins
  byte_place : ℕ → ℕ
  byte_place j = length (encodes (take j cs))

  cut : (j : ℕ) → encodes cs ≡ encodes (take j cs) ++ encodes (drop j cs)
  cut j = ap encodes (sym (take-append-drop j cs)) ∙ encodes-append (take j cs) (drop j cs)

  byte_place-le : (j : ℕ) → byte_place j ≤ length (encodes cs)
  unfolding byte_place
  byte_place-le j = rw (cut j, length-append) (omega arith)

  stands : (j : ℕ) → begins_with (drop j cs) ns ≡ true → drop (byte_place j) (encodes cs) ≡ encodes ns ++ encodes (drop (length ns) (drop j cs))
  unfolding byte_place
  stands j h = front_rest (encodes cs) (encodes (take j cs)) (encodes (drop j cs)) (cut j) ∙ ap encodes (begins_to (drop j cs) ns h)
      ∙ encodes-append ns _

  absent : (j : ℕ) → LacksTextAt (encodes ns) (encodes cs) (byte_place j) → begins_with (drop j cs) ns ≡ false
  absent j lacks = false_from_ne_true _ (λ h. lacks _ (stands j h))

  missing_encoded : FindsText (encodes ns) (encodes cs) None → first_place ns cs ≡ None
  missing_encoded none = find_none _ (length cs + 1) 0 (λ j. absent j (none (byte_place j) (byte_place-le j)))

-- the bytes of a front are fewer than those of what it begins
fewer : (fs bs : List ℕ) (j : ℕ) → j < length fs → length (encodes (take j (fs ++ bs))) < length (encodes fs)
fewer fs bs j h =
    let kept : j ≤ length fs = omega arith in
    let long = length-le-encodes (drop j fs) in
    let whole = ap length (ap encodes (sym (take-append-drop j fs)) ∙ encodes-append (take j fs) (drop j fs)) in
    let parts = length-append (encodes (take j fs)) (encodes (drop j fs)) in
    let left = length-drop j fs in
    rw (take-append-le j fs bs kept) (omega arith)

before_byte : (k : ℕ) (fs cs ns rest : List ℕ) (i : ℕ) → cs ≡ fs ++ rest → length (encodes fs) ≡ i → k < length fs → byte_place cs ns k < i
unfolding byte_place
before_byte k fs cs ns rest i e long h = rw (e, ← long) (fewer fs rest k h)

take-append-length : (xs ys : List ℕ) → take (length xs) (xs ++ ys) ≡ xs
take-append-length [] ys = refl
take-append-length (x ∷ xs) ys = ap (λ t. x ∷ t) (take-append-length xs ys)

length_front : (i : ℕ) (xs : List ℕ) → i ≤ length xs → length (take i xs) ≡ i
length_front i xs h = rw length-take (omega arith)

-- the first place of the part is where its front ends
pub record Found (cs ns front back : List ℕ) : Type 0 where
  pub place : first_place ns cs ≡ Some (length front)
  pub before : text_before cs ns ≡ front
  pub after : text_after cs ns ≡ back

found_at : (cs ns fs bs : List ℕ) → cs ≡ fs ++ (ns ++ bs) → ((j : ℕ) → j < length fs → begins_with (drop j cs) ns ≡ false)
    → Found cs ns fs bs
found_at cs ns fs bs e misses =
    let long = ap length e ∙ length-append fs (ns ++ bs) in
    let hits = begins_from (drop (length fs) cs) ns bs (front_rest cs fs (ns ++ bs) e) in
    let at = find_first (λ place. begins_with (drop place cs) ns) (length cs + 1) 0 (length fs) (omega arith) (omega arith) hits (λ j _ h. misses j h) in
    record {
      place = at;
      before = ap (λ o. option_map_or (λ place. take place cs) o []) at ∙ ap (λ t. take (length fs) t) e ∙ take-append-length fs (ns ++ bs);
      after =
          ap (λ o. option_map_or (λ place. drop (place + length ns) cs) o []) at ∙ ap (λ k. drop k cs) (sym (length-append fs ns))
          ∙ front_rest cs (fs ++ ns) bs (e ∙ sym (append_assoc fs ns bs));
    }

module _ (s n : List ℕ) (us : IsUtf8 s) (un : IsUtf8 n) where
  pub missing : FindsText n s None → first_place (chars n) (chars s) ≡ None
  missing none = missing_encoded (chars s) (chars n) (rw (encodes-chars s us, encodes-chars n un) none)

  pub nothing_before : FindsText n s None → text_before (chars s) (chars n) ≡ []
  nothing_before none = ap (λ o. option_map_or (λ place. take place (chars s)) o []) (missing none)

  pub nothing_after : FindsText n s None → text_after (chars s) (chars n) ≡ []
  nothing_after none = ap (λ o. option_map_or (λ place. drop (place + length (chars n)) (chars s)) o []) (missing none)

  pub found : (i j : ℕ) → FindsText n s (Some (i, j)) → i ≤ j → j ≤ length s → Found (chars s) (chars n) (chars (take i s)) (chars (drop j s))
  found i j h low high =
      let at = h.1 in
      let past : IsUtf8 (drop j s) = IsUtf8-drop s j us (rw (← at.ends) at at.after) in
      let from : IsUtf8 (drop i s) = rw at.split (IsUtf8-append n (drop j s) un past) in
      let until : IsUtf8 (take i s) = IsUtf8-take s i us (IsCharBoundary-from_drop s i (omega arith) from) in
      let fs = chars (take i s) in
      let e : chars s ≡ fs ++ (chars n ++ chars (drop j s)) =
      ap chars (sym (take-append-drop i s)) ∙ chars-append (take i s) (drop i s) until
      ∙ ap (λ t. fs ++ t) (ap chars at.split ∙ chars-append n (drop j s) un) in
      let long : length (encodes fs) ≡ i = ap length (encodes-chars (take i s) until) ∙ length_front i s (omega arith) in
      found_at (chars s) (chars n) fs (chars (drop j s)) e
      (λ k l. absent (chars s) (chars n) k
      (rw (encodes-chars s us, encodes-chars n un)
      (h.0 (byte_place (chars s) (chars n) k) (before_byte k fs (chars s) (chars n) (chars n ++ chars (drop j s)) i e long l))))
