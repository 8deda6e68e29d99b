-- Languages by bytes and by characters: what `lang` compares is ASCII, or is compared as it is.
use Rattle.std.proofs.Common.{◌≡◌, ◌≢◌, ℕ, suc, ◌<◌, ◌≤◌, true, false, ◌||◌, ◌==◌, List, [], ◌∷◌, ◌++◌, length}
use Rattle.std.proofs.Common.{get_or, take, drop, map, bytes_eq, arith, refl, sym, ap, ◌∙◌, append_assoc, append-nil, inl, inr, length-append}
use Rattle.std.specs.Char.{to_ascii_lowercase}
use Rattle.std.specs.Str.{chars, IsUtf8}
use Rattle.std.proofs.lemmas.Bool.{cases_lt, or_cases, or_left, or_right, false_from_ne_true, false≢true, eqb-true, eq-eqb}
use Rattle.std.proofs.lemmas.Bool.Decides.{nat_tests, same_from_decides}
use Rattle.std.proofs.lemmas.List.{map-append, take-map, length-map, take-append-drop}
use Rattle.std.proofs.lemmas.List.Prefix.{front_rest}
use Rattle.std.proofs.lemmas.Slice.Eq.{bytes_eq-Decides}
use Rattle.std.proofs.lemmas.Str.{encode_ascii, encodes-append, encodes-chars, encodes_same, inside_one}
use lib.Utf8.{encodes, encode}
use Rattle.spec_expression.specs.Strings.{begins_with, is_language}
use Rattle.xp_text.proofs.Finding.{begins_from, begins_to, same_begins_encoded}

lower_high : (c : ℕ) → 128 ≤ c → to_ascii_lowercase c ≡ c
lower_high c h = grind (arith, nat_tests)

lower_small : (c : ℕ) → c < 128 → to_ascii_lowercase c < 128
lower_small c h = grind (arith, nat_tests)

map_lower_high : (xs : List ℕ) → ((k : ℕ) → k < length xs → 128 ≤ get_or xs k 0) → map to_ascii_lowercase xs ≡ xs
map_lower_high [] h = refl
map_lower_high (x ∷ xs) h =
    let here = lower_high x (h 0 (omega arith)) in
    let rest = map_lower_high xs (λ k l. h (suc k) (omega arith)) in
    cc

high_bytes : (c k : ℕ) → 128 ≤ c → k < length (encode c) → 128 ≤ get_or (encode c) k 0
high_bytes c k h l =
    elim (cases_lt (get_or (encode c) k 0) 128) [
      | inl small ↦ (let same = inside_one c [] (encode c) k (sym (append-nil (encode c))) l small in absurd (omega arith))
      | inr high ↦ high
    ]

lower_encode : (c : ℕ) → map to_ascii_lowercase (encode c) ≡ encode (to_ascii_lowercase c)
lower_encode c =
    elim (cases_lt c 128) [
      | inl small ↦ ap (map to_ascii_lowercase) (encode_ascii c small) ∙ sym (encode_ascii (to_ascii_lowercase c) (lower_small c small))
      | inr high ↦ map_lower_high (encode c) (λ k l. high_bytes c k high l) ∙ ap encode (sym (lower_high c high))
    ]

lower_encodes : (cs : List ℕ) → map to_ascii_lowercase (encodes cs) ≡ encodes (map to_ascii_lowercase cs)
lower_encodes [] = refl
lower_encodes (c ∷ cs) =
    map-append to_ascii_lowercase (encode c) (encodes cs) ∙ ap (λ t. t ++ map to_ascii_lowercase (encodes cs)) (lower_encode c)
    ∙ ap (λ t. encode (to_ascii_lowercase c) ++ t) (lower_encodes cs)

same_equal : (xs ys : List ℕ) → bytes_eq (encodes xs) (encodes ys) ≡ bytes_eq xs ys
same_equal xs ys =
    let d = bytes_eq-Decides (encodes xs) (encodes ys) in
    same_from_decides {P = xs ≡ ys} (bytes_eq (encodes xs) (encodes ys)) (bytes_eq xs ys) (λ h. encodes_same xs ys (d.0 h), λ e. d.1 (ap encodes e))
    (bytes_eq-Decides xs ys)

encodes_dash : (ys : List ℕ) → encodes ys ++ 0x2D ∷ [] ≡ encodes (ys ++ 0x2D ∷ [])
unfolding encode
encodes_dash ys = sym (encodes-append ys (0x2D ∷ []))

is_language_encoded : (cs ws : List ℕ) → is_language (encodes cs) (encodes ws) ≡ is_language cs ws
is_language_encoded cs ws =
    let xs = map to_ascii_lowercase cs in
    let ys = map to_ascii_lowercase ws in
    ap (λ t. bytes_eq t (map to_ascii_lowercase (encodes ws)) || begins_with t (map to_ascii_lowercase (encodes ws) ++ 0x2D ∷ [])) (lower_encodes cs)
    ∙ ap (λ t. bytes_eq (encodes xs) t || begins_with (encodes xs) (t ++ 0x2D ∷ [])) (lower_encodes ws)
    ∙ ap (λ t. t || begins_with (encodes xs) (encodes ys ++ 0x2D ∷ [])) (same_equal xs ys)
    ∙ ap (λ t. bytes_eq xs ys || begins_with (encodes xs) t) (encodes_dash ys)
    ∙ ap (λ t. bytes_eq xs ys || t) (same_begins_encoded xs (ys ++ 0x2D ∷ []))

-- the bytes of two texts compare as their characters
pub is_language_bytes : (s w : List ℕ) → IsUtf8 s → IsUtf8 w → is_language s w ≡ is_language (chars s) (chars w)
is_language_bytes s w us uw = rw (encodes-chars s us, encodes-chars w uw) at (is_language_encoded (chars s) (chars w))

-- ---- what the test says of the front and the rest
-- the language begins with the wanted one
fronts : (s w : List ℕ) → is_language s w ≡ true → (rest : List ℕ) × (map to_ascii_lowercase s ≡ map to_ascii_lowercase w ++ rest)
fronts s w h =
    let a = map to_ascii_lowercase s in
    let b = map to_ascii_lowercase w in
    elim (or_cases (bytes_eq a b) (begins_with a (b ++ 0x2D ∷ [])) h) [
      | inl e ↦ ([], (bytes_eq-Decides a b).0 e ∙ sym (append-nil b))
      | inr e ↦ (0x2D ∷ drop (length (b ++ 0x2D ∷ [])) a, begins_to a (b ++ 0x2D ∷ []) e ∙ append_assoc b (0x2D ∷ []) _)
    ]

pub shorter : (s w : List ℕ) → length s < length w → false ≡ is_language s w
shorter s w h =
    sym (false_from_ne_true _ (λ t.
    let f = fronts s w t in
    let long = ap length f.1 ∙ length-append (map to_ascii_lowercase w) f.0 in
    absurd (omega (arith, length-map s to_ascii_lowercase, length-map w to_ascii_lowercase))))

take-append : (xs ys : List ℕ) → take (length xs) (xs ++ ys) ≡ xs
take-append [] ys = refl
take-append (x ∷ xs) ys = ap (λ t. x ∷ t) (take-append xs ys)

front_is : (s w rest : List ℕ) → map to_ascii_lowercase s ≡ map to_ascii_lowercase w ++ rest
    → map to_ascii_lowercase (take (length w) s) ≡ map to_ascii_lowercase w
front_is s w rest e =
    sym (take-map to_ascii_lowercase (length w) s) ∙ ap (take (length w)) e
    ∙ ap (λ n. take n (map to_ascii_lowercase w ++ rest)) (sym (length-map w to_ascii_lowercase))
    ∙ take-append (map to_ascii_lowercase w) rest

unlike : (s w : List ℕ) → map to_ascii_lowercase (take (length w) s) ≢ map to_ascii_lowercase w → false ≡ is_language s w
unlike s w apart = sym (false_from_ne_true _ (λ t. let f = fronts s w t in apart (front_is s w f.0 f.1)))

whole_is : (s w : List ℕ) → map to_ascii_lowercase (take (length w) s) ≡ map to_ascii_lowercase w
    → map to_ascii_lowercase s ≡ map to_ascii_lowercase w ++ map to_ascii_lowercase (drop (length w) s)
whole_is s w e =
    ap (map to_ascii_lowercase) (sym (take-append-drop (length w) s)) ∙ map-append to_ascii_lowercase (take (length w) s) (drop (length w) s)
    ∙ ap (λ t. t ++ map to_ascii_lowercase (drop (length w) s)) e

ends : (s w : List ℕ) → map to_ascii_lowercase (take (length w) s) ≡ map to_ascii_lowercase w → drop (length w) s ≡ [] → true ≡ is_language s w
ends s w e nil =
    let a = map to_ascii_lowercase s in
    let b = map to_ascii_lowercase w in
    sym (or_left (bytes_eq a b) _ ((bytes_eq-Decides a b).1 (whole_is s w e ∙ ap (λ t. b ++ map to_ascii_lowercase t) nil ∙ append-nil b)))

dash_lower : (c : ℕ) → to_ascii_lowercase c ≡ 0x2D → c ≡ 0x2D
dash_lower c h = grind (arith, nat_tests)

goes_on_at : (a b : List ℕ) (c : ℕ) (rest : List ℕ) → a ≡ b ++ (to_ascii_lowercase c ∷ rest)
    → (c == 0x2D) ≡ (bytes_eq a b || begins_with a (b ++ 0x2D ∷ []))
goes_on_at a b c rest e =
    same_from_decides {P = c ≡ 0x2D} (c == 0x2D) (bytes_eq a b || begins_with a (b ++ 0x2D ∷ []))
    (λ h. eqb-true c 0x2D h, λ h. eq-eqb c 0x2D h) (
      λ h. dash_lower c (elim (or_cases (bytes_eq a b) (begins_with a (b ++ 0x2D ∷ [])) h) [
        | inl same ↦ (let long = ap length e ∙ length-append b (to_ascii_lowercase c ∷ rest) in let eq = ap length ((bytes_eq-Decides a b).0 same) in
            absurd (omega arith))
        | inr begins ↦ (
            let f = begins_to a (b ++ 0x2D ∷ []) begins ∙ append_assoc b (0x2D ∷ []) _ in
            let x = front_rest a b _ e in
            let y = front_rest a b _ f in
            cc)
      ]),
      λ h. or_right (bytes_eq a b) _
          (begins_from a (b ++ 0x2D ∷ []) rest (e ∙ ap (λ t. b ++ (to_ascii_lowercase t ∷ rest)) h ∙ sym (append_assoc b (0x2D ∷ []) rest))),
    )

goes_on_cons : (a b : List ℕ) (r : List ℕ) → 0 < length r → a ≡ b ++ map to_ascii_lowercase r
    → (get_or r 0 0 == 0x2D) ≡ (bytes_eq a b || begins_with a (b ++ 0x2D ∷ []))
goes_on_cons a b [] l e = absurd (omega arith)
goes_on_cons a b (c ∷ r) l e = goes_on_at a b c (map to_ascii_lowercase r) e

goes_on : (s w : List ℕ) → map to_ascii_lowercase (take (length w) s) ≡ map to_ascii_lowercase w → 0 < length (drop (length w) s)
    → (get_or (drop (length w) s) 0 0 == 0x2D) ≡ is_language s w
goes_on s w e l = goes_on_cons (map to_ascii_lowercase s) (map to_ascii_lowercase w) (drop (length w) s) l (whole_is s w e)

nothing : (xs : List ℕ) → length xs ≡ 0 → xs ≡ []
nothing [] e = refl
nothing (x ∷ xs) e = absurd (omega arith)

-- the same, of a front f and a rest r
module _ (s w f r : List ℕ) (front : f ≡ take (length w) s) (back : r ≡ drop (length w) s) where
  pub unlike_front : (map to_ascii_lowercase f ≡ map to_ascii_lowercase w → false ≡ true) → false ≡ is_language s w
  unlike_front apart = unlike s w (λ h. false≢true (apart (ap (map to_ascii_lowercase) front ∙ h)))

  pub at_end : map to_ascii_lowercase f ≡ map to_ascii_lowercase w → true ≡ (length r == 0) → true ≡ is_language s w
  at_end e nil = ends s w (ap (map to_ascii_lowercase) (sym front) ∙ e) (sym back ∙ nothing r (eqb-true (length r) 0 (sym nil)))

  pub going_on : map to_ascii_lowercase f ≡ map to_ascii_lowercase w → false ≡ (length r == 0) → (get_or r 0 0 == 0x2D) ≡ is_language s w
  going_on e more =
      let long : 0 < length r = grind (arith, nat_tests) in
      ap (λ t. get_or t 0 0 == 0x2D) back ∙ goes_on s w (ap (map to_ascii_lowercase) (sym front) ∙ e) (rw (← back) long)
