-- The first 8 bytes of what was passed over, byte by byte.
use Rattle.std.proofs.Common.{◌≡◌, ℕ, ◌+◌, ◌<◌, ◌≤◌, List, [], ◌∷◌, ◌++◌, length, take, drop, set, get_or, sym}
use Rattle.std.proofs.Common.{◌∙◌, ap, arith, append-nil, length-append, length-take}
use Rattle.std.proofs.lemmas.List.{append_assoc, take_all, take-append-drop, take-append-le, take_more, take_more_set}

pub front_begins : (bytes old : List ℕ) (count : ℕ) → count ≤ 8 → take count bytes ≡ old → take count bytes ≡ take 8 (old ++ [])
front_begins bytes old count le e =
    let short : length old ≤ 8 = omega (arith, ap length e, length-take count bytes) in
    e ∙ sym (ap (λ xs. take 8 xs) (append-nil old) ∙ take_all 8 old short)

pub front_full : (bytes old more : List ℕ) (i count : ℕ) → count ≡ 8 → length bytes ≡ 8 → take count bytes ≡ take 8 (old ++ take i more)
    → take count bytes ≡ take 8 (old ++ more)
front_full bytes old more i count full size e =
    let long : 8 ≤ length (old ++ take i more) = omega (arith, ap length e, length-take count bytes, length-take 8 (old ++ take i more)) in
    let whole : (old ++ take i more) ++ drop i more ≡ old ++ more =
    append_assoc old (take i more) (drop i more) ∙ ap (λ xs. old ++ xs) (take-append-drop i more) in
    e ∙ sym (take-append-le 8 (old ++ take i more) (drop i more) long) ∙ ap (λ xs. take 8 xs) whole

pub front_grows : (bytes old more : List ℕ) (i count : ℕ) → count < 8 → length bytes ≡ 8 → i < length more
    → take count bytes ≡ take 8 (old ++ take i more) → take (count + 1) (set bytes count (get_or more i 0)) ≡ take 8 (old ++ take (i + 1) more)
front_grows bytes old more i count below size within e =
    let short : length (old ++ take i more) ≡ count = omega (arith, ap length e, length-take count bytes, length-take 8 (old ++ take i more)) in
    let seen : take count bytes ≡ old ++ take i more = e ∙ take_all 8 (old ++ take i more) (omega (arith, short)) in
    let grown : old ++ take (i + 1) more ≡ (old ++ take i more) ++ get_or more i 0 ∷ [] =
    ap (λ xs. old ++ xs) (take_more more i 0 within) ∙ sym (append_assoc old (take i more) (get_or more i 0 ∷ [])) in
    take_more_set bytes count (get_or more i 0) (omega arith) ∙ ap (λ xs. xs ++ get_or more i 0 ∷ []) seen ∙ sym grown
    ∙ sym (take_all 8 (old ++ take (i + 1) more) (omega (arith, ap length grown, length-append (old ++ take i more) (get_or more i 0 ∷ []), short)))
