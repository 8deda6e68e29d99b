-- Siblings that are the same at the front or at the end, one by one.
use Rattle.std.proofs.Common.{◌≡◌, ◌≤◌, ◌<◌, arith, ℕ, ◌+◌, ◌-◌, ◌==◌, true, false, cond, List, [], ◌∷◌, ◌++◌, length, get_or, take, drop, reverse}
use Rattle.std.proofs.Common.{refl, sym, ap, ◌∙◌, length-drop}
use Rattle.std.proofs.lemmas.List.{at_drop_more, drop_at, drop_all, get_or-reverse, length-reverse, reverse-append, reverse-reverse, take-append-drop}
use Rattle.xt_edit.specs.Telling.{Rests, past_common, reversed, before_common, differing}

abbrev rests : {X : Type 0} → List X → List X → Rests X
rests old new = record { old = old; new = new }

-- where nothing is left of the second
past-nothing : {X : Type 0} (number : X → ℕ) (xs ys : List X) → ys ≡ [] → past_common number xs ys ≡ rests xs ys
past-nothing number [] ys e = refl
past-nothing number (x ∷ xs) [] e = refl
past-nothing number (x ∷ xs) (y ∷ ys) e = absurd (cc)

pub past_end : {X : Type 0} (number : X → ℕ) (xs ys : List X) (i : ℕ) → length ys ≤ i
    → past_common number (drop i xs) (drop i ys) ≡ rests (drop i xs) (drop i ys)
past_end number xs ys i h = past-nothing number (drop i xs) (drop i ys) (drop_all i ys h)

-- from the end
from-end : {X : Type 0} (xs : List X) (i : ℕ) (x : X) → i < length xs → x ≡ get_or xs (length xs - 1 - i) x
    → drop i (reverse xs) ≡ x ∷ drop (i + 1) (reverse xs)
from-end xs i x h e =
    let same : length (reverse xs) ≡ length xs = length-reverse xs in
    at_drop_more (λ zs. zs) (reverse xs) i x (omega arith) ∙ ap (λ z. z ∷ drop (i + 1) (reverse xs)) (get_or-reverse xs i x h ∙ sym e)

pub last_same : {X : Type 0} (number : X → ℕ) (xs ys : List X) (i : ℕ) (x y : X) → i < length xs → i < length ys
    → x ≡ get_or xs (length xs - 1 - i) x → y ≡ get_or ys (length ys - 1 - i) y → (number x == number y) ≡ true
    → past_common number (drop i (reverse xs)) (drop i (reverse ys)) ≡ past_common number (drop (i + 1) (reverse xs)) (drop (i + 1) (reverse ys))
last_same number xs ys i x y h k e f same =
    let old = drop (i + 1) (reverse xs) in
    let new = drop (i + 1) (reverse ys) in
    (λ j. past_common number (from-end xs i x h e j) (from-end ys i y k f j))
    ∙ (λ j. cond (same j) (past_common number old new) (rests (x ∷ old) (y ∷ new)))

pub last_differ : {X : Type 0} (number : X → ℕ) (xs ys : List X) (i : ℕ) (x y : X) → i < length xs → i < length ys
    → x ≡ get_or xs (length xs - 1 - i) x → y ≡ get_or ys (length ys - 1 - i) y → (number x == number y) ≡ false
    → past_common number (drop i (reverse xs)) (drop i (reverse ys)) ≡ rests (drop i (reverse xs)) (drop i (reverse ys))
last_differ number xs ys i x y h k e f differ =
    let old = drop (i + 1) (reverse xs) in
    let new = drop (i + 1) (reverse ys) in
    (λ j. past_common number (from-end xs i x h e j) (from-end ys i y k f j))
    ∙ (λ j. cond (differ j) (past_common number old new) (rests (x ∷ old) (y ∷ new)))
    ∙ (λ j. rests (sym (from-end xs i x h e) j) (sym (from-end ys i y k f) j))

front-is : {X : Type 0} (n : ℕ) (xs : List X) → n ≤ length xs → reverse (drop n (reverse xs)) ≡ take (length xs - n) xs
front-is n xs h =
    let k = length xs - n in
    let whole : reverse xs ≡ reverse (drop k xs) ++ reverse (take k xs) =
    ap reverse (sym (take-append-drop k xs)) ∙ reverse-append (take k xs) (drop k xs) in
    let count : length (reverse (drop k xs)) ≡ n = (
    let one = length-reverse (drop k xs) in let two = length-drop k xs in omega arith
    ) in
    ap reverse (ap (drop n) whole ∙ drop_at (reverse (drop k xs)) (reverse (take k xs)) n count) ∙ reverse-reverse (take k xs)

pub differing_are : {X : Type 0} (number : X → ℕ) (xs ys old new : List X) (i n : ℕ) → old ≡ drop i xs → new ≡ drop i ys
    → past_common number xs ys ≡ rests (drop i xs) (drop i ys)
    → past_common number (reverse old) (reverse new) ≡ rests (drop n (reverse old)) (drop n (reverse new))
    → n ≤ length old → n ≤ length new → rests (take (length old - n) old) (take (length new - n) new) ≡ differing number xs ys
differing_are number xs ys old new i n e f front behind h k =
    sym (
    ap (before_common number) (front ∙ (λ j. rests (sym e j) (sym f j)))
    ∙ ap reversed behind
    ∙ (λ j. rests (front-is n old h j) (front-is n new k j))
    )
