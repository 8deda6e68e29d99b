-- Parts that are read one after another, also behind one that is refused: the least code counts.
use Rattle.std.proofs.Common.{◌≡◌, ℕ, Bool, true, false, List, [], ◌∷◌, ◌++◌, append_assoc, append-nil, cond, map, Option, None, Some, Result, Ok, Err, refl, sym, ap, arith}
use Rattle.std.specs.Prelude.{nat_le}
use Rattle.std.proofs.lemmas.List.{map-append}
use Rattle.std.proofs.lemmas.Bool.Decides.{nat_tests}
use Rattle.spec_expression.specs.Code.{static_number}
use Rattle.spec_expression.specs.declared.code.StaticCode.{StaticCode}
use Rattle.spec_compile.specs.Reading.{joined, lesser}
use Rattle.xt_attributes.specs.declared.gathered.Gathered.{Gathered}

-- a result by what its value stands for
abbrev pub seen : {A B R : Type 0} → (A → B) → Result A R → Result B R
seen f (Ok a) = Ok (f a)
seen f (Err why) = Err why

abbrev pub gathered_by : {T : Type 0} → List T → Option StaticCode → Result (List T) StaticCode
gathered_by parts None = Ok parts
gathered_by parts (Some code) = Err code

abbrev pub gathered_in : {T : Type 0} → Gathered T → Result (List T) StaticCode
gathered_in g = gathered_by g.parts.items g.least

-- one list before another, if both are there
abbrev pub appended : {T : Type 0} → Result (List T) StaticCode → Result (List T) StaticCode → Result (List T) StaticCode
appended one other = joined (λ xs ys. xs ++ ys) one other

-- ---- The least of several codes

abbrev by : (StaticCode → ℕ) → StaticCode → StaticCode → StaticCode
by k a b = cond (nat_le (k a) (k b)) a b

associates : (k : StaticCode → ℕ) (a b c : StaticCode) (x y z : Bool) → nat_le (k a) (k b) ≡ x → nat_le (k b) (k c) ≡ y → nat_le (k a) (k c) ≡ z
    → by k a (by k b c) ≡ by k (by k a b) c
associates k a b c true true true e f g = rw (f, e, g) refl
associates k a b c true true false e f g = absurd (grind (arith, nat_tests))
associates k a b c true false z e f g = rw (f, e) refl
associates k a b c false true z e f g = rw (f, e, f) refl
associates k a b c false false true e f g = absurd (grind (arith, nat_tests))
associates k a b c false false false e f g = rw (f, e, g, f) refl

lesser-lesser : (a b c : StaticCode) → lesser a (lesser b c) ≡ lesser (lesser a b) c
lesser-lesser a b c = associates static_number a b c _ _ _ refl refl refl

-- ---- Parts from the left

-- a part more, and then the others
pub appended-part : {T : Type 0} (so_far : Result (List T) StaticCode) (part : Result T StaticCode) (others : Result (List T) StaticCode)
    → appended so_far (joined (λ x xs. x ∷ xs) part others) ≡ appended (joined (λ xs x. xs ++ x ∷ []) so_far part) others
appended-part (Ok xs) (Ok x) (Ok ys) = ap Ok (sym (append_assoc xs (x ∷ []) ys))
appended-part (Ok xs) (Ok x) (Err c) = refl
appended-part (Ok xs) (Err b) (Ok ys) = refl
appended-part (Ok xs) (Err b) (Err c) = refl
appended-part (Err a) (Ok x) (Ok ys) = refl
appended-part (Err a) (Ok x) (Err c) = refl
appended-part (Err a) (Err b) (Ok ys) = refl
appended-part (Err a) (Err b) (Err c) = ap Err (lesser-lesser a b c)

pub appended-appended : {T : Type 0} (one two three : Result (List T) StaticCode) → appended one (appended two three) ≡ appended (appended one two) three
appended-appended (Ok xs) (Ok ys) (Ok zs) = ap Ok (sym (append_assoc xs ys zs))
appended-appended (Ok xs) (Ok ys) (Err c) = refl
appended-appended (Ok xs) (Err b) (Ok zs) = refl
appended-appended (Ok xs) (Err b) (Err c) = refl
appended-appended (Err a) (Ok ys) (Ok zs) = refl
appended-appended (Err a) (Ok ys) (Err c) = refl
appended-appended (Err a) (Err b) (Ok zs) = refl
appended-appended (Err a) (Err b) (Err c) = ap Err (lesser-lesser a b c)

pub appended-none : {T : Type 0} (so_far : Result (List T) StaticCode) → appended so_far (Ok []) ≡ so_far
appended-none (Ok xs) = ap Ok (append-nil xs)
appended-none (Err a) = refl

pub none-appended : {T : Type 0} (others : Result (List T) StaticCode) → appended (Ok []) others ≡ others
none-appended (Ok xs) = refl
none-appended (Err a) = refl

-- parts by what they stand for
pub seen-part : {S T : Type 0} (f : S → T) (so_far : Result (List S) StaticCode) (part : Result S StaticCode)
    → seen (λ xs. map f xs) (joined (λ xs x. xs ++ x ∷ []) so_far part) ≡ joined (λ xs x. xs ++ x ∷ []) (seen (λ xs. map f xs) so_far) (seen f part)
seen-part f (Ok xs) (Ok x) = ap Ok (map-append f xs (x ∷ []))
seen-part f (Ok xs) (Err b) = refl
seen-part f (Err a) (Ok x) = refl
seen-part f (Err a) (Err b) = refl
