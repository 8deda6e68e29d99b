-- How readings follow one another, and how answers of functions that read are put together.
use Rattle.std.proofs.Common.{◌≡◌, ℕ, ◌+◌, ◌<◌, ◌≤◌, List, [], ◌∷◌, length, drop, get_or, Option, None, Some, Result, Ok, Err, refl, sym, ap, ◌∙◌, subst}
use Rattle.std.proofs.lemmas.List.{at_drop_more, at_drop_all}
use Rattle.std.specs.Result.{IsErrAnd}
use Rattle.spec_compile.specs.Reading.{Reading, Done, Expression, APattern, Template, Reads, reading_then, reading_on, after_ok}
use Rattle.xt_attributes.specs.Answers.{Answers, IsRead, ReadsFault}

pub reads_then : {A B : Type 0} (r : Reading A) (k : A → Reading B) (a : A) (b : B) → Reads r a → Reads (k a) b → Reads (reading_then r k) b
unfolding reading_then
reads_then (Done value) k a b h g = subst (λ x. Reads (k x) b) (sym h) g
reads_then (Expression scope text next) k a b h g = (h.0, h.1, reads_then (next h.0) k a b h.2 g)
reads_then (APattern scope text next) k a b h g = (h.0, h.1, reads_then (next h.0) k a b h.2 g)
reads_then (Template scope text next) k a b h g = (h.0, h.1, reads_then (next h.0) k a b h.2 g)

pub on_ok : {A B R : Type 0} (r : Reading (Result A R)) (k : A → Reading (Result B R)) (a : A) (b : Result B R) → Reads r (Ok a) → Reads (k a) b → Reads (reading_on r k) b
on_ok r k a b h g = reads_then r (after_ok k) (Ok a) b h g

pub on_err : {A B R : Type 0} (r : Reading (Result A R)) (k : A → Reading (Result B R)) (e : R) → Reads r (Err e) → Reads (reading_on r k) (Err e)
on_err r k e h = reads_then r (after_ok k) (Err e) (Err e) h refl

-- ---- Laws of sequences

then_then : {A B C : Type 0} (r : Reading A) (f : A → Reading B) (k : B → Reading C) → reading_then (reading_then r f) k ≡ reading_then r (λ x. reading_then (f x) k)
unfolding reading_then
then_then (Done value) f k = refl
then_then (Expression scope text next) f k = λ i. Expression scope text (λ x. then_then (next x) f k i)
then_then (APattern scope text next) f k = λ i. APattern scope text (λ x. then_then (next x) f k i)
then_then (Template scope text next) f k = λ i. Template scope text (λ x. then_then (next x) f k i)

then_done : {A : Type 0} (r : Reading A) → reading_then r Done ≡ r
unfolding reading_then
then_done (Done value) = refl
then_done (Expression scope text next) = λ i. Expression scope text (λ x. then_done (next x) i)
then_done (APattern scope text next) = λ i. APattern scope text (λ x. then_done (next x) i)
then_done (Template scope text next) = λ i. Template scope text (λ x. then_done (next x) i)

after_after : {A B C R : Type 0} (f : A → Reading (Result B R)) (k : B → Reading (Result C R)) (x : Result A R)
    → reading_then (after_ok f x) (after_ok k) ≡ after_ok (λ y. reading_on (f y) k) x
unfolding reading_then
after_after f k (Ok y) = refl
after_after f k (Err e) = refl

after_done : {A R : Type 0} (x : Result A R) → after_ok (λ (y : A). Done (Ok y)) x ≡ Done x
after_done (Ok y) = refl
after_done (Err e) = refl

pub on_on : {A B C R : Type 0} (r : Reading (Result A R)) (f : A → Reading (Result B R)) (k : B → Reading (Result C R))
    → reading_on (reading_on r f) k ≡ reading_on r (λ x. reading_on (f x) k)
on_on r f k = then_then r (after_ok f) (after_ok k) ∙ (λ i. reading_then r (λ x. after_after f k x i))

pub on_done : {A R : Type 0} (r : Reading (Result A R)) → reading_on r (λ y. Done (Ok y)) ≡ r
on_done r = (λ i. reading_then r (λ x. after_done x i)) ∙ then_done r

-- ---- Answers

pub answers_then : {A B R X Y F : Type 0} {why : F → Option R} {v : X → A} {w : Y → B} {r : Reading (Result A R)} (k : A → Reading (Result B R)) {x : X} {result : Result Y F}
    → IsRead why v r (Ok x) → IsRead why w (k (v x)) result → IsRead why w (reading_on r k) result
answers_then {B = B} {R = R} {Y = Y} {F = F} {why = why} {v = v} {w = w} {r = r} k {x = x} {result = result} h g = record { so = go result g.so }
  where
    fault : (o : Option R) → ReadsFault (k (v x)) o → ReadsFault (reading_on r k) o
    fault None e = tt
    fault (Some f) e = on_ok r k (v x) (Err f) h.so e

    go : (result : Result Y F) → Answers why w (k (v x)) result → Answers why w (reading_on r k) result
    go (Ok y) e = on_ok r k (v x) (Ok (w y)) h.so e
    go (Err f) e = fault (why f) e

pub answers_stop : {A B R X Y F : Type 0} {why : F → Option R} {v : X → A} {w : Y → B} {r : Reading (Result A R)} (k : A → Reading (Result B R)) {e : F}
    → IsRead {X = X} why v r (Err e) → IsRead {X = Y} why w (reading_on r k) (Err e)
answers_stop {R = R} {why = why} {r = r} k {e = e} h = record { so = go (why e) h.so }
  where
    go : (o : Option R) → ReadsFault r o → ReadsFault (reading_on r k) o
    go None a = tt
    go (Some f) a = on_err r k f a

pub answers_give : {A R X F : Type 0} {why : F → Option R} {v : X → A} {x : X} {a : A} → v x ≡ a → IsRead why v (Done (Ok a)) (Ok x)
answers_give h = record { so = ap Ok (sym h) }

pub answers_as : {A R X F : Type 0} {why : F → Option R} {v : X → A} {p q : Reading (Result A R)} {r : Result X F} → p ≡ q → IsRead why v p r → IsRead why v q r
answers_as {why = why} {v = v} {r = r} h = subst (λ p. IsRead why v p r) h

-- at the exit of a `?`, where the error goes on as it is
pub exits : {A R X F : Type 0} {why : F → Option R} {v : X → A} {p : Reading (Result A R)} {e : F} (r : Result X F) → IsErrAnd r (λ d. d ≡ e) → IsRead {X = X} why v p (Err e) → IsRead why v p r
exits {why = why} {v = v} {p = p} (Err d) h k = subst (λ f. IsRead why v p (Err f)) (sym h) k
exits (Ok x) h k = absurd h

-- whatever the first comes to, the second comes to
pub record Continues {A : Type 0} (p q : Reading A) : Type 0 where
  pub so : (a : A) → Reads p a → Reads q a

pub answers_from : {A R X F : Type 0} {why : F → Option R} {v : X → A} {p q : Reading (Result A R)} {r : Result X F} → Continues p q → IsRead why v p r → IsRead why v q r
answers_from {A = A} {R = R} {X = X} {F = F} {why = why} {v = v} {p = p} {q = q} {r = r} c h = record { so = go r h.so }
  where
    fault : (o : Option R) → ReadsFault p o → ReadsFault q o
    fault None a = tt
    fault (Some f) a = c.so (Err f) a

    go : (r : Result X F) → Answers why v p r → Answers why v q r
    go (Ok x) a = c.so (Ok (v x)) a
    go (Err f) a = fault (why f) a

-- the next turn of a loop over a list, and what is left after the last
pub next_turn : {A E : Type 0} (left : List E → Reading A) (xs : List E) (i : ℕ) (x : E) {q : Reading A} → i < length xs → Continues (left (drop i xs)) q
    → Continues (left (get_or xs i x ∷ drop (i + 1) xs)) q
next_turn left xs i x {q = q} h c = subst (λ p. Continues p q) (at_drop_more left xs i x h) c

pub last_turn : {A E : Type 0} (left : List E → Reading A) (xs : List E) (i : ℕ) {q : Reading A} → length xs ≤ i → Continues (left (drop i xs)) q → Continues (left []) q
last_turn left xs i {q = q} h c = subst (λ p. Continues p q) (at_drop_all left xs i h) c
