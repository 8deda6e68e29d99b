-- How readings follow one another, and how the answers of calls that read are put together.
use Rattle.std.proofs.Common.{◌≡◌, ℕ, List, Option, None, Some, Result, Ok, Err, refl, sym, ap, ◌∙◌, subst}
use Rattle.std.specs.Prelude.{IfOk}
use Rattle.spec_document.specs.Scope.{Scope}
use Rattle.spec_expression.specs.declared.ExpressionRefusal.{ExpressionRefusal}
use Rattle.spec_expression.specs.Grammar.{Parses}
use Rattle.spec_expression.specs.Syntax.{Expr}
use Rattle.spec_stylesheet.specs.Pattern.{Pattern}
use Rattle.spec_stylesheet.specs.ValueTemplate.{Avt}
use Rattle.spec_static.specs.PatternGrammar.{ParsesPattern}
use Rattle.spec_static.specs.TemplateGrammar.{ParsesTemplate}
use Rattle.spec_static.specs.declared.refusal.TemplateRefusal.{TemplateRefusal}
use Rattle.spec_compile.specs.Reading.{Reading, Done, Expression, APattern, Template, Reads, reading_then, reading_on, after_ok}

-- ---- What a reading comes to, where another follows

pub reads_then : {A B : Type 0} (r : Reading A) (k : A → Reading B) (a : A) (b : B) → Reads r a → Reads (k a) b → Reads (reading_then r k) b
unfolding reading_then
reads_then (Done value) k a b h g = subst (λ x. Reads (k x) b) (sym h) g
reads_then (Expression scope text next) k a b h g = (h.0, h.1, reads_then (next h.0) k a b h.2 g)
reads_then (APattern scope text next) k a b h g = (h.0, h.1, reads_then (next h.0) k a b h.2 g)
reads_then (Template scope text next) k a b h g = (h.0, h.1, reads_then (next h.0) k a b h.2 g)

-- what the first came to
pub record Comes {A B : Type 0} (r : Reading A) (k : A → Reading B) (b : B) : Type 0 where
  pub value : A
  pub first : Reads r value
  pub then_so : Reads (k value) b

pub reads_both : {A B : Type 0} (r : Reading A) (k : A → Reading B) (b : B) → Reads (reading_then r k) b → Comes r k b
unfolding reading_then
reads_both (Done value) k b h = record { value = value; first = refl; then_so = h }
reads_both (Expression scope text next) k b h =
    let rest = reads_both (next h.0) k b h.2 in record { value = rest.value; first = (h.0, h.1, rest.first); then_so = rest.then_so }
reads_both (APattern scope text next) k b h =
    let rest = reads_both (next h.0) k b h.2 in record { value = rest.value; first = (h.0, h.1, rest.first); then_so = rest.then_so }
reads_both (Template scope text next) k b h =
    let rest = reads_both (next h.0) k b h.2 in record { value = rest.value; first = (h.0, h.1, rest.first); then_so = rest.then_so }

pub on_ok : {A B R : Type 0} (r : Reading (Result A R)) (k : A → Reading (Result B R)) (a : A) (b : Result B R) → Reads r (Ok a) → Reads (k a) b → Reads (reading_on r k) b
on_ok r k a b h g = reads_then r (after_ok k) (Ok a) b h g

pub on_err : {A B R : Type 0} (r : Reading (Result A R)) (k : A → Reading (Result B R)) (e : R) → Reads r (Err e) → Reads (reading_on r k) (Err e)
on_err r k e h = reads_then r (after_ok k) (Err e) (Err e) h refl

-- ---- Laws of sequences

pub then_then : {A B C : Type 0} (r : Reading A) (f : A → Reading B) (k : B → Reading C) → reading_then (reading_then r f) k ≡ reading_then r (λ x. reading_then (f x) k)
unfolding reading_then
then_then (Done value) f k = refl
then_then (Expression scope text next) f k = λ i. Expression scope text (λ x. then_then (next x) f k i)
then_then (APattern scope text next) f k = λ i. APattern scope text (λ x. then_then (next x) f k i)
then_then (Template scope text next) f k = λ i. Template scope text (λ x. then_then (next x) f k i)

pub then_done : {A : Type 0} (r : Reading A) → reading_then r Done ≡ r
unfolding reading_then
then_done (Done value) = refl
then_done (Expression scope text next) = λ i. Expression scope text (λ x. then_done (next x) i)
then_done (APattern scope text next) = λ i. APattern scope text (λ x. then_done (next x) i)
then_done (Template scope text next) = λ i. Template scope text (λ x. then_done (next x) i)

pub done_then : {A B : Type 0} (a : A) (k : A → Reading B) → reading_then (Done a) k ≡ k a
unfolding reading_then
done_then a k = refl

after_after : {A B C R : Type 0} (f : A → Reading (Result B R)) (k : B → Reading (Result C R)) (x : Result A R)
    → reading_then (after_ok f x) (after_ok k) ≡ after_ok (λ y. reading_on (f y) k) x
unfolding reading_then
after_after f k (Ok y) = refl
after_after f k (Err e) = refl

after_done : {A R : Type 0} (x : Result A R) → after_ok (λ (y : A). Done (Ok y)) x ≡ Done x
after_done (Ok y) = refl
after_done (Err e) = refl

pub on_on : {A B C R : Type 0} (r : Reading (Result A R)) (f : A → Reading (Result B R)) (k : B → Reading (Result C R))
    → reading_on (reading_on r f) k ≡ reading_on r (λ x. reading_on (f x) k)
on_on r f k = then_then r (after_ok f) (after_ok k) ∙ (λ i. reading_then r (λ x. after_after f k x i))

pub on_done : {A R : Type 0} (r : Reading (Result A R)) → reading_on r (λ y. Done (Ok y)) ≡ r
on_done r = (λ i. reading_then r (λ x. after_done x i)) ∙ then_done r

-- whatever the first comes to, the second comes to
pub record Continues {A : Type 0} (p q : Reading A) : Type 0 where
  pub so : (a : A) → Reads p a → Reads q a

-- ---- Calls that fail for want of memory alone

abbrev pub FindsSo : {A X E : Type 0} → (X → A) → Reading A → Result X E → Type 0
FindsSo view reading (Ok x) = Reads reading (view x)
FindsSo view reading (Err error) = Unit {0}

-- what such a call gives is what a reading comes to
pub record Finds {A X E : Type 0} (view : X → A) (reading : Reading A) (result : Result X E) : Type 0 where
  pub so : FindsSo view reading result

pub finds_then : {A B X Y E F : Type 0} {v : X → A} {w : Y → B} {r : Reading A} (k : A → Reading B) {x : X} {result : Result Y E}
    → Finds {E = F} v r (Ok x) → Finds w (k (v x)) result → Finds w (reading_then r k) result
finds_then {B = B} {Y = Y} {E = E} {v = v} {w = w} {r = r} k {x = x} {result = result} h g = record { so = go result g.so }
  where
    go : (result : Result Y E) → FindsSo w (k (v x)) result → FindsSo w (reading_then r k) result
    go (Ok y) e = reads_then r k (v x) (w y) h.so e
    go (Err error) e = tt

pub finds_done : {A X E : Type 0} {v : X → A} {a : A} {x : X} → v x ≡ a → Finds {E = E} v (Done a) (Ok x)
finds_done h = record { so = sym h }

pub finds_if : {A X E : Type 0} {v : X → A} {a b : A} {result : Result X E} → a ≡ b → IfOk result (λ x. v x ≡ a) → Finds v (Done b) result
finds_if {X = X} {E = E} {v = v} {a = a} {b = b} {result = result} e h = record { so = go result h }
  where
    go : (result : Result X E) → IfOk result (λ x. v x ≡ a) → FindsSo v (Done b) result
    go (Ok x) f = sym (f ∙ e)
    go (Err error) f = tt

pub finds_nothing : {A X E : Type 0} {v : X → A} {r : Reading A} {error : E} → Finds {X = X} v r (Err error)
finds_nothing = record { so = tt }

pub finds_as : {A X E : Type 0} {v : X → A} {p q : Reading A} {result : Result X E} → p ≡ q → Finds v p result → Finds v q result
finds_as {v = v} {result = result} e h = subst (λ p. Finds v p result) e h

pub finds_from : {A X E : Type 0} {v : X → A} {p q : Reading A} {result : Result X E} → Continues p q → Finds v p result → Finds v q result
finds_from {X = X} {E = E} {v = v} {p = p} {q = q} {result = result} c h = record { so = go result h.so }
  where
    go : (result : Result X E) → FindsSo v p result → FindsSo v q result
    go (Ok x) e = c.so (v x) e
    go (Err error) e = tt

pub finds_expression : {A X E : Type 0} {v : X → A} {scope : Scope} {text : List ℕ} {next : Result Expr ExpressionRefusal → Reading A} {result : Result X E}
    (r : Result Expr ExpressionRefusal) → Parses scope text r → Finds v (next r) result → Finds v (Expression scope text next) result
finds_expression {X = X} {E = E} {v = v} {scope = scope} {text = text} {next = next} {result = result} r parsed h = record { so = go result h.so }
  where
    go : (result : Result X E) → FindsSo v (next r) result → FindsSo v (Expression scope text next) result
    go (Ok x) e = (r, parsed, e)
    go (Err error) e = tt

pub finds_pattern : {A X E : Type 0} {v : X → A} {scope : Scope} {text : List ℕ} {next : Result Pattern ExpressionRefusal → Reading A} {result : Result X E}
    (r : Result Pattern ExpressionRefusal) → ParsesPattern scope text r → Finds v (next r) result → Finds v (APattern scope text next) result
finds_pattern {X = X} {E = E} {v = v} {scope = scope} {text = text} {next = next} {result = result} r parsed h = record { so = go result h.so }
  where
    go : (result : Result X E) → FindsSo v (next r) result → FindsSo v (APattern scope text next) result
    go (Ok x) e = (r, parsed, e)
    go (Err error) e = tt

pub finds_template : {A X E : Type 0} {v : X → A} {scope : Scope} {text : List ℕ} {next : Result Avt TemplateRefusal → Reading A} {result : Result X E}
    (r : Result Avt TemplateRefusal) → ParsesTemplate scope text r → Finds v (next r) result → Finds v (Template scope text next) result
finds_template {X = X} {E = E} {v = v} {scope = scope} {text = text} {next = next} {result = result} r parsed h = record { so = go result h.so }
  where
    go : (result : Result X E) → FindsSo v (next r) result → FindsSo v (Template scope text next) result
    go (Ok x) e = (r, parsed, e)
    go (Err error) e = tt

-- ---- Calls that are refused too

-- a reading comes to this refusal; of want of memory, which is none, nothing is said
abbrev pub ReadsFault : {A R : Type 0} → Reading (Result A R) → Option R → Type 0
ReadsFault reading None = Unit {0}
ReadsFault reading (Some why) = Reads reading (Err why)

abbrev pub Answers : {A R X F : Type 0} → (F → Option R) → (X → A) → Reading (Result A R) → Result X F → Type 0
Answers why view reading (Ok x) = Reads reading (Ok (view x))
Answers why view reading (Err fault) = ReadsFault reading (why fault)

-- the same as a record, by which the answers of calls are told
pub record IsRead {A R X F : Type 0} (why : F → Option R) (view : X → A) (reading : Reading (Result A R)) (result : Result X F) : Type 0 where
  pub so : Answers why view reading result

pub answers_then : {A B R X Y F : Type 0} {why : F → Option R} {v : X → A} {w : Y → B} {r : Reading (Result A R)} (k : A → Reading (Result B R)) {x : X} {result : Result Y F}
    → IsRead why v r (Ok x) → IsRead why w (k (v x)) result → IsRead why w (reading_on r k) result
answers_then {B = B} {R = R} {Y = Y} {F = F} {why = why} {v = v} {w = w} {r = r} k {x = x} {result = result} h g = record { so = go result g.so }
  where
    refused : (o : Option R) → ReadsFault (k (v x)) o → ReadsFault (reading_on r k) o
    refused None e = tt
    refused (Some c) e = on_ok r k (v x) (Err c) h.so e

    go : (result : Result Y F) → Answers why w (k (v x)) result → Answers why w (reading_on r k) result
    go (Ok y) e = on_ok r k (v x) (Ok (w y)) h.so e
    go (Err fault) e = refused (why fault) e

pub answers_stop : {A B R X Y F : Type 0} {why : F → Option R} {v : X → A} {w : Y → B} {r : Reading (Result A R)} (k : A → Reading (Result B R)) {fault : F}
    → IsRead {X = X} why v r (Err fault) → IsRead {X = Y} why w (reading_on r k) (Err fault)
answers_stop {R = R} {why = why} {r = r} k {fault = fault} h = record { so = go (why fault) h.so }
  where
    go : (o : Option R) → ReadsFault r o → ReadsFault (reading_on r k) o
    go None e = tt
    go (Some c) e = on_err r k c e

pub answers_memory : {A R X F : Type 0} {why : F → Option R} {v : X → A} {r : Reading (Result A R)} {fault : F} → why fault ≡ None → IsRead {X = X} why v r (Err fault)
answers_memory {R = R} {r = r} h = record { so = subst (λ (o : Option R). ReadsFault r o) (sym h) tt }

pub answers_refuse : {A R X F : Type 0} {why : F → Option R} {v : X → A} {code : R} {fault : F} → why fault ≡ Some code → IsRead {X = X} why v (Done (Err code)) (Err fault)
answers_refuse {A = A} {R = R} {code = code} h = record { so = subst (λ (o : Option R). ReadsFault {A = A} (Done (Err code)) o) (sym h) refl }

pub answers_give : {A R X F : Type 0} {why : F → Option R} {v : X → A} {x : X} {a : A} → v x ≡ a → IsRead why v (Done (Ok a)) (Ok x)
answers_give h = record { so = ap Ok (sym h) }

pub answers_as : {A R X F : Type 0} {why : F → Option R} {v : X → A} {p q : Reading (Result A R)} {r : Result X F} → p ≡ q → IsRead why v p r → IsRead why v q r
answers_as {why = why} {v = v} {r = r} h = subst (λ p. IsRead why v p r) h

pub answers_from : {A R X F : Type 0} {why : F → Option R} {v : X → A} {p q : Reading (Result A R)} {r : Result X F} → Continues p q → IsRead why v p r → IsRead why v q r
answers_from {R = R} {X = X} {F = F} {why = why} {v = v} {p = p} {q = q} {r = r} c h = record { so = go r h.so }
  where
    refused : (o : Option R) → ReadsFault p o → ReadsFault q o
    refused None e = tt
    refused (Some code) e = c.so (Err code) e

    go : (r : Result X F) → Answers why v p r → Answers why v q r
    go (Ok x) e = c.so (Ok (v x)) e
    go (Err fault) e = refused (why fault) e
