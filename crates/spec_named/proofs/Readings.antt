-- What readings come to, whatever the texts that they ask of are.
use Rattle.std.proofs.Common.{List, ℕ, Result, Ok, Err, subst}
use Rattle.spec_document.specs.Scope.{Scope}
use Rattle.spec_expression.specs.declared.ExpressionRefusal.{ExpressionRefusal}
use Rattle.spec_expression.specs.declared.code.StaticCode.{StaticCode}
use Rattle.spec_expression.specs.Syntax.{Expr}
use Rattle.spec_stylesheet.specs.Pattern.{Pattern}
use Rattle.spec_stylesheet.specs.ValueTemplate.{Avt}
use Rattle.spec_static.specs.declared.refusal.TemplateRefusal.{TemplateRefusal}
use Rattle.spec_compile.specs.Reading.{Reading, Done, Expression, APattern, Template, reading_then, after_ok, reading_on, joined, both, Reads}
use Rattle.spec_compile.specs.Content.{at_path, standing_at}

-- each value that a reading may come to is such
pub data Ends {A : Type 0} (P : A → Type 0) : Reading A → Type 0 where
  done : {v : A} → P v → Ends P (Done v)
  expression : {scope : Scope} {text : List ℕ} {next : Result Expr ExpressionRefusal → Reading A} → ((r : Result Expr ExpressionRefusal)
      → Ends P (next r))
      → Ends P (Expression scope text next)
  pattern : {scope : Scope} {text : List ℕ} {next : Result Pattern ExpressionRefusal → Reading A} → ((r : Result Pattern ExpressionRefusal)
      → Ends P (next r))
      → Ends P (APattern scope text next)
  template : {scope : Scope} {text : List ℕ} {next : Result Avt TemplateRefusal → Reading A} → ((r : Result Avt TemplateRefusal) → Ends P (next r))
      → Ends P (Template scope text next)

pub comes : {A : Type 0} {P : A → Type 0} {r : Reading A} {a : A} → Ends P r → Reads r a → P a
comes {P = P} (done h) e = subst P e h
comes (expression h) e = comes (h e.0) e.2
comes (pattern h) e = comes (h e.0) e.2
comes (template h) e = comes (h e.0) e.2

pub whatever : {A : Type 0} {P : A → Type 0} → ((a : A) → P a) → (r : Reading A) → Ends P r
whatever h (Done v) = done (h v)
whatever h (Expression scope text next) = expression (λ r. whatever h (next r))
whatever h (APattern scope text next) = pattern (λ r. whatever h (next r))
whatever h (Template scope text next) = template (λ r. whatever h (next r))

pub then_ends : {A B : Type 0} {P : A → Type 0} {Q : B → Type 0} {r : Reading A} {k : A → Reading B} → Ends P r → ((a : A) → P a → Ends Q (k a))
    → Ends Q (reading_then r k)
unfolding reading_then
then_ends (done h) g = g _ h
then_ends (expression h) g = expression (λ r. then_ends (h r) g)
then_ends (pattern h) g = pattern (λ r. then_ends (h r) g)
then_ends (template h) g = template (λ r. then_ends (h r) g)

pub then_whatever : {A B : Type 0} {Q : B → Type 0} (r : Reading A) {k : A → Reading B} → ((a : A) → Ends Q (k a)) → Ends Q (reading_then r k)
then_whatever r g = then_ends {P = λ a. Unit {0}} (whatever (λ a. tt) r) (λ a e. g a)

pub wider : {A : Type 0} {P Q : A → Type 0} → ((a : A) → P a → Q a) → {r : Reading A} → Ends P r → Ends Q r
wider w (done h) = done (w _ h)
wider w (expression h) = expression (λ r. wider w (h r))
wider w (pattern h) = pattern (λ r. wider w (h r))
wider w (template h) = template (λ r. wider w (h r))

-- ---- Results: where there is one it is such

pub data OkIs {A R : Type 0} (P : A → Type 0) : Result A R → Type 0 where
  ok : {a : A} → P a → OkIs P (Ok a)
  err : {why : R} → OkIs P (Err why)

pub ok_whatever : {A R : Type 0} {P : A → Type 0} → ((a : A) → P a) → (r : Result A R) → OkIs P r
ok_whatever h (Ok a) = ok (h a)
ok_whatever h (Err why) = err

pub ok_wider : {A R : Type 0} {P Q : A → Type 0} → ((a : A) → P a → Q a) → (r : Result A R) → OkIs P r → OkIs Q r
ok_wider w _ (ok h) = ok (w _ h)
ok_wider w _ err = err

pub on_ends : {A B R : Type 0} {P : A → Type 0} {Q : B → Type 0} {r : Reading (Result A R)} {k : A → Reading (Result B R)} → Ends (OkIs P) r
    → ((a : A) → P a → Ends (OkIs Q) (k a)) → Ends (OkIs Q) (reading_on r k)
on_ends {A} {B} {R} {P} {Q} {r} {k} h g = then_ends h after
  where
    after : (s : Result A R) → OkIs P s → Ends (OkIs Q) (after_ok k s)
    after _ (ok e) = g _ e
    after _ err = done err

pub joined_ok : {A B C : Type 0} {P : A → Type 0} {Q : B → Type 0} {T : C → Type 0} (f : A → B → C) → ((a : A) (b : B) → P a → Q b → T (f a b))
    → {r : Result A StaticCode} {s : Result B StaticCode} → OkIs P r → OkIs Q s → OkIs T (joined f r s)
joined_ok f h (ok p) (ok q) = ok (h _ _ p q)
joined_ok f h (ok p) err = err
joined_ok f h err (ok q) = err
joined_ok f h err err = err

pub both_ends : {A B C : Type 0} {P : A → Type 0} {Q : B → Type 0} {T : C → Type 0} (f : A → B → C) → ((a : A) (b : B) → P a → Q b → T (f a b))
    → {r : Reading (Result A StaticCode)} {s : Reading (Result B StaticCode)} → Ends (OkIs P) r → Ends (OkIs Q) s → Ends (OkIs T) (both f r s)
both_ends f h p q = then_ends p (λ a e. then_ends q (λ b g. done (joined_ok f h e g)))

pub at_ends : {A : Type 0} {P : A → Type 0} (path : List ℕ) {r : Reading (Result A StaticCode)} → Ends (OkIs P) r → Ends (OkIs P) (standing_at path r)
at_ends {A} {P} path h = then_ends h (λ r e. done (there r e))
  where
    there : (r : Result A StaticCode) → OkIs P r → OkIs P (at_path path r)
    there _ (ok e) = ok e
    there _ err = err

-- a reading of which nothing is asked
pub at_whatever : {A : Type 0} (path : List ℕ) (r : Reading (Result A StaticCode)) → Ends (OkIs (λ (a : A). Unit {0})) (standing_at path r)
at_whatever path r = at_ends path (whatever (λ a. ok_whatever (λ x. tt) a) r)
