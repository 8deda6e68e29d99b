-- Readings: computations that ask what a text is as an expression, a pattern or a value template. Which answer a text has, the grammars say,
-- which are relations; all else is computed.
use Rattle.std.specs.Prelude.{◌≡◌, ℕ, List, Result, Ok, Err, nat_le, if◌then◌else◌}
use Rattle.spec_document.specs.Scope.{Scope}
use Rattle.spec_expression.specs.declared.ExpressionRefusal.{ExpressionRefusal}
use Rattle.spec_expression.specs.declared.code.StaticCode.{StaticCode}
use Rattle.spec_expression.specs.Code.{static_number}
use Rattle.spec_expression.specs.Syntax.{Expr}
use Rattle.spec_expression.specs.Grammar.{Parses}
use Rattle.spec_stylesheet.specs.Pattern.{Pattern}
use Rattle.spec_stylesheet.specs.ValueTemplate.{Avt}
use Rattle.spec_static.specs.PatternGrammar.{ParsesPattern}
use Rattle.spec_static.specs.TemplateGrammar.{ParsesTemplate}
use Rattle.spec_static.specs.declared.refusal.TemplateRefusal.{TemplateRefusal}

pub data Reading (A : Type 0) : Type 0 where
  Done : (value : A) → Reading A
  Expression : (scope : Scope) → (text : List ℕ) → (next : Result Expr ExpressionRefusal → Reading A) → Reading A
  APattern : (scope : Scope) → (text : List ℕ) → (next : Result Pattern ExpressionRefusal → Reading A) → Reading A
  Template : (scope : Scope) → (text : List ℕ) → (next : Result Avt TemplateRefusal → Reading A) → Reading A

-- the first, and then what the second makes of its value
unfoldable pub reading_then : {A B : Type 0} → Reading A → (A → Reading B) → Reading B
reading_then (Done value) k = k value
reading_then (Expression scope text next) k = Expression scope text (λ r. reading_then (next r) k)
reading_then (APattern scope text next) k = APattern scope text (λ r. reading_then (next r) k)
reading_then (Template scope text next) k = Template scope text (λ r. reading_then (next r) k)

-- the first, and the second where it is not refused
abbrev pub after_ok : {A B R : Type 0} → (A → Reading (Result B R)) → Result A R → Reading (Result B R)
after_ok k (Ok value) = k value
after_ok k (Err why) = Done (Err why)

abbrev pub reading_on : {A B R : Type 0} → Reading (Result A R) → (A → Reading (Result B R)) → Reading (Result B R)
reading_on r k = reading_then r (after_ok k)

-- both, also where the first is refused: the lesser refusal counts
abbrev pub lesser : StaticCode → StaticCode → StaticCode
lesser one other = if nat_le (static_number one) (static_number other) then one else other

abbrev pub joined : {A B C : Type 0} → (A → B → C) → Result A StaticCode → Result B StaticCode → Result C StaticCode
joined f (Ok a) (Ok b) = Ok (f a b)
joined f (Ok a) (Err why) = Err why
joined f (Err why) (Ok b) = Err why
joined f (Err why) (Err other) = Err (lesser why other)

abbrev pub both : {A B C : Type 0} → (A → B → C) → Reading (Result A StaticCode) → Reading (Result B StaticCode) → Reading (Result C StaticCode)
both f r s = reading_then r (λ a. reading_then s (λ b. Done (joined f a b)))

-- a reading comes to this value
abbrev pub Reads : {A : Type 0} → Reading A → A → Type 0
Reads (Done value) a = value ≡ a
Reads (Expression scope text next) a = (r : Result Expr ExpressionRefusal) × Parses scope text r × Reads (next r) a
Reads (APattern scope text next) a = (r : Result Pattern ExpressionRefusal) × ParsesPattern scope text r × Reads (next r) a
Reads (Template scope text next) a = (r : Result Avt TemplateRefusal) × ParsesTemplate scope text r × Reads (next r) a
