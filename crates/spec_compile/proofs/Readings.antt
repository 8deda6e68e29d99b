-- A reading comes to one value, where a text has one answer as an expression, as a pattern and as a value template.
use Rattle.std.proofs.Common.{◌≡◌, ℕ, List, Result, sym, ◌∙◌, subst}
use Rattle.spec_document.specs.Scope.{Scope}
use Rattle.spec_expression.specs.declared.ExpressionRefusal.{ExpressionRefusal}
use Rattle.spec_expression.specs.Syntax.{Expr}
use Rattle.spec_expression.specs.Grammar.{Parses}
use Rattle.spec_stylesheet.specs.Pattern.{Pattern}
use Rattle.spec_stylesheet.specs.ValueTemplate.{Avt}
use Rattle.spec_static.specs.PatternGrammar.{ParsesPattern}
use Rattle.spec_static.specs.TemplateGrammar.{ParsesTemplate}
use Rattle.spec_static.specs.declared.refusal.TemplateRefusal.{TemplateRefusal}
use Rattle.spec_compile.specs.Reading.{Reading, Done, Expression, APattern, Template, Reads}

-- the laws of the grammars
pub record OneAnswer : Type 0 where
  pub expression : (scope : Scope) (text : List ℕ) (r s : Result Expr ExpressionRefusal) → Parses scope text r → Parses scope text s → r ≡ s
  pub pattern : (scope : Scope) (text : List ℕ) (r s : Result Pattern ExpressionRefusal) → ParsesPattern scope text r → ParsesPattern scope text s → r ≡ s
  pub template : (scope : Scope) (text : List ℕ) (r s : Result Avt TemplateRefusal) → ParsesTemplate scope text r → ParsesTemplate scope text s → r ≡ s

pub one_value : {A : Type 0} → OneAnswer → (reading : Reading A) → (a b : A) → Reads reading a → Reads reading b → a ≡ b
one_value one (Done value) a b h g = sym h ∙ g
one_value one (Expression scope text next) a b h g =
    one_value one (next g.0) a b (subst (λ r. Reads (next r) a) (one.expression scope text h.0 g.0 h.1 g.1) h.2) g.2
one_value one (APattern scope text next) a b h g =
    one_value one (next g.0) a b (subst (λ r. Reads (next r) a) (one.pattern scope text h.0 g.0 h.1 g.1) h.2) g.2
one_value one (Template scope text next) a b h g =
    one_value one (next g.0) a b (subst (λ r. Reads (next r) a) (one.template scope text h.0 g.0 h.1 g.1) h.2) g.2
