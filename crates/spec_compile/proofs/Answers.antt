-- A reading does not lack a value: a text has an answer by a grammar unless neither that it has a tree nor that it has none, which cannot be.
use Rattle.std.proofs.Common.{◌≡◌, ℕ, zero, Bool, true, false, List, [], ◌∷◌, Option, None, Some, Result, Ok, Err, refl}
use Rattle.std.specs.List.{list_any}
use Rattle.spec_document.specs.Scope.{Scope}
use Rattle.spec_expression.specs.declared.ExpressionRefusal.{ExpressionRefusal}
use Rattle.spec_expression.specs.declared.ExpressionRefusal.TheVariants as refusals
use Rattle.spec_expression.specs.Syntax.{Expr}
use Rattle.spec_expression.specs.Token.{Token, tokens, is_deep}
use Rattle.spec_expression.specs.Grammar as expression
use Rattle.spec_expression.specs.Grammar.{Parses, is_bad_number, is_undeclared}
use Rattle.spec_stylesheet.specs.Pattern.{Pattern}
use Rattle.spec_static.specs.PatternGrammar as pattern
use Rattle.spec_static.specs.PatternGrammar.{ParsesPattern}
use Rattle.spec_static.specs.TemplateGrammar.{Piece, Character, Enclosed, Stray, pieces, GiveParts, no_piece, character, stray, enclosed, template_by, ParsesTemplate}
use Rattle.spec_compile.specs.Reading.{Reading, Done, Expression, APattern, Template, Reads}

abbrev pub IsNotWanting : {A : Type 0} → (A → Type 0) → Type 0
IsNotWanting P = ¬ (¬ ((a : _) × P a))

-- ---- Expressions

gives : (scope : Scope) (ts : List Token) → IsNotWanting (expression.Gives scope ts)
gives scope ts none = by (is_deep 0 ts) refl
  where
    valued : (e : Expr) → is_deep 0 ts ≡ false → expression.IsExpression scope ts e → (bad undeclared : Bool)
        → list_any is_bad_number ts ≡ bad → list_any (is_undeclared scope) ts ≡ undeclared → ⊥
    valued e shallow h true undeclared b u = none (Err refusals.Number, (e, record { shallow = shallow; expression = h }, b))
    valued e shallow h false true b u = none (Err refusals.Prefix, (e, record { shallow = shallow; expression = h }, b, u))
    valued e shallow h false false b u = none (Ok e, (record { shallow = shallow; expression = h }, b, u))

    by : (deep : Bool) → is_deep 0 ts ≡ deep → ⊥
    by true d = none (Err refusals.Depth, d)
    by false d = none (Err refusals.Syntax, (d, λ e h. valued e d h _ _ refl refl))

parses : (scope : Scope) (text : List ℕ) → IsNotWanting (Parses scope text)
parses scope text = by (tokens text)
  where
    by : (cut : Option (List Token))
        → IsNotWanting (λ (r : Result Expr ExpressionRefusal). elim cut as (λ _. Type 0) [ None ↦ expression.Uncut r | Some ts ↦ expression.Gives scope ts r ])
    by None none = none (Err refusals.Syntax, tt)
    by (Some ts) none = gives scope ts none

-- ---- Patterns

gives_pattern : (scope : Scope) (ts : List Token) → IsNotWanting (pattern.Gives scope ts)
gives_pattern scope ts none = by (is_deep 0 ts) refl
  where
    valued : (p : Pattern) → is_deep 0 ts ≡ false → pattern.IsPattern scope ts p → (bad undeclared : Bool)
        → list_any is_bad_number ts ≡ bad → list_any (is_undeclared scope) ts ≡ undeclared → ⊥
    valued p shallow h true undeclared b u = none (Err refusals.Number, (p, record { shallow = shallow; pattern = h }, b))
    valued p shallow h false true b u = none (Err refusals.Prefix, (p, record { shallow = shallow; pattern = h }, b, u))
    valued p shallow h false false b u = none (Ok p, (record { shallow = shallow; pattern = h }, b, u))

    by : (deep : Bool) → is_deep 0 ts ≡ deep → ⊥
    by true d = none (Err refusals.Depth, d)
    by false d = none (Err refusals.Syntax, (d, λ p h. valued p d h _ _ refl refl))

parses_pattern : (scope : Scope) (text : List ℕ) → IsNotWanting (ParsesPattern scope text)
parses_pattern scope text = by (tokens text)
  where
    by : (cut : Option (List Token))
        → IsNotWanting (λ (r : Result Pattern ExpressionRefusal). elim cut as (λ _. Type 0) [ None ↦ pattern.Uncut r | Some ts ↦ pattern.Gives scope ts r ])
    by None none = none (Err refusals.Syntax, tt)
    by (Some ts) none = gives_pattern scope ts none

-- ---- Value templates

give_parts : (scope : Scope) (ps : List Piece) → IsNotWanting (GiveParts scope ps)
give_parts scope [] none = none (_, no_piece)
give_parts scope (Character c ∷ ps) none = give_parts scope ps (λ rest. none (_, character c rest.1))
give_parts scope (Stray ∷ ps) none = give_parts scope ps (λ rest. none (_, stray rest.1))
give_parts scope (Enclosed text ∷ ps) none = parses scope text (λ e. give_parts scope ps (λ rest. none (_, enclosed e.0 e.1 rest.1)))

parses_template : (scope : Scope) (text : List ℕ) → IsNotWanting (ParsesTemplate scope text)
parses_template scope text none =
    give_parts scope (pieces zero text) (λ ps. none (template_by ps.0, record { parts = ps.0; given = ps.1; whole = refl }))

-- ---- Readings

pub some_value : {A : Type 0} (reading : Reading A) → IsNotWanting (Reads reading)
some_value (Done value) none = none (value, refl)
some_value (Expression scope text next) none = parses scope text (λ p. some_value (next p.0) (λ r. none (r.0, (p.0, p.1, r.1))))
some_value (APattern scope text next) none = parses_pattern scope text (λ p. some_value (next p.0) (λ r. none (r.0, (p.0, p.1, r.1))))
some_value (Template scope text next) none = parses_template scope text (λ p. some_value (next p.0) (λ r. none (r.0, (p.0, p.1, r.1))))
