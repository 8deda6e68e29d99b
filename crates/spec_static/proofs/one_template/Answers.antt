use Rattle.std.proofs.Common.{◌≡◌, ℕ, List, Result, refl, ap, sym, ◌∙◌}
use Rattle.spec_document.specs.Scope.{Scope}
use Rattle.spec_expression.specs.declared.ExpressionRefusal.{ExpressionRefusal}
use Rattle.spec_expression.specs.Syntax.{Expr}
use Rattle.spec_expression.specs.Grammar.{Parses}
use Rattle.spec_stylesheet.specs.ValueTemplate.{AvtPart}
use Rattle.spec_static.specs.declared.refusal.TemplateRefusal.{TemplateRefusal}
use Rattle.spec_static.specs.declared.refusal.TemplateRefusal.TheVariants.{Braces}
use Rattle.spec_static.specs.TemplateGrammar.{Piece, GiveParts, no_piece, character, stray, enclosed, with_character, on_parts, refused, with_value, template_by}
use Rattle.spec_static.proofs.one_template.Goals as goal

abbrev OneAnswer : Type 0
OneAnswer = (scope : Scope) (text : List ℕ) (r s : Result Expr ExpressionRefusal) → Parses scope text r → Parses scope text s → r ≡ s

one_list : OneAnswer → {scope : Scope} {ps : List Piece} {r s : Result (List AvtPart) TemplateRefusal} → GiveParts scope ps r → GiveParts scope ps s → r ≡ s
one_list one no_piece no_piece = refl
one_list one (character c h) (character d g) = ap (on_parts (with_character c)) (one_list one h g)
one_list one (stray h) (stray g) = ap (refused Braces) (one_list one h g)
one_list one {scope = scope} (enclosed {rest = rest} {text = text} e p h) (enclosed f q g) =
    ap (λ x. with_value x rest) (one scope text e f p q) ∙ ap (with_value f) (one_list one h g)

pub returns : goal.returns
returns c scope text r s h g = h.whole ∙ ap template_by (one_list c.one_answer.ensures h.given g.given) ∙ sym g.whole
