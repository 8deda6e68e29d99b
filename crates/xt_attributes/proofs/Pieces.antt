-- A value template with a brace out of place, behind its last piece.
use Rattle.std.proofs.Common.{◌≡◌, ℕ, zero, List, [], Result, Err, refl, sym, subst}
use Rattle.spec_document.specs.Scope.{Scope}
use Rattle.spec_expression.specs.declared.code.StaticCode.{StaticCode}
use Rattle.spec_expression.specs.declared.code.StaticCode.TheVariants as code
use Rattle.spec_static.specs.TemplateGrammar.{pieces}
use Rattle.spec_compile.specs.Reading.{Reading, Reads}
use Rattle.spec_compile.specs.Value.{Value, enclosed_in, stray_code}
use Rattle.xt_attributes.specs.Answers.{Continues}

abbrev stray_at : Scope → List ℕ → Reading (Result Value StaticCode)
stray_at scope text = stray_code scope (enclosed_in (pieces zero text))

none_left : (scope : Scope) → Reads (stray_at scope []) (Err code.BadValueTemplate)
unfolding pieces
none_left scope = refl

pub no_pieces : (scope : Scope) (text : List ℕ) {q : Reading (Result Value StaticCode)} → text ≡ [] → Continues (stray_code scope (enclosed_in (pieces zero text))) q
    → Reads q (Err code.BadValueTemplate)
no_pieces scope text e c =
    c.so (Err code.BadValueTemplate) (subst (λ (t : List ℕ). Reads (stray_at scope t) (Err code.BadValueTemplate)) (sym e) (none_left scope))
