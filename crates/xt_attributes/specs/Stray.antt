-- What is asked of a value template with a brace out of place.
use Rattle.std.specs.Prelude.{Bool, List, ◌∷◌, Result, Err, if◌then◌else◌}
use Rattle.spec_document.specs.Scope.{Scope}
use Rattle.spec_expression.specs.declared.code.StaticCode.{StaticCode}
use Rattle.spec_expression.specs.declared.code.StaticCode.TheVariants as code
use Rattle.spec_static.specs.TemplateGrammar as plain
use Rattle.spec_compile.specs.Reading.{Reading, Done}
use Rattle.spec_compile.specs.Value.{Value, stray_code, enclosed_in}
use Rattle.xt_avt.specs.declared.braces.Piece.{Piece}
use Rattle.xt_avt.specs.Cut.{piece_of}
use Rattle.xt_attributes.specs.Answers.{Continues}

abbrev pub refused_in : StaticCode → Result Value StaticCode
refused_in c = Err c

-- what is left to read, where this is known of the piece before
abbrev pub asked_so : Scope → Bool → List plain.Piece → Reading (Result Value StaticCode)
asked_so scope is ps = if is then Done (Err code.BadFunction) else stray_code scope (enclosed_in ps)

-- whatever pieces follow
pub record IsAsked (scope : Scope) (piece : Piece) (is : Bool) : Type 0 where
  pub so : (ps : List plain.Piece) → Continues (asked_so scope is ps) (stray_code scope (enclosed_in (piece_of piece ∷ ps)))
