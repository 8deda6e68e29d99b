-- Attribute value templates (XSLT 1.0, section 7.6.2): texts with expressions between braces, where `{{` is `{` and `}}` is `}`; and which
-- refusal a text gets that is none.
use Rattle.std.specs.Prelude.{◌≡◌, ℕ, zero, suc, ◌+◌, ◌==◌, ◌||◌, if◌then◌else◌, nat_lt, List, [], ◌∷◌, take, Option, None, Some, option_map, Result, Ok, Err}
use Rattle.spec_document.specs.Scope.{Scope}
use Rattle.spec_expression.specs.declared.ExpressionRefusal.{ExpressionRefusal}
use Rattle.spec_expression.specs.declared.code.StaticCode.{StaticCode}
use Rattle.spec_expression.specs.declared.code.StaticCode.TheVariants.{BadValueTemplate}
use Rattle.spec_expression.specs.Code.{static_number, expression_code}
use Rattle.spec_expression.specs.Token.{begins}
use Rattle.spec_expression.specs.Syntax.{Expr}
use Rattle.spec_expression.specs.Grammar.{Parses}
use Rattle.spec_stylesheet.specs.ValueTemplate.{Avt, AvtPart, Text, Value}
use Rattle.spec_static.specs.declared.refusal.TemplateRefusal.{TemplateRefusal}
use Rattle.spec_static.specs.declared.refusal.TemplateRefusal.TheVariants.{AnExpression, Braces}

-- ---- Pieces of a text

pub data Piece : Type 0 where
  Character : (c : ℕ) → Piece
  -- what stands between braces
  Enclosed : (text : List ℕ) → Piece
  -- a lone `}`, or a `{` that is not closed
  Stray : Piece

-- how many characters stand before the `}` that closes an expression, which does not stand in a literal. In a literal it is asked for its
-- quote
abbrev pub before_close : Option ℕ → List ℕ → Option ℕ
before_close quote [] = None
before_close (Some quote) (c ∷ cs) = option_map suc (before_close (if c == quote then None else Some quote) cs)
before_close None (c ∷ cs) =
    if c == 0x7D then Some zero else option_map suc (before_close (if (c == 0x22) || (c == 0x27) then Some c else None) cs)

-- the pieces of what is left of a text, behind `taken` characters that the last piece still takes
unfoldable pub pieces : ℕ → List ℕ → List Piece
pieces taken [] = []
pieces (suc taken) (c ∷ cs) = pieces taken cs
pieces zero (c ∷ cs) =
    if c == 0x7B then
    (if begins 0x7B cs then Character c ∷ pieces 1 cs
    else (elim (before_close None cs) [ None ↦ Stray ∷ [] | Some count ↦ Enclosed (take count cs) ∷ pieces (count + 1) cs ]))
    else (if c == 0x7D then (if begins 0x7D cs then Character c ∷ pieces 1 cs else Stray ∷ pieces zero cs)
    else Character c ∷ pieces zero cs)

-- ---- What the pieces give: the parts, or the least refusal of all that stand

abbrev pub with_character : ℕ → List AvtPart → List AvtPart
with_character c (Text text ∷ parts) = Text (c ∷ text) ∷ parts
with_character c parts = Text (c ∷ []) ∷ parts

-- the code of a refused template
abbrev pub template_code : TemplateRefusal → StaticCode
template_code (AnExpression why) = expression_code why
template_code Braces = BadValueTemplate

-- the lesser of two refusals, by the numbers of their codes
abbrev pub least : TemplateRefusal → TemplateRefusal → TemplateRefusal
least one other = if nat_lt (static_number (template_code other)) (static_number (template_code one)) then other else one

-- a refusal beside what stands after it
abbrev pub refused : TemplateRefusal → Result (List AvtPart) TemplateRefusal → Result (List AvtPart) TemplateRefusal
refused why (Ok parts) = Err why
refused why (Err other) = Err (least why other)

abbrev pub on_parts : (List AvtPart → List AvtPart) → Result (List AvtPart) TemplateRefusal → Result (List AvtPart) TemplateRefusal
on_parts f (Ok parts) = Ok (f parts)
on_parts f (Err why) = Err why

abbrev pub with_value : Result Expr ExpressionRefusal → Result (List AvtPart) TemplateRefusal → Result (List AvtPart) TemplateRefusal
with_value (Ok e) rest = on_parts (λ parts. Value e ∷ parts) rest
with_value (Err why) rest = refused (AnExpression why) rest

-- what stands between braces is an expression, by its grammar
pub data GiveParts (scope : Scope) : List Piece → Result (List AvtPart) TemplateRefusal → Type 0 where
  no_piece : GiveParts scope [] (Ok [])
  character : {ps : List Piece} {rest : Result (List AvtPart) TemplateRefusal} (c : ℕ)
      → GiveParts scope ps rest → GiveParts scope (Character c ∷ ps) (on_parts (with_character c) rest)
  stray : {ps : List Piece} {rest : Result (List AvtPart) TemplateRefusal} → GiveParts scope ps rest → GiveParts scope (Stray ∷ ps) (refused Braces rest)
  enclosed : {ps : List Piece} {rest : Result (List AvtPart) TemplateRefusal} {text : List ℕ} (e : Result Expr ExpressionRefusal)
      → Parses scope text e → GiveParts scope ps rest → GiveParts scope (Enclosed text ∷ ps) (with_value e rest)

abbrev pub template_by : Result (List AvtPart) TemplateRefusal → Result Avt TemplateRefusal
template_by (Ok parts) = Ok (record { parts = parts })
template_by (Err why) = Err why

-- What a text gives as a value template
pub record ParsesTemplate (scope : Scope) (text : List ℕ) (result : Result Avt TemplateRefusal) : Type 0 where
  pub parts : Result (List AvtPart) TemplateRefusal
  pub given : GiveParts scope (pieces zero text) parts
  pub whole : result ≡ template_by parts
