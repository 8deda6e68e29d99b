-- How far a value template was read.
use Rattle.std.specs.Prelude.{◌≡◌, ℕ, Bool, true, false, List, [], ◌∷◌, ◌++◌, map, Option, None, Some, Result, Ok, Err}
use Rattle.spec_document.specs.Scope.{Scope}
use Rattle.spec_stylesheet.specs.ValueTemplate as plain
use Rattle.spec_stylesheet.specs.ValueTemplate.{AvtPart}
use Rattle.spec_static.specs.declared.refusal.TemplateRefusal.{TemplateRefusal}
use Rattle.spec_static.specs.TemplateGrammar.{Piece, GiveParts, with_character, on_parts, refused}
use Rattle.xt_syntax.specs.declared.avt.Avt.{Avt}
use Rattle.xt_syntax.specs.PartView.{avt_part_of}
use Rattle.xt_avt.specs.declared.fault.AvtFault.{AvtFault}
use Rattle.xt_avt.specs.declared.fault.AvtFault.TheVariants.{Memory, Refused}
use Rattle.xt_avt.specs.declared.parts.Parts.{Parts}

abbrev pub begins_text : List AvtPart → Bool
begins_text (plain.Text text ∷ parts) = true
begins_text _ = false

-- characters in front of parts
unfoldable pub with_text : List ℕ → List AvtPart → List AvtPart
with_text [] parts = parts
with_text (c ∷ cs) parts = with_character c (with_text cs parts)

-- the result of all, where these parts and characters, or this refusal, were read, by the result of what is not read yet
abbrev pub all_so : Option TemplateRefusal → List AvtPart → List ℕ → Result (List AvtPart) TemplateRefusal → Result (List AvtPart) TemplateRefusal
all_so None parts text rest = on_parts (λ more. parts ++ with_text text more) rest
all_so (Some why) parts text rest = refused why rest

abbrev pub all_with : Parts → Result (List AvtPart) TemplateRefusal → Result (List AvtPart) TemplateRefusal
all_with p rest = all_so p.refused (map avt_part_of p.parts.items) p.text rest

-- with these pieces not read yet, the result is this one
pub record Comes (scope : Scope) (p : Parts) (ps : List Piece) (result : Result (List AvtPart) TemplateRefusal) : Type 0 where
  pub rest : Result (List AvtPart) TemplateRefusal
  pub given : GiveParts scope ps rest
  pub whole : result ≡ all_with p rest

-- the answer is this result, unless memory ran out
abbrev pub Finishes : Result (List AvtPart) TemplateRefusal → Result Avt AvtFault → Type 0
Finishes parts (Ok avt) = parts ≡ Ok (map avt_part_of avt.parts.items)
Finishes parts (Err Memory) = Unit {0}
Finishes parts (Err (Refused why)) = parts ≡ Err why
