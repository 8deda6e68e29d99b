-- What an attribute of a literal result element may be, and what calls say of it.
use Rattle.std.specs.Prelude.{◌≡◌, List, [], ◌∷◌, Option, None, Some, Result, Ok, Err}
use Rattle.spec_document.specs.Forest.{Written}
use Rattle.spec_document.specs.Name.{Expanded}
use Rattle.spec_document.specs.Scope.{Scope}
use Rattle.spec_expression.specs.declared.code.StaticCode.{StaticCode}
use Rattle.spec_stylesheet.specs.Instruction as made
use Rattle.spec_structure.specs.declared.value.ValueKind.TheVariants as kind
use Rattle.spec_compile.specs.Content.{literal_attribute}
use Rattle.spec_compile.specs.Reading.{Reading, Done, lesser, reading_on}
use Rattle.spec_compile.specs.Value.{value_of}
use Rattle.xt_syntax.specs.PartView.{literal_attribute_of}
use Rattle.xt_syntax.specs.declared.literal.LiteralAttribute.{LiteralAttribute}
use Rattle.xt_attributes.specs.declared.fault.AttributeFault.{AttributeFault}
use Rattle.xt_attributes.specs.declared.fault.AttributeFault.TheVariants as attribute

-- an attribute that may be there
abbrev pub literal_if : Option LiteralAttribute → List made.LiteralAttribute
literal_if None = []
literal_if (Some a) = literal_attribute_of a ∷ []

-- an attribute whose name is not XSLT's
abbrev pub attribute_reading : Scope → Written → Expanded → Reading (Result (List made.LiteralAttribute) StaticCode)
attribute_reading scope a name = reading_on (value_of kind.Template scope a.value) (λ v. Done (Ok (literal_attribute a.name name v)))

-- an answer without its want of memory
abbrev pub IsHeard : {T E : Type 0} → Result T AttributeFault → Result (Result T StaticCode) E → Type 0
IsHeard (Ok x) (Ok read) = read ≡ Ok x
IsHeard (Ok x) (Err error) = Unit {0}
IsHeard (Err attribute.Memory) (Ok read) = ⊥
IsHeard (Err attribute.Memory) (Err error) = Unit {0}
IsHeard (Err (attribute.Refused code)) (Ok read) = read ≡ Err code
IsHeard (Err (attribute.Refused code)) (Err error) = Unit {0}

-- the lesser of a code and of that which may stand elsewhere
abbrev pub least_with : {T : Type 0} → StaticCode → Result T StaticCode → StaticCode
least_with code (Ok x) = code
least_with code (Err other) = lesser code other
