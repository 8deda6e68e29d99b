-- The string that an attribute value template stands for (XSLT 1.0, section 7.6.2).
use Rattle.std.specs.Prelude.{ℕ, List, [], ◌∷◌, ◌++◌}
use Rattle.spec_stylesheet.specs.ValueTemplate.{Avt, AvtPart, Text, Value}
use Rattle.spec_meaning.specs.Program.{Program, Give, ◌>>=◌}
use Rattle.spec_meaning.specs.Context.{Context}
use Rattle.spec_meaning.specs.Convert.{to_text}
use Rattle.spec_meaning.specs.Meaning.{meaning}

-- a text stands for itself, an expression for its value, converted to a string
abbrev pub part_text : {N : Type 0} → AvtPart → Context N → Program N (List ℕ)
part_text (Text text) c = Give text
part_text (Value e) c = meaning e c >>= λ v. to_text v

-- the strings of the parts joined, each made in its turn, from left to right
unfoldable pub joined : {N : Type 0} → List AvtPart → Context N → Program N (List ℕ)
joined [] c = Give []
joined (p ∷ ps) c = part_text p c >>= λ text. joined ps c >>= λ rest. Give (text ++ rest)

abbrev pub expanded : {N : Type 0} → Avt → Context N → Program N (List ℕ)
expanded avt c = joined avt.parts c
