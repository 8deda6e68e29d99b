-- The variables that one sort key, branch or binding mentions.
use Rattle.std.specs.Prelude.{List, ◌∷◌, ◌++◌}
use Rattle.spec_document.specs.Name.{Expanded}
use Rattle.spec_stylesheet.specs.Instruction.{SortKey, WithContent, Variable, Branch, Binding}
use Rattle.spec_transform.specs.Numbering.{names_in}
use Rattle.spec_items.specs.Mentioned.{names_in_avt, names_if, mentioned_in}

abbrev pub key_names : SortKey → List Expanded
key_names key = names_in key.select ++ (names_in_avt key.data_type ++ names_in_avt key.order)

abbrev pub branch_names : Branch → List Expanded
branch_names b = names_if b.test ++ mentioned_in b.content

abbrev pub binding_names : Binding → List Expanded
binding_names b = names_if b.select ++ mentioned_in b.content

-- the local variables in scope behind an instruction that makes something of its content
abbrev pub scope_with : List Expanded → WithContent → List Expanded
scope_with scope (Variable name select) = name ∷ scope
scope_with scope _ = scope
