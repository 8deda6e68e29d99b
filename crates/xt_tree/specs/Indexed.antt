-- Where declarations stand among attributes.
use Rattle.std.specs.Prelude.{ℕ, ◌+◌, List, [], ◌∷◌, map, nat_lt, if◌then◌else◌}
use Rattle.spec_document.specs.Forest.{Written}
use Rattle.xt_tree.specs.declared.node.Written.{Written as Code}
use Rattle.spec_document.specs.Declaration.{is_declaration}
use Rattle.xt_tree.specs.declared.node.Content.{Content}
use Rattle.xt_tree.specs.declared.node.Content.TheVariants as code

-- the places of the declarations, where the first attribute has this place
abbrev pub declarations_in : ℕ → List Written → List ℕ
declarations_in place [] = []
declarations_in place (a ∷ more) =
    if is_declaration a then place ∷ declarations_in (place + 1) more else declarations_in (place + 1) more

-- the same as `written_of` of View, which stands above this file
abbrev pub attribute_of : Code → Written
attribute_of a = record { name = a.name; value = a.value }

-- all attributes of a content, with its declarations
abbrev pub written_in : Content → List Written
written_in (code.Element name attributes) = map attribute_of attributes.items
written_in (code.Text text) = []
written_in (code.Comment text) = []
written_in (code.Instruction target text) = []

-- a place that was counted without the declarations at these places, counted with them
abbrev pub skipped : List ℕ → ℕ → ℕ
skipped [] place = place
skipped (declaration ∷ more) place = skipped more (if nat_lt place declaration then place else place + 1)
