-- The elements at the top of a module, one node after another.
use Rattle.std.specs.Prelude.{ℕ, List, [], ◌∷◌, map}
use Rattle.spec_document.specs.Forest as spec
use Rattle.spec_document.specs.Forest.{Written, Forest}
use Rattle.spec_structure.specs.Inside.{Inside, outside, inside_of, role_of}
use Rattle.spec_structure.specs.Modules as modules
use Rattle.spec_structure.specs.Modules.{top_level_of, top_levels_below}
use Rattle.xt_import.specs.declared.top.TopLevel.{TopLevel}
use Rattle.xt_import.specs.declared.top.TopLevel.TheVariants as code

abbrev pub top_level_in : TopLevel → modules.TopLevel
top_level_in (code.Own path) = modules.Own path
top_level_in (code.Imports href) = modules.Imports href
top_level_in (code.Includes href) = modules.Includes href

abbrev pub top_levels_in : List TopLevel → List modules.TopLevel
top_levels_in levels = map top_level_in levels

-- what a node below the top of a module is
abbrev pub level_at : Inside → List ℕ → spec.Content → List modules.TopLevel
level_at inside path (spec.Element name attributes) =
    let inner = inside_of inside name attributes in top_level_of inner path attributes (role_of inner name) ∷ []
level_at inside path (spec.Text text) = []
level_at inside path (spec.Comment text) = []
level_at inside path (spec.Instruction target text) = []

-- what a node at the top of a module has
abbrev pub levels_by : {L : Type 0} → List ℕ → List ℕ → List Written → Forest L → List modules.TopLevel
levels_by path name attributes children = let inner = inside_of outside name attributes in top_levels_below inner path (role_of inner name) children

abbrev pub levels_at_top : {L : Type 0} → List ℕ → spec.Content → Forest L → List modules.TopLevel
levels_at_top path (spec.Element name attributes) children = levels_by path name attributes children
levels_at_top path (spec.Text text) children = []
levels_at_top path (spec.Comment text) children = []
levels_at_top path (spec.Instruction target text) children = []
