-- What stands for parts and stylesheets, and which modules have stylesheets.
use Rattle.std.specs.Prelude.{◌≡◌, ℕ, List, map, None, Some}
use Rattle.spec_document.specs.Forest.{Plain}
use Rattle.spec_structure.specs.Modules as spec
use Rattle.spec_structure.specs.Modules.{Modules, FirstFault}
use Rattle.spec_structure.specs.Structure.{fault_of, links_of}
use Rattle.xt_import.specs.declared.precedence.Part.{Part}
use Rattle.xt_import.specs.declared.precedence.Stylesheet.{Stylesheet}

abbrev pub part_in : Part → spec.Part
part_in p = record { module_name = p.module_name; path = p.path }

abbrev pub stylesheet_in : Stylesheet → spec.Stylesheet
stylesheet_in s = record { parts = map part_in s.parts.items; imported = s.imported }

-- a module that has no fault of structure, and none at what it names
pub record IsFaultless (modules : Modules) (name : List ℕ) : Type 0 where
  pub tree : Plain
  pub is : modules name ≡ Some tree
  pub structure : fault_of 1 tree ≡ None
  pub links : FirstFault modules name (links_of 1 tree) None
