-- What is said of the modules of a stylesheet.
use Rattle.std.specs.Prelude.{ℕ, List, map}
use Rattle.spec_structure.specs.Modules.{Modules, FirstFault, links_in}
use Rattle.xt_structure.specs.View.{faults_in}
use Rattle.xt_import.specs.declared.listed.ListedModule.{ListedModule}

abbrev pub names_in : List ListedModule → List (List ℕ)
names_in listed = map (λ m. m.name) listed

-- the fault is that of the module's first link with one
abbrev pub IsJudged : Modules → ListedModule → Type 0
IsJudged modules listed = FirstFault modules listed.name (links_in modules listed.name) (faults_in listed.link_fault)
