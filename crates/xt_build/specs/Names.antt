-- The names of attributes.
use Rattle.std.specs.Prelude.{List, map, Option}
use Rattle.spec_document.specs.Scope.{Scope}
use Rattle.spec_document.specs.Name.{Expanded}
use Rattle.spec_document.specs.Forest.{Written}
use Rattle.spec_document.specs.Declaration.{use_of}
use Rattle.spec_document.specs.NodeFaults.{expanded_by}

-- the expanded names of attributes; one without has none
abbrev pub expanded_names : Scope → List Written → List (Option Expanded)
expanded_names scope attributes = map (λ a. expanded_by scope (use_of a.name)) attributes
