-- What is told of names by URIs.
use Rattle.std.specs.Prelude.{ℕ, List, [], Option, None, Some}
use Rattle.spec_document.specs.Name.{Expanded}
use Rattle.spec_meaning.specs.Program.{Program, Give}
use Rattle.spec_run.specs.Plan.{Wrapping, AsElement, AsNameless}
use Rattle.spec_run.specs.Names.{bad_name}

-- the URI of a name; D08 where it has none, for its prefix is not declared
abbrev pub uri_in : {N : Type 0} → Option Expanded → Program N (List ℕ)
uri_in None = bad_name
uri_in (Some expanded) = Give expanded.uri

-- an element of this name, by its URI, where the name is a QName
abbrev pub element_by : List ℕ → Option (List ℕ) → Wrapping
element_by name None = AsNameless
element_by name (Some uri) = AsElement name uri []
