-- What is transformed: the plain documents that are held, and the values that parameters are given from outside.
use Rattle.std.specs.Prelude.{ℕ, List, Option, None, Some, bytes_eq, codes, if◌then◌else◌}
use Rattle.std.specs.List.{list_all}
use Rattle.spec_document.specs.Character.{is_char}
use Rattle.spec_document.specs.Name.{is_ncname}
use Rattle.spec_document.specs.Forest.{Plain}

-- the value of the parameter of each name without a prefix, where one is given (XSLT 1.0, section 11.4)
abbrev pub Parameters : Type 0
Parameters = List ℕ → Option (List ℕ)

-- the source, the module of each name, and the parameters
pub record Documents : Type 0 where
  pub source : Option Plain
  pub modules : List ℕ → Option Plain
  pub parameters : Parameters

abbrev pub no_documents : Documents
no_documents = record { source = None; modules = λ name. None; parameters = λ name. None }

-- the documents with this source, with this module of this name, in place of the one before
abbrev pub with_source : Plain → Documents → Documents
with_source nodes old = record { source = Some nodes; modules = old.modules; parameters = old.parameters }

abbrev pub with_module : List ℕ → Plain → Documents → Documents
with_module name nodes old =
    record { source = old.source; modules = λ other. if bytes_eq other name then Some nodes else old.modules other; parameters = old.parameters }

-- without the module of this name
abbrev pub without_module : List ℕ → Documents → Documents
without_module name old =
    record { source = old.source; modules = λ other. if bytes_eq other name then None else old.modules other; parameters = old.parameters }

-- and with this value of the parameter of this name, in place of the one before
abbrev pub with_parameter : List ℕ → List ℕ → Documents → Documents
with_parameter name value old =
    record { source = old.source; modules = old.modules; parameters = λ other. if bytes_eq other name then Some value else old.parameters other }

-- the number of the refusal where a parameter of this name may not be given this value: 8 where the value has a character that is none of
-- XML, else 10 where the name is no NCName
abbrev pub parameter_fault : (name value : List ℕ) → Option ℕ
parameter_fault name value = if list_all is_char value then (if is_ncname name then None else Some 10) else Some 8

-- the name of the principal module
abbrev pub main_name : List ℕ
main_name = codes "main"
