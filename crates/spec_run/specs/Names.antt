-- Names that instructions make (XSLT 1.0, sections 7.1.2, 7.1.3 and 7.3): what the sink of the content becomes, or the refusal D08.
use Rattle.std.specs.Prelude.{ℕ, Bool, false, not, ◌||◌, List, [], Option, None, Some, bytes_eq, if◌then◌else◌}
use Rattle.spec_document.specs.Name.{QName, qname_of, is_ncname, Expanded}
use Rattle.spec_document.specs.Scope.{Scope, xmlns_uri}
use Rattle.spec_document.specs.Declaration.{is_xmlns, element_name, attribute_name, is_reserved_target}
use Rattle.spec_expression.specs.declared.code.DynCode.TheVariants as code
use Rattle.spec_stylesheet.specs.ValueTemplate.{Avt}
use Rattle.spec_stylesheet.specs.Instruction.{MadeName}
use Rattle.spec_meaning.specs.Question.{Here}
use Rattle.spec_meaning.specs.Program.{Program, Give, Refuse, ◌>>=◌}
use Rattle.spec_meaning.specs.Context.{Context}
use Rattle.spec_transform.specs.Expansion.{expanded}
use Rattle.spec_run.specs.Plan.{Wrapping, AsElement, AsNameless, AsAttribute, AsInstruction}

abbrev pub bad_name : {N A : Type 0} → Program N A
bad_name = Refuse (Here code.BadName)

-- the namespace attribute, where it is there
abbrev pub namespace_meant : {N : Type 0} → Option Avt → Context N → Program N (Option (List ℕ))
namespace_meant None c = Give None
namespace_meant (Some template) c = expanded template c >>= λ uri. Give (Some uri)

-- ---- Elements: a name that is no QName makes none

abbrev pub element_in : {N : Type 0} → List ℕ → Option Expanded → Program N Wrapping
element_in name None = bad_name
element_in name (Some expanded) = Give (AsElement name expanded.uri [])

abbrev pub element_called : {N : Type 0} → Scope → List ℕ → Option QName → Option (List ℕ) → Program N Wrapping
element_called scope name None uri = Give AsNameless
element_called scope name (Some q) None = element_in name (element_name scope q)
element_called scope name (Some q) (Some uri) = Give (AsElement name uri [])

-- nothing can be in the namespace of declarations
abbrev pub is_barred : Option (List ℕ) → Bool
is_barred None = false
is_barred (Some uri) = bytes_eq uri xmlns_uri

abbrev pub element_meant : {N : Type 0} → MadeName → Context N → Program N Wrapping
element_meant made c =
    expanded made.name c >>= λ name. namespace_meant made.namespace c >>= λ uri.
    if is_barred uri then bad_name else element_called c.scope name (qname_of name) uri

-- ---- Attributes: one whose name is no QName, or that would be written `xmlns`, is dropped with the shape of the result. The prefix `xmlns` is
-- taken as none

abbrev pub attribute_in : {N : Type 0} → List ℕ → Option Expanded → Program N Wrapping
attribute_in name None = bad_name
attribute_in name (Some expanded) = Give (AsAttribute name expanded.uri)

abbrev pub has_xmlns : QName → Bool
has_xmlns q = elim q.prefix [ None ↦ false | Some prefix ↦ is_xmlns prefix ]

abbrev pub attribute_called : {N : Type 0} → Scope → List ℕ → Option QName → Option (List ℕ) → Program N Wrapping
attribute_called scope name q (Some uri) = Give (AsAttribute name uri)
attribute_called scope name None None = Give (AsAttribute name [])
attribute_called scope name (Some q) None = if has_xmlns q then Give (AsAttribute name []) else attribute_in name (attribute_name scope q)

abbrev pub attribute_meant : {N : Type 0} → MadeName → Context N → Program N Wrapping
attribute_meant made c =
    expanded made.name c >>= λ name. namespace_meant made.namespace c >>= λ uri.
    if is_barred uri then bad_name else attribute_called c.scope name (qname_of name) uri

-- ---- Processing instructions

abbrev pub instruction_meant : {N : Type 0} → Avt → Context N → Program N Wrapping
instruction_meant target c =
    expanded target c >>= λ name. if not (is_ncname name) || is_reserved_target name then bad_name else Give (AsInstruction name)
