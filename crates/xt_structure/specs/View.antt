-- What the types of the program stand for.
use Rattle.std.specs.Prelude.{ℕ, List, map, Option, Result, Ok, Err}
use Rattle.std.specs.Option.{option_map}
use Rattle.std.specs.Borrow.{Bor}
use Rattle.std.specs.Str.{chars}
use Rattle.spec_structure.specs.Elements as elements
use Rattle.spec_structure.specs.Inside as inside
use Rattle.spec_structure.specs.Structure as structure
use Rattle.spec_structure.specs.declared.content.ContentKind.{ContentKind}
use Rattle.xt_structure.specs.declared.fault.Fault.{Fault}
use Rattle.xt_structure.specs.declared.links.Link.{Link}
use Rattle.xt_structure.specs.declared.walk.Visit.{Visit}
use Rattle.xt_structure.specs.declared.walk.Visit.TheVariants as visit
use Rattle.xt_structure.specs.declared.inside.Inside.{Inside}
use Rattle.xt_structure.specs.declared.inside.Role.{Role}
use Rattle.xt_structure.specs.declared.inside.Role.TheVariants as role
use Rattle.xt_structure.specs.declared.names.Naming.{Naming}
use Rattle.xt_structure.specs.declared.table.Row.{Row}

abbrev pub naming_of : Naming → elements.Naming
naming_of n = record { word = chars n.word.now; element = n.element }

abbrev pub row_of : Row → elements.Row
row_of r = record { name = chars r.name.now; kind = r.kind; is_required = r.is_required }

abbrev pub words_of : List (Bor (List ℕ)) → List (List ℕ)
words_of words = map (λ word. chars word.now) words

abbrev pub in_force : Inside → inside.Inside
in_force i = record { scope = i.scope; preserves = i.preserves; extensions = i.extensions.items }

abbrev pub role_in : Role → inside.Role
role_in (role.OfXslt element) = inside.OfXslt element
role_in role.OfExtension = inside.OfExtension
role_in (role.OfOther uri) = inside.OfOther (chars uri.now)

-- faults, and the links of a module
abbrev pub fault_in : Fault → structure.Fault
fault_in f = record { code = f.code; path = f.path }

abbrev pub faults_in : Option Fault → Option structure.Fault
faults_in o = option_map fault_in o

abbrev pub visit_in : Visit → Result ContentKind structure.Fault
visit_in (visit.Fault fault) = Err (fault_in fault)
visit_in (visit.Next kind) = Ok kind

abbrev pub link_in : Link → structure.Link
link_in l = record { path = l.path; is_import = l.is_import; href = l.href }

abbrev pub links_in : List Link → List structure.Link
links_in links = map link_in links
