-- What each element at the top declares.
use Rattle.std.specs.Prelude.{Bool, List, [], Option, codes, unwrap_or}
use Rattle.spec_document.specs.Name.{Expanded}
use Rattle.spec_document.specs.Scope.{Scope}
use Rattle.spec_stylesheet.specs.Instruction.{bindings, instrs}
use Rattle.spec_stylesheet.specs.Place.{Site}
use Rattle.spec_stylesheet.specs.Sheet.{Template}
use Rattle.spec_compile.specs.Content.{Child, content_in, name_at, sets_at}
use Rattle.spec_compile.specs.Unit.{Declaration, ATemplate, AGlobal, ASet, ASpaceRule, AnOutput, AnAlias, alias_by, global_of, method_in, prefix_at, priority_in, template_of, tests_in}
use Rattle.spec_compile.specs.Value.{Entry, at, name_in, pattern_in}
use Rattle.xt_content.specs.Kind.{Parted}

abbrev pub made_template : Option Expanded → Parted → Template
made_template name parts = record { name = name; parameters = bindings parts.parameters; content = instrs parts.content }

abbrev pub template_by : List Entry → List Child → Declaration
template_by v children = ATemplate (template_of v children) (at pattern_in (codes "match") v) (at priority_in (codes "priority") v) (at name_in (codes "mode") v)

abbrev pub global_by : Bool → Site → List Entry → List Child → Declaration
global_by is_parameter site v children = AGlobal (global_of is_parameter site v children)

abbrev pub attribute_set_by : List Entry → List Child → Declaration
attribute_set_by v children = ASet (record { name = name_at (codes "name") v; sets = sets_at (codes "use-attribute-sets") v; attributes = content_in children })

abbrev pub space_rule_by : Bool → List Entry → Declaration
space_rule_by strips v = ASpaceRule strips (unwrap_or (at tests_in (codes "elements") v) [])

abbrev pub output_by : List Entry → Declaration
output_by v = AnOutput (at method_in (codes "method") v)

abbrev pub declared_alias : Scope → List Entry → Declaration
declared_alias scope v = AnAlias (alias_by scope (prefix_at (codes "stylesheet-prefix") v) (prefix_at (codes "result-prefix") v))
