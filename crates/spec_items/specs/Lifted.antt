-- A stylesheet in which the content of each xsl:for-each stands in a template of its own, whose parameters are the free variables of that
-- content. It is run for each node as a template that is called is, and comes to the same.
use Rattle.std.specs.Prelude.{ℕ, Bool, List, [], ◌∷◌, ◌++◌, map, Option, None, Some, decimal, if◌then◌else◌}
use Rattle.std.specs.List.{flat_map, list_any}
use Rattle.spec_document.specs.Name.{Expanded}
use Rattle.spec_expression.specs.Syntax.{variable}
use Rattle.spec_stylesheet.specs.Place.{Place, Site}
use Rattle.spec_stylesheet.specs.Instruction as made
use Rattle.spec_stylesheet.specs.Instruction.{Form, without_content, with_content, control, Control, for_each, for_items, conditional, choose, apply_templates, call_template, Instrs, no_instrs, instr, Branches, no_branches, branch, Bindings, no_bindings, binding}
use Rattle.spec_stylesheet.specs.Sheet as sheet
use Rattle.spec_stylesheet.specs.Sheet.{Sheet}
use Rattle.spec_run.specs.World.{same_element}
use Rattle.spec_items.specs.Mentioned.{free_in}

-- ---- Names and parameters

abbrev pub text_of : Option (List ℕ) → List ℕ
text_of None = []
text_of (Some text) = text

-- a slash and the decimal digits of each number
abbrev pub path_text : List ℕ → List ℕ
path_text path = flat_map (λ position. 0x2F ∷ decimal position) path

-- the name of the template of an xsl:for-each. No document can write it, since the character 0 is none of XML
abbrev pub item_name : Place → Expanded
item_name place = record { uri = 0 ∷ text_of place.module_name; local = path_text place.path }

-- the parameters of the template
abbrev pub parameters_for : Site → List Expanded → Bindings
parameters_for site [] = no_bindings
parameters_for site (name ∷ names) = binding site name None no_instrs (parameters_for site names)

-- what is passed: each variable by its name
abbrev pub passed_for : Site → List Expanded → Bindings
passed_for site [] = no_bindings
passed_for site (name ∷ names) = binding site name (Some (variable name)) no_instrs (passed_for site names)

-- ---- What is left where the content stood

-- the local variables in scope behind an instruction, innermost first
abbrev pub scope_after : List Expanded → Form → List Expanded
scope_after scope (with_content (made.Variable name select) is) = name ∷ scope
scope_after scope _ = scope

abbrev mutual
  pub left_in : (scope : List Expanded) → Instrs → Instrs
  left_in scope no_instrs = no_instrs
  left_in scope (instr site form is) = instr site (left_by scope site form) (left_in (scope_after scope form) is)

  pub left_by : (scope : List Expanded) → Site → Form → Form
  left_by scope site (without_content what) = without_content what
  left_by scope site (with_content what is) = with_content what (left_in scope is)
  left_by scope site (control c) = control (left_under scope site c)

  pub left_under : (scope : List Expanded) → Site → Control → Control
  left_under scope site (for_each e keys is) = for_items e keys (item_name site.place) (passed_for site (free_in scope is))
  left_under scope site (for_items e keys name bs) = for_items e keys name (left_passed scope bs)
  left_under scope site (conditional e is) = conditional e (left_in scope is)
  left_under scope site (choose bs) = choose (left_in_branches scope bs)
  left_under scope site (apply_templates s bs) = apply_templates s (left_passed scope bs)
  left_under scope site (call_template name bs) = call_template name (left_passed scope bs)

  pub left_in_branches : (scope : List Expanded) → Branches → Branches
  left_in_branches scope no_branches = no_branches
  left_in_branches scope (branch site test is more) = branch site test (left_in scope is) (left_in_branches scope more)

  -- of what is passed none sees another
  pub left_passed : (scope : List Expanded) → Bindings → Bindings
  left_passed scope no_bindings = no_bindings
  left_passed scope (binding site name select is more) = binding site name select (left_in scope is) (left_passed scope more)

-- each parameter of a template is in scope for those after it
abbrev pub left_taken : (scope : List Expanded) → Bindings → Bindings
left_taken scope no_bindings = no_bindings
left_taken scope (binding site name select is more) = binding site name select (left_in scope is) (left_taken (name ∷ scope) more)

abbrev pub scope_of : (scope : List Expanded) → Bindings → List Expanded
scope_of scope no_bindings = scope
scope_of scope (binding site name select is more) = scope_of (name ∷ scope) more

-- ---- The templates of the contents

-- of this name, with these free variables
abbrev pub item_unit : (precedence : ℕ) → Site → List Expanded → Instrs → sheet.Unit
item_unit precedence site free is = record {
  site = site;
  precedence = precedence;
  declared = sheet.ATemplate (record { name = Some (item_name site.place); parameters = parameters_for site free; content = left_in free is });
}

-- each before those of the contents in it, in the order of the stylesheet
abbrev mutual
  pub items_in : (precedence : ℕ) → (scope : List Expanded) → Instrs → List sheet.Unit
  items_in precedence scope no_instrs = []
  items_in precedence scope (instr site form is) = items_by precedence scope site form ++ items_in precedence (scope_after scope form) is

  pub items_by : (precedence : ℕ) → (scope : List Expanded) → Site → Form → List sheet.Unit
  items_by precedence scope site (without_content what) = []
  items_by precedence scope site (with_content what is) = items_in precedence scope is
  items_by precedence scope site (control c) = items_under precedence scope site c

  pub items_under : (precedence : ℕ) → (scope : List Expanded) → Site → Control → List sheet.Unit
  items_under precedence scope site (for_each e keys is) =
      item_unit precedence site (free_in scope is) is ∷ items_in precedence (free_in scope is) is
  items_under precedence scope site (for_items e keys name bs) = items_in_passed precedence scope bs
  items_under precedence scope site (conditional e is) = items_in precedence scope is
  items_under precedence scope site (choose bs) = items_in_branches precedence scope bs
  items_under precedence scope site (apply_templates s bs) = items_in_passed precedence scope bs
  items_under precedence scope site (call_template name bs) = items_in_passed precedence scope bs

  pub items_in_branches : (precedence : ℕ) → (scope : List Expanded) → Branches → List sheet.Unit
  items_in_branches precedence scope no_branches = []
  items_in_branches precedence scope (branch site test is more) = items_in precedence scope is ++ items_in_branches precedence scope more

  pub items_in_passed : (precedence : ℕ) → (scope : List Expanded) → Bindings → List sheet.Unit
  items_in_passed precedence scope no_bindings = []
  items_in_passed precedence scope (binding site name select is more) = items_in precedence scope is ++ items_in_passed precedence scope more

abbrev pub items_in_taken : (precedence : ℕ) → (scope : List Expanded) → Bindings → List sheet.Unit
items_in_taken precedence scope no_bindings = []
items_in_taken precedence scope (binding site name select is more) = items_in precedence scope is ++ items_in_taken precedence (name ∷ scope) more

-- ---- Units and stylesheets

abbrev pub left_declared : sheet.Declared → sheet.Declared
left_declared (sheet.ATemplate t) = sheet.ATemplate (record {
  name = t.name;
  parameters = left_taken [] t.parameters;
  content = left_in (scope_of [] t.parameters) t.content;
})
left_declared (sheet.AGlobal g) = sheet.AGlobal (record {
  is_parameter = g.is_parameter;
  binding = record { site = g.binding.site; name = g.binding.name; select = g.binding.select; content = left_in [] g.binding.content };
})
left_declared (sheet.ASet s) = sheet.ASet (record { name = s.name; sets = s.sets; attributes = left_in [] s.attributes })
left_declared (sheet.AKey k) = sheet.AKey k

abbrev pub left_unit : sheet.Unit → sheet.Unit
left_unit u = record { site = u.site; precedence = u.precedence; declared = left_declared u.declared }

abbrev pub items_declared : (precedence : ℕ) → sheet.Declared → List sheet.Unit
items_declared precedence (sheet.ATemplate t) =
    items_in_taken precedence [] t.parameters ++ items_in precedence (scope_of [] t.parameters) t.content
items_declared precedence (sheet.AGlobal g) = items_in precedence [] g.binding.content
items_declared precedence (sheet.ASet s) = items_in precedence [] s.attributes
items_declared precedence (sheet.AKey k) = []

abbrev pub items_of : sheet.Unit → List sheet.Unit
items_of u = items_declared u.precedence u.declared

-- one of these units stands at this place
abbrev pub stands_in : Place → List sheet.Unit → Bool
stands_in place units = list_any (λ u. same_element place u.site.place) units

-- The templates of the contents of these units, which stand behind those before them. A module that is imported twice stands in the stylesheet
-- twice; of the units at one place only the first is ever found, so the contents of the others need no templates
abbrev pub items_behind : (before units : List sheet.Unit) → List sheet.Unit
items_behind before [] = []
items_behind before (u ∷ us) = (if stands_in u.site.place before then [] else items_of u) ++ items_behind (before ++ u ∷ []) us

abbrev pub items : List sheet.Unit → List sheet.Unit
items units = items_behind [] units

-- the templates of contents stand behind all other units, so that rules name the same units by their numbers
abbrev pub lifted : Sheet → Sheet
lifted s = record {
  units = map left_unit s.units ++ items s.units;
  rules = s.rules;
  space_rules = s.space_rules;
  method = s.method;
  aliases = s.aliases;
}
