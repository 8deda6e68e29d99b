-- What is left of one instruction, branch or binding, and the template of a content of which this is left.
use Rattle.std.specs.Prelude.{ℕ, Bool, not, ◌&&◌, nat_lt, List, [], ◌∷◌, ◌++◌, length, Some, if◌then◌else◌}
use Rattle.std.specs.List.{list_all, list_any}
use Rattle.spec_document.specs.Name.{Expanded}
use Rattle.spec_expression.specs.Syntax.{Expr}
use Rattle.spec_stylesheet.specs.Place.{Site}
use Rattle.spec_stylesheet.specs.Instruction.{SortKey, Instrs, Instr, Branch, Binding, Control, for_items}
use Rattle.spec_stylesheet.specs.Sheet as sheet
use Rattle.spec_items.specs.Liftable.{have_own_names, is_plain_declared}
use Rattle.spec_items.specs.Lifted.{item_name, item_unit, items_by, items_in, items_in_taken, items_of, left_by, left_in, left_taken, parameters_for, passed_for, scope_of, stands_in}

abbrev pub left_instr : List Expanded → Instr → Instr
left_instr scope i = record { site = i.site; form = left_by scope i.site i.form }

abbrev pub items_in_instr : ℕ → List Expanded → Instr → List sheet.Unit
items_in_instr precedence scope i = items_by precedence scope i.site i.form

abbrev pub left_branch : List Expanded → Branch → Branch
left_branch scope b = record { site = b.site; test = b.test; content = left_in scope b.content }

abbrev pub left_binding : List Expanded → Binding → Binding
left_binding scope b = record { site = b.site; name = b.name; select = b.select; content = left_in scope b.content }

abbrev pub unit_with : ℕ → Site → List Expanded → Instrs → sheet.Unit
unit_with precedence site free content = record {
  site = site;
  precedence = precedence;
  declared = sheet.ATemplate (record { name = Some (item_name site.place); parameters = parameters_for site free; content = content });
}

-- the templates of a content that mentions these variables, and of those in it
abbrev pub lifted_items : ℕ → Site → List Expanded → Instrs → List sheet.Unit
lifted_items precedence site free content = item_unit precedence site free content ∷ items_in precedence free content

-- what is left of an xsl:for-each
abbrev pub items_left : Site → Expr → List SortKey → List Expanded → Control
items_left site e keys free = for_items e keys (item_name site.place) (passed_for site free)

-- the same of a template, a global variable and an attribute set
abbrev pub left_template : sheet.Template → sheet.Template
left_template t = record { name = t.name; parameters = left_taken [] t.parameters; content = left_in (scope_of [] t.parameters) t.content }

abbrev pub items_in_template : ℕ → sheet.Template → List sheet.Unit
items_in_template precedence t = items_in_taken precedence [] t.parameters ++ items_in precedence (scope_of [] t.parameters) t.content

abbrev pub left_global : sheet.GlobalBinding → sheet.GlobalBinding
left_global g = record { is_parameter = g.is_parameter; binding = left_binding [] g.binding }

abbrev pub left_set : sheet.AttributeSet → sheet.AttributeSet
left_set s = record { name = s.name; sets = s.sets; attributes = left_in [] s.attributes }

-- ---- Stylesheets

abbrev pub is_plain_sheet : sheet.Sheet → Bool
is_plain_sheet s = list_all (λ u. is_plain_declared u.declared) s.units && list_all (λ rule. nat_lt rule.unit (length s.units)) s.rules.rules

abbrev pub are_apart : (items units : List sheet.Unit) → Bool
are_apart items units = not (list_any (λ item. stands_in item.site.place units) items) && have_own_names items

-- the templates of a unit that stands behind these
abbrev pub items_at : List sheet.Unit → sheet.Unit → List sheet.Unit
items_at before u = if stands_in u.site.place before then [] else items_of u

abbrev pub with_units : List sheet.Unit → sheet.Sheet → sheet.Sheet
with_units units s = record { units = units; rules = s.rules; space_rules = s.space_rules; method = s.method; aliases = s.aliases }
