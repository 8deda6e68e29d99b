-- The trees that the rules, units and stylesheets of the program stand for.
use Rattle.std.specs.Prelude.{map}
use Rattle.spec_stylesheet.specs.Sheet as sheets
use Rattle.spec_stylesheet.specs.Instruction.{instrs, bindings}
use Rattle.xt_syntax.specs.View.{expr_of, test_of}
use Rattle.xt_syntax.specs.PartView.{site_of, pattern_of}
use Rattle.xt_syntax.specs.InstrView.{instr_of, binding_of}
use Rattle.xt_syntax.specs.declared.rule.Rule.{Rule}
use Rattle.xt_syntax.specs.declared.rules.Rules.{Rules}
use Rattle.xt_syntax.specs.declared.space_rules.SpaceRule.{SpaceRule}
use Rattle.xt_syntax.specs.declared.space_rules.SpaceRules.{SpaceRules}
use Rattle.xt_syntax.specs.declared.unit.Template.{Template}
use Rattle.xt_syntax.specs.declared.unit.GlobalBinding.{GlobalBinding}
use Rattle.xt_syntax.specs.declared.unit.AttributeSet.{AttributeSet}
use Rattle.xt_syntax.specs.declared.unit.Key.{Key}
use Rattle.xt_syntax.specs.declared.unit.Declared.{Declared}
use Rattle.xt_syntax.specs.declared.unit.Declared.TheVariants as forms
use Rattle.xt_syntax.specs.declared.unit.Unit.{Unit}
use Rattle.xt_syntax.specs.declared.sheet.Alias.{Alias}
use Rattle.xt_syntax.specs.declared.sheet.Sheet.{Sheet}

abbrev pub rule_of : Rule → sheets.Rule
rule_of r = record {
  pattern = pattern_of r.pattern;
  precedence = r.precedence;
  imported = r.imported;
  priority = r.priority;
  order = r.order;
  mode = r.mode;
  unit = r.unit;
}

abbrev pub rules_of : Rules → sheets.Rules
rules_of rs = record { rules = map rule_of rs.rules.items }

abbrev pub space_rule_of : SpaceRule → sheets.SpaceRule
space_rule_of r = record { test = test_of r.test; precedence = r.precedence; priority = r.priority; strips = r.strips }

abbrev pub space_rules_of : SpaceRules → sheets.SpaceRules
space_rules_of rs = record { rules = map space_rule_of rs.rules.items }

abbrev pub template_of : Template → sheets.Template
template_of t = record { name = t.name; parameters = bindings (map binding_of t.parameters.value.items); content = instrs (map instr_of t.content.value.items) }

abbrev pub global_of : GlobalBinding → sheets.GlobalBinding
global_of g = record { is_parameter = g.is_parameter; binding = binding_of g.binding }

abbrev pub attribute_set_of : AttributeSet → sheets.AttributeSet
attribute_set_of s = record { name = s.name; sets = s.sets.items; attributes = instrs (map instr_of s.attributes.value.items) }

abbrev pub key_of : Key → sheets.Key
key_of k = record { name = k.name; pattern = pattern_of k.pattern; value = expr_of k.value }

abbrev pub declared_of : Declared → sheets.Declared
declared_of (forms.Template t) = sheets.ATemplate (template_of t)
declared_of (forms.Global g) = sheets.AGlobal (global_of g)
declared_of (forms.AttributeSet s) = sheets.ASet (attribute_set_of s)
declared_of (forms.Key k) = sheets.AKey (key_of k)

abbrev pub unit_of : Unit → sheets.Unit
unit_of u = record { site = site_of u.site; precedence = u.precedence; declared = declared_of u.declared }

abbrev pub alias_of : Alias → sheets.Alias
alias_of a = record { stylesheet = a.stylesheet; prefix = a.prefix; result = a.result }

abbrev pub sheet_of : Sheet → sheets.Sheet
sheet_of s = record {
  units = map unit_of s.units.items;
  rules = rules_of s.rules;
  space_rules = space_rules_of s.space_rules;
  method = s.method;
  aliases = map alias_of s.aliases.items;
}
