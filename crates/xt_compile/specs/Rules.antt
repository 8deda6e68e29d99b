-- The rules of one template, by what they have in common.
use Rattle.std.specs.Prelude.{ℕ, ◌+◌, List, [], ◌∷◌, unwrap_or, Option, None, Some}
use Rattle.spec_document.specs.Name.{Expanded}
use Rattle.spec_stylesheet.specs.declared.method.Method.{Method}
use Rattle.spec_stylesheet.specs.Pattern.{Alternative}
use Rattle.spec_stylesheet.specs.Sheet as sheet
use Rattle.spec_static.specs.PatternGrammar.{default_priority}
use Rattle.xt_compile.specs.declared.rules.Common.{Common}

abbrev pub rule_by : Common → (order : ℕ) → Alternative → sheet.Rule
rule_by c order a = record {
  pattern = record { alternatives = a ∷ [] };
  precedence = c.precedence;
  imported = c.imported;
  priority = unwrap_or c.priority (default_priority a);
  order = order;
  mode = c.mode;
  unit = c.unit;
}

abbrev pub rules_by : Common → (order : ℕ) → List Alternative → List sheet.Rule
rules_by c order [] = []
rules_by c order (a ∷ more) = rule_by c order a ∷ rules_by c (order + 1) more

-- of two methods the later, where it is there
abbrev pub method_or : Option (Method Expanded) → Option (Method Expanded) → Option (Method Expanded)
method_or before None = before
method_or before (Some method) = Some method
