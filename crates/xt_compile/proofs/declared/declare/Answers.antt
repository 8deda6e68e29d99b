use Rattle.std.proofs.Common.{◌≡◌, List, ◌++◌, length, map, OnOk, sym, subst}
use Rattle.std.specs.Option.{option_map}
use Rattle.spec_stylesheet.specs.Sheet as sheet
use Rattle.spec_compile.specs.Sheet as spec
use Rattle.xt_syntax.specs.PartView.{pattern_of}
use Rattle.xt_syntax.specs.SheetView.{rule_of}
use Rattle.xt_scoping.specs.View.{ranked_in}
use Rattle.xt_top_level.specs.View.{declaration_in}
use Rattle.xt_top_level.specs.declared.top_level.Declaration.{Declaration}
use Rattle.xt_compile.proofs.Declaring.{rules_for_is}
use Rattle.xt_compile.proofs.declared.declare.Goals as goal

pub returns-in-Template-clause-rules : goal.returns-in-Template-clause-rules
returns-in-Template-clause-rules c =
    let units = length c.args.declared.now.units.items in
    let order = length c.args.declared.now.rules.items in
    let t = c.in-Template.template in
    subst (λ (d : Declaration). OnOk c.add_template.result (map rule_of c.add_template.new.declared.rules.items ≡ map rule_of c.args.declared.now.rules.items ++ spec.rules_by (ranked_in c.args.ranked) units order (declaration_in d)))
    (sym c.in-Template.is)
    (subst (λ (rs : List sheet.Rule). OnOk c.add_template.result (map rule_of c.add_template.new.declared.rules.items ≡ map rule_of c.args.declared.now.rules.items ++ rs))
    (rules_for_is (ranked_in c.args.ranked) units order t.priority t.mode (spec.alternatives_in (option_map pattern_of t.pattern))) c.add_template.ensures.rules)
