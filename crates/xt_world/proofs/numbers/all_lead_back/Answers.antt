use Rattle.std.proofs.Common.{◌+◌, List, arith, drop, sym, ap, ◌∙◌}
use Rattle.std.specs.Prelude.{◌&&◌}
use Rattle.std.specs.List.{list_all}
use Rattle.std.specs.declared.rc.Rc.{Rc}
use Rattle.std.specs.Global.{Global}
use Rattle.std.proofs.lemmas.List.{at_drop_more}
use Rattle.spec_stylesheet.specs.Sheet as sheet
use Rattle.xt_syntax.specs.declared.unit.Unit.{Unit}
use Rattle.xt_world.specs.Turned.{leads_back}
use Rattle.xt_world.specs.Units.{plain_units}
use Rattle.xt_world.proofs.numbers.all_lead_back.Goals as goal

pub returns-then-not-leads_back : goal.returns-then-not-leads_back
returns-then-not-leads_back c =
    let units = c.args.numbers.now.units.now in
    let test = λ (u : sheet.Unit). leads_back c.args.numbers.now c.args.turns.now.entries u.site.place in
    let at = at_drop_more (λ (us : List (Rc Unit Global)). list_all test (plain_units us)) units c.loop-unit.unit-index c.unit-item.result (omega arith) in
    let here = rw (← c.unit-item.is) at at in
    let rest = list_all test (plain_units (drop (c.loop-unit.unit-index + 1) units)) in
    sym (sym c.loop-unit.invariant ∙ here ∙ ap (λ b. b && rest) (sym c.leads_back.ensures ∙ c.if-not-leads_back.true))

pub loop-unit-preserved : goal.loop-unit-preserved
loop-unit-preserved c =
    let units = c.args.numbers.now.units.now in
    let test = λ (u : sheet.Unit). leads_back c.args.numbers.now c.args.turns.now.entries u.site.place in
    let at = at_drop_more (λ (us : List (Rc Unit Global)). list_all test (plain_units us)) units c.loop-unit.unit-index c.unit-item.result (omega arith) in
    let here = rw (← c.unit-item.is) at at in
    let rest = list_all test (plain_units (drop (c.loop-unit.unit-index + 1) units)) in
    sym (here ∙ ap (λ b. b && rest) (sym c.leads_back.ensures ∙ c.if-not-leads_back.false)) ∙ c.loop-unit.invariant
