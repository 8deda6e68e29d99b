use Rattle.std.proofs.Common.{List, subst, sym, arith}
use Rattle.xt_scoping.specs.View.{found_in}
use Rattle.xt_scoping.specs.declared.violation.Violation.{Violation}
use Rattle.xt_scoping.proofs.Turning.{IsProgress, turn, starts, ends}
use Rattle.xt_scoping.proofs.violation.violations_with.Goals as goal

pub loop-element-init : goal.loop-element-init
loop-element-init c =
    subst (λ (vs : List Violation). IsProgress c.args.ranked.now 0 (found_in vs) c.args.earlier.now) (sym c.new-found.ensures.items)
    (starts c.args.ranked.now c.args.earlier.now c.requires.globals c.requires.templates)

pub loop-element-preserved : goal.loop-element-preserved
loop-element-preserved c =
    turn c.args.ranked.now c.args.tops.now c.requires.told c.loop-element.element-index c.element-item.result _ _ _ _ _
    (omega arith) c.element-item.is c.loop-element.invariant c.in_ok-declare.ensures.found c.in_ok-report_top_level.ensures
    c.in_ok-declare.ensures.globals c.in_ok-declare.ensures.templates

pub returns : goal.returns
returns c = ends c.args.ranked.now c.loop-element.element-index _ _ (omega arith) c.loop-element.invariant
