use Rattle.std.proofs.Common.{◌+◌, ◌++◌, sym, ◌∙◌, drop, map, arith}
use Rattle.std.proofs.lemmas.List.{at_drop_more}
use Rattle.xt_syntax.specs.SheetView.{rule_of}
use Rattle.xt_match.specs.Fitting.{numbers_from}
use Rattle.xt_match.specs.Tabled.{called_of}
use Rattle.xt_match.proofs.Tables.{rule_added}
use Rattle.xt_match.proofs.fitting.fitting_numbers.Goals as goal

pub loop-number-preserved : goal.loop-number-preserved
loop-number-preserved c =
    let called = called_of c.args.called.now in
    let rules = c.args.rules.now in
    let number = c.loop-number.number in
    let done = c.loop-number.numbers.items in
    let here = rw (← c.index-rules-number.is) at (at_drop_more (λ rest. done ++ numbers_from called number (map rule_of rest)) rules number c.index-rules-number.result (omega arith)) in
    rule_added called done number (rule_of c.index-rules-number.result) (map rule_of (drop (number + 1) rules)) c.may_match-is_fitting.ensures c.in_ok-add_if.ensures
    ∙ sym here ∙ c.loop-number.invariant
