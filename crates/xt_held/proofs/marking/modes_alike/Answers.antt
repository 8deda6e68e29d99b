use Rattle.std.proofs.Common.{◌≡◌, true, List, map, subst}
use Rattle.spec_touch.specs.Plain.{are_plain_in}
use Rattle.xt_syntax.specs.SheetView.{rule_of}
use Rattle.xt_syntax.specs.declared.rule.Rule.{Rule}
use Rattle.xt_held.proofs.marking.modes_alike.Goals as goal

pub returns : goal.returns
returns c = λ parameters source node mode candidates none.
    let both = c.same_rules.ensures.0 c.if-not-same_rules.false in
    c.same_plain_choices.ensures c.args.old.now c.args.new.now both.0 both.1 parameters source node mode candidates
    (subst (λ (rs : List Rule). are_plain_in mode (map rule_of rs) ≡ true) c.as_slice.ensures.value (c.in_ok-asking.ensures.whole mode none))
