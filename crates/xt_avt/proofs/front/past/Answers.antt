use Rattle.std.proofs.Common.{ap, ◌∙◌}
use Rattle.spec_expression.specs.Token.{begins}
use Rattle.xt_avt.proofs.Fronts.{none_of, empty_chars, unequal}
use Rattle.xt_avt.proofs.front.past.Goals as goal
use Rattle.xt_avt.proofs.front.past.Goals.{in_default-via-in-Some+else-first-mark, in_default-via-in_default}

pub returns-in_default : goal.returns-in_default
returns-in_default c = elim c.in_default.branch [
  | in_default-via-in-Some+else-first-mark w ↦
      let b = w.in-Some.ensures {u = tt} in
      ap (begins c.args.mark) b.characters ∙ unequal w.in-Some.first c.args.mark w.if-first-mark.false
  | in_default-via-in_default w ↦ ap (begins c.args.mark) (empty_chars c.args.text.now (none_of _ c.first_of.result c.first_of.ensures w.in_default.is))
]
