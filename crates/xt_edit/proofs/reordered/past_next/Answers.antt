use Rattle.std.proofs.Common.{sym, ap}
use Rattle.std.proofs.lemmas.List.{nil_from_length}
use Rattle.xt_edit.specs.Reordered as spec
use Rattle.xt_edit.specs.Telling.{numbers_in}
use Rattle.xt_edit.proofs.reordered.past_next.Goals as goal

pub returns-in-None : goal.returns-in-None
returns-in-None c =
    sym (ap (λ xs. spec.past_next (numbers_in xs) c.args.number.number) (nil_from_length c.args.numbers.now c.in-None.ensures.cases))
