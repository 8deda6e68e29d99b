use Rattle.std.proofs.lemmas.Bool.{not-true}
use Rattle.xt_touch.proofs.Unmarked.{unmarked}
use Rattle.xt_touch.proofs.marks.edit_marks_none.Goals as goal

pub returns : goal.returns
returns c = λ none.
    unmarked c.args.source.now c.args.asking.now c.args.named.now (c.meets.ensures (not-true c.meets.result none)) c.if-named.false
    (c.spares_choices.ensures c.if-not-spares_choices.false)
