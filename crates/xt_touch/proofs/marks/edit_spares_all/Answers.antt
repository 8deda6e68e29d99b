use Rattle.std.proofs.lemmas.Bool.{not-true}
use Rattle.xt_touch.proofs.Unmarked.{unasked}
use Rattle.xt_touch.proofs.marks.edit_spares_all.Goals as goal

pub returns : goal.returns
returns c = λ none.
    unasked c.args.loose.now c.args.source.now c.args.asking.now c.args.named.now (c.meets_but.ensures (not-true c.meets_but.result none)) c.if-named.false
    (c.spares_choices.ensures c.if-not-spares_choices.false)
