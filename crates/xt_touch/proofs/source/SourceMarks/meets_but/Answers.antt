use Rattle.xt_touch.proofs.source.SourceMarks.meets_but.Goals as goal

pub returns : goal.returns
returns c = λ around. record { around = c.meets_around.ensures around; loose_inside = c.meets.ensures c.if-meets.false }
