use Rattle.xt_touch.proofs.marks.Marks.spares_all.Goals as goal

pub returns-in-Parameter : goal.returns-in-Parameter
returns-in-Parameter c = λ none question h. rw c.in-Parameter.is (c.spares_parameters.ensures none c.in-Parameter.field-0 question h)
