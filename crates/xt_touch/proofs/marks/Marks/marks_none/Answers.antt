use Rattle.xt_touch.proofs.marks.Marks.marks_none.Goals as goal

pub returns-in-Parameter : goal.returns-in-Parameter
returns-in-Parameter c = λ none question h. rw c.in-Parameter.is (c.spares_parameters.ensures none c.in-Parameter.field-0 question h)

pub returns-in-Edit : goal.returns-in-Edit
returns-in-Edit c = λ none question h. rw c.in-Edit.is (c.edit_marks_none.ensures none c.in-Edit.loose question h)
