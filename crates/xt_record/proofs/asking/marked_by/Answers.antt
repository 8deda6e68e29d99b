use Rattle.std.proofs.Common.{◌∷◌, ◌<◌, [], subst, sym}
use Rattle.xt_engine.specs.View.{event_of}
use Rattle.xt_engine.specs.declared.event.Event.{Event}
use Rattle.xt_questions.specs.View.{answer_of, question_of}
use Rattle.xt_record.specs.Asked.{NoneMarked, marked_in}
use Rattle.xt_record.proofs.Quiet.{marked_alone, unmarked_alone}
use Rattle.xt_touch.specs.View.{since_of}
use Rattle.xt_record.proofs.asking.marked_by.Goals as goal

pub returns-then-marks_alone-clause-marked : goal.returns-then-marks_alone-clause-marked
returns-then-marks_alone-clause-marked c =
    let changes = since_of c.args.spared.now.since.now in
    let Marked : Event → Type 0 = λ e. 0 < marked_in changes (event_of e ∷ []) in
    subst Marked (sym c.in-Asked.is) (marked_alone changes (question_of c.in-Asked.question) (answer_of c.in-Asked.field-1) (c.marks_alone.ensures.marked c.if-marks_alone.true))

pub returns-else-marks_alone-clause-none : goal.returns-else-marks_alone-clause-none
returns-else-marks_alone-clause-none c =
    let changes = since_of c.args.spared.now.since.now in
    let None : Event → Type 0 = λ e. NoneMarked changes (event_of e ∷ []) in
    subst None (sym c.in-Asked.is) (unmarked_alone changes (question_of c.in-Asked.question) (answer_of c.in-Asked.field-1) (c.marks_alone.ensures.unmarked c.if-marks_alone.false))
