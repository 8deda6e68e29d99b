use Rattle.std.proofs.Common.{◌∙◌, sym}
use Rattle.xt_questions.specs.View.{question_of}
use Rattle.xt_spared.specs.View.{owns_in, owns_of}
use Rattle.xt_spared.proofs.Sparing.{found_spared, spared_first, spared_second}
use Rattle.xt_touch.specs.View.{since_of}
use Rattle.xt_spared.proofs.spared.Spared.spares.Goals as goal

pub returns-then-is_some-clause-spared : goal.returns-then-is_some-clause-spared
returns-then-is_some-clause-spared c = λ is.
    let self = c.args.self.now in
    let question = question_of c.args.question.now in
    let k = c.own_choice.ensures in
    spared_first (since_of self.since.now) self.keys.items (owns_in self.choices) (owns_of self.made_now) question
    (found_spared (since_of self.since.now) self.keys.items (owns_in self.choices) question c.own_choice.result
    k.question k.among k.stays (sym c.is_some.ensures ∙ c.if-is_some.true))

pub returns-clause-spared : goal.returns-clause-spared
returns-clause-spared c = λ is.
    let self = c.args.self.now in
    let question = question_of c.args.question.now in
    let k = c.found_in.ensures in
    spared_second (since_of self.since.now) self.keys.items (owns_in self.choices) (owns_of self.made_now) question
    (found_spared (since_of self.since.now) self.keys.items (owns_of self.made_now) question c.found_in.result
    k.question k.among k.stays (sym c.is_some-2.ensures ∙ is))
