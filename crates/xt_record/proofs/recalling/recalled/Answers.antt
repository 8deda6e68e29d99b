use Rattle.std.proofs.Common.{map}
use Rattle.std.specs.Option.{option_map}
use Rattle.xt_questions.specs.View.{chosen_of, question_of}
use Rattle.xt_engine.specs.View.{event_of}
use Rattle.xt_record.proofs.Recalled.{recalled_so}
use Rattle.xt_record.proofs.recalling.recalled.Goals as goal

pub returns-then-spares : goal.returns-then-spares
returns-then-spares c = λ ask sure.
    recalled_so ask c.args.spared.now (map event_of c.args.events.now) (question_of c.args.question.now) (option_map chosen_of c.in_ok-rule.rule)
    c.in_ok-rule.ensures (c.spares.ensures.spared c.if-spares.true) sure
