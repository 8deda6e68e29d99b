use Rattle.xt_questions.specs.View.{question_of}
use Rattle.xt_world.specs.SourceView.{source_of}
use Rattle.xt_world.proofs.Holding.{truth_stays}
use Rattle.xt_world.proofs.world.of_source.Goals as goal

pub returns-clause-same : goal.returns-clause-same
returns-clause-same c =
    truth_stays c.ask.result (question_of c.args.question.now) (source_of c.args.source.now) (source_of c.ask.new.self)
    c.ask.ensures.asked c.ask.ensures.err
