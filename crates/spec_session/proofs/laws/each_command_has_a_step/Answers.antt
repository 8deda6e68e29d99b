use Rattle.std.proofs.Common.{inl}
use Rattle.spec_session.specs.Machine.{answer_of}
use Rattle.spec_session.proofs.Steps.{gives}
use Rattle.spec_session.proofs.Answers.{come_to, is_other}
use Rattle.spec_session.proofs.laws.each_command_has_a_step.Goals as goal

pub returns : goal.returns
returns c = λ commands replies old command ran none.
    let finite = come_to commands replies old ran in
    gives c.no_want_of_outcome.ensures old finite (answer_of old command) (is_other old finite command) (λ g. none (g.0, g.1, inl g.2, g.3))
