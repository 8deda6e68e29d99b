use Rattle.std.proofs.Common.{◌∷◌, [], ap, sym, ◌∙◌}
use Rattle.spec_session.specs.Generated.{show_command}
use Rattle.xt_demo.specs.Left.{commands_left}
use Rattle.xt_demo.specs.View.{place_of}
use Rattle.xt_demo.proofs.Steps.{change_more}
use Rattle.xt_demo.proofs.generator.Gen.next.Goals as goal

pub returns-in_ok-command-in-Changes-clause-some :
    goal.returns-in_ok-command-in-Changes-clause-some
returns-in_ok-command-in-Changes-clause-some c =
    let step = c.in_ok-command-in-Changes in
    sym c.self.view_is ∙ ap commands_left c.in-Changes.is
    ∙ change_more c.in-Changes.place.left step.place.left (place_of c.in-Changes.place) (place_of step.place) step.command (show_command ∷ []) step.ensures.left
    step.ensures.change step.ensures.place
