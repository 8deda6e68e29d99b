use Rattle.xt_frames.proofs.Lefts.{if_ok}
use Rattle.xt_runner.proofs.Onwards.{steps_more}
use Rattle.xt_runner.proofs.step.go_on_branches.Goals as goal

pub returns-clause-does : goal.returns-clause-does
returns-clause-does g c =
    if_ok c.choose_from.result c.choose_from.ensures.does (λ next h. steps_more _ _ _ c.args.run.now c.choose_from.new.run next h)
