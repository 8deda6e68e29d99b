use Rattle.std.proofs.Common.{refl, ap, ◌∙◌}
use Rattle.spec_meaning.specs.Meaning.{last_of}
use Rattle.spec_meaning.specs.Program.{Give, then}
use Rattle.spec_meaning.specs.Value as plain
use Rattle.xt_questions.proofs.Steps.{runs_then, runs_stop, runs_gives, runs_memory, exits}
use Rattle.xp_eval.proofs.pick.root.Goals as goal

pub returns-in_err-nodes-clause-runs : goal.returns-in_err-nodes-clause-runs
unfolding then
returns-in_err-nodes-clause-runs g c supply depth =
    exits _ c.from_residual.ensures.1
    (runs_stop (λ ns. Give (plain.Nodes (last_of ns))) (c.in_err-nodes.ensures.runs supply depth))

pub returns-in_err-root-clause-runs : goal.returns-in_err-root-clause-runs
unfolding then
returns-in_err-root-clause-runs g c supply depth =
    exits _ c.from_residual-in_err-root.ensures.1
    (runs_then (λ ns. Give (plain.Nodes (last_of ns))) (c.in_ok-nodes.ensures.runs supply depth) (runs_memory refl refl))

pub returns-clause-runs : goal.returns-clause-runs
unfolding then
returns-clause-runs g c supply depth =
    runs_then (λ ns. Give (plain.Nodes (last_of ns))) (c.in_ok-nodes.ensures.runs supply depth)
    (runs_gives (ap plain.Nodes (c.in_ok-root.ensures ∙ ap last_of c.as_slice.ensures.value)))
