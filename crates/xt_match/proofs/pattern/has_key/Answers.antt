use Rattle.std.proofs.Common.{ap, ◌∙◌}
use Rattle.std.specs.List.{list_any}
use Rattle.spec_meaning.specs.Question.{Key, nodes_in}
use Rattle.spec_meaning.specs.Program.{Give}
use Rattle.spec_node.specs.Naming.{same_ref}
use Rattle.xt_questions.proofs.Steps.{runs_gives}
use Rattle.xt_match.proofs.Together.{asks, runs_as, key_so}
use Rattle.xt_match.proofs.pattern.has_key.Goals as goal

pub returns-clause-runs : goal.returns-clause-runs
returns-clause-runs g c supply depth =
    let given = c.is_one.ensures ∙ ap (list_any (same_ref c.args.node)) (c.as_slice.ensures.value ∙ c.into_nodes-nodes.ensures) in
    runs_as (key_so (λ a. Give (list_any (same_ref c.args.node) (nodes_in a))) (c.in_ok-name.ensures {u = tt}) (c.in_ok-value.ensures {u = tt}))
    (asks (Key c.in_ok-name.name c.in_ok-value.value) (λ a. Give (list_any (same_ref c.args.node) (nodes_in a))) (c.in_ok-answer.ensures {u = tt}).answer (c.in_ok-answer.ensures {u = tt}).asked (runs_gives given))
