use Rattle.std.proofs.Common.{map}
use Rattle.spec_meaning.specs.Question.{Name}
use Rattle.spec_transform.specs.Match.{matches_one}
use Rattle.spec_node.specs.Naming.{same_ref}
use Rattle.xt_syntax.specs.PartView.{alternative_of}
use Rattle.xt_questions.specs.View.{context_of}
use Rattle.xt_questions.proofs.Steps.{runs_then, runs_stop, exits}
use Rattle.xt_match.proofs.Together.{runs_as, ask_then}
use Rattle.xt_match.proofs.pattern.matches.Goals as goal

pub returns-in_err-called-clause-runs : goal.returns-in_err-called-clause-runs
returns-in_err-called-clause-runs g c f =
    let program = ask_then (Name c.args.node) (λ a. a) (matches_one same_ref (context_of f c.args.context.now) (map alternative_of c.args.pattern.now.alternatives.items) c.args.node) in
    exits _ c.from_residual.ensures.1 (runs_as program (runs_stop _ (c.in_err-called.ensures.runs _ _)))

pub returns-clause-runs : goal.returns-clause-runs
returns-clause-runs g c f =
    let program = ask_then (Name c.args.node) (λ a. a) (matches_one same_ref (context_of f c.args.context.now) (map alternative_of c.args.pattern.now.alternatives.items) c.args.node) in
    runs_as program (runs_then _ (c.in_ok-called.ensures.runs _ _) (rw c.as_slice-alternatives.ensures.value at (c.matches_one-matches.ensures.runs f)))
