use Rattle.std.proofs.Common.{ℕ, List, [], ◌∷◌, ◌<◌, length, get_or, arith, Result}
use Rattle.spec_meaning.specs.Program.{State, Supply}
use Rattle.spec_meaning.specs.Convert.{first_text, text_at}
use Rattle.spec_node.specs.declared.node_ref.NodeRef.{NodeRef}
use Rattle.xt_questions.specs.declared.fault.EvalFault.{EvalFault}
use Rattle.xt_questions.specs.Runs.{Runs, itself}
use Rattle.xp_values.proofs.convert.first_text.Goals as goal

first_so : {supply : Supply NodeRef} {depth : ℕ} {s t : State NodeRef} {x : Result (List ℕ) EvalFault} (nodes : List NodeRef) (node : NodeRef)
    → 0 < length nodes → Runs itself supply depth (text_at (get_or nodes 0 node)) s t x → Runs itself supply depth (first_text nodes) s t x
first_so [] node h e = absurd (omega (arith, h))
first_so (first ∷ nodes) node h e = e

pub returns-in-len1-up-clause-runs : goal.returns-in-len1-up-clause-runs
returns-in-len1-up-clause-runs g c supply depth = first_so c.args.nodes.now _ (omega arith) (c.ask_text.ensures.runs supply depth)
