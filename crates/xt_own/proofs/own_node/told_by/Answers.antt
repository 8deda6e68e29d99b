use Rattle.std.proofs.Common.{Result, ℕ, List, subst}
use Rattle.std.specs.Prelude.{Vec}
use Rattle.std.specs.Global.{Global}
use Rattle.xt_questions.specs.declared.fault.EvalFault.{EvalFault}
use Rattle.xt_own.specs.Logs.{IsLog}
use Rattle.xt_own.proofs.own_node.told_by.Goals as goal

pub returns-in-Ok-clause-known : goal.returns-in-Ok-clause-known
returns-in-Ok-clause-known c s parameters document name log =
    let L : Result (Vec (List ℕ) Global) EvalFault → Type 0 = λ f. IsLog s document name c.args.node f c.args.reads.now in
    c.told_of.ensures.known s parameters document name (subst L c.in-Ok.is log)
