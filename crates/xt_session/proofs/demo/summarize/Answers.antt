use Rattle.std.proofs.lemmas.Result.{IfOk-weaker}
use Rattle.xt_session.proofs.Counting.{demonstrates}
use Rattle.xt_session.proofs.demo.summarize.Goals as goal

pub returns : goal.returns
returns c =
    IfOk-weaker c.summary.result _ _ (λ text is. demonstrates c.args.size c.in_ok-counts.counts text.items c.in_ok-counts.ensures is) c.summary.ensures
