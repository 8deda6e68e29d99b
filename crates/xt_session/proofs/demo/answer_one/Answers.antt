use Rattle.xt_session.proofs.Turning.{gives_no_memory}
use Rattle.xt_session.proofs.Counting.{turned}
use Rattle.xt_session.proofs.demo.answer_one.Goals as goal

pub returns-in-Err-clause-turns : goal.returns-in-Err-clause-turns
returns-in-Err-clause-turns c = turned (gives_no_memory c.args.command c.in-Err.ensures.err) c.count-in-Err.ensures.counted
