use Rattle.std.proofs.Common.{sym, ◌∙◌}
use Rattle.xt_match.proofs.Forms.{counts_at_last, counts_without}
use Rattle.xt_match.proofs.position.counts_after.Goals as goal

pub returns-in-None : goal.returns-in-None
returns-in-None c = sym (counts_without c.args.before c.args.links.now c.in-None.ensures.cases)

pub returns-in-Some : goal.returns-in-Some
returns-in-Some c = c.is_arithmetic.ensures ∙ sym (counts_at_last c.args.before c.args.links.now _ c.in-Some.last.now c.in-Some.ensures.cases.0)
