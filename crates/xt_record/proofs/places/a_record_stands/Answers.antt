use Rattle.std.proofs.Common.{◌≤◌, ◌+◌, ◌^◌, subst}
use Rattle.xt_record.proofs.Standing.{judged_on, stand_on, stands_above, stands_once}
use Rattle.xt_record.proofs.places.a_record_stands.Goals as goal

pub returns-clause-above : goal.returns-clause-above
returns-clause-above c = stands_above c.args.before.now (subst (λ n. n ≤ 2 ^ 62 + 64) c.count.ensures.records c.count.ensures.few)

pub returns-clause-once : goal.returns-clause-once
returns-clause-once c = stands_once c.args.before.now (subst (λ n. n ≤ 2 ^ 62 + 64) c.count.ensures.records c.count.ensures.few)

pub returns-clause-judged : goal.returns-clause-judged
returns-clause-judged c = judged_on c.args.before.now c.args.after.now

pub returns-clause-kept : goal.returns-clause-kept
returns-clause-kept c = stand_on c.args.before.now c.args.after.now
