use Rattle.xt_rank.proofs.Ranking.{next_rule}
use Rattle.xt_rank.proofs.rank.by_rank.Goals as goal

pub loop-rule-preserved : goal.loop-rule-preserved
loop-rule-preserved c =
    let i = c.loop-rule.invariant in
    next_rule c.args.rules.items c.loop-rule.left.items c.pop.new.self.items i.0 c.in-Some.rule c.loop-rule.by_rank.entries c.put.new.by_rank.entries
    c.requires i.1 (c.in-Some.ensures {u = tt}).items i.2 i.3 (c.in_ok-put.ensures {u = tt}).rules (c.in_ok-put.ensures {u = tt}).ranked
