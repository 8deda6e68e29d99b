use Rattle.std.proofs.Common.{ap, subst, List, ◌∙◌, sym, arith}
use Rattle.xt_syntax.specs.declared.rule.Rule.{Rule}
use Rattle.xt_rank.specs.Rank.{IsRanked, AreRanked, Rank, ranked_rules}
use Rattle.xt_rank.proofs.Ranking.{inserted, inserted_ranked}
use Rattle.xt_rank.proofs.rank.put.Goals as goal

pub returns-clause-rules : goal.returns-clause-rules
returns-clause-rules c h =
    let r : IsRanked c.args.rule.order c.rank_of-rank.result c.args.rule = record { precedence = c.rank_of-rank.ensures.precedence; priority = c.rank_of-rank.ensures.priority; order = c.rank_of-rank.ensures.order; behind = omega arith } in
    ap ranked_rules (c.in_ok-insert.ensures {u = tt}).entries ∙ inserted c.rank_of-rank.result c.args.rule c.args.by_rank.now.entries r h

pub returns-clause-ranked : goal.returns-clause-ranked
returns-clause-ranked c h =
    let r : IsRanked c.args.rule.order c.rank_of-rank.result c.args.rule = record { precedence = c.rank_of-rank.ensures.precedence; priority = c.rank_of-rank.ensures.priority; order = c.rank_of-rank.ensures.order; behind = omega arith } in
    subst (λ (es : List (Rank × Rule)). AreRanked c.args.rule.order es) (sym (c.in_ok-insert.ensures {u = tt}).entries)
    (inserted_ranked c.rank_of-rank.result c.args.rule c.args.by_rank.now.entries r h)
