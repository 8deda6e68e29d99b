use Rattle.xt_record.proofs.reuse.Reuse.find.Goals as goal

pub returns-clause-sure : goal.returns-clause-sure
returns-clause-sure g c =
    let s = c.in_ok-found.ensures.sure in
    record {
      kept = s.kept;
      judged = s.judged;
      spared = s.spared;
      counted = s.counted;
      next = s.next;
      grown = s.grown;
      trees = s.trees;
      ordered = s.ordered;
    }
