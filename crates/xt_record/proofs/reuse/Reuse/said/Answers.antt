use Rattle.xt_record.proofs.reuse.Reuse.said.Goals as goal

pub said_at-requires : goal.said_at-requires
said_at-requires g c =
    let sure = c.requires.sure in
    record {
      sure = record {
        kept = sure.kept;
        judged = sure.judged;
        spared = sure.spared;
        counted = sure.counted;
        next = sure.next;
        grown = sure.grown;
        trees = sure.trees;
        ordered = sure.ordered;
      };
    }
