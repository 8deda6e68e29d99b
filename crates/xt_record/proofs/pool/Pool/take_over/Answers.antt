use Rattle.std.proofs.Common.{arith}
use Rattle.xt_record.specs.Grown.{values_of}
use Rattle.xt_record.proofs.Grown.{taken_on}
use Rattle.xt_record.proofs.pool.Pool.take_over.Goals as goal

pub loop-at-preserved : goal.loop-at-preserved
loop-at-preserved c =
    let inv = c.loop-at.invariant in
    let step = c.in_ok-at.ensures in
    let others = values_of c.args.others.now.records.items in
    let old = values_of c.args.self.now.records.items in
    let mid = values_of c.loop-at.self.records.items in
    let now = values_of c.take_some.new.self.records.items in
    record {
      from = omega (arith, inv.from, step.next);
      up_to = omega (arith, step.end);
      records = taken_on others old mid now c.first_of-first.result c.loop-at.at c.in_ok-at.at inv.from (omega (arith, step.next)) inv.records
          step.records;
      trees = λ given before. step.trees old inv.records given (inv.trees given before);
    }
