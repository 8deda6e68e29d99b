use Rattle.std.proofs.Common.{◌≡◌, ◌≤◌, ◌-◌, ◌++◌, suc}
use Rattle.xt_record.specs.Grown.{part_of, values_of, AreTrees}
use Rattle.xt_record.proofs.pool.Pool.take_over.Given as goal

abbrev pub invariant-loop-at : goal.invariant-loop-at
invariant-loop-at l =
    let given = l.others.records.items in
    record {
      from : l.first ≤ l.at;
      up_to : l.at ≤ suc l.turn;
      records : values_of l.self.records.items ≡ values_of l.fn.self.records.items ++ part_of l.first (l.at - l.first) (values_of given);
      trees : AreTrees (values_of given) l.others.trees.items → AreTrees (values_of l.fn.self.records.items) l.fn.self.trees.items
          → AreTrees (values_of l.self.records.items) l.self.trees.items;
    }

abbrev pub decreases-loop-at : goal.decreases-loop-at
decreases-loop-at l = suc l.turn - l.at
