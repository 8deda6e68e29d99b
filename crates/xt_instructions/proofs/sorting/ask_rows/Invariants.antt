use Rattle.std.proofs.Common.{◌≡◌, ◌-◌, length}
use Rattle.xt_frames.specs.declared.run.Came.TheVariants.{Is}
use Rattle.xt_instructions.specs.Asks.{Asks, with_rows}
use Rattle.xt_instructions.proofs.sorting.ask_rows.Given as goal

-- the nodes before have their keys
abbrev pub invariant-loop-alloc : goal.invariant-loop-alloc
invariant-loop-alloc g l =
    record {
      asks : Asks (g.W.World.state l.fn.world).truth l.fn.run l.run l.fn.sorting l.sorting (length l.sorting.values.items) (Is (tt {0}));
      only : l.sorting ≡ with_rows l.fn.sorting l.sorting.rows l.sorting.values;
      truth : (g.W.World.state l.world).truth ≡ (g.W.World.state l.fn.world).truth;
      name : g.W.World.name l.world ≡ g.W.World.name l.fn.world;
    }

abbrev pub decreases-loop-alloc : goal.decreases-loop-alloc
decreases-loop-alloc g l = length l.sorting.nodes.items - length l.sorting.rows.items
