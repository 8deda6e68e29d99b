use Rattle.std.proofs.Common.{◌≡◌, ◌-◌, length}
use Rattle.xt_frames.specs.declared.run.Came.TheVariants.{Is}
use Rattle.xt_instructions.specs.Asks.{Asks}
use Rattle.xt_instructions.proofs.sorting.ask_criteria.Given as goal

-- it was asked how those before compare
abbrev pub invariant-loop-alloc : goal.invariant-loop-alloc
invariant-loop-alloc g l =
    record {
      asks : Asks (g.W.World.state l.fn.world).truth l.fn.run l.run l.fn.sorting l.sorting (length l.sorting.criteria.items) (Is (tt {0}));
      truth : (g.W.World.state l.world).truth ≡ (g.W.World.state l.fn.world).truth;
      name : g.W.World.name l.world ≡ g.W.World.name l.fn.world;
    }

abbrev pub decreases-loop-alloc : goal.decreases-loop-alloc
decreases-loop-alloc g l = length l.sorting.keys.value.items - length l.sorting.criteria.items
