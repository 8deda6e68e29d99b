use Rattle.std.proofs.Common.{◌≡◌, ◌-◌, length}
use Rattle.xt_frames.specs.View.{here_of}
use Rattle.xt_instructions.proofs.Chosen.{Looked}
use Rattle.xt_instructions.proofs.choose.choose_from.Given as goal

-- none of the branches before was taken
abbrev pub invariant-loop-next : goal.invariant-loop-next
invariant-loop-next g l =
    record {
      looked : Looked (g.W.World.state l.fn.world).truth l.fn.branches.branches.value.items l.fn.branches.next l.next (here_of l.fn.branches.here) l.fn.run l.run;
      truth : (g.W.World.state l.world).truth ≡ (g.W.World.state l.fn.world).truth;
      name : g.W.World.name l.world ≡ g.W.World.name l.fn.world;
    }

abbrev pub decreases-loop-next : goal.decreases-loop-next
decreases-loop-next g l = length l.list - l.next
