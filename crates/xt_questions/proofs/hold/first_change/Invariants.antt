use Rattle.std.proofs.Common.{◌≡◌, map, take}
use Rattle.xt_questions.specs.View.{read_of}
use Rattle.xt_questions.specs.Change.{AllStand}
use Rattle.xt_questions.proofs.hold.first_change.Given as goal

-- all that was asked so far stands
abbrev pub invariant-loop-index : goal.invariant-loop-index
invariant-loop-index g l =
    let state = g.W.World.state in
    record {
      stand : AllStand (state l.fn.world).truth (map read_of (take l.index l.reads));
      truth : (state l.world).truth ≡ (state l.fn.world).truth;
      name : g.W.World.name l.world ≡ g.W.World.name l.fn.world;
    }
