use Rattle.std.proofs.Common.{◌≡◌, drop}
use Rattle.xt_tree.specs.Keys.{key_by, key_limit}
use Rattle.xt_tree.specs.Room.{room_of}
use Rattle.xt_tree.specs.View.{forest_of}
use Rattle.xt_tree.proofs.room.room_at.Given as goal

abbrev pub invariant-down : goal.invariant-down
invariant-down l =
    room_of (key_by l.keys) l.from l.to (drop l.position-index l.path) l.low (forest_of l.current) l.high
    ≡ room_of (key_by l.keys) l.from l.to l.path 0 (forest_of l.siblings) key_limit
