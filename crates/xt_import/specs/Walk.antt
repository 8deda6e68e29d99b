-- How far a walk has still to go.
use Rattle.std.specs.Prelude.{ℕ, ◌+◌, length, Option, None, Some}
use Rattle.std.specs.declared.alloc.Global.{Global}
use Rattle.std.specs.declared.vec.Vec.{Vec}

-- to enter each module that a module leads to, and to leave it
abbrev pub links_left : {T : Type 0} → Option (Vec T Global) → ℕ
links_left None = 0
links_left (Some steps) = length steps.items + 1
