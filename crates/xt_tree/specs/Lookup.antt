-- What stands at a number in a map.
use Rattle.std.specs.Prelude.{ℕ, ◌-◌, ◌/◌, ◌%◌, ◌==◌, Option, None, Some, if◌then◌else◌}
use Rattle.std.specs.declared.rc.Rc.{Rc}
use Rattle.std.specs.declared.alloc.Global.{Global}
use Rattle.xt_tree.specs.declared.table.Table.{Table}
use Rattle.xt_tree.specs.declared.table.Fork.{Fork, Fork-F, fold-Fork}

abbrev pub behind : Option (Rc (ℕ → Option ℕ) Global) → ℕ → Option ℕ
behind None number = None
behind (Some below) number = below.value number

abbrev pub fork_step : Fork-F (ℕ → Option ℕ) → ℕ → Option ℕ
fork_step f number =
    if number == 0 then f.key
    else (if number % 2 == 1 then behind f.odd (number / 2) else behind f.even (number / 2 - 1))

abbrev pub fork_lookup : Fork → ℕ → Option ℕ
fork_lookup = fold-Fork (ℕ → Option ℕ) fork_step

abbrev pub link_lookup : Option (Rc Fork Global) → ℕ → Option ℕ
link_lookup None number = None
link_lookup (Some fork) number = fork_lookup fork.value number

abbrev pub lookup : Table → ℕ → Option ℕ
lookup table number = link_lookup table.root number
