-- The numbers that nodes get.
use Rattle.std.specs.Prelude.{ℕ, ◌-◌, ◌^◌, List, map, drop}
use Rattle.spec_document.specs.Fault.{Fault}

-- numbers are below 2^62
abbrev pub number_limit : ℕ
number_limit = 2 ^ 62

-- 12: a node that would have a number from the limit on, where the nodes that begin with these lines are numbered from `first` on
abbrev pub number_faults : ℕ → List ℕ → List Fault
number_faults first lines = map (λ line. record { number = 12; line = line }) (drop (number_limit - first) lines)
