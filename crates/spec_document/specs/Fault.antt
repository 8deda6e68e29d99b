-- Faults of lines, and which of several is answered.
use Rattle.std.specs.Prelude.{ℕ, Bool, ◌&&◌, ◌||◌, ◌==◌, nat_lt, List, [], ◌∷◌, Option, None, Some, Result, Err, if◌then◌else◌}

-- a fault: the number that a session answers, and the line of the body where it stands, from 1, or 0 where it is no line's
pub record Fault : Type 0 where
  pub number : ℕ
  pub line : ℕ

-- of several faults the one of the least number is answered, and of those of one number the one of the least line
abbrev pub comes_first : Fault → Fault → Bool
comes_first a b = nat_lt a.number b.number || ((a.number == b.number) && nat_lt a.line b.line)

abbrev pub lesser : Fault → Option Fault → Fault
lesser fault None = fault
lesser fault (Some other) = if comes_first other fault then other else fault

abbrev pub least : List Fault → Option Fault
least [] = None
least (fault ∷ faults) = Some (lesser fault (least faults))

-- the answer, where one of these faults stands or none
abbrev pub answer_of : {A : Type 0} → List Fault → Result A Fault → Result A Fault
answer_of faults otherwise = elim (least faults) [ None ↦ otherwise | Some fault ↦ Err fault ]

abbrev pub fault_if : Bool → (number line : ℕ) → List Fault
fault_if stands number line = if stands then record { number = number; line = line } ∷ [] else []
