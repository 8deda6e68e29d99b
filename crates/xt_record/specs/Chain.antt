-- How the turns of records of one key hang together.
--     key_of     the numbers of a call's unit and of its node
--     keys_in    those of each of these records
--     earlier    the turn before this one that is kept beside it; none where that is its own
--     IsLatest   the latest turn below an end that has a key
--     IsChained  the latest turn of each key is known, and beside each turn the latest below it with its key
use Rattle.std.specs.Prelude.{◌≡◌, ℕ, ◌-◌, ◌^◌, ◌<◌, ◌≤◌, Bool, ◌&&◌, nat_eq, nat_lt, List, map, length, slice_get, slice_index_or, Option, None, Some, IfSome, IsSomeAnd, if◌then◌else◌}
use Rattle.std.specs.declared.rc.Rc.{Rc}
use Rattle.std.specs.declared.alloc.Global.{Global}
use Rattle.spec_run.specs.Plan.{Call, Target, UnitOf, BuiltIn}
use Rattle.spec_node.specs.declared.node_ref.NodeRef.{NodeRef}
use Rattle.spec_node.specs.declared.node_ref.Part.{Part}
use Rattle.spec_node.specs.declared.node_ref.Part.TheVariants as parts
use Rattle.xt_engine.specs.View.{call_of}
use Rattle.xt_record.specs.declared.key.Key.{Key}
use Rattle.xt_record.specs.declared.record.Record.{Record}

-- built-in rules have one number, whatever their mode
abbrev pub unit_number : Target NodeRef → ℕ
unit_number (UnitOf element) = element.node.number
unit_number (BuiltIn mode) = 2 ^ 64 - 1

abbrev pub part_number : Part → ℕ
part_number parts.Itself = 0
part_number (parts.Attribute number) = number
part_number (parts.Namespace number) = (2 ^ 64 - 1) - number

abbrev pub key_of : Call NodeRef → Key
key_of call = record { unit = unit_number call.target; node = call.node.node.number; part = part_number call.node.part }

abbrev pub key_in : Record → Key
key_in record_here = key_of (call_of record_here.call)

abbrev pub keys_in : List (Rc Record Global) → List Key
keys_in rs = map (λ r. key_in r.value) rs

abbrev pub same_key : Key → Key → Bool
same_key key other = nat_eq key.unit other.unit && (nat_eq key.node other.node && nat_eq key.part other.part)

-- ---- By turns

abbrev pub earlier : ℕ → ℕ → Option ℕ
earlier turn before = if nat_lt before turn then Some before else None

-- what was found has the key, and no later one below the end has it
pub record IsLatest (keys : List Key) (key : Key) (end : ℕ) (found : Option ℕ) : Type 0 where
  pub below : IfSome found (λ t. t < end)
  pub has : IfSome found (λ t. slice_get keys t ≡ Some key)
  pub last : (turn : ℕ) → turn < end → slice_get keys turn ≡ Some key → IsSomeAnd found (λ t. turn ≤ t)

pub record IsChained (keys : List Key) (latest : Key → Option ℕ) (before : List ℕ) : Type 0 where
  pub ends : (key : Key) → IsLatest keys key (length keys) (latest key)
  pub links : (turn : ℕ) (key : Key) → slice_get keys turn ≡ Some key → IsLatest keys key turn (earlier turn (slice_index_or before turn turn))
