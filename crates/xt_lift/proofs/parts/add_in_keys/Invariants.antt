use Rattle.std.proofs.Common.{◌≡◌, ◌++◌, drop, map}
use Rattle.spec_items.specs.Mentioned.{names_in_keys}
use Rattle.xt_syntax.specs.PartView.{sort_key_of}
use Rattle.xt_lift.proofs.parts.add_in_keys.Given as goal

abbrev pub invariant-loop-key : goal.invariant-loop-key
invariant-loop-key l = l.into.items ++ names_in_keys (map sort_key_of (drop l.key-index l.keys)) ≡ l.fn.into.items ++ names_in_keys (map sort_key_of l.keys)
