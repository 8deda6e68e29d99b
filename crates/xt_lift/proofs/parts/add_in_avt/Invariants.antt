use Rattle.std.proofs.Common.{◌≡◌, ◌++◌, drop, map}
use Rattle.spec_items.specs.Mentioned.{names_in_parts}
use Rattle.xt_syntax.specs.PartView.{avt_part_of}
use Rattle.xt_lift.proofs.parts.add_in_avt.Given as goal

abbrev pub invariant-loop-part : goal.invariant-loop-part
invariant-loop-part l = l.into.items ++ names_in_parts (map avt_part_of (drop l.part-index l.part-items)) ≡ l.fn.into.items ++ names_in_parts (map avt_part_of l.part-items)
