use Rattle.std.proofs.Common.{◌≡◌, drop, map}
use Rattle.std.specs.List.{list_any}
use Rattle.spec_compile.specs.Walk.{has_in_part}
use Rattle.xt_attributes.specs.Sought.{sought_in}
use Rattle.xt_syntax.specs.PartView.{avt_part_of}
use Rattle.xt_attributes.proofs.walk.has_in_template.Given as goal

abbrev pub invariant-loop-part : goal.invariant-loop-part
invariant-loop-part l = list_any (has_in_part (sought_in l.sought)) (map avt_part_of (drop l.part-index l.part-items)) ≡ list_any (has_in_part (sought_in l.sought)) (map avt_part_of l.part-items)
