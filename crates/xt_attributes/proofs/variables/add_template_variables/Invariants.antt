use Rattle.std.proofs.Common.{◌≡◌, ◌++◌, drop, map}
use Rattle.std.specs.List.{flat_map}
use Rattle.spec_compile.specs.Walk.{variables_in_part}
use Rattle.xt_syntax.specs.PartView.{avt_part_of}
use Rattle.xt_attributes.proofs.variables.add_template_variables.Given as goal

abbrev pub invariant-loop-part : goal.invariant-loop-part
invariant-loop-part l = l.into.items ++ flat_map variables_in_part (map avt_part_of (drop l.part-index l.part-items)) ≡ l.fn.into.items ++ flat_map variables_in_part (map avt_part_of l.part-items)
