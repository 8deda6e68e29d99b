use Rattle.std.proofs.Common.{take, map}
use Rattle.xt_import.specs.Parts.{part_in}
use Rattle.xt_import.specs.View.{modules_in}
use Rattle.xt_compile.specs.Placed.{Places}
use Rattle.xt_compile.proofs.placing.add_parts.Given as goal

abbrev pub invariant-loop-part : goal.invariant-loop-part
invariant-loop-part l =
    Places (modules_in l.fn.modules.entries) l.fn.precedence l.fn.imported (map part_in (take l.part-index l.parts)) l.fn.placing l.placing l.fn.ranked.items l.ranked.items
