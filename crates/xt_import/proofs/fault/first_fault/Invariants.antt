use Rattle.std.proofs.Common.{IsSome, Option, drop}
use Rattle.spec_structure.specs.Modules.{FirstFault}
use Rattle.spec_structure.specs.Structure.{Fault}
use Rattle.xt_import.specs.Table.{NoneFallsBack, number_in}
use Rattle.xt_import.specs.View.{modules_in}
use Rattle.xt_structure.specs.View.{links_in}
use Rattle.xt_import.proofs.fault.first_fault.Given as goal

abbrev pub invariant-loop-link : goal.invariant-loop-link
invariant-loop-link l =
    IsSome (modules_in l.fn.modules.entries l.fn.name)
    → NoneFallsBack (modules_in l.fn.modules.entries) (number_in l.fn.table.entries l.numbers) l.fn.name (links_in l.links) → (fault : Option Fault)
    → FirstFault (modules_in l.fn.modules.entries) l.fn.name (links_in (drop l.link-index l.links)) fault
    → FirstFault (modules_in l.fn.modules.entries) l.fn.name (links_in l.links) fault
