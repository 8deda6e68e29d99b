use Rattle.std.proofs.Common.{List, subst}
use Rattle.spec_structure.specs.Modules.{FirstFault}
use Rattle.spec_structure.specs.Structure.{Link}
use Rattle.xt_import.specs.View.{modules_in}
use Rattle.xt_structure.specs.View.{faults_in}
use Rattle.xt_import.proofs.listed.judged_module.Goals as goal

pub returns-clause-link_fault : goal.returns-clause-link_fault
returns-clause-link_fault c known =
    subst (λ (ls : List Link). FirstFault (modules_in c.args.modules.now.entries) c.args.name ls (faults_in c.in_ok-link_fault.link_fault)) known.0
    (c.in_ok-link_fault.ensures known.1 known.2)
