use Rattle.std.proofs.Common.{◌∙◌, ap, sym}
use Rattle.spec_structure.specs.Structure.{fault_of, links_of}
use Rattle.xt_structure.proofs.Labels.{fault_of-plain, links_of-plain}
use Rattle.xt_structure.proofs.module.check.Goals as goal

pub returns-clause-links : goal.returns-clause-links
returns-clause-links c = c.in_ok-links.ensures ∙ ap (links_of 1) c.children.ensures ∙ sym (links_of-plain 1 c.args.document.now.nodes)

pub returns-clause-fault : goal.returns-clause-fault
returns-clause-fault c = c.in_ok-fault.ensures ∙ ap (fault_of 1) c.children-2.ensures ∙ sym (fault_of-plain 1 c.args.document.now.nodes)
