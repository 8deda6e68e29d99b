use Rattle.spec_document.proofs.Ways.{part}
use Rattle.spec_document.proofs.order.axes_part_the_tree.Goals as goal

pub returns : goal.returns
returns c = part
