use Rattle.spec_document.proofs.Listed.{in_order}
use Rattle.spec_document.proofs.order.nodes_stand_in_order.Goals as goal

pub returns : goal.returns
returns c = λ document. in_order document
