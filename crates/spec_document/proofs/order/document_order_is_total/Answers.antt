use Rattle.spec_document.proofs.Ways.{document_total, document_same}
use Rattle.spec_document.proofs.order.document_order_is_total.Goals as goal

pub returns-clause-total : goal.returns-clause-total
returns-clause-total c = document_total

pub returns-clause-strict : goal.returns-clause-strict
returns-clause-strict c = document_same
