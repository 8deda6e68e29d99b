use Rattle.spec_edit.proofs.Numbers.{distinct-once, below-to}
use Rattle.spec_edit.proofs.Beginning.{begins}
use Rattle.spec_edit.proofs.laws.documents_begin_well.Goals as goal

pub returns : goal.returns
returns c first body document e =
    let b = begins first body document e in
    (b.valid, b.normal, b.levels, b.elements, distinct-once _ b.once, below-to _ _ b.below, b.limit)
