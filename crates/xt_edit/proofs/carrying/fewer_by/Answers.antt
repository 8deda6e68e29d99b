use Rattle.std.proofs.Common.{ap, arith}
use Rattle.spec_edit.specs.Splice.{sibling_count}
use Rattle.xt_edit.proofs.Seams.{count-length}
use Rattle.xt_edit.proofs.carrying.fewer_by.Goals as goal

pub returns : goal.returns
returns c x e y f =
    let before = ap sibling_count (c.children_of-before.ensures x e) in
    let after = ap sibling_count (c.children_of-after.ensures y f) in
    let many = count-length c.children_of-before.result.now in
    let few = count-length c.children_of-after.result.now in
    omega (arith, before, after, many, few)
