use Rattle.std.proofs.Common.{◌≡◌, ◌+◌, ◌<◌, List, length, get_or, slice_get, Some, ap, subst, arith}
use Rattle.xt_record.specs.declared.block.Block.{Block}
use Rattle.xt_record.specs.declared.entry.Entry.{Entry}
use Rattle.xt_record.proofs.Pieced.{get_part, got, part_length}
use Rattle.xt_record.proofs.piece.Piece.entry_at.Goals as goal

pub returns : goal.returns
returns c =
    let s = c.self.inside in
    let all = s.block.value.entries.items in
    let place = c.args.place in
    let e = c.index.result.now in
    let few : place < s.count = omega (arith, c.requires, ap (λ (es : List Entry). length es) c.self.view_is, part_length all s.first s.count c.self.invariant) in
    let is = subst (λ (b : Block). e ≡ get_or b.entries.items (s.first + place) e) c.deref.ensures c.index.ensures in
    subst (λ (es : List Entry). slice_get es place ≡ Some e) c.self.view_is
    (get_part all s.first s.count place e few (got all (s.first + place) e (omega (arith, few, c.self.invariant)) is))
