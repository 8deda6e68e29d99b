use Rattle.std.proofs.Common.{◌≡◌, ◌<◌, ◌∙◌, List, length, slice_index, sym, ap, subst, arith}
use Rattle.xt_record.specs.declared.entry.Entry.{Entry}
use Rattle.xt_record.proofs.Ok.{if_ok, if_some}
use Rattle.xt_record.proofs.Pieced.{first_at, found, part_found, pieces_count, some_piece}
use Rattle.xt_record.proofs.pieces.Pieces.part.Goals as goal

pub place_of-place-requires-clause-some : goal.place_of-place-requires-clause-some
place_of-place-requires-clause-some c =
    let lt = subst (λ (es : List Entry). c.args.turn < length es) (sym c.self.view_is) c.requires in
    subst (λ xs. 0 < length xs) (sym c.as_slice.ensures.value)
    (some_piece c.self.inside.list.items c.self.inside.starts.items c.self.inside.count c.args.turn c.self.invariant lt)

pub place_of-place-requires-clause-first : goal.place_of-place-requires-clause-first
place_of-place-requires-clause-first c =
    let ps = c.self.inside.list.items in
    let turns = c.self.inside.starts.items in
    let lt = subst (λ (es : List Entry). c.args.turn < length es) (sym c.self.view_is) c.requires in
    let first : slice_index c.as_slice.result.now 0 ≡ 0 = ap (λ xs. slice_index xs 0) c.as_slice.ensures.value
    ∙ first_at ps turns c.self.inside.count c.self.invariant (some_piece ps turns c.self.inside.count c.args.turn c.self.invariant lt) in
    omega (arith, first)

pub index-piece-requires : goal.index-piece-requires
index-piece-requires c =
    let ps = c.self.inside.list.items in
    let turns = c.self.inside.starts.items in
    omega (
      arith,
      c.place_of-place.ensures.within,
      ap (λ xs. length xs) c.as_slice.ensures.value,
      pieces_count ps turns c.self.inside.count c.self.invariant,
      c.self.inside.list.ok.0,
    )

pub part-requires : goal.part-requires
part-requires c =
    let ps = c.self.inside.list.items in
    let turns = c.self.inside.starts.items in
    let p = c.index-piece.result.now in
    let h = found ps turns c.as_slice.result.now c.self.inside.count c.place_of-place.result c.args.turn c.index.result.now p c.args.self.now c.self.invariant
    c.self.view_is c.as_slice.ensures.value c.requires c.place_of-place.ensures.within c.place_of-place.ensures.from c.place_of-place.ensures.up_to
    c.index-piece.ensures c.index.ensures in
    h.within

pub returns : goal.returns
returns c =
    let ps = c.self.inside.list.items in
    let turns = c.self.inside.starts.items in
    let p = c.index-piece.result.now in
    let h = found ps turns c.as_slice.result.now c.self.inside.count c.place_of-place.result c.args.turn c.index.result.now p c.args.self.now c.self.invariant
    c.self.view_is c.as_slice.ensures.value c.requires c.place_of-place.ensures.within c.place_of-place.ensures.from c.place_of-place.ensures.up_to
    c.index-piece.ensures c.index.ensures in
    if_ok c.part.result c.part.ensures (λ o of. if_some o of (λ q part. part_found c.args.most c.args.ahead q h part))
