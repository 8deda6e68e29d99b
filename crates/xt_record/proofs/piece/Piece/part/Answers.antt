use Rattle.std.proofs.Common.{◌≡◌, ◌+◌, ◌-◌, ◌≤◌, List, take, drop, length, refl, sym, ap, subst, arith}
use Rattle.xt_record.specs.Taken.{AllWithin, IsPart}
use Rattle.xt_record.specs.declared.block.Block.{Block}
use Rattle.xt_record.specs.declared.entry.Entry.{Entry}
use Rattle.xt_record.proofs.Pieced.{part_length, part_made, rest_whole}
use Rattle.xt_record.proofs.piece.Piece.part.Goals as goal

pub returns : goal.returns
returns c =
    let s = c.self.inside in
    let now = c.args.self.now in
    let given = c.entries.result.now in
    let from = c.args.from in
    let n = c.min-count.result in
    let ahead = c.args.ahead in
    let all = s.block.value.entries.items in
    let same : given ≡ now = c.entries.ensures in
    let many : length given ≡ length now = ap (λ (es : List Entry). length es) same in
    let rest : length (take (length given - from) (drop from given)) ≡ length given - from =
    part_length given from (length given - from) (omega (arith, many, c.requires)) in
    let fits : from + n ≤ length now = omega (arith, c.min-count.ensures, rest, many, c.requires) in
    let few : n ≤ c.args.most = omega (arith, c.min-count.ensures) in
    let inside = subst (λ (es : List Entry). AllWithin ahead (take n (drop from es))) same
    (subst (λ (es : List Entry). AllWithin ahead (take n es)) (rest_whole given from (length given - from) refl)
    (c.all_within.ensures c.if-not-all_within.false)) in
    let made = part_made all now s.first s.count from n c.args.most ahead c.self.view_is fits (omega arith) few inside in
    subst (λ (b : Block). IsPart from c.args.most ahead now (take n (drop (s.first + from) b.entries.items))) (sym c.in_ok-clone.ensures.cases) made
