use Rattle.std.proofs.Common.{◌++◌, ◌∙◌, slice_get, sym, ap, arith}
use Rattle.xt_record.specs.Listed.{Listed, record_in, tree_in}
use Rattle.xt_record.proofs.Listing.{loose_at}
use Rattle.xt_record.proofs.Pieced.{get_map}
use Rattle.xt_record.proofs.pool.Pool.entry_at.Goals as goal

pub returns-clause-record : goal.returns-clause-record
returns-clause-record c =
    let ps = c.self.inside.pieces in
    let ls = c.self.inside.loose.items in
    let turn = c.args.turn in
    let e = c.index.result.now in
    let at = loose_at ps ls c.args.self.now c.self.view_is turn c.count-count.result e c.requires c.count-count.ensures.count (omega arith) c.index.ensures in
    ap (λ (p : Listed). slice_get p.records.items turn) (sym c.self.view_is) ∙ get_map record_in (ps ++ ls) turn e at

pub returns-clause-tree : goal.returns-clause-tree
returns-clause-tree c =
    let ps = c.self.inside.pieces in
    let ls = c.self.inside.loose.items in
    let turn = c.args.turn in
    let e = c.index.result.now in
    let at = loose_at ps ls c.args.self.now c.self.view_is turn c.count-count.result e c.requires c.count-count.ensures.count (omega arith) c.index.ensures in
    ap (λ (p : Listed). slice_get p.trees.items turn) (sym c.self.view_is) ∙ get_map tree_in (ps ++ ls) turn e at
