use Rattle.std.proofs.Common.{◌+◌, arith}
use Rattle.xt_record.specs.Taken.{IsPartOf}
use Rattle.xt_record.proofs.Grown.{at_item, one_step, piece_step}
use Rattle.xt_record.proofs.pool.Pool.take_some.Goals as goal

pub returns-in_ok-take_one-in-None-clause-records : goal.returns-in_ok-take_one-in-None-clause-records
returns-in_ok-take_one-in-None-clause-records c =
    let one = one_step c.args.others.now.records.items c.args.others.now.trees.items c.args.first c.args.turn (c.args.turn + 1) c.args.self.now.records.items
    c.take_one.new.self.records.items c.args.self.now.trees.items c.take_one.new.self.trees.items c.requires.first (omega arith) (omega arith)
    c.part.ensures.paired c.in_ok-take_one-in-None.ensures.paired c.in_ok-take_one-in-None.ensures.records c.in_ok-take_one-in-None.ensures.trees in
    one.records

pub returns-in_ok-take_one-in-None-clause-trees : goal.returns-in_ok-take_one-in-None-clause-trees
returns-in_ok-take_one-in-None-clause-trees c =
    let one = one_step c.args.others.now.records.items c.args.others.now.trees.items c.args.first c.args.turn (c.args.turn + 1) c.args.self.now.records.items
    c.take_one.new.self.records.items c.args.self.now.trees.items c.take_one.new.self.trees.items c.requires.first (omega arith) (omega arith)
    c.part.ensures.paired c.in_ok-take_one-in-None.ensures.paired c.in_ok-take_one-in-None.ensures.records c.in_ok-take_one-in-None.ensures.trees in
    one.trees

pub returns-in_ok-share-in-Some-clause-records : goal.returns-in_ok-share-in-Some-clause-records
returns-in_ok-share-in-Some-clause-records c =
    let others = c.args.others.now in
    let q = c.in-Some.piece in
    let of = at_item (IsPartOf c.args.first c.args.turn c.args.end others) _ q c.in-Some.is c.in_ok-part.ensures.part in
    let step = piece_step others c.args.first c.args.turn (c.args.turn + c.count.result) c.args.end q c.args.self.now.records.items
    c.share.new.self.records.items c.args.self.now.trees.items c.share.new.self.trees.items c.requires.first (omega (arith, c.count.ensures))
    c.in_ok-share-in-Some.ensures.paired of c.in_ok-share-in-Some.ensures.records c.in_ok-share-in-Some.ensures.trees in
    step.records

pub returns-in_ok-share-in-Some-clause-trees : goal.returns-in_ok-share-in-Some-clause-trees
returns-in_ok-share-in-Some-clause-trees c =
    let others = c.args.others.now in
    let q = c.in-Some.piece in
    let of = at_item (IsPartOf c.args.first c.args.turn c.args.end others) _ q c.in-Some.is c.in_ok-part.ensures.part in
    let step = piece_step others c.args.first c.args.turn (c.args.turn + c.count.result) c.args.end q c.args.self.now.records.items
    c.share.new.self.records.items c.args.self.now.trees.items c.share.new.self.trees.items c.requires.first (omega (arith, c.count.ensures))
    c.in_ok-share-in-Some.ensures.paired of c.in_ok-share-in-Some.ensures.records c.in_ok-share-in-Some.ensures.trees in
    step.trees
