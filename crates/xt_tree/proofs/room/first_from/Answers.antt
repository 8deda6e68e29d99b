use Rattle.std.proofs.Common.{◌<◌, length, sym, ap, ◌∙◌, arith}
use Rattle.xt_tree.specs.Keys.{key_by}
use Rattle.xt_tree.proofs.Indices.{first-past, first_sibling}
use Rattle.xt_tree.proofs.Views.{view-Node}
use Rattle.xt_tree.proofs.room.first_from.Goals as goal

pub returns-then-index-siblings : goal.returns-then-index-siblings
returns-then-index-siblings c = sym (first-past (key_by c.args.keys.now) c.args.index c.args.high c.args.siblings.now c.if-index-siblings.true)

pub returns : goal.returns
returns c =
    let key = key_by c.args.keys.now in
    let xs = c.args.siblings.now in
    let within : c.args.index < length xs = omega arith in
    c.key_of.ensures ∙ sym (ap (λ t. key t.number) (view-Node c.sibling.result.now))
    ∙ sym (first_sibling key c.args.index c.args.high xs c.sibling.result.now within c.sibling.ensures)
