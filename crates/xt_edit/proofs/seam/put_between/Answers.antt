use Rattle.std.proofs.Common.{◌+◌, ◌-◌, sym, ap, subst, arith}
use Rattle.xt_tree.specs.View.{forest_of}
use Rattle.xt_edit.specs.Standing.{Stands}
use Rattle.xt_edit.proofs.Seams.{put-is}
use Rattle.xt_edit.proofs.seam.put_between.Goals as goal

pub spliced-requires : goal.spliced-requires
spliced-requires c =
    let same = put-is c.args.document.now c.args.parent.now c.args.from c.args.to c.min-from.result _ _ (forest_of c.args.nodes.now) c.in_ok-joined.joined
    c.children_of-siblings.result.now _ _
    c.children_of-siblings.ensures c.min-from.ensures c.text_before-before.ensures c.text_at-after.ensures.text
    (ap (λ n. c.min-from.result - n) c.one_of.ensures) (ap (λ n. c.args.to + n) c.one_of-2.ensures) c.in_ok-joined.ensures in
    let stands = subst (λ nodes. Stands (record { root = c.args.document.now.root; nodes = nodes })) (sym same) c.requires.stands in
    record { order = omega arith; numbers = stands.numbers; depth = stands.depth; fits = stands.fits }

pub returns : goal.returns
returns c =
    let same = put-is c.args.document.now c.args.parent.now c.args.from c.args.to c.min-from.result _ _ (forest_of c.args.nodes.now) c.in_ok-joined.joined
    c.children_of-siblings.result.now _ _
    c.children_of-siblings.ensures c.min-from.ensures c.text_before-before.ensures c.text_at-after.ensures.text
    (ap (λ n. c.min-from.result - n) c.one_of.ensures) (ap (λ n. c.args.to + n) c.one_of-2.ensures) c.in_ok-joined.ensures in
    rw same at c.spliced.ensures
