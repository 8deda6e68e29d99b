use Rattle.std.proofs.Common.{ap, ◌∙◌, arith}
use Rattle.spec_edit.specs.Splice.{first_siblings}
use Rattle.xt_tree.specs.View.{forest_of}
use Rattle.xt_strip.proofs.Sharing.{others_are}
use Rattle.xt_strip.proofs.Siblings.{count_length}
use Rattle.xt_strip.proofs.along.between.Goals as goal

pub returns : goal.returns
returns c others is within =
    let xs = c.args.before.now in
    let ys = c.args.after.now in
    let many = count_length xs in
    let now = count_length ys in
    c.first.ensures ∙ ap (first_siblings _) c.later.ensures
    ∙ others_are c.args.from c.args.to _ others (forest_of xs) (forest_of ys) is within (omega arith)
