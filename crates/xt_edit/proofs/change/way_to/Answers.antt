use Rattle.std.proofs.Common.{◌+◌, ◌++◌, [], ◌∷◌, drop, sym, ap, ◌∙◌, arith}
use Rattle.std.specs.Option.{option_and_then}
use Rattle.std.proofs.lemmas.List.{at_drop_more, at_drop_all}
use Rattle.xt_tree.specs.View.{forest_of}
use Rattle.xt_edit.specs.Telling.{numbers_in}
use Rattle.xt_edit.proofs.Ways.{walk, walk-at}
use Rattle.xt_edit.proofs.change.way_to.Goals as goal

pub returns-in-None : goal.returns-in-None
returns-in-None c =
    let ps = c.args.path.now in
    let i = c.loop-position.position-index in
    let node = c.loop-position.node.number in
    let above = numbers_in c.loop-position.above.items in
    ap (option_and_then (λ tree. walk (drop (i + 1) ps) tree.number (above ++ node ∷ []) tree.children)) c.in-None.ensures
    ∙ sym (at_drop_more (λ rest. walk rest node above (forest_of c.loop-position.children.now)) ps i 0 (omega arith))
    ∙ c.loop-position.invariant ∙ walk-at c.args.document.now ps

pub returns : goal.returns
returns c =
    let ps = c.args.path.now in
    let i = c.loop-position.position-index in
    sym (at_drop_all (λ rest. walk rest c.loop-position.node.number (numbers_in c.loop-position.above.items) (forest_of c.loop-position.children.now)) ps i
    (omega arith))
    ∙ c.loop-position.invariant ∙ walk-at c.args.document.now ps
