use Rattle.std.proofs.Common.{◌-◌, drop, length, length-drop, sym, ap, ◌∙◌, arith}
use Rattle.std.proofs.lemmas.List.{take_all}
use Rattle.xt_tree.specs.View.{forest_of}
use Rattle.xt_tree.proofs.Indices.{later-drop}
use Rattle.xt_strip.proofs.Siblings.{drop_min}
use Rattle.xt_strip.proofs.along.later.Goals as goal

pub returns : goal.returns
returns c =
    let xs = c.args.siblings.now in
    let n = c.min.result in
    ap forest_of (take_all (length xs - n) (drop n xs) (omega (arith, length-drop n xs)))
    ∙ ap (λ m. forest_of (drop m xs)) c.min.ensures ∙ ap forest_of (drop_min c.args.count xs) ∙ sym (later-drop c.args.count xs)
