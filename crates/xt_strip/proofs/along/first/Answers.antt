use Rattle.std.proofs.Common.{take, sym, ap, ◌∙◌}
use Rattle.std.proofs.lemmas.List.{take_min}
use Rattle.xt_tree.specs.View.{forest_of}
use Rattle.xt_tree.proofs.Indices.{first-take}
use Rattle.xt_strip.proofs.along.first.Goals as goal

pub returns : goal.returns
returns c =
    let xs = c.args.siblings.now in
    ap (λ n. forest_of (take n xs)) c.min.ensures ∙ ap forest_of (take_min c.args.count xs) ∙ sym (first-take c.args.count xs)
