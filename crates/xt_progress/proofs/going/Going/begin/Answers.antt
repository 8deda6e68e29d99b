use Rattle.std.proofs.Common.{◌∙◌, ap, [], ◌∷◌}
use Rattle.xt_tree.specs.StreamView.{stream_of}
use Rattle.xt_progress.specs.View.{going_of, stacked}
use Rattle.xt_progress.proofs.Goings.{stacked_more}
use Rattle.xt_progress.proofs.going.Going.begin.Goals as goal

pub returns : goal.returns
returns c =
    let g = going_of c.args.self.now in
    let top = ap stream_of c.replace-around.ensures.after ∙ c.new.ensures in
    let outer = ap (λ l. stacked l []) c.in_ok-push.ensures.items ∙ stacked_more c.args.self.now.outer.items c.replace-around.result [] ∙ ap (λ s. stream_of s ∷ g.outer) c.replace-around.ensures.value in
    λ i. record { top = top i; outer = outer i; trace = g.trace; height = g.height; streams = g.streams }
