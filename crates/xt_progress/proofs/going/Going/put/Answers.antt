use Rattle.std.proofs.Common.{◌∙◌, sym, ap, []}
use Rattle.std.proofs.lemmas.Result.{on_ok_weaker}
use Rattle.spec_meaning.specs.Stream.{followed}
use Rattle.xt_tree.specs.StreamView.{single_of}
use Rattle.xt_tree.proofs.Streams.{filled-none}
use Rattle.xt_progress.specs.View.{going_of}
use Rattle.xt_progress.proofs.going.Going.put.Goals as goal

pub returns : goal.returns
returns c =
    let g = going_of c.args.self.now in
    on_ok_weaker c.push.result
    (λ e. ap (λ s. record { top = s; outer = g.outer; trace = g.trace; height = g.height; streams = g.streams }) (e ∙ ap (followed g.top) (sym (filled-none (single_of c.args.item) c.requires []))))
    c.push.ensures.ok
