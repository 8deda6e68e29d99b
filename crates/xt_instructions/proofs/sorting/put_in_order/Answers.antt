use Rattle.std.proofs.Common.{sym, ap, ◌∙◌}
use Rattle.spec_meaning.specs.Stream.{Ended}
use Rattle.spec_run.specs.Plan.{Put}
use Rattle.xt_frames.specs.declared.frame.Frame.TheVariants as frames
use Rattle.xt_frames.specs.Left.{left_in}
use Rattle.xt_frames.specs.View.{ordered_left}
use Rattle.xt_frames.proofs.Frames.{from_same}
use Rattle.xt_frames.proofs.Performs.{one_frame}
use Rattle.xt_instructions.proofs.Rows.{rows_none}
use Rattle.xt_instructions.proofs.sorting.put_in_order.Goals as goal

pub returns : goal.returns
returns c ask =
    let s = c.args.sorting in
    let r = c.args.run.now in
    let nodes = rw (c.as_slice.ensures.value, c.parts-criteria.ensures.criteria, c.parts-criteria.ensures.rows) at c.in-Ok.ensures in
    let left = rows_none s (left_in r) c.requires.criteria c.requires.rows
    ∙ ap (λ ns. Put Ended (ordered_left s.to ns (left_in r))) (sym nodes)
    ∙ ap (λ to. Put Ended (ordered_left to c.in-Ok.nodes.items (left_in r))) (sym c.parts-criteria.ensures.to)
    ∙ ap (λ p. Put Ended p) (sym (c.ordered.ensures (left_in r))) in
    from_same ask (frames.Sorting s) _ r c.push.new.run _ left (one_frame ask c.ordered.result r c.push.new.run c.in_ok-push.ensures)
