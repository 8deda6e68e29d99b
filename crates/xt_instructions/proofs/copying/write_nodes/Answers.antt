use Rattle.xt_frames.specs.declared.frame.Frame.TheVariants as frames
use Rattle.xt_frames.proofs.Performs.{two_frames}
use Rattle.xt_instructions.proofs.copying.write_nodes.Goals as goal

pub returns : goal.returns
returns c ask =
    let does = two_frames ask (frames.Body c.advanced.result) (frames.Copies (record { nodes = c.args.nodes; next = 0 })) c.args.run.now c.push.new.run c.push-2.new.run c.in_ok-push.ensures c.in_ok-push-2.ensures in
    rw c.advanced.ensures at does
