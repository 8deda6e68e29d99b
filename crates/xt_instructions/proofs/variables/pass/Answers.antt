use Rattle.std.proofs.Common.{List, subst, length, map}
use Rattle.spec_stylesheet.specs.Instruction.{bindings}
use Rattle.spec_meaning.specs.Stream.{Ended}
use Rattle.spec_meaning.specs.Context.{Bound}
use Rattle.spec_run.specs.Plan.{Put}
use Rattle.spec_run.specs.Content.{passed}
use Rattle.xt_syntax.specs.InstrView.{binding_of}
use Rattle.spec_node.specs.declared.node_ref.NodeRef.{NodeRef}
use Rattle.xt_questions.specs.declared.context.Bindings.TheVariants.{Empty}
use Rattle.xt_frames.specs.declared.frame.Frame.TheVariants as frames
use Rattle.xt_frames.specs.declared.run.Next.TheVariants.{Went}
use Rattle.xt_frames.specs.View.{here_of, passed_to}
use Rattle.xt_frames.specs.Left.{left_in, Does}
use Rattle.xt_frames.proofs.Whole.{view-Empty}
use Rattle.xt_instructions.proofs.Into.{frame_more}
use Rattle.xt_instructions.proofs.variables.pass.Goals as goal

pub returns : goal.returns
returns c ask =
    let r = c.args.run.now in
    let bs = bindings (map binding_of c.args.bindings.value.items) in
    let left = frames.Arguments (record { bindings = c.args.bindings; next = 0; done = Empty; here = c.args.here; to = c.args.to }) in
    let P : List (Bound NodeRef) → Type 0 = λ done. Does ask (Put Ended (passed bs (here_of c.args.here) done (λ parameters. passed_to c.args.to parameters (left_in r)))) (length r.frames.items) r c.push.new.run Went in
    subst P view-Empty (frame_more ask left r c.push.new.run c.in_ok-push.ensures)
