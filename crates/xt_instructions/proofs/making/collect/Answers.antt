use Rattle.std.proofs.Common.{map, subst, length, suc}
use Rattle.spec_stylesheet.specs.Instruction.{instrs}
use Rattle.spec_run.specs.Plan.{Begin, Wrap}
use Rattle.spec_run.specs.Content.{Here}
use Rattle.xt_syntax.specs.PartView.{place_of}
use Rattle.xt_syntax.specs.InstrView.{instr_of}
use Rattle.spec_node.specs.declared.node_ref.NodeRef.{NodeRef}
use Rattle.xt_engine.specs.View.{wrapping_of}
use Rattle.xt_frames.specs.View.{inside, after_body}
use Rattle.xt_frames.specs.Left.{left_in, Does}
use Rattle.xt_frames.proofs.Lefts.{if_ok}
use Rattle.xt_instructions.proofs.making.collect.Goals as goal

pub returns : goal.returns
returns c =
    let r = c.args.run.now in
    let b = c.args.body in
    if_ok c.sink.result c.sink.ensures (λ next h ask.
    let P : Here NodeRef → Type 0 = λ x. Does ask (Begin (inside (place_of c.args.site.now.place) (instrs (map instr_of c.args.content.now.value.items)) x (Wrap (wrapping_of c.args.end) (after_body b (left_in r))))) (suc (length r.frames.items)) r c.sink.new.run next in
    subst P c.in_ok-here.ensures.here (rw c.advanced.ensures at h ask))
