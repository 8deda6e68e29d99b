use Rattle.std.proofs.Common.{length, map, subst, refl}
use Rattle.spec_stylesheet.specs.Instruction.{instrs}
use Rattle.spec_meaning.specs.Stream.{Ended}
use Rattle.spec_run.specs.Plan.{Plan, Put}
use Rattle.spec_run.specs.Content.{Here, each, sorted}
use Rattle.xt_syntax.specs.InstrView.{instr_of}
use Rattle.xt_syntax.specs.PartView.{place_of, sort_key_of}
use Rattle.spec_node.specs.declared.node_ref.NodeRef.{NodeRef}
use Rattle.xt_frames.specs.View.{here_of, inside_at}
use Rattle.xt_frames.specs.Left.{left_in, Does}
use Rattle.xt_frames.proofs.Lefts.{if_ok}
use Rattle.xt_instructions.proofs.Into.{behind_body}
use Rattle.xt_instructions.proofs.control.for_nodes.Goals as goal

pub returns : goal.returns
returns c =
    let r = c.args.run.now in
    let mid = c.put_rest.new.run in
    let new = c.loop_over.new.run in
    let keys = map sort_key_of c.args.keys.now.value.items in
    let is = instrs (map instr_of c.args.content.now.value.items) in
    let then : Here NodeRef → Plan NodeRef → Plan NodeRef =
    λ h p. Put Ended (sorted keys h c.args.nodes.items (λ ns. each (inside_at (place_of c.args.site.now.place) is (length ns) h) 1 ns p)) in
    if_ok c.loop_over.result c.loop_over.ensures (λ next h ask.
    let P : Here NodeRef → Type 0 = λ x. Does ask (then x (left_in mid)) (length mid.frames.items) mid new next in
    behind_body ask (then (here_of c.args.body.here)) r mid new c.args.body _ next refl c.in_ok-here.ensures.pushed (subst P c.in_ok-here.ensures.here (h ask)))
