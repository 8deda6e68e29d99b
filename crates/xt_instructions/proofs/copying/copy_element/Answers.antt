use Rattle.std.proofs.Common.{refl, ap, ◌∙◌, List, [], suc, length, map, subst}
use Rattle.spec_document.specs.declared.axis.Axis.TheVariants as axis
use Rattle.spec_expression.specs.declared.NodeType.TheVariants as type
use Rattle.spec_expression.specs.Syntax.{OfType}
use Rattle.spec_stylesheet.specs.Instruction.{instrs}
use Rattle.spec_meaning.specs.Question.{Step, nodes_in, written_in, uri_in}
use Rattle.spec_run.specs.Plan.{Plan, Wrapping, Begin, Wrap, AsElement}
use Rattle.spec_run.specs.Content.{namespaces_read, sets_used}
use Rattle.xt_syntax.specs.PartView.{place_of}
use Rattle.xt_syntax.specs.InstrView.{instr_of}
use Rattle.xt_names.specs.View.{Entry}
use Rattle.spec_node.specs.declared.node_ref.NodeRef.{NodeRef}
use Rattle.xt_questions.specs.View.{answer_of}
use Rattle.xt_frames.specs.declared.run.Run.{Run}
use Rattle.xt_frames.specs.View.{here_of, inside, after_body}
use Rattle.xt_frames.specs.Left.{left_in, hand, Does}
use Rattle.xt_frames.proofs.Lefts.{if_ok}
use Rattle.xt_frames.proofs.Performs.{inquired}
use Rattle.xt_instructions.proofs.Asked.{passed, passes_in}
use Rattle.xt_instructions.proofs.copying.copy_element.Goals as goal

pub returns-clause-does : goal.returns-clause-does
returns-clause-does g c =
    let truth = (g.W.World.state c.args.world.now).truth in
    let r = c.args.run.now in
    let b = c.args.body in
    let mid : Run = record { room = r.room; supplies = r.supplies; waiting = r.waiting; frames = r.frames; going = c.ask.new.self; did = r.did } in
    let low : Run = record { room = r.room; supplies = r.supplies; waiting = r.waiting; frames = r.frames; going = c.read_namespaces.new.going; did = r.did } in
    let a = answer_of c.args.called.now in
    let after = after_body b (left_in r) in
    let content = inside (place_of c.args.site.now.place) (instrs (map instr_of c.args.content.now.value.items)) (here_of b.here) in
    let used = sets_used (place_of c.args.site.now.place) (here_of b.here) c.args.sets.now.items in
    let k : List Entry → Plan NodeRef = λ namespaces. Begin (used (content (Wrap (AsElement (written_in a) (uri_in a) namespaces) after))) in
    let nodes = c.as_slice.ensures.value ∙ c.into_nodes-nodes.ensures ∙ ap nodes_in c.in_ok-answer.ensures.answer in
    let reads = passes_in c.ask.ensures.truth (c.in_ok-namespaces.ensures.passes (hand r) r.room k) in
    if_ok c.collect_with_sets.result c.collect_with_sets.ensures (λ next h.
    let P : Wrapping → Type 0 = λ w. Does truth (Begin (used (content (Wrap w after)))) (suc (length r.frames.items)) low c.collect_with_sets.new.run next in
    inquired truth (Step b.here.focus.node axis.Namespace (OfType type.Node)) (λ ns. namespaces_read (nodes_in ns) [] k) _ r mid c.collect_with_sets.new.run next c.in_ok-answer.ensures.noted refl refl
    (passed truth _ _ _ mid low c.collect_with_sets.new.run next (rw nodes at reads) refl refl (subst P c.in_ok-end.ensures (h truth))))
