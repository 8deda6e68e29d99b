use Rattle.std.proofs.Common.{suc, length, subst, map}
use Rattle.spec_document.specs.declared.kind.Kind.TheVariants as kind
use Rattle.spec_stylesheet.specs.Instruction.{instrs}
use Rattle.spec_run.specs.Plan.{Plan}
use Rattle.xt_syntax.specs.PartView.{place_of}
use Rattle.xt_syntax.specs.InstrView.{instr_of}
use Rattle.spec_node.specs.declared.node_ref.NodeRef.{NodeRef}
use Rattle.xt_questions.specs.View.{answer_of}
use Rattle.xt_frames.specs.View.{here_of, inside, after_body}
use Rattle.xt_frames.specs.Left.{left_in, Does}
use Rattle.xt_frames.proofs.Lefts.{if_ok}
use Rattle.xt_instructions.proofs.Named.{copied_is}
use Rattle.xt_instructions.proofs.copying.copy_as.Goals as goal

pub returns-in-Root-clause-does : goal.returns-in-Root-clause-does
returns-in-Root-clause-does g c =
    let truth = (g.W.World.state c.args.world.now).truth in
    let r = c.args.run.now in
    let b = c.args.body in
    let e = copied_is kind.Root (place_of c.args.site.now.place) (here_of b.here) c.args.sets.now.items (answer_of c.args.called.now) (inside (place_of c.args.site.now.place) (instrs (map instr_of c.args.content.now.value.items)) (here_of b.here)) (after_body b (left_in r)) c.in-Root.ensures in
    if_ok c.into_content.result c.into_content.ensures (λ next h.
    let P : Plan NodeRef → Type 0 = λ p. Does truth p (suc (length r.frames.items)) r c.into_content.new.run next in
    subst P e (h truth))

pub returns-in-Element-clause-does : goal.returns-in-Element-clause-does
returns-in-Element-clause-does g c =
    let truth = (g.W.World.state c.args.world.now).truth in
    let r = c.args.run.now in
    let b = c.args.body in
    let e = copied_is kind.Element (place_of c.args.site.now.place) (here_of b.here) c.args.sets.now.items (answer_of c.args.called.now) (inside (place_of c.args.site.now.place) (instrs (map instr_of c.args.content.now.value.items)) (here_of b.here)) (after_body b (left_in r)) c.in-Element.ensures in
    if_ok c.copy_element.result c.copy_element.ensures.does (λ next h.
    let P : Plan NodeRef → Type 0 = λ p. Does truth p (suc (length r.frames.items)) r c.copy_element.new.run next in
    subst P e h)

pub returns-in-Attribute-clause-does : goal.returns-in-Attribute-clause-does
returns-in-Attribute-clause-does g c =
    let truth = (g.W.World.state c.args.world.now).truth in
    let r = c.args.run.now in
    let b = c.args.body in
    let e = copied_is kind.Attribute (place_of c.args.site.now.place) (here_of b.here) c.args.sets.now.items (answer_of c.args.called.now) (inside (place_of c.args.site.now.place) (instrs (map instr_of c.args.content.now.value.items)) (here_of b.here)) (after_body b (left_in r)) c.in-Attribute.ensures in
    if_ok c.copy_node.result c.copy_node.ensures.does (λ next h.
    let P : Plan NodeRef → Type 0 = λ p. Does truth p (suc (length r.frames.items)) r c.copy_node.new.run next in
    subst P e h)

pub returns-in-Namespace-clause-does : goal.returns-in-Namespace-clause-does
returns-in-Namespace-clause-does g c =
    let truth = (g.W.World.state c.args.world.now).truth in
    let r = c.args.run.now in
    let b = c.args.body in
    let e = copied_is kind.Namespace (place_of c.args.site.now.place) (here_of b.here) c.args.sets.now.items (answer_of c.args.called.now) (inside (place_of c.args.site.now.place) (instrs (map instr_of c.args.content.now.value.items)) (here_of b.here)) (after_body b (left_in r)) c.in-Namespace.ensures in
    if_ok c.copy_node-in-Namespace.result c.copy_node-in-Namespace.ensures.does (λ next h.
    let P : Plan NodeRef → Type 0 = λ p. Does truth p (suc (length r.frames.items)) r c.copy_node-in-Namespace.new.run next in
    subst P e h)

pub returns-in-Text-clause-does : goal.returns-in-Text-clause-does
returns-in-Text-clause-does g c =
    let truth = (g.W.World.state c.args.world.now).truth in
    let r = c.args.run.now in
    let b = c.args.body in
    let e = copied_is kind.Text (place_of c.args.site.now.place) (here_of b.here) c.args.sets.now.items (answer_of c.args.called.now) (inside (place_of c.args.site.now.place) (instrs (map instr_of c.args.content.now.value.items)) (here_of b.here)) (after_body b (left_in r)) c.in-Text.ensures in
    if_ok c.copy_node-in-Text.result c.copy_node-in-Text.ensures.does (λ next h.
    let P : Plan NodeRef → Type 0 = λ p. Does truth p (suc (length r.frames.items)) r c.copy_node-in-Text.new.run next in
    subst P e h)

pub returns-in-Comment-clause-does : goal.returns-in-Comment-clause-does
returns-in-Comment-clause-does g c =
    let truth = (g.W.World.state c.args.world.now).truth in
    let r = c.args.run.now in
    let b = c.args.body in
    let e = copied_is kind.Comment (place_of c.args.site.now.place) (here_of b.here) c.args.sets.now.items (answer_of c.args.called.now) (inside (place_of c.args.site.now.place) (instrs (map instr_of c.args.content.now.value.items)) (here_of b.here)) (after_body b (left_in r)) c.in-Comment.ensures in
    if_ok c.copy_node-in-Comment.result c.copy_node-in-Comment.ensures.does (λ next h.
    let P : Plan NodeRef → Type 0 = λ p. Does truth p (suc (length r.frames.items)) r c.copy_node-in-Comment.new.run next in
    subst P e h)

pub returns-in-Instruction-clause-does : goal.returns-in-Instruction-clause-does
returns-in-Instruction-clause-does g c =
    let truth = (g.W.World.state c.args.world.now).truth in
    let r = c.args.run.now in
    let b = c.args.body in
    let e = copied_is kind.Instruction (place_of c.args.site.now.place) (here_of b.here) c.args.sets.now.items (answer_of c.args.called.now) (inside (place_of c.args.site.now.place) (instrs (map instr_of c.args.content.now.value.items)) (here_of b.here)) (after_body b (left_in r)) c.in-Instruction.ensures in
    if_ok c.copy_node-in-Instruction.result c.copy_node-in-Instruction.ensures.does (λ next h.
    let P : Plan NodeRef → Type 0 = λ p. Does truth p (suc (length r.frames.items)) r c.copy_node-in-Instruction.new.run next in
    subst P e h)
