use Rattle.std.proofs.Common.{refl, map, subst, suc, length}
use Rattle.spec_stylesheet.specs.Instruction.{instrs}
use Rattle.spec_meaning.specs.Question.{Name, Answer}
use Rattle.spec_run.specs.Plan.{Plan}
use Rattle.spec_node.specs.declared.node_ref.NodeRef.{NodeRef}
use Rattle.xt_frames.specs.Left.{Does}
use Rattle.spec_run.specs.Content.{copied_as}
use Rattle.xt_syntax.specs.PartView.{place_of}
use Rattle.xt_syntax.specs.InstrView.{instr_of}
use Rattle.xt_frames.specs.declared.run.Run.{Run}
use Rattle.xt_frames.specs.View.{here_of, inside, after_body}
use Rattle.xt_frames.specs.Left.{left_in}
use Rattle.xt_frames.proofs.Lefts.{if_ok}
use Rattle.xt_frames.proofs.Performs.{inquired}
use Rattle.xt_instructions.proofs.Asked.{comes_in}
use Rattle.xt_instructions.proofs.copying.copy.Goals as goal

pub returns-clause-does : goal.returns-clause-does
returns-clause-does g c =
    let truth = (g.W.World.state c.args.world.now).truth in
    let r = c.args.run.now in
    let b = c.args.body in
    let mid : Run = record { room = r.room; supplies = r.supplies; waiting = r.waiting; frames = r.frames; going = c.ask.new.self; did = r.did } in
    let then_as : Answer NodeRef → Plan NodeRef = λ a. copied_as (place_of c.args.site.now.place) (here_of b.here) c.args.sets.now.items a (inside (place_of c.args.site.now.place) (instrs (map instr_of c.args.content.now.value.items)) (here_of b.here)) (after_body b (left_in r)) in
    if_ok c.copy_as-next.result c.copy_as-next.ensures.does (λ next h.
    let P : Answer NodeRef → Type 0 = λ a. Does truth (then_as a) (suc (length r.frames.items)) mid c.copy_as-next.new.run next in
    inquired truth (Name b.here.focus.node) then_as _ r mid c.copy_as-next.new.run next c.in_ok-answer.ensures.noted refl refl (subst P c.in_ok-answer.ensures.answer (comes_in c.ask.ensures.truth h)))
