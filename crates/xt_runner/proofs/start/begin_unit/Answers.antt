use Rattle.std.proofs.Common.{refl, ap, arith}
use Rattle.spec_meaning.specs.Question.{Answer, Unit}
use Rattle.spec_run.specs.Plan.{Plan}
use Rattle.spec_run.specs.Content.{unit_planned}
use Rattle.spec_node.specs.Naming.{same_ref}
use Rattle.xt_questions.specs.View.{bindings_of}
use Rattle.spec_node.specs.declared.node_ref.NodeRef.{NodeRef}
use Rattle.xt_frames.specs.declared.run.Run.{Run}
use Rattle.xt_frames.proofs.Lefts.{if_ok}
use Rattle.xt_runner.proofs.Starts.{begun_does, comes_in}
use Rattle.xt_runner.proofs.Passed.{does_as}
use Rattle.xt_runner.proofs.start.begin_unit.Goals as goal

pub returns-clause-does : goal.returns-clause-does
returns-clause-does g c =
    let truth = (g.W.World.state c.args.world.now).truth in
    let r = c.args.run.now in
    let mid : Run = record { room = r.room; supplies = r.supplies; waiting = r.waiting; frames = r.frames; going = c.ask.new.self; did = r.did } in
    let later : Answer NodeRef → Plan NodeRef = λ a. unit_planned same_ref c.args.node (bindings_of c.args.parameters) a in
    if_ok c.begin_answered.result c.begin_answered.ensures.does (λ next h.
    begun_does truth (Unit c.args.element) later 3 r mid c.leave_nothing.new.run c.begin_answered.new.run next (omega arith) c.in_ok-answer.ensures.noted refl refl c.leave_nothing.ensures.begun (does_as (ap later c.in_ok-answer.ensures.answer) (comes_in c.ask.ensures.truth h)))
