use Rattle.std.proofs.Common.{refl, ap, ◌∙◌}
use Rattle.spec_meaning.specs.Question.{nodes_in}
use Rattle.xt_frames.specs.declared.run.Run.{Run}
use Rattle.xt_runner.proofs.Starts.{children_do}
use Rattle.xt_runner.proofs.start.apply_to_children.Goals as goal

pub returns-clause-does : goal.returns-clause-does
returns-clause-does g c =
    let truth = (g.W.World.state c.args.world.now).truth in
    let r = c.args.run.now in
    let mid : Run = record { room = r.room; supplies = r.supplies; waiting = r.waiting; frames = r.frames; going = c.ask.new.self; did = r.did } in
    children_do truth c.args.mode c.args.node c.nowhere.result c.into_nodes.result r mid c.push.new.run c.requires refl refl refl c.in_ok-answer.ensures.noted c.nowhere.ensures (c.into_nodes.ensures ∙ ap nodes_in c.in_ok-answer.ensures.answer) c.in_ok-push.ensures
