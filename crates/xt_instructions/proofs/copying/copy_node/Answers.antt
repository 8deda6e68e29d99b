use Rattle.std.proofs.Common.{refl}
use Rattle.spec_meaning.specs.Question.{Copy}
use Rattle.spec_run.specs.Copy.{stream_in}
use Rattle.xt_frames.specs.declared.run.Run.{Run}
use Rattle.xt_instructions.proofs.Into.{asked_behind}
use Rattle.xt_instructions.proofs.copying.copy_node.Goals as goal

pub returns-clause-does : goal.returns-clause-does
returns-clause-does g c =
    let truth = (g.W.World.state c.args.world.now).truth in
    let one = c.push.new.run in
    let new : Run = record { room = one.room; supplies = one.supplies; waiting = one.waiting; frames = one.frames; going = c.ask_copy.new.going; did = one.did } in
    asked_behind truth (Copy c.args.body.here.focus.node) stream_in c.args.body c.advanced.result c.args.run.now one new c.advanced.ensures c.in_ok-push.ensures refl refl refl c.in_ok-ask_copy.ensures.put
