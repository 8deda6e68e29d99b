use Rattle.std.proofs.Common.{refl}
use Rattle.xt_frames.specs.declared.run.Run.{Run}
use Rattle.xt_instructions.proofs.Used.{has_begun}
use Rattle.xt_instructions.proofs.making.begin.Goals as goal

pub returns : goal.returns
returns c =
    let two = c.push-2.new.run in
    let new : Run = record { room = two.room; supplies = two.supplies; waiting = two.waiting; frames = two.frames; going = c.begin.new.self; did = two.did } in
    has_begun c.args.end c.args.body c.advanced.result c.args.run.now c.push.new.run two new c.advanced.ensures c.in_ok-push.ensures c.in_ok-push-2.ensures refl refl refl c.in_ok-begin.ensures
