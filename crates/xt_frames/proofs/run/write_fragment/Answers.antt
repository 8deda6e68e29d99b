use Rattle.std.proofs.Common.{refl}
use Rattle.xt_frames.specs.declared.run.Run.{Run}
use Rattle.xt_frames.proofs.Performs.{put_behind}
use Rattle.xt_frames.proofs.run.write_fragment.Goals as goal

pub returns : goal.returns
returns c ask =
    let p = c.push.new.run in
    let new : Run = record { room = p.room; supplies = p.supplies; waiting = p.waiting; frames = p.frames; going = c.put_fragment.new.self; did = p.did } in
    put_behind ask c.args.fragment.now c.args.rest c.args.run.now p new c.in_ok-push.ensures refl refl refl c.in_ok-put_fragment.ensures
