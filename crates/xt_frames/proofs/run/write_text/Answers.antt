use Rattle.std.proofs.Common.{refl}
use Rattle.spec_run.specs.Content.{text_item}
use Rattle.xt_frames.specs.declared.run.Run.{Run}
use Rattle.xt_frames.proofs.Whole.{view-Text, whole-Text}
use Rattle.xt_frames.proofs.Performs.{put_behind}
use Rattle.xt_frames.proofs.run.write_text.Goals as goal

pub put-requires : goal.put-requires
put-requires c = whole-Text c.args.text

pub returns : goal.returns
returns c ask =
    let p = c.push.new.run in
    let new : Run = record { room = p.room; supplies = p.supplies; waiting = p.waiting; frames = p.frames; going = c.put.new.self; did = p.did } in
    put_behind ask (text_item c.args.text) c.args.rest c.args.run.now p new c.in_ok-push.ensures refl refl refl (rw view-Text at c.in_ok-put.ensures)
