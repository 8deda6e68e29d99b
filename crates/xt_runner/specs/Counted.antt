-- Runs that have counted their instructions.
use Rattle.std.specs.Prelude.{ℕ}
use Rattle.xt_frames.specs.declared.run.Run.{Run}

-- the same run, which has performed so many
abbrev pub counted : ℕ → Run → Run
counted n r = record { room = r.room; supplies = r.supplies; waiting = r.waiting; frames = r.frames; going = r.going; did = n }
