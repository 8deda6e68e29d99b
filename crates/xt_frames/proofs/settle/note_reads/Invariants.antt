use Rattle.std.proofs.Common.{◌≡◌, map}
use Rattle.xt_syntax.specs.PartView.{place_of}
use Rattle.xt_questions.specs.View.{read_of}
use Rattle.xt_progress.specs.View.{going_of}
use Rattle.xt_frames.specs.Noted.{read_in}
use Rattle.xt_frames.proofs.settle.note_reads.Given as goal

-- what was read so far is noted
abbrev pub invariant-loop-read : goal.invariant-loop-read
invariant-loop-read l = going_of l.going ≡ read_in (place_of l.place) (map read_of l.yielded) (going_of l.fn.going)
