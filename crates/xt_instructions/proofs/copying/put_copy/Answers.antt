use Rattle.std.proofs.Common.{sym, ap, ◌∙◌}
use Rattle.spec_run.specs.Going.{put}
use Rattle.xt_progress.specs.View.{going_of}
use Rattle.xt_frames.proofs.Performs.{put_nothing}
use Rattle.xt_instructions.proofs.Named.{no_copy}
use Rattle.xt_instructions.proofs.copying.put_copy.Goals as goal

pub returns-in_default : goal.returns-in_default
returns-in_default c =
    let g = going_of c.args.going.now in
    sym (put_nothing g) ∙ ap (λ s. put s g) (sym (no_copy c.args.answer.now c.in_default.not-Copied))
