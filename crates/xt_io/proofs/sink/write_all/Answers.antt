use Rattle.std.proofs.Common.{refl, ◌∙◌}
use Rattle.xt_io.proofs.Written.{Appends-rest, within_rest}
use Rattle.xt_io.proofs.sink.write_all.Goals as goal

pub loop-done-preserved : goal.loop-done-preserved
loop-done-preserved g c =
    let wrote = c.in_ok-done.ensures {u = tt} in (
      within_rest c.loop-done.done c.in_ok-done.field-0 c.args.piece.now c.loop-done.invariant.0 wrote.within,
      Appends-rest _ _ _ c.loop-done.done c.in_ok-done.field-0 c.args.piece.now c.loop-done.invariant.1 wrote.bytes,
      wrote.cause.fine refl ∙ c.loop-done.invariant.2,
    )
