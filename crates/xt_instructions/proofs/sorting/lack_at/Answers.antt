use Rattle.std.proofs.Common.{◌∙◌}
use Rattle.xt_frames.proofs.Lefts.{if_ok}
use Rattle.xt_instructions.proofs.Chosen.{needs_at}
use Rattle.xt_instructions.proofs.Rows.{key_place}
use Rattle.xt_instructions.proofs.sorting.lack_at.Goals as goal

pub returns-clause-needs : goal.returns-clause-needs
returns-clause-needs c =
    let s = c.args.sorting in
    if_ok c.lack.result c.lack.ensures.needs (λ next e. needs_at (c.in-Ok.ensures ∙ key_place s c.args.number c.index.result.now c.requires (rw c.deref.ensures at c.index.ensures)) e)
