use Rattle.xt_frames.proofs.Lefts.{if_ok}
use Rattle.xt_instructions.proofs.copying.write_plain.Goals as goal

pub returns : goal.returns
returns c = if_ok c.write_fragment.result c.write_fragment.ensures (λ next h ask. rw (c.in_ok-kept.ensures, c.advanced.ensures) at h ask)
