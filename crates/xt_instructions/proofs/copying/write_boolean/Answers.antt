use Rattle.xt_frames.proofs.Lefts.{if_ok}
use Rattle.xt_instructions.proofs.copying.write_boolean.Goals as goal

pub returns : goal.returns
returns c = if_ok c.write_text.result c.write_text.ensures (λ next h ask. rw (c.in_ok-text.ensures, c.advanced.ensures) at h ask)
