use Rattle.std.proofs.Common.{refl}
use Rattle.xt_content.proofs.Standing.{stands}
use Rattle.xt_content.proofs.Steps.{answers_give, answers_stop, answers_then, exits}
use Rattle.xt_content.proofs.met.meet_other.Goals as goal

pub returns-in_err-tag : goal.returns-in_err-tag
returns-in_err-tag c = exits _ c.from_residual.ensures.1 (answers_stop _ (stands c.args.path.now _ _ c.in_err-tag.ensures c.tag_of-read.ensures))

pub returns : goal.returns
returns c = answers_then _ (stands c.args.path.now _ _ c.in_ok-tag.ensures c.tag_of-read.ensures) (answers_give refl)
