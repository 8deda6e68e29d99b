use Rattle.std.proofs.Common.{refl}
use Rattle.xt_content.proofs.Standing.{stands}
use Rattle.xt_content.proofs.Steps.{answers_give, answers_stop, answers_then, exits}
use Rattle.xt_content.proofs.met.meet_extension.Goals as goal

pub returns-in_err-standing_at : goal.returns-in_err-standing_at
returns-in_err-standing_at c =
    let read = rw c.extension_rows.ensures at c.xslt_attributes_of-read.ensures in
    exits _ c.from_residual.ensures.1 (answers_stop _ (stands c.args.path.now _ _ c.in_err-standing_at.ensures read))

pub returns : goal.returns
returns c =
    let read = rw c.extension_rows.ensures at c.xslt_attributes_of-read.ensures in
    answers_then _ (stands c.args.path.now _ _ c.in_ok-standing_at.ensures read) (answers_give refl)
