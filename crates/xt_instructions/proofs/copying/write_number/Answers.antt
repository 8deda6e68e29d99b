use Rattle.std.proofs.Common.{ℕ, List, suc, length, subst}
use Rattle.spec_run.specs.Plan.{Put}
use Rattle.spec_run.specs.Content.{text_item}
use Rattle.xt_frames.specs.View.{after_body}
use Rattle.xt_frames.specs.Left.{left_in, Does}
use Rattle.xt_frames.proofs.Lefts.{if_ok}
use Rattle.xt_instructions.proofs.copying.write_number.Goals as goal

pub returns : goal.returns
returns c =
    let r = c.args.run.now in
    if_ok c.write_text.result c.write_text.ensures (λ next h ask.
    let P : List ℕ → Type 0 = λ t. Does ask (Put (text_item t) (after_body c.args.body (left_in r))) (suc (length r.frames.items)) r c.write_text.new.run next in
    subst P c.in_ok-text.ensures (rw c.advanced.ensures at h ask))
