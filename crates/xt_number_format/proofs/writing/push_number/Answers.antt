use Rattle.std.proofs.Common.{◌++◌, ap, ◌∙◌}
use Rattle.std.proofs.lemmas.Result.{on_ok_weaker}
use Rattle.xt_number_format.proofs.writing.push_number.Goals as goal

pub returns : goal.returns
returns c =
    on_ok_weaker c.push_str.result
    (λ pushed. pushed ∙ ap (λ t. c.args.text.now ++ t) (c.as_str.ensures.characters ∙ c.in_ok-written.ensures))
    c.push_str.ensures.ok
