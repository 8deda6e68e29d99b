use Rattle.std.proofs.Common.{◌∙◌, ◌++◌, ◌-◌, ap, replicate}
use Rattle.std.specs.Str.{chars}
use Rattle.xt_number_format.proofs.numerals.padded.Goals as goal

pub returns : goal.returns
returns c =
    c.in_ok-push_str.ensures.ok
    ∙ ap (λ t. t ++ chars c.args.digits.now)
    (c.in_ok-push_repeated.ensures ∙ ap (λ t. t ++ replicate c.saturating_sub-zeros.result 0x30) c.new-text.ensures
    ∙ ap (λ n. replicate n 0x30) (c.saturating_sub-zeros.ensures ∙ ap (λ n. c.args.width - n) c.count_characters.ensures))
