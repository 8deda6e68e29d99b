use Rattle.std.proofs.Common.{◌∙◌, ◌++◌, ◌/◌, ◌%◌, [], ap, replicate, get_or}
use Rattle.std.specs.Str.{chars}
use Rattle.spec_format.specs.Format.{roman, hundreds, tens, ones}
use Rattle.xt_number_format.proofs.numerals.roman.Goals as goal

pub returns : goal.returns
unfolding roman chars
returns c =
    let n = c.args.number in
    c.in_ok-push_word-3.ensures
    ∙ ap (λ t. t ++ get_or ones (n % 10) [])
    (c.in_ok-push_word-2.ensures
    ∙ ap (λ t. t ++ get_or tens (n / 10 % 10) [])
    (c.in_ok-push_word.ensures
    ∙ ap (λ t. t ++ get_or hundreds (n / 100 % 10) []) (c.in_ok-push_repeated.ensures ∙ ap (λ t. t ++ replicate (n / 1000) 0x4D) c.new-text.ensures)))
