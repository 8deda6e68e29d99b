use Rattle.std.proofs.Common.{◌≡◌, ◌∙◌, pos}
use Rattle.std.specs.Str.{chars}
use Rattle.std.proofs.lemmas.Result.{IfOk-weaker}
use Rattle.std.proofs.lemmas.Str.{chars-IsAscii}
use Rattle.spec_expression.specs.Number.{Whole, text_of}
use Rattle.xt_number_format.proofs.numerals.decimal.Goals as goal

pub returns : goal.returns
returns c =
    IfOk-weaker c.from_str.result (λ t. t ≡ chars c.format.result.now) (λ t. t ≡ text_of (Whole (pos c.args.number)))
    (λ t e. e ∙ chars-IsAscii _ c.format.ensures.ascii ∙ c.format.ensures.text)
    c.from_str.ensures
