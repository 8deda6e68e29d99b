use Rattle.std.proofs.Common.{◌≡◌, ap, ◌∙◌, refl}
use Rattle.std.specs.Prelude.{codes}
use Rattle.std.specs.Fmt.{signed_decimal}
use Rattle.std.proofs.lemmas.Int.{to_z-of_z}
use Rattle.std.proofs.Common.{w64, rules}
use Rattle.std.specs.Str.{chars}
use Rattle.std.proofs.lemmas.Result.{IfOk-weaker}
use Rattle.std.proofs.lemmas.Str.{chars-IsAscii}
use Rattle.spec_expression.specs.Number.{text_of}
use Rattle.xt_base.proofs.num.Num.text.Goals as goal

pub returns-in-Some : goal.returns-in-Some
returns-in-Some c =
    IfOk-weaker c.from_str.result (λ t. t ≡ chars c.format.result.now) (λ t. t ≡ text_of c.args.self)
    (λ t e. e ∙ chars-IsAscii _ c.format.ensures.ascii ∙ c.format.ensures.text ∙ rw (← c.self.view_is, c.in-Some.is) (ap signed_decimal (to_z-of_z w64 _ (search rules))))
    c.from_str.ensures

NaN-chars : chars (codes "NaN") ≡ codes "NaN"
unfolding chars
NaN-chars = refl

pub returns-in-None : goal.returns-in-None
returns-in-None c =
    IfOk-weaker c.from_str-in-None.result (λ t. t ≡ chars (codes "NaN")) (λ t. t ≡ text_of c.args.self)
    (λ t e. e ∙ NaN-chars ∙ rw (← c.self.view_is, c.in-None.is) refl)
    c.from_str-in-None.ensures
