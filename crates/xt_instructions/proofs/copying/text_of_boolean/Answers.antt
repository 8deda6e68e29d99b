use Rattle.std.proofs.Common.{◌≡◌, ◌∙◌, refl}
use Rattle.std.specs.Prelude.{codes}
use Rattle.std.specs.Str.{chars}
use Rattle.std.proofs.lemmas.Result.{IfOk-weaker}
use Rattle.xt_instructions.proofs.copying.text_of_boolean.Goals as goal

true-chars : chars (codes "true") ≡ codes "true"
unfolding chars
true-chars = refl

false-chars : chars (codes "false") ≡ codes "false"
unfolding chars
false-chars = refl

pub returns-then-boolean : goal.returns-then-boolean
returns-then-boolean c =
    rw c.if-boolean.true (IfOk-weaker c.from_str.result (λ t. t ≡ chars (codes "true")) (λ t. t ≡ codes "true") (λ t e. e ∙ true-chars) c.from_str.ensures)

pub returns-else-boolean : goal.returns-else-boolean
returns-else-boolean c =
    let made = c.from_str-else-boolean in
    rw c.if-boolean.false (IfOk-weaker made.result (λ t. t ≡ chars (codes "false")) (λ t. t ≡ codes "false") (λ t e. e ∙ false-chars) made.ensures)
