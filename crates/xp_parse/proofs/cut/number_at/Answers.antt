use Rattle.std.proofs.Common.{ℕ, List, [], ◌+◌, length, ap, sym, ◌∙◌}
use Rattle.std.specs.Result.{result_ok}
use Rattle.std.specs.Str.{chars}
use Rattle.spec_expression.specs.Number.{numeral}
use Rattle.spec_expression.specs.Token.{Number, begins, digits_at}
use Rattle.xp_parse.proofs.Cuts.{begins_by, behind_mark, number_point, number_whole}
use Rattle.xp_parse.proofs.cut.number_at.Goals as goal

pub returns-in-Some : goal.returns-in-Some
returns-in-Some c =
    let cs = chars c.args.text.now in
    let ds = chars c.in-Some.decimals.now in
    let point = sym c.split_digits.ensures.rest ∙ c.in-Some.ensures {u = tt} in
    let value = c.number_of.ensures ∙ ap (λ (w : List ℕ). result_ok (numeral w c.split_digits-in-Some.result.0.now)) c.split_digits.ensures.bytes
    ∙ ap (λ (f : List ℕ). result_ok (numeral (digits_at cs) f)) c.split_digits-in-Some.ensures.bytes in
    begins_by _ _ _ (length (digits_at cs) + 1 + length (digits_at ds)) cs (number_point cs ds point) (ap Number value)
    (c.split_digits-in-Some.ensures.rest ∙ behind_mark (length (digits_at cs)) (length (digits_at ds)) 0x2E cs ds point)

pub returns-in-None : goal.returns-in-None
returns-in-None c =
    let cs = chars c.args.text.now in
    let point = ap (begins 0x2E) (sym c.split_digits.ensures.rest) ∙ c.in-None.ensures {u = tt} in
    let value = c.number_of-in-None.ensures ∙ ap (λ (w : List ℕ). result_ok (numeral w [])) c.split_digits.ensures.bytes in
    begins_by _ _ _ (length (digits_at cs)) cs (number_whole cs point) (ap Number value) c.split_digits.ensures.rest
