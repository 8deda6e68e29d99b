use Rattle.spec_expression.specs.Token.{is_digit}
use Rattle.xp_parse.proofs.Fronts.{seam, front_is, rest_is, digits_are}
use Rattle.xp_parse.proofs.front.split_digits.Goals as goal

pub split_at-requires : goal.split_at-requires
split_at-requires c = seam is_digit c.args.text.now c.past_digits-rest.result.now c.past_digits-rest.ensures c.past_digits-rest.utf8

pub returns-clause-front : goal.returns-clause-front
returns-clause-front c =
    front_is is_digit c.args.text.now c.past_digits-rest.result.now c.split_at.result.0.now c.past_digits-rest.ensures c.utf8.text c.past_digits-rest.utf8
    c.split_at.ensures.front

pub returns-clause-bytes : goal.returns-clause-bytes
returns-clause-bytes c =
    digits_are c.args.text.now c.past_digits-rest.result.now c.split_at.result.0.now c.past_digits-rest.ensures c.utf8.text c.past_digits-rest.utf8
    c.split_at.ensures.front

pub returns-clause-rest : goal.returns-clause-rest
returns-clause-rest c = rest_is is_digit c.args.text.now c.past_digits-rest.result.now c.split_at.result.1.now c.past_digits-rest.ensures
    c.split_at.ensures.back
