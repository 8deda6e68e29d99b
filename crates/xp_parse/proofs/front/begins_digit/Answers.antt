use Rattle.std.proofs.Common.{ℕ, List, ap, sym}
use Rattle.spec_expression.specs.Token.{is_digit, first}
use Rattle.xp_parse.proofs.Fronts.{none_of, empty_chars}
use Rattle.xp_parse.proofs.front.begins_digit.Goals as goal

pub returns-in-None : goal.returns-in-None
returns-in-None c =
    sym (ap (λ (cs : List ℕ). is_digit (first cs)) (empty_chars c.args.text.now (none_of _ c.first_of.result c.first_of.ensures c.in-None.is)))
