use Rattle.std.proofs.Common.{List, Option, Some, Vec, Global, map, ap, sym, ◌∙◌}
use Rattle.std.specs.Prelude.{option_map}
use Rattle.std.specs.Str.{chars}
use Rattle.spec_expression.specs.Token as plain
use Rattle.xp_parse.specs.View.{token_of}
use Rattle.xp_parse.specs.declared.token.Token.{Token}
use Rattle.xt_pattern.proofs.Texts.{parsed_some, parsed_none}
use Rattle.xt_pattern.proofs.text.parse_pattern.Goals as goal

pub returns-in-Some : goal.returns-in-Some
returns-in-Some c =
    let seen : Option (Vec Token Global) → Option (List plain.Token) = λ o. option_map (λ v. map token_of v.items) o in
    let all : List Token → Option (List plain.Token) = λ l. Some (map token_of l) in
    parsed_some c.args.scope.now (chars c.args.text.now) (map token_of c.as_slice.result.now) c.tree.result
    (sym c.in_ok-tokens.ensures ∙ ap seen c.in-Some.is ∙ ap all (sym c.as_slice.ensures.value)) c.tree.ensures

pub returns-in-None : goal.returns-in-None
returns-in-None c =
    let seen : Option (Vec Token Global) → Option (List plain.Token) = λ o. option_map (λ v. map token_of v.items) o in
    parsed_none c.args.scope.now (chars c.args.text.now) (sym c.in_ok-tokens.ensures ∙ ap seen c.in-None.is)
