use Rattle.std.proofs.Common.{◌∙◌, [], ap, unwrap_or}
use Rattle.std.specs.Option.{option_and_then}
use Rattle.std.specs.Str.{chars}
use Rattle.spec_compile.specs.Unit.{ASpaceRule, tests_in}
use Rattle.xt_top_level.proofs.declaration.space_rule.Goals as goal

pub returns : goal.returns
unfolding chars
returns c =
    ap (ASpaceRule c.args.strips) (c.or_no_tests-tests.ensures ∙ ap (λ o. unwrap_or o []) (c.into_tests.ensures ∙ ap (option_and_then tests_in) c.take.ensures.taken))
