use Rattle.std.proofs.Common.{◌∙◌, [], Some, ap, codes, refl, unwrap_or}
use Rattle.std.specs.Option.{option_and_then}
use Rattle.std.specs.Str.{chars}
use Rattle.spec_compile.specs.Unit.{AnAlias, alias_by, alias_prefix}
use Rattle.spec_compile.specs.Value.{text_in}
use Rattle.xt_top_level.proofs.alias.alias.Goals as goal

pub returns : goal.returns
unfolding chars
returns c =
    let stylesheet = c.prefix_at-stylesheet.ensures.taken in
    let prefix = c.prefix_at-prefix.ensures.taken
    ∙ ap (λ o. alias_prefix (unwrap_or (option_and_then text_in o) [])) (c.prefix_at-stylesheet.ensures.others (codes "result-prefix") refl) in
    ap (λ a. Some (AnAlias a)) (c.in_ok-alias.ensures ∙ (λ i. alias_by c.args.scope.now (stylesheet i) (prefix i)))
