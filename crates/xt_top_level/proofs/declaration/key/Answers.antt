use Rattle.std.proofs.Common.{◌∙◌, Some, ap, codes, refl, unwrap_or}
use Rattle.std.specs.Option.{option_and_then}
use Rattle.std.specs.Str.{chars}
use Rattle.spec_compile.specs.Content.{nowhere}
use Rattle.spec_compile.specs.Unit.{AKey, no_pattern}
use Rattle.spec_compile.specs.Value.{name_in, pattern_in}
use Rattle.xt_top_level.proofs.declaration.key.Goals as goal

pub returns : goal.returns
unfolding chars
returns c =
    let past_use = c.in_ok-value.ensures.others in
    let value = c.in_ok-value.ensures.taken in
    let name = c.name_at-name.ensures.taken ∙ ap (λ o. unwrap_or (option_and_then name_in o) nowhere) (past_use (codes "name") refl) in
    let pattern = c.or_no_pattern-pattern.ensures
    ∙ ap (λ o. unwrap_or o no_pattern)
    (c.take_pattern.ensures.taken ∙ ap (option_and_then pattern_in) (c.name_at-name.ensures.others (codes "match") refl ∙ past_use (codes "match") refl)) in
    λ i. Some (AKey (record { name = name i; pattern = pattern i; value = value i }))
