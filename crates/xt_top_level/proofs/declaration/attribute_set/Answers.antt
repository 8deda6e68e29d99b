use Rattle.std.proofs.Common.{◌∙◌, [], Some, ap, codes, refl, unwrap_or}
use Rattle.std.specs.Option.{option_and_then}
use Rattle.std.specs.Str.{chars}
use Rattle.spec_compile.specs.Unit.{ASet}
use Rattle.spec_compile.specs.Value.{names_in}
use Rattle.xt_top_level.proofs.declaration.attribute_set.Goals as goal

pub returns : goal.returns
unfolding chars
returns c =
    let name = c.name_at-name.ensures.taken in
    let sets = c.names_at-sets.ensures.taken
    ∙ ap (λ o. unwrap_or (option_and_then names_in o) []) (c.name_at-name.ensures.others (codes "use-attribute-sets") refl) in
    λ i. Some (ASet (record { name = name i; sets = sets i; attributes = c.in_ok-attributes.ensures i }))
