use Rattle.std.proofs.Common.{◌≡◌, ◌∙◌, [], codes, refl}
use Rattle.std.specs.Option.{option_map}
use Rattle.std.specs.Str.{chars}
use Rattle.spec_compile.specs.Content.{avt_at}
use Rattle.spec_compile.specs.Value.{at, avt_in}
use Rattle.xt_syntax.specs.PartView.{avt_of}
use Rattle.xt_attributes.specs.View.{entries_in}
use Rattle.xt_content.proofs.Kept.{kept_at}
use Rattle.xt_content.proofs.instruction.made_name.Goals as goal

pub returns : goal.returns
unfolding chars
returns c =
    let name : avt_of c.in_ok-name.name ≡ avt_at (codes "name") [] (entries_in c.args.entries.now) = c.in_ok-name.ensures.taken in
    let namespace : option_map avt_of c.take_avt-namespace.result ≡ at avt_in (codes "namespace") (entries_in c.args.entries.now)
    = c.take_avt-namespace.ensures.taken ∙ kept_at avt_in (codes "name") (codes "namespace") _ _ c.in_ok-name.ensures.others refl in
    λ i. record { name = name i; namespace = namespace i }
