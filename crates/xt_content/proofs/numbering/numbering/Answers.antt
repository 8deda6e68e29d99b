use Rattle.std.proofs.Common.{◌≡◌, ◌∙◌, codes, refl}
use Rattle.std.specs.Option.{option_map}
use Rattle.std.specs.Str.{chars}
use Rattle.spec_compile.specs.Content.{avt_at, source_of}
use Rattle.spec_compile.specs.Value.{at, avt_in}
use Rattle.xt_syntax.specs.PartView.{avt_of, number_source_of}
use Rattle.xt_attributes.specs.View.{entries_in}
use Rattle.xt_content.proofs.Kept.{kept_at, source_kept}
use Rattle.xt_content.proofs.numbering.numbering.Goals as goal

pub returns : goal.returns
unfolding chars
returns c =
    let old = entries_in c.args.entries.now in
    let format : avt_of c.in_ok-format.format ≡ avt_at (codes "format") (codes "1") old = c.in_ok-format.ensures.taken in
    let separator : option_map avt_of c.take_avt-grouping_separator.result ≡ at avt_in (codes "grouping-separator") old
    = c.take_avt-grouping_separator.ensures.taken
    ∙ kept_at avt_in (codes "format") (codes "grouping-separator") _ _ c.in_ok-format.ensures.others refl in
    let size : option_map avt_of c.take_avt-grouping_size.result ≡ at avt_in (codes "grouping-size") old
    = c.take_avt-grouping_size.ensures.taken
    ∙ kept_at avt_in (codes "grouping-separator") (codes "grouping-size") _ _ c.take_avt-grouping_separator.ensures.others refl
    ∙ kept_at avt_in (codes "format") (codes "grouping-size") _ _ c.in_ok-format.ensures.others refl in
    let source : number_source_of c.source-source.result ≡ source_of old
    = c.source-source.ensures
    ∙ source_kept (codes "grouping-size") _ _ c.take_avt-grouping_size.ensures.others refl refl refl refl
    ∙ source_kept (codes "grouping-separator") _ _ c.take_avt-grouping_separator.ensures.others refl refl refl refl
    ∙ source_kept (codes "format") _ _ c.in_ok-format.ensures.others refl refl refl refl in
    λ i. record { source = source i; format = format i; grouping_separator = separator i; grouping_size = size i }
