use Rattle.std.proofs.Common.{◌≡◌, ◌∙◌, codes, refl}
use Rattle.std.specs.Option.{option_map}
use Rattle.std.specs.Str.{chars}
use Rattle.spec_compile.specs.Content.{level_of}
use Rattle.spec_compile.specs.Value.{at, pattern_in}
use Rattle.xt_syntax.specs.PartView.{pattern_of}
use Rattle.xt_attributes.specs.View.{entries_in}
use Rattle.xt_content.proofs.Kept.{kept_at}
use Rattle.xt_content.proofs.numbering.counting.Goals as goal

pub returns : goal.returns
unfolding chars
returns c =
    let level : c.level-level.result ≡ level_of (entries_in c.args.entries.now) = c.level-level.ensures in
    let count : option_map pattern_of c.take_pattern-count.result ≡ at pattern_in (codes "count") (entries_in c.args.entries.now) = c.take_pattern-count.ensures.taken in
    let from : option_map pattern_of c.take_pattern-from.result ≡ at pattern_in (codes "from") (entries_in c.args.entries.now)
    = c.take_pattern-from.ensures.taken ∙ kept_at pattern_in (codes "count") (codes "from") _ _ c.take_pattern-count.ensures.others refl in
    λ i. record { level = level i; count = count i; from = from i }
