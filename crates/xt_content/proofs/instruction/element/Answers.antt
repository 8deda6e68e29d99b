use Rattle.std.proofs.Common.{◌≡◌, ◌∙◌, codes, refl}
use Rattle.std.specs.Str.{chars}
use Rattle.spec_stylesheet.specs.Instruction as made
use Rattle.spec_compile.specs.Content as spec
use Rattle.xt_syntax.specs.PartView.{made_name_of}
use Rattle.xt_attributes.specs.View.{entries_in}
use Rattle.xt_content.proofs.Kept.{made_name_kept}
use Rattle.xt_content.proofs.instruction.element.Goals as goal

pub returns : goal.returns
unfolding chars
returns c =
    let old = entries_in c.args.entries.now in
    let sets : c.names_at-sets.result.items ≡ spec.sets_at (codes "use-attribute-sets") old = c.names_at-sets.ensures.taken in
    let name : made_name_of c.in_ok-name.name ≡ spec.made_name old
    = c.in_ok-name.ensures ∙ made_name_kept (codes "use-attribute-sets") _ _ c.names_at-sets.ensures.others refl refl in
    λ i. made.Element (name i) (sets i)
