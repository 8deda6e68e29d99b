use Rattle.std.proofs.Common.{◌≡◌, ◌∙◌, codes, map}
use Rattle.std.specs.Str.{chars}
use Rattle.spec_stylesheet.specs.Instruction as made
use Rattle.spec_compile.specs.Content.{name_at}
use Rattle.xt_syntax.specs.InstrView.{binding_of}
use Rattle.xt_attributes.specs.View.{entries_in}
use Rattle.xt_content.proofs.Views.{view-CallTemplate}
use Rattle.xt_content.proofs.instruction.call_template.Goals as goal

pub returns : goal.returns
unfolding chars
returns c =
    let name : c.name_at-name.result ≡ name_at (codes "name") (entries_in c.args.entries.now) = c.name_at-name.ensures.taken in
    view-CallTemplate _ _ ∙ (λ i. made.call_template (name i) (made.bindings (map binding_of (c.in_ok-parameters.ensures.ok i).items)))
