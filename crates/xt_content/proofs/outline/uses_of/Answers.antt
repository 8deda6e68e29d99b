use Rattle.std.proofs.Common.{◌≡◌, ◌∙◌, ◌++◌, ap, codes}
use Rattle.std.specs.List.{flat_map}
use Rattle.std.specs.Str.{chars}
use Rattle.spec_compile.specs.Content.{sets_at, templates_by, variables_by}
use Rattle.xt_attributes.specs.View.{entries_in}
use Rattle.xt_content.proofs.outline.uses_of.Goals as goal

pub returns : goal.returns
unfolding chars
returns c =
    let entries = entries_in c.args.entries.now in
    let variables : c.add_variables.new.into.items ≡ flat_map (λ e. variables_by e.value) entries
    = c.in_ok-add_variables.ensures ∙ ap (λ list. list ++ flat_map (λ e. variables_by e.value) entries) c.new-variables.ensures.items in
    let templates : c.in_ok-templates.templates.items ≡ templates_by c.args.element entries = c.in_ok-templates.ensures in
    let sets : c.in_ok-sets.sets.items ≡ sets_at (codes "use-attribute-sets") entries = c.in_ok-sets.ensures in
    λ i. record { variables = variables i; templates = templates i; sets = sets i }
