use Rattle.std.proofs.Common.{◌≡◌, ◌∙◌, ap, codes, map, refl, unwrap_or}
use Rattle.std.specs.Option.{option_map}
use Rattle.std.specs.Str.{chars}
use Rattle.spec_stylesheet.specs.Instruction as made
use Rattle.spec_compile.specs.Content.{children_nodes}
use Rattle.spec_compile.specs.Value.{at, expr_in, name_in}
use Rattle.xt_syntax.specs.InstrView.{binding_of}
use Rattle.xt_syntax.specs.PartView.{sort_key_of}
use Rattle.xt_syntax.specs.View.{expr_of}
use Rattle.xt_attributes.specs.View.{entries_in}
use Rattle.xt_content.proofs.Kept.{kept_at}
use Rattle.xt_content.proofs.Views.{view-ApplyTemplates}
use Rattle.xt_content.proofs.instruction.apply_templates.Goals as goal

pub returns : goal.returns
unfolding chars
returns c =
    let old = entries_in c.args.entries.now in
    let taken : option_map expr_of c.take_expr.result ≡ at expr_in (codes "select") old = c.take_expr.ensures.taken in
    let select : expr_of c.in_ok-select.select ≡ unwrap_or (at expr_in (codes "select") old) children_nodes
    = c.in_ok-select.ensures ∙ ap (λ o. unwrap_or o children_nodes) taken in
    let mode : c.take_name-mode.result ≡ at name_in (codes "mode") old
    = c.take_name-mode.ensures.taken ∙ kept_at name_in (codes "select") (codes "mode") _ _ c.take_expr.ensures.others refl in
    view-ApplyTemplates _ _
    ∙ (λ i. made.apply_templates (record { select = select i; mode = mode i; keys = map sort_key_of (c.in_ok-keys.ensures.ok i).items }) (made.bindings (map binding_of (c.in_ok-parameters.ensures.ok i).items)))
