use Rattle.std.proofs.Common.{◌≡◌, ◌∙◌, codes, refl}
use Rattle.std.specs.Option.{option_map}
use Rattle.std.specs.Str.{chars}
use Rattle.spec_compile.specs.Content.{name_at}
use Rattle.spec_compile.specs.Value.{at, expr_in}
use Rattle.xt_syntax.specs.PartView.{site_of}
use Rattle.xt_syntax.specs.View.{expr_of}
use Rattle.xt_attributes.specs.View.{entries_in}
use Rattle.xt_content.proofs.Kept.{kept_at}
use Rattle.xt_content.proofs.Views.{view-Binding}
use Rattle.xt_content.proofs.binding.binding_of.Goals as goal

pub returns : goal.returns
unfolding chars
returns c =
    let old = entries_in c.args.entries.now in
    let name : c.name_at-name.result ≡ name_at (codes "name") old = c.name_at-name.ensures.taken in
    let select : option_map expr_of c.take_expr-select.result ≡ at expr_in (codes "select") old
    = c.take_expr-select.ensures.taken ∙ kept_at expr_in (codes "name") (codes "select") _ _ c.name_at-name.ensures.others refl in
    view-Binding _ _ _ _ ∙ (λ i. record { site = site_of c.args.site; name = name i; select = select i; content = c.in-Ok.ensures i })
