use Rattle.std.proofs.Common.{◌≡◌, ◌∙◌, ◌∷◌, [], ap, codes, refl, unwrap_or}
use Rattle.std.specs.Str.{chars}
use Rattle.spec_compile.specs.Content.{ASortKey, avt_at, expr_at, fixed, itself}
use Rattle.spec_compile.specs.Value.{avt_in, expr_in}
use Rattle.xt_syntax.specs.PartView.{avt_of, site_of}
use Rattle.xt_syntax.specs.View.{expr_of}
use Rattle.xt_attributes.specs.View.{entries_in}
use Rattle.xt_content.proofs.Kept.{kept_at}
use Rattle.xt_content.proofs.binding.sort_key_of.Goals as goal

pub returns : goal.returns
unfolding chars
returns c =
    let old = entries_in c.args.entries.now in
    let data_type : avt_of c.in-Ok.data_type ≡ avt_at (codes "data-type") (codes "text") old = c.in-Ok.ensures.taken in
    let order : avt_of c.in-Ok-avt_at.order ≡ avt_at (codes "order") (codes "ascending") old
    = c.in-Ok-avt_at.ensures.taken
    ∙ ap (λ o. unwrap_or o (fixed (codes "ascending"))) (kept_at avt_in (codes "data-type") (codes "order") _ _ c.in-Ok.ensures.others refl) in
    let select : expr_of c.in-Ok-expr_at.select ≡ expr_at (codes "select") old
    = c.in-Ok-expr_at.ensures.taken
    ∙ ap (λ o. unwrap_or o itself) (kept_at expr_in (codes "order") (codes "select") _ _ c.in-Ok-avt_at.ensures.others refl
    ∙ kept_at expr_in (codes "data-type") (codes "select") _ _ c.in-Ok.ensures.others refl) in
    λ i. ASortKey (record { site = site_of c.args.site; select = select i; data_type = data_type i; order = order i }) ∷ []
