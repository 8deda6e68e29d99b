use Rattle.std.proofs.Common.{◌≡◌, ◌∙◌, None, Some, ap, codes, refl, sym}
use Rattle.std.specs.Option.{option_map}
use Rattle.std.specs.Str.{chars}
use Rattle.spec_compile.specs.Value.{at, expr_in}
use Rattle.xt_syntax.specs.View.{expr_of}
use Rattle.xt_syntax.specs.PartView.{count_of}
use Rattle.xt_attributes.specs.View.{entries_in}
use Rattle.xt_content.specs.Kind.{counting}
use Rattle.xt_content.proofs.Kept.{counting_kept, source_by, source_is}
use Rattle.xt_content.proofs.numbering.source.Goals as goal

pub returns-in-Some : goal.returns-in-Some
unfolding chars
returns-in-Some c =
    let old = entries_in c.args.entries.now in
    let taken : option_map expr_of c.take_expr.result ≡ at expr_in (codes "value") old = c.take_expr.ensures.taken in
    let value : Some (expr_of c.in-Some.value) ≡ at expr_in (codes "value") old = ap (option_map expr_of) (sym c.in-Some.is) ∙ taken in
    ap (λ o. source_by o (counting old)) value ∙ sym (source_is old)

pub returns-in-None : goal.returns-in-None
unfolding chars
returns-in-None c =
    let old = entries_in c.args.entries.now in
    let taken : option_map expr_of c.take_expr.result ≡ at expr_in (codes "value") old = c.take_expr.ensures.taken in
    let value : at expr_in (codes "value") old ≡ None = sym taken ∙ ap (option_map expr_of) c.in-None.is in
    let count : count_of c.counting.result ≡ counting old
    = c.counting.ensures ∙ counting_kept (codes "value") _ _ c.take_expr.ensures.others refl refl refl in
    (λ i. source_by (sym value i) (count i)) ∙ sym (source_is old)
