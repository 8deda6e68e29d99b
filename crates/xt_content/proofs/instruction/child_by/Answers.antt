use Rattle.std.proofs.Common.{◌≡◌, ◌∙◌, ◌∷◌, [], ap, codes, sym}
use Rattle.std.specs.Option.{option_map}
use Rattle.std.specs.Str.{chars}
use Rattle.spec_compile.specs.Content as spec
use Rattle.spec_compile.specs.Value.{at, expr_in}
use Rattle.xt_syntax.specs.PartView.{site_of}
use Rattle.xt_syntax.specs.View.{expr_of}
use Rattle.xt_attributes.specs.View.{entries_in}
use Rattle.xt_content.specs.Kind.{child_by}
use Rattle.xt_content.specs.View.{child_if, children_in}
use Rattle.xt_tree.specs.View.{forest_of}
use Rattle.xt_content.proofs.Natures.{if_ok_is}
use Rattle.xt_content.proofs.instruction.child_by.Goals as goal

pub returns-in-When : goal.returns-in-When
unfolding chars
returns-in-When c =
    let old = entries_in c.args.entries.now in
    let site = site_of c.args.site in
    let children = children_in c.args.children.items in
    let test : option_map expr_of c.take_expr-test.result ≡ at expr_in (codes "test") old = c.take_expr-test.ensures.taken in
    if_ok_is child_if c.branch_of.result
    (ap (λ o. spec.ABranch (spec.branch_of site o children) ∷ []) test
    ∙ ap (λ kind. child_by kind site old (spec.text_among (forest_of c.args.nodes.now)) children) (sym c.in-When.is)) c.branch_of.ensures
