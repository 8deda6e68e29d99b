use Rattle.std.proofs.Common.{◌≡◌, ◌∙◌, ap, codes, sym}
use Rattle.std.specs.Str.{chars}
use Rattle.spec_stylesheet.specs.Instruction as made
use Rattle.spec_compile.specs.Content.{expr_at, text_among}
use Rattle.xt_syntax.specs.View.{expr_of}
use Rattle.xt_attributes.specs.View.{entries_in}
use Rattle.xt_tree.specs.View.{forest_of}
use Rattle.xt_content.specs.Kind.{simple_of}
use Rattle.xt_content.proofs.instruction.simple.Goals as goal

pub returns-in_ok-expr_at-in-ValueOf : goal.returns-in_ok-expr_at-in-ValueOf
unfolding chars
returns-in_ok-expr_at-in-ValueOf c =
    let old = entries_in c.args.entries.now in
    let select : expr_of c.in_ok-expr_at-in-ValueOf.field-0 ≡ expr_at (codes "select") old = c.in_ok-expr_at-in-ValueOf.ensures.taken in
    ap made.ValueOf select ∙ ap (λ kind. simple_of kind old (text_among (forest_of c.args.nodes.now))) (sym c.in-ValueOf.is)

pub returns-in_ok-expr_at-in-CopyOf : goal.returns-in_ok-expr_at-in-CopyOf
unfolding chars
returns-in_ok-expr_at-in-CopyOf c =
    let old = entries_in c.args.entries.now in
    let select : expr_of c.in_ok-expr_at-in-CopyOf.field-0 ≡ expr_at (codes "select") old = c.in_ok-expr_at-in-CopyOf.ensures.taken in
    ap made.CopyOf select ∙ ap (λ kind. simple_of kind old (text_among (forest_of c.args.nodes.now))) (sym c.in-CopyOf.is)
