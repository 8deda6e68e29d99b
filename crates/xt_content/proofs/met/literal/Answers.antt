use Rattle.std.proofs.Common.{◌≡◌, ◌∙◌, ◌∷◌, [], ap}
use Rattle.spec_stylesheet.specs.Instruction as made
use Rattle.spec_compile.specs.Content as spec
use Rattle.xt_syntax.specs.PartView.{literal_tag_of}
use Rattle.xt_content.specs.View.{around_in, child_in, children_in, outlines}
use Rattle.xt_content.proofs.Views.{view-WithContent}
use Rattle.xt_content.proofs.met.literal.Goals as goal

pub returns : goal.returns
returns c =
    let site = spec.site_of (around_in c.args.around.now) c.args.path.now in
    let form = view-WithContent _ _ ∙ ap (made.with_content (made.Literal (literal_tag_of c.args.tag))) c.in-Ok.ensures in
    let child : child_in c.instruction.result ≡ spec.AnInstruction (record { site = site; form = spec.with (made.Literal (literal_tag_of c.args.tag)) (children_in c.args.below.children.items) })
    = c.instruction.ensures ∙ (λ i. spec.AnInstruction (record { site = c.in-Ok-site_of.ensures i; form = form i })) in
    λ i. record { children = child i ∷ []; outline = outlines (c.in-Ok-outlined_literal.ensures i ∷ []) }
