use Rattle.std.proofs.Common.{◌∙◌, ap, sym}
use Rattle.xt_content.specs.View.{element_if, outline_in, outlines}
use Rattle.xt_content.specs.Visit.{followed}
use Rattle.xt_content.proofs.Siblings.{followed_nothing}
use Rattle.xt_content.proofs.Outlines.{outlines_more}
use Rattle.xt_content.proofs.child.push_element.Goals as goal

pub returns-in-None : goal.returns-in-None
returns-in-None c =
    sym (followed_nothing (outline_in c.args.outline.now)) ∙ ap (λ o. followed (outline_in c.args.outline.now) (outlines (element_if o))) (sym c.in-None.is)

pub returns-in_ok-push-in-Some : goal.returns-in_ok-push-in-Some
returns-in_ok-push-in-Some c =
    outlines_more c.args.outline.now c.push.new.self c.in-Some.element c.in_ok-push-in-Some.ensures.items
    ∙ ap (λ o. followed (outline_in c.args.outline.now) (outlines (element_if o))) (sym c.in-Some.is)
