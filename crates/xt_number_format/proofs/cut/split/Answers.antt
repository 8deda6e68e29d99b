use Rattle.std.proofs.Common.{ap, sym, ◌∙◌}
use Rattle.std.proofs.lemmas.Iterator.{YieldsList-from_chars}
use Rattle.std.proofs.lemmas.Iterator.Consumers.{YieldsList-end}
use Rattle.std.proofs.lemmas.List.{map-id}
use Rattle.std.proofs.lemmas.Result.{IfOk-weaker}
use Rattle.spec_format.specs.Format as spec
use Rattle.xt_number_format.proofs.cut.split.Goals as goal

pub returns : goal.returns
unfolding spec.split
returns c =
    let end = YieldsList-end (YieldsList-from_chars c.args.format.now c.utf8.format cc) c.loop-character.yielded _ c.loop-character.yielded_by _ _
    c.in-None.is c.next.ensures.steps in
    IfOk-weaker c.into_format.result _ _
    (λ f is. is ∙ ap (λ whole. spec.format_from whole.parts whole.behind)
    (c.loop-character.invariant ∙ ap spec.cut (sym (map-id c.loop-character.yielded) ∙ end.0)))
    c.into_format.ensures
