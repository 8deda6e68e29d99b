use Rattle.std.proofs.Common.{◌∙◌, ◌++◌, sym, ap, take}
use Rattle.std.specs.Str.{chars}
use Rattle.std.specs.List.{concat}
use Rattle.xp_text.proofs.Loops.{concat_more}
use Rattle.xp_text.proofs.rewriting.concat.Goals as goal

pub loop-part-preserved : goal.loop-part-preserved
loop-part-preserved c =
    let parts = c.args.parts.now in
    let i = c.loop-part.part-index in
    c.in_ok-push_str.ensures.ok ∙ ap (λ t. t ++ chars c.as_str.result.now) c.loop-part.invariant
    ∙ ap (λ t. concat (take i parts) ++ t) c.as_str.ensures.characters
    ∙ sym (concat_more parts i c.part-item.result c.loop-part-test.true c.part-item.is)
