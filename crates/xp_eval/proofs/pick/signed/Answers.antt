use Rattle.std.proofs.Common.{ap, sym, ◌∙◌, add-one}
use Rattle.spec_expression.specs.Number.{negation_of}
use Rattle.spec_meaning.specs.Meaning.{signed}
use Rattle.xp_eval.proofs.pick.signed.Goals as goal

pub loop-preserved : goal.loop-preserved
loop-preserved c = c.neg-value.ensures ∙ ap negation_of c.loop.invariant ∙ ap (λ k. signed k c.args.number) (sym (add-one c.loop.counter))
