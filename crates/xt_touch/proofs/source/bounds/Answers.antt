use Rattle.xt_edit.specs.Telling.{numbers_in}
use Rattle.xt_touch.proofs.Within.{both_within}
use Rattle.xt_touch.proofs.source.bounds.Goals as goal

pub returns : goal.returns
returns c =
    both_within (numbers_in c.args.nodes.now) (numbers_in c.args.others.now) _
    (λ n among. c.with_all-2.ensures.before n (c.with_all.ensures.nodes n among)) c.with_all-2.ensures.nodes
