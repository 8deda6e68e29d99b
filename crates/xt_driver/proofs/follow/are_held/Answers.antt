use Rattle.std.proofs.Common.{List, sym, subst, ◌∙◌}
use Rattle.spec_meaning.specs.Stream.{Stream}
use Rattle.xt_record.specs.View.{AreWhole}
use Rattle.xt_driver.proofs.Standing.{if_ok}
use Rattle.xt_driver.proofs.Streams.{streams_from}
use Rattle.xt_driver.proofs.follow.are_held.Goals as goal

pub returns-clause-same : goal.returns-clause-same
returns-clause-same c = if_ok c.same_streams.result c.same_streams.ensures.same (λ b h t. streams_from c.args.parts.now c.args.first ∙ h t)

pub returns-clause-whole : goal.returns-clause-whole
returns-clause-whole c =
    let from = streams_from c.args.parts.now c.args.first in
    let W : List Stream → Type 0 = λ ss. AreWhole ss in
    if_ok c.same_streams.result c.same_streams.ensures.whole (λ b h whole same. h (subst W from whole) (sym from ∙ same))
