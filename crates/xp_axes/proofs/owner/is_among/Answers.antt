use Rattle.std.proofs.Common.{sym, ap, ◌∙◌, arith, is_some}
use Rattle.spec_document.specs.Place.{at_number}
use Rattle.xp_axes.proofs.Owned.{none_at_zero, none_above, some_up_to}
use Rattle.xp_axes.proofs.owner.is_among.Goals as goal

pub returns-then-number-eq0 : goal.returns-then-number-eq0
returns-then-number-eq0 c xs e = sym (ap (λ n. is_some (at_number n xs)) c.if-number-eq0.true ∙ none_at_zero xs)

pub returns-then-number-count : goal.returns-then-number-count
returns-then-number-count c xs e = sym (none_above c.args.number xs (omega (arith, e, c.if-number-count.true)))

pub returns : goal.returns
returns c xs e = sym (some_up_to c.args.number xs c.if-number-eq0.false (omega (arith, e, c.if-number-count.false)))
