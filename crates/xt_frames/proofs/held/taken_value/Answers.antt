use Rattle.std.proofs.Common.{[], ap, ◌∙◌}
use Rattle.spec_meaning.specs.Stream.{filled}
use Rattle.spec_meaning.specs.Value.{Fragment}
use Rattle.xt_frames.proofs.held.taken_value.Goals as goal

pub returns-clause-value : goal.returns-clause-value
returns-clause-value c = ap Fragment (c.in_ok-fragment.ensures ∙ ap (λ s. filled s []) c.in_ok-items.ensures.taken)
