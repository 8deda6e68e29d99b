use Rattle.std.proofs.Common.{ap, not}
use Rattle.std.specs.Prelude.{◌||◌}
use Rattle.xt_spared.specs.View.{by_itself, is_key_among}
use Rattle.xt_spared.proofs.spared.Spared.spares_all.Goals as goal

pub returns : goal.returns
returns c = λ none question h.
    by_itself (ap (λ b. not b || is_key_among c.args.self.now.keys.items question) (c.spares_all.ensures none question h))
