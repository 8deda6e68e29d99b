use Rattle.std.proofs.Common.{refl, ap}
use Rattle.spec_seen.specs.Seen.{at_root}
use Rattle.spec_seen.proofs.Seeing.{all_seen}
use Rattle.spec_seen.proofs.laws.where_no_rule_strips_all_is_seen.Goals as goal

pub returns : goal.returns
returns c rules document none = ap (λ nodes. record { root = document.root; nodes = nodes }) (all_seen rules at_root none refl document.nodes)
