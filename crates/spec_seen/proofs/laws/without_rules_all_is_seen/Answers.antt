use Rattle.std.proofs.Common.{[], refl, ap}
use Rattle.spec_seen.specs.Seen.{at_root}
use Rattle.spec_seen.proofs.Seeing.{all_seen}
use Rattle.spec_seen.proofs.laws.without_rules_all_is_seen.Goals as goal

pub returns : goal.returns
returns c document = ap (λ nodes. record { root = document.root; nodes = nodes }) (all_seen [] at_root refl refl document.nodes)
