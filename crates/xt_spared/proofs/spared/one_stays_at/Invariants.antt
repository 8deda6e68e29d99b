use Rattle.std.proofs.Common.{◌≡◌, drop}
use Rattle.std.specs.List.{list_any}
use Rattle.xt_spared.specs.View.{stays_at}
use Rattle.xt_spared.proofs.spared.one_stays_at.Given as goal

abbrev pub invariant-loop-key : goal.invariant-loop-key
invariant-loop-key l = list_any (stays_at l.name l.text) (drop l.key-index l.keys) ≡ list_any (stays_at l.name l.text) l.keys
