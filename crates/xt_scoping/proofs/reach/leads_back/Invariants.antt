use Rattle.std.proofs.Common.{◌-◌}
use Rattle.xt_scoping.specs.Reach.{names_at, used_in}
use Rattle.xt_scoping.proofs.Reaching.{IsSearched}
use Rattle.xt_scoping.proofs.reach.leads_back.Given as goal

abbrev pub invariant-loop-round : goal.invariant-loop-round
invariant-loop-round l =
    IsSearched (used_in l.graph) l.set.sets.items l.rounds (l.rounds - l._round) l.seen (names_at l.new.items)
