use Rattle.std.proofs.Common.{◌≡◌, [], map, reverse, drop, None}
use Rattle.std.specs.Option.{option_map}
use Rattle.xt_build.specs.View.{located_of}
use Rattle.spec_document.proofs.Balanced.{scan}
use Rattle.xt_build.proofs.balance.unbalanced.Given as goal

abbrev pub invariant-loop-located : goal.invariant-loop-located
invariant-loop-located l =
    scan (option_map (λ e. e.now) l.before) (reverse (map (λ name. name.now) l.open.items)) (map located_of (drop l.located-index l.events))
    ≡ scan None [] (map located_of l.events)
