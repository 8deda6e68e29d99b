use Rattle.std.proofs.Common.{◌≡◌, drop, map}
use Rattle.std.specs.List.{list_any}
use Rattle.xt_syntax.specs.PartView.{alternative_of}
use Rattle.xt_match.specs.Fitting.{alternative_fits}
use Rattle.xt_match.specs.Tabled.{called_of}
use Rattle.xt_match.proofs.fitting.one_fits.Given as goal

abbrev pub invariant-loop-alternative : goal.invariant-loop-alternative
invariant-loop-alternative l =
    list_any (alternative_fits (called_of l.called)) (map alternative_of (drop l.alternative-index l.alternatives))
    ≡ list_any (alternative_fits (called_of l.called)) (map alternative_of l.alternatives)
