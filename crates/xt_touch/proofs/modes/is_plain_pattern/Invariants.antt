use Rattle.std.proofs.Common.{◌≡◌, drop, map}
use Rattle.std.specs.List.{list_all}
use Rattle.spec_touch.specs.Plain.{is_plain_alternative}
use Rattle.xt_syntax.specs.PartView.{alternative_of}
use Rattle.xt_touch.proofs.modes.is_plain_pattern.Given as goal

abbrev pub invariant-loop-alternative : goal.invariant-loop-alternative
invariant-loop-alternative l =
    list_all is_plain_alternative (map alternative_of (drop l.alternative-index l.pattern.alternatives.items))
    ≡ list_all is_plain_alternative (map alternative_of l.pattern.alternatives.items)
