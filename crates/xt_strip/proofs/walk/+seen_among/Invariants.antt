use Rattle.std.proofs.Common.{◌≡◌, drop, map, take}
use Rattle.std.specs.Option.{unwrap_or}
use Rattle.spec_document.specs.Forest.{followed}
use Rattle.spec_seen.specs.Seen as spec
use Rattle.xt_syntax.specs.SheetView.{space_rule_of}
use Rattle.xt_strip.specs.View.{around_of}
use Rattle.xt_tree.specs.View.{forest_of}
use Rattle.xt_strip.proofs.walk.+seen_among.Given as goal

abbrev pub invariant-seen_among-loop-i : goal.invariant-seen_among-loop-i
invariant-seen_among-loop-i l =
    followed (unwrap_or l.seen (forest_of (take l.i l.siblings)))
    (spec.seen_among (map space_rule_of l.fn.rules) (around_of l.fn.around) (forest_of (drop l.i l.siblings)))
    ≡ spec.seen_among (map space_rule_of l.fn.rules) (around_of l.fn.around) (forest_of l.siblings)
