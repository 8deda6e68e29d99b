use Rattle.std.proofs.Common.{◌≡◌, ◌++◌, drop, length, map, take}
use Rattle.xt_content.specs.View.{outlined_in, outlines}
use Rattle.xt_scoping.specs.Steps.{outline_at}
use Rattle.xt_scoping.specs.View.{found_in}
use Rattle.xt_scoping.proofs.outline.+below.Given as goal

abbrev pub invariant-report_siblings-loop-element : goal.invariant-report_siblings-loop-element
invariant-report_siblings-loop-element l = record {
  locals : take (length l.fn.locals) l.locals ≡ l.fn.locals;
  found : found_in l.found.items ++ outline_at l.known l.locals (outlines (map outlined_in (drop l.element-index l.elements)))
      ≡ found_in l.fn.found.items ++ outline_at l.known l.fn.locals (outlines (map outlined_in l.elements));
}
