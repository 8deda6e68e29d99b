use Rattle.std.proofs.Common.{◌≡◌, ◌++◌, not, drop}
use Rattle.std.specs.List.{flat_map}
use Rattle.spec_compile.specs.Scoping.{if_so, is_named}
use Rattle.xt_syntax.specs.PartView.{site_of}
use Rattle.xt_scoping.specs.View.{found_in}
use Rattle.xt_scoping.proofs.report.report_missing.Given as goal

abbrev pub invariant-loop-name : goal.invariant-loop-name
invariant-loop-name l =
    found_in l.found.items ++ flat_map (λ name. if_so (not (is_named l.there name)) l.code (site_of l.site)) (drop l.name-index l.names)
    ≡ found_in l.fn.found.items ++ flat_map (λ name. if_so (not (is_named l.there name)) l.code (site_of l.site)) l.names
