use Rattle.std.proofs.Common.{◌≡◌, ◌++◌, drop, map}
use Rattle.spec_compile.specs.Sheet as spec
use Rattle.xt_import.specs.Parts.{stylesheet_in}
use Rattle.xt_import.specs.View.{modules_in}
use Rattle.xt_scoping.specs.View.{ranked_in}
use Rattle.xt_compile.specs.Placed.{IsPlacing}
use Rattle.xt_compile.specs.Stock.{Says}
use Rattle.xt_compile.specs.View.{said_in}
use Rattle.xt_compile.proofs.placing.ranked_of.Given as goal

abbrev pub invariant-loop-precedence : goal.invariant-loop-precedence
invariant-loop-precedence l =
    Says (modules_in l.fn.modules.entries) (map said_in l.fn.said.items)
    → IsPlacing (map said_in l.fn.said.items) l.placing
    × (map ranked_in l.ranked.items ++ spec.ranked_from (map said_in l.fn.said.items) l.precedence (map stylesheet_in (drop l.precedence l.fn.stylesheets))
    ≡ spec.ranked_from (map said_in l.fn.said.items) 0 (map stylesheet_in l.fn.stylesheets))
