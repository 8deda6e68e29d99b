use Rattle.std.proofs.Common.{List, map, take, subst, arith}
use Rattle.spec_structure.specs.Modules.{Part}
use Rattle.xt_import.specs.Parts.{part_in}
use Rattle.xt_import.specs.View.{modules_in}
use Rattle.xt_top_level.specs.View.{top_levels_in}
use Rattle.xt_compile.specs.Placed.{Places}
use Rattle.xt_compile.proofs.Putting.{next_part, one_more}
use Rattle.xt_compile.proofs.placing.add_parts.Goals as goal

pub loop-part-preserved : goal.loop-part-preserved
loop-part-preserved c =
    let modules = modules_in c.args.modules.now.entries in
    let parts = c.args.parts.now in
    let i = c.loop-part.part-index in
    let part = c.part-item.result in
    subst (λ (ps : List Part). Places modules c.args.precedence c.args.imported ps c.args.placing.now c.part_of.new.placing c.args.ranked.now.items c.add_ranked.new.ranked.items)
    (next_part parts i part (omega arith) c.part-item.is)
    (one_more modules c.args.precedence c.args.imported (map part_in (take i parts)) (part_in part) c.args.placing.now c.loop-part.placing c.part_of.new.placing
    c.args.ranked.now.items c.loop-part.ranked.items c.add_ranked.new.ranked.items (top_levels_in c.in_ok-found.found.items) c.loop-part.invariant
    (c.in_ok-found.ensures {u = tt}).found (c.in_ok-found.ensures {u = tt}).stays (c.in_ok-add_ranked.ensures {u = tt}))
