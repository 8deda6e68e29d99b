use Rattle.std.proofs.Common.{◌+◌, drop, map, refl, sym, subst, arith}
use Rattle.spec_compile.specs.Unit.{top_levels_among}
use Rattle.xt_content.specs.View.{around_in}
use Rattle.xt_tree.specs.View.{forest_of, tree_of}
use Rattle.xt_top_level.specs.View.{said, top_levels_in}
use Rattle.xt_top_level.proofs.Turns.{before_rest, begins, turn, stops, ends}
use Rattle.xt_top_level.proofs.Steps.{Continues, exits, last_turn, next_turn}
use Rattle.xt_top_level.proofs.siblings.top_levels_among.Goals as goal

pub loop-i-init : goal.loop-i-init
loop-i-init c =
    let all = top_levels_among (around_in c.args.around.now) c.args.path.now 1 (forest_of c.args.siblings.now) in
    subst (λ items. Continues (before_rest all (top_levels_in items)) all) (sym c.new-top_levels.ensures.items) (begins all)

pub returns-in_err-top_level : goal.returns-in_err-top_level
returns-in_err-top_level c =
    let done = top_levels_in c.loop-i.top_levels.items in
    let around = around_in c.args.around.now in
    let path = c.args.path.now in
    let next = next_turn (λ rest. before_rest (top_levels_among around path (c.loop-i.i + 1) (forest_of rest)) done) c.args.siblings.now c.loop-i.i c.index-siblings-i.result (omega arith) c.loop-i.invariant in
    let here = rw (← c.index-siblings-i.is) at next in
    exits _ c.from_residual.ensures.1
    (stops around path (c.loop-i.i + 1) done (tree_of c.index-siblings-i.result.value) (map (λ n. tree_of n.value) (drop (c.loop-i.i + 1) c.args.siblings.now)) here
    (rw c.deref.ensures at c.in_err-top_level.ensures))

pub loop-i-preserved : goal.loop-i-preserved
loop-i-preserved c =
    let done = top_levels_in c.loop-i.top_levels.items in
    let around = around_in c.args.around.now in
    let path = c.args.path.now in
    let next = next_turn (λ rest. before_rest (top_levels_among around path (c.loop-i.i + 1) (forest_of rest)) done) c.args.siblings.now c.loop-i.i c.index-siblings-i.result (omega arith) c.loop-i.invariant in
    let here = rw (← c.index-siblings-i.is) at next in
    let heard = rw c.deref.ensures at c.in_ok-top_level.ensures in
    subst (λ so_far. Continues (before_rest (top_levels_among around path (c.loop-i.i + 1 + 1) (forest_of (drop (c.loop-i.i + 1) c.args.siblings.now))) so_far)
    (top_levels_among around path 1 (forest_of c.args.siblings.now)))
    (sym c.in_ok-push.ensures)
    (turn around path (c.loop-i.i + 1) done (said c.in_ok-top_level.top_level) (tree_of c.index-siblings-i.result.value)
    (map (λ n. tree_of n.value) (drop (c.loop-i.i + 1) c.args.siblings.now)) here heard.so)

pub returns : goal.returns
returns c =
    let done = top_levels_in c.loop-i.top_levels.items in
    let around = around_in c.args.around.now in
    let path = c.args.path.now in
    ends around path (c.loop-i.i + 1) done refl
    (last_turn (λ rest. before_rest (top_levels_among around path (c.loop-i.i + 1) (forest_of rest)) done) c.args.siblings.now c.loop-i.i (omega arith) c.loop-i.invariant)
