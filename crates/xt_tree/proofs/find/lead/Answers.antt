use Rattle.std.proofs.Common.{◌++◌, Some, sym, ap, ◌∙◌}
use Rattle.std.specs.Option.{option_map}
use Rattle.xt_tree.specs.View.{forest_of, way_to}
use Rattle.xt_tree.specs.Keys.{key_by}
use Rattle.xt_tree.proofs.Site.{no_way, way_here, way_on, joined_way, step_rises, step_smaller}
use Rattle.xt_tree.proofs.find.lead.Goals as goal

pub returns-in_default : goal.returns-in_default
returns-in_default c =
    sym c.down.invariant.way ∙ ap (option_map (λ way. c.down.path ++ way)) (no_way c.args.id.number 1 (forest_of c.down.current.now) c.in_default.ensures)

pub returns-then-eq : goal.returns-then-eq
returns-then-eq c =
    sym c.down.invariant.way
    ∙ ap (option_map (λ way. c.down.path ++ way))
    (way_here (key_by c.args.keys.now) c.args.id.number c.down.current.now c.in-Some.node.now _ c.in-Some.ensures (sym c.eq.ensures ∙ c.if-eq.true))
    ∙ ap Some (sym c.in_ok-push.ensures.ok)

pub down-smaller : goal.down-smaller
down-smaller c =
    step_smaller (key_by c.args.keys.now) c.args.id.number c.down.current.now c.as_slice-current.result.now c.in-Some.node.now _ c.in-Some.ensures
    c.as_slice-current.ensures.value

pub down-preserved : goal.down-preserved
down-preserved c =
    let key = key_by c.args.keys.now in
    let n = c.args.id.number in
    let s = c.in-Some.ensures in
    let is = c.as_slice-current.ensures.value in
    let other = sym c.eq.ensures ∙ c.if-eq.false in
    record {
      way = joined_way _ c.down.path c.in-Some.position (way_to n 1 (forest_of c.as_slice-current.result.now)) c.in_ok-push.ensures.ok
          ∙ ap (option_map (λ way. c.down.path ++ way))
          (sym (way_on key n c.down.current.now c.as_slice-current.result.now c.in-Some.node.now _ s other is)) ∙ c.down.invariant.way;
      rises = step_rises key n c.down.current.now c.as_slice-current.result.now c.in-Some.node.now _ s is;
    }
