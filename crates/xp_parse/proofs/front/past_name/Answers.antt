use Rattle.std.proofs.Common.{ap, arith, sym, ◌∙◌, length}
use Rattle.spec_document.specs.Character.{is_name_part}
use Rattle.xp_parse.proofs.Fronts.{walk_start, walk_on, walk_stop, walk_end, none_of}
use Rattle.xp_parse.proofs.front.past_name.Goals as goal

pub loop-first-init : goal.loop-first-init
loop-first-init c = (c.utf8.text, walk_start is_name_part c.args.text.now)

pub loop-first-smaller : goal.loop-first-smaller
loop-first-smaller c = let b = c.in-Some.ensures {u = tt} in omega (arith, ap length b.characters)

pub loop-first-preserved : goal.loop-first-preserved
loop-first-preserved c =
    let b = c.in-Some.ensures {u = tt} in (
      b.utf8,
      walk_on is_name_part c.args.text.now c.loop-first.rest.now c.in-Some.behind.now c.in-Some.first c.loop-first.invariant.1 b
          (sym c.is_name_part.ensures ∙ c.if-is_name_part.true),
    )

pub returns-in_default : goal.returns-in_default
returns-in_default c =
    let b = c.in-Some.ensures {u = tt} in
    walk_stop is_name_part c.args.text.now c.loop-first.rest.now c.in-Some.behind.now c.in-Some.first c.loop-first.invariant.1 b
    (sym c.is_name_part.ensures ∙ c.if-is_name_part.false)

pub returns-in_default-2 : goal.returns-in_default-2
returns-in_default-2 c = walk_end is_name_part c.args.text.now c.loop-first.rest.now c.loop-first.invariant.1
    (none_of _ c.first_of.result c.first_of.ensures c.in_default.is)
