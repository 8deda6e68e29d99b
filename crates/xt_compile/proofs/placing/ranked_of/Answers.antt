use Rattle.std.proofs.Common.{map, arith}
use Rattle.xt_compile.specs.View.{said_in}
use Rattle.xt_compile.proofs.Putting.{last_sheet, next_sheet}
use Rattle.xt_compile.proofs.placing.ranked_of.Goals as goal

pub loop-precedence-preserved : goal.loop-precedence-preserved
loop-precedence-preserved c says =
    let said = map said_in c.args.said.items in
    let g = c.loop-precedence.invariant says in
    let n = c.loop-precedence.precedence in
    let s = c.index-stylesheets-precedence.result in
    let places = c.in-Ok.ensures {u = tt} in (
      places.stays said says g.0,
      next_sheet said n s c.args.stylesheets.now c.loop-precedence.ranked.items c.add_stylesheet.new.ranked.items _ (omega arith) c.index-stylesheets-precedence.is
          (places.added said says g.0) g.1,
    )

pub returns : goal.returns
returns c says =
    last_sheet (map said_in c.args.said.items) c.loop-precedence.precedence c.args.stylesheets.now c.loop-precedence.ranked.items _ (omega arith)
    (c.loop-precedence.invariant says).1
