use Rattle.xt_demo.proofs.Steps.{draw_more, row_more}
use Rattle.xt_demo.proofs.first.push_rows.Goals as goal

pub loop-left-preserved : goal.loop-left-preserved
loop-left-preserved c = (
  row_more c.loop-left.body.items c.push_row.new.body.items _ c.loop-left.left c.loop-left.draws.state c.value.new.self.state c.value.result c.loop-left-test.true
      c.value.ensures.state c.value.ensures.value c.in_ok-push_row.ensures c.loop-left.invariant.0,
  draw_more c.loop-left.left c.loop-left.draws.state c.value.new.self.state _ c.loop-left-test.true c.value.ensures.state c.loop-left.invariant.1,
)
