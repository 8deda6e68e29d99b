use Rattle.std.proofs.Common.{◌∙◌, arith, length-set}
use Rattle.xt_io.proofs.Fronts.{front_begins, front_full, front_grows}
use Rattle.xt_io.proofs.head.Front.extend.Goals as goal

pub loop-byte-init : goal.loop-byte-init
loop-byte-init c = (c.self.invariant, c.self.told, front_begins _ _ _ c.self.invariant c.self.view_is)

pub returns-then-self-eq8 : goal.returns-then-self-eq8
returns-then-self-eq8 c = front_full _ _ _ _ _ c.if-self-eq8.true c.loop-byte.invariant.1 c.loop-byte.invariant.2

pub loop-byte-preserved : goal.loop-byte-preserved
loop-byte-preserved c = (
  omega arith,
  length-set _ _ _ ∙ c.loop-byte.invariant.1,
  front_grows c.loop-byte.self-inside.bytes c.args.self.now c.args.more.now c.loop-byte.byte-index c.loop-byte.self-inside.count (omega arith)
      c.loop-byte.invariant.1 c.loop-byte-test.true c.loop-byte.invariant.2,
)
