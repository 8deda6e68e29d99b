use Rattle.std.proofs.Common.{arith}
use Rattle.xt_wire.proofs.Written.{all_shown}
use Rattle.xt_wire.proofs.write.shown_lines.Goals as goal

pub returns : goal.returns
returns c = all_shown c.args.lines.now c.loop-line.text c.push_str-2.new.self c.loop-line.line-index (omega arith) c.loop-line.invariant
    c.in_ok-push_str-2.ensures.ok
