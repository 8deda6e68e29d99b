use Rattle.std.proofs.Common.{refl}
use Rattle.std.specs.Prelude.{codes}
use Rattle.xt_wire.proofs.Written.{begun, counts_written}
use Rattle.xt_wire.proofs.write.counts_line.Goals as goal

pub returns : goal.returns
returns c =
    counts_written c.in_ok-text.text c.push_number.new.text c.push_str.new.self c.push_number-2.new.text c.push_str-2.new.self c.push_number-3.new.text
    c.push.new.self c.args.ran c.args.asked c.args.did (begun c.in_ok-text.text (codes "ran ") refl c.in_ok-text.ensures) c.in_ok-push_number.ensures
    c.in_ok-push_str.ensures.ok c.in_ok-push_number-2.ensures c.in_ok-push_str-2.ensures.ok c.in_ok-push_number-3.ensures c.in_ok-push.ensures.ok
