use Rattle.std.proofs.Common.{arith}
use Rattle.xt_own.proofs.KeysStaying.{key_among}
use Rattle.xt_own.proofs.stay.those_that_stay.Goals as goal

pub add_if_kept-requires : goal.add_if_kept-requires
add_if_kept-requires c = c.in_ok-kept.ensures.apart

pub loop-key-init : goal.loop-key-init
loop-key-init c = λ was parameters known agrees. c.no_keys-after.ensures c.args.stylesheet.now was parameters c.args.document.now

pub loop-key-preserved : goal.loop-key-preserved
loop-key-preserved c = λ was parameters known agrees.
    let key = key_among c.args.stylesheet.now was c.args.keys.now c.loop-key.key-index c.key-item.result known (omega arith) c.key-item.is in
    c.in_ok-add_if_kept.ensures c.args.stylesheet.now was parameters c.args.document.now (c.loop-key.invariant was parameters known agrees)
    (c.in_ok-kept.ensures.stays was parameters key agrees)

pub returns : goal.returns
returns c = λ was parameters known agrees. c.loop-key.invariant was parameters known agrees
