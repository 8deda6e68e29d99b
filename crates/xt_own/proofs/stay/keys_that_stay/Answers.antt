use Rattle.xt_own.proofs.stay.keys_that_stay.Goals as goal

pub returns-then-is_empty : goal.returns-then-is_empty
returns-then-is_empty c = λ was parameters known agrees. c.no_keys.ensures c.args.stylesheet.now was parameters c.args.document.now
