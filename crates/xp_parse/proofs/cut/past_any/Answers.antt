use Rattle.std.specs.Str.{chars}
use Rattle.xp_parse.proofs.Cuts.{any_is, no_any}
use Rattle.xp_parse.proofs.cut.past_any.Goals as goal

pub returns-in-Some : goal.returns-in-Some
returns-in-Some c = any_is c.past-in-Some.result (chars c.args.text.now) (chars c.in-Some.star.now) (c.in-Some.ensures {u = tt}) c.past-in-Some.ensures

pub returns-in-None : goal.returns-in-None
returns-in-None c = no_any (chars c.args.text.now) (c.in-None.ensures {u = tt})
