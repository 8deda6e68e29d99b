use Rattle.std.specs.Str.{chars}
use Rattle.xp_parse.proofs.Cuts.{local_is, no_local}
use Rattle.xp_parse.proofs.cut.local_at.Goals as goal

pub returns-in-Some : goal.returns-in-Some
returns-in-Some c = local_is c.split_name.result c.args.behind.now (chars c.in-Some.local.now) (c.in-Some.ensures {u = tt}) c.split_name.ensures

pub returns-in-None : goal.returns-in-None
returns-in-None c = no_local (chars c.args.behind.now) (c.in-None.ensures {u = tt})
