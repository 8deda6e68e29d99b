use Rattle.std.specs.Str.{chars}
use Rattle.xt_avt.proofs.Gathering.{finished}
use Rattle.xt_avt.proofs.template.parse_avt.Goals as goal

pub returns : goal.returns
returns c =
    finished c.args.scope.now c.loop-found.parts (chars c.args.text.now) (chars c.loop-found.rest.now) c.finish.result c.loop-found.invariant.1
    (c.in_default.ensures {u = tt}) c.finish.ensures
