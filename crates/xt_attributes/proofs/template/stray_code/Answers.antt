use Rattle.std.specs.Str.{chars}
use Rattle.xt_attributes.proofs.Pieces.{no_pieces}
use Rattle.xt_attributes.proofs.template.stray_code.Goals as goal

pub returns : goal.returns
returns c = record { so = no_pieces c.args.scope.now (chars c.loop-found.rest.now) (c.in_default.ensures {u = tt}) c.loop-found.invariant.1 }
