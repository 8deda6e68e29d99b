use Rattle.std.proofs.Common.{◌∙◌, sym, arith}
use Rattle.std.proofs.lemmas.List.{at_drop_all}
use Rattle.std.specs.List.{list_any}
use Rattle.xp_values.proofs.comparison.passes_any.Goals as goal

pub returns : goal.returns
returns g c =
    sym (at_drop_all (list_any (g.C.Comparand.test c.args.operator c.args.left.now)) c.args.keys.now c.loop-key.key-index (omega arith)) ∙ c.loop-key.invariant
