use Rattle.std.proofs.Common.{ap, ◌∙◌}
use Rattle.xt_world.specs.ParameterView.{values_in}
use Rattle.xt_world.proofs.Keys.{ok_of, values-insert}
use Rattle.xt_world.proofs.parameters.Parameters.keep.Goals as goal

pub returns : goal.returns
returns c =
    ap values_in (ok_of c.insert.result (c.insert.ensures.succeeds c.requires) c.insert.ensures.entries)
    ∙ values-insert c.args.name c.args.value c.args.self.now.values.entries
