use Rattle.std.proofs.Common.{arith, ap, sym, ◌∙◌}
use Rattle.std.proofs.lemmas.List.{drop_all}
use Rattle.xt_world.specs.ParameterView.{values_in}
use Rattle.xt_world.proofs.parameters.Parameters.copy.Goals as goal

pub loop-index-init : goal.loop-index-init
loop-index-init c =
    c.new-copy.ensures ∙ sym (ap values_in (drop_all c.len-index.result c.args.self.now.values.entries (omega (arith, c.len-index.ensures.len))))
