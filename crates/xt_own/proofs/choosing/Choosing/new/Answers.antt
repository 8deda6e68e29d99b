use Rattle.std.proofs.Common.{ap, ◌∙◌}
use Rattle.xt_syntax.specs.SheetView.{rules_of}
use Rattle.xt_world.specs.SourceView.{source_of}
use Rattle.xt_own.proofs.choosing.Choosing.new.Goals as goal

pub returns : goal.returns
returns c =
    let source = ap source_of c.new.ensures.world ∙ c.new-source.ensures in
    let rules = c.new-table.ensures in
    λ i. record { source = source i; rules = (rules_of (rules i)).rules }
