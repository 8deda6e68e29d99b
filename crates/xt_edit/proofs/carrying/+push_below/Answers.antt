use Rattle.std.proofs.Common.{◌++◌, append-nil, sym, ap, ◌∙◌}
use Rattle.std.proofs.lemmas.List.{nil_from_length}
use Rattle.xt_edit.proofs.Through.{below-none}
use Rattle.xt_edit.proofs.carrying.+push_below.Goals as goal

pub returns-in-None : goal.returns-in-None
returns-in-None n c =
    let way = c.args.way.now.items in
    sym (ap (λ ns. way ++ ns) (below-none c.args.above.now c.args.gone c.args.fewer c.args.path.now
    (nil_from_length c.args.path.now c.in-None.ensures.cases)) ∙ append-nil way)
