use Rattle.std.proofs.Common.{◌∙◌, Some, ap, arith}
use Rattle.xt_record.specs.declared.key.Key.{Key}
use Rattle.xt_record.proofs.Chaining.{link, nothing_before}
use Rattle.xt_record.proofs.index.Index.latest_before.Goals as goal

pub returns-then-turn-eq0-clause-latest : goal.returns-then-turn-eq0-clause-latest
returns-then-turn-eq0-clause-latest c = nothing_before _ (omega arith)

pub returns-then-has_key-clause-latest : goal.returns-then-has_key-clause-latest
returns-then-has_key-clause-latest c =
    link c.args.self.now.chained _ c.args.turn c.earlier.result c.earlier.ensures.turn
    (c.has_key.ensures c.if-has_key.true ∙ ap (λ (key : Key). Some key) c.key_of-key.ensures)
