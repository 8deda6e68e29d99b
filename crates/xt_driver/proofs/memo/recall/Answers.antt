use Rattle.std.proofs.Common.{arith, ◌∙◌, sym}
use Rattle.xt_driver.proofs.Referring.{recalls_entry}
use Rattle.xt_driver.proofs.Finding.{recalled_from}
use Rattle.xt_driver.proofs.memo.recall.Goals as goal

pub returns-then-is_known-clause-recalls : goal.returns-then-is_known-clause-recalls
returns-then-is_known-clause-recalls c =
    recalls_entry c.args.entries.now c.loop-entry.entry-index _ c.entry-item.result c.args.name.now c.args.levels c.in_ok-referred.referred (omega arith) c.entry-item.is
    (sym c.is_known.ensures ∙ c.if-is_known.true) c.in_ok-referred.ensures

pub returns-then-is_known-clause-found : goal.returns-then-is_known-clause-found
returns-then-is_known-clause-found c =
    recalled_from c.args.entries.now c.loop-entry.entry-index _ c.entry-item.result c.args.name.now c.args.levels c.in_ok-referred.referred (omega arith) c.entry-item.is
    (sym c.is_known.ensures ∙ c.if-is_known.true) c.in_ok-referred.ensures
