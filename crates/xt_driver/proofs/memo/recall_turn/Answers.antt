use Rattle.std.proofs.Common.{arith, ◌∙◌, sym}
use Rattle.xt_engine.specs.View.{named_of}
use Rattle.xt_driver.proofs.Turning.{recalls_turn}
use Rattle.xt_driver.proofs.Wholes.{turn_from}
use Rattle.xt_driver.proofs.memo.recall_turn.Goals as goal

pub returns-then-is_of-clause-recalls : goal.returns-then-is_of-clause-recalls
returns-then-is_of-clause-recalls c =
    recalls_turn c.args.entries.now c.loop-entry.entry-index _ c.entry-item.result (named_of c.args.global.now) c.args.levels c.in_ok-turned.turned (omega arith) c.entry-item.is
    (sym c.is_known.ensures ∙ c.if-is_known.true) (c.is_of.ensures c.if-is_of.true) c.in_ok-turned.ensures

pub returns-then-is_of-clause-found : goal.returns-then-is_of-clause-found
returns-then-is_of-clause-found c =
    turn_from c.args.entries.now c.loop-entry.entry-index _ c.entry-item.result c.args.global.now.element c.in_ok-turned.turned (omega arith) c.entry-item.is
    (c.is_of.ensures c.if-is_of.true) c.in_ok-turned.ensures
