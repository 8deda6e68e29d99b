use Rattle.std.proofs.Common.{◌∙◌, sym, arith}
use Rattle.xt_record.proofs.Chaining.{first, first_none, next, next_none, reached, reached_within}
use Rattle.xt_record.proofs.index.Index.latest_below.Goals as goal

pub returns-in_default-clause-latest : goal.returns-in_default-clause-latest
returns-in_default-clause-latest c =
    first_none c.args.self.now.chained c.args.key c.args.turn (sym c.get.ensures.value ∙ sym c.copied.ensures ∙ c.in_default.is)

pub loop-latest-init : goal.loop-latest-init
loop-latest-init c =
    first c.args.self.now.chained c.args.key c.args.turn c.in-Some.latest (sym c.get.ensures.value ∙ sym c.copied.ensures ∙ c.in-Some.is)

pub earlier-requires : goal.earlier-requires
earlier-requires c = reached_within c.args.self.now.records.items c.loop-latest.invariant

pub returns-in-None-clause-latest : goal.returns-in-None-clause-latest
returns-in-None-clause-latest c =
    next_none c.args.self.now.chained c.args.key c.args.turn c.loop-latest.latest c.earlier.result c.earlier.ensures.turn c.in-None.is
    (omega arith) c.loop-latest.invariant

pub loop-latest-preserved : goal.loop-latest-preserved
loop-latest-preserved c =
    next c.args.self.now.chained c.args.key c.args.turn c.loop-latest.latest c.earlier.result c.in-Some-earlier.before c.earlier.ensures.turn
    c.in-Some-earlier.is (omega arith) c.loop-latest.invariant

pub returns-clause-latest : goal.returns-clause-latest
returns-clause-latest c = reached (omega arith) c.loop-latest.invariant
