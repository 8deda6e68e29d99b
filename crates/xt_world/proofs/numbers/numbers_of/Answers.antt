use Rattle.std.proofs.lemmas.Result.{IfOk-weaker}
use Rattle.xt_world.proofs.Given.{not_taken, taken}
use Rattle.xt_world.proofs.numbers.numbers_of.Goals as goal

pub returns-in-None-clause-given : goal.returns-in-None-clause-given
returns-in-None-clause-given c =
    IfOk-weaker c.by_turns.result _ _ (λ n same. not_taken c.args.given.now c.args.units.now _ n c.in-None.is same c.in_ok-as_given.ensures.given)
    c.by_turns.ensures.units

pub returns-in-Some-clause-given : goal.returns-in-Some-clause-given
returns-in-Some-clause-given c =
    taken c.args.given.now c.args.units.now _ c.in-Some.numbers c.in-Some.is c.in_ok-as_given.ensures.units c.in_ok-as_given.ensures.given
