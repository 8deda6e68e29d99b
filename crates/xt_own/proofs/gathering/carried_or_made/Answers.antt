use Rattle.xt_spared.specs.View.{own_of}
use Rattle.xt_world.specs.View.{truth_in}
use Rattle.xt_own.proofs.Keeping.{carried_decided}
use Rattle.xt_own.proofs.gathering.carried_or_made.Goals as goal

pub returns-in-Some-clause-decided : goal.returns-in-Some-clause-decided
returns-in-Some-clause-decided c = λ parameters document is carries.
    let among = rw c.in-Some.is at c.own_choice.ensures.among in
    let stays = rw c.in-Some.is at c.own_choice.ensures.stays in
    carried_decided c.carried.result c.in-Some.own.now.value c.args.stylesheet.now (truth_in c.args.stylesheet.now parameters document) c.carried.ensures
    (carries (own_of c.in-Some.own.now.value) among stays)

pub returns-in-None-clause-decided : goal.returns-in-None-clause-decided
returns-in-None-clause-decided c = λ parameters document is carries. c.made.ensures.decided parameters document is
