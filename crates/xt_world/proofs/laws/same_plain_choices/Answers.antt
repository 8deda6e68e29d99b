use Rattle.xt_world.proofs.Plain.{choice_same}
use Rattle.xt_world.proofs.laws.same_plain_choices.Goals as goal

pub returns : goal.returns
returns c = λ one other rules elements parameters document node mode candidates plain.
    choice_same one other rules elements document parameters node mode candidates plain
