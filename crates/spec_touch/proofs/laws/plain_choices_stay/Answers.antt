use Rattle.spec_touch.proofs.Sparing.{choice-spared}
use Rattle.spec_touch.proofs.laws.plain_choices_stay.Goals as goal

pub returns : goal.returns
returns c change old new leads apart sheet parameters called question asking plain u =
    choice-spared change old new leads sheet parameters called apart asking plain question u
