use Rattle.spec_transform.proofs.Greatest.{greatest_is_chosen}
use Rattle.spec_matching.proofs.Ranked.{ranked_sheet}
use Rattle.spec_matching.proofs.laws.the_chosen_rule_is_the_greatest.Goals as goal

pub returns : goal.returns
returns c modules main sheet same context n mode candidates ask supply number h =
    greatest_is_chosen same context n mode candidates sheet.rules.rules ask supply number (ranked_sheet modules main sheet h)
