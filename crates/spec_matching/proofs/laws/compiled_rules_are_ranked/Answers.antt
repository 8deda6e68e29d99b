use Rattle.spec_matching.proofs.Ranked.{ranked_sheet}
use Rattle.spec_matching.proofs.laws.compiled_rules_are_ranked.Goals as goal

pub returns : goal.returns
returns c = ranked_sheet
