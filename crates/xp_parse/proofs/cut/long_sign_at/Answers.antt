use Rattle.xp_parse.proofs.Fronts.{none_of, empty_chars}
use Rattle.xp_parse.proofs.Cuts.{cuts_none, no_sign}
use Rattle.xp_parse.proofs.cut.long_sign_at.Goals as goal

pub returns-in-None : goal.returns-in-None
returns-in-None c = cuts_none _ _ (no_sign c.args.first _ (empty_chars c.args.behind.now (none_of _ c.first_of.result c.first_of.ensures c.in-None.is)))
