use Rattle.std.proofs.Common.{◌∙◌}
use Rattle.std.proofs.lemmas.Str.Pattern.{starts_text}
use Rattle.xp_text.proofs.Finding.{same_begins}
use Rattle.xp_text.proofs.search.starts_with.Goals as goal

pub returns : goal.returns
returns c = starts_text c.starts_with.result c.args.start.now c.args.text.now c.starts_with.ensures.cases ∙ same_begins _ _ c.utf8.text c.utf8.start
