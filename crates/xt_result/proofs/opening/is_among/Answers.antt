use Rattle.std.proofs.Common.{◌∙◌}
use Rattle.xt_result.proofs.Openings.{among}
use Rattle.xt_result.proofs.opening.is_among.Goals as goal

pub returns : goal.returns
returns c = c.contains.ensures ∙ among c.args.text.now c.args.texts.now.keys c.utf8.text
