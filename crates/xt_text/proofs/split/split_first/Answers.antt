use Rattle.xt_text.proofs.Cut.{in_characters}
use Rattle.xt_text.proofs.split.split_first.Goals as goal

pub returns : goal.returns
returns c = in_characters c.args.mark c.args.text.now c.split_once.result c.utf8.text c.split_once.ensures.cases
