use Rattle.std.proofs.Common.{◌∙◌}
use Rattle.xt_held.proofs.FirstUnread.{tested}
use Rattle.xt_held.proofs.unread.is_text.Goals as goal

pub returns : goal.returns
returns c = let t = tested c.args.bytes.now c.from_utf8.result _ c.from_utf8.ensures.cases in c.is_ok.ensures.value ∙ t
