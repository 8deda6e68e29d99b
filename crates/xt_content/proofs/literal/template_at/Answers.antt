use Rattle.xt_content.proofs.Attributes.{found}
use Rattle.xt_content.proofs.literal.template_at.Goals as goal

pub returns : goal.returns
returns c = found _ _ c.heard.ensures c.template_of.ensures
