use Rattle.xt_frames.proofs.Whole.{view-Attribute}
use Rattle.xt_instructions.proofs.attributes.attribute_with.Goals as goal

pub returns : goal.returns
returns c = view-Attribute c.args.name c.args.uri c.args.content
