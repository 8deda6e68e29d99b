use Rattle.spec_touch.proofs.KeepingSpace.{keeps-space}
use Rattle.spec_touch.proofs.laws.edits_keep_space.Goals as goal

pub returns : goal.returns
returns c first edit document new e valid changes x y at_x at_y = keeps-space first edit document new e valid changes x y at_x at_y
