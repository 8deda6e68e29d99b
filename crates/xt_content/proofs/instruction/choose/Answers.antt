use Rattle.std.proofs.Common.{◌∙◌, map}
use Rattle.spec_stylesheet.specs.Instruction as made
use Rattle.xt_syntax.specs.InstrView.{branch_of}
use Rattle.xt_content.proofs.Views.{view-Choose}
use Rattle.xt_content.proofs.instruction.choose.Goals as goal

pub returns : goal.returns
returns c = view-Choose _ ∙ (λ i. made.choose (made.branches (map branch_of (c.in_ok-branches.ensures.ok i).items)))
