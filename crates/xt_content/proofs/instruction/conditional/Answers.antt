use Rattle.std.proofs.Common.{◌≡◌, ◌∙◌, codes, map}
use Rattle.std.specs.Str.{chars}
use Rattle.spec_stylesheet.specs.Instruction as made
use Rattle.spec_compile.specs.Content.{expr_at}
use Rattle.xt_syntax.specs.InstrView.{instr_of}
use Rattle.xt_syntax.specs.View.{expr_of}
use Rattle.xt_attributes.specs.View.{entries_in}
use Rattle.xt_content.proofs.Views.{view-If}
use Rattle.xt_content.proofs.instruction.conditional.Goals as goal

pub returns : goal.returns
unfolding chars
returns c =
    let test : expr_of c.in_ok-test.test ≡ expr_at (codes "test") (entries_in c.args.entries.now) = c.in_ok-test.ensures.taken in
    view-If _ _ ∙ (λ i. made.conditional (test i) (made.instrs (map instr_of (c.in_ok-content.ensures.ok i).items)))
