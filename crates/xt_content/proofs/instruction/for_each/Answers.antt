use Rattle.std.proofs.Common.{◌≡◌, ◌∙◌, codes, map}
use Rattle.std.specs.Str.{chars}
use Rattle.spec_stylesheet.specs.Instruction as made
use Rattle.spec_compile.specs.Content.{expr_at}
use Rattle.xt_syntax.specs.InstrView.{instr_of}
use Rattle.xt_syntax.specs.PartView.{sort_key_of}
use Rattle.xt_syntax.specs.View.{expr_of}
use Rattle.xt_attributes.specs.View.{entries_in}
use Rattle.xt_content.proofs.Views.{view-ForEach}
use Rattle.xt_content.proofs.instruction.for_each.Goals as goal

pub returns : goal.returns
unfolding chars
returns c =
    let select : expr_of c.in_ok-select.select ≡ expr_at (codes "select") (entries_in c.args.entries.now) = c.in_ok-select.ensures.taken in
    view-ForEach _ _ _
    ∙ (λ i. made.for_each (select i) (map sort_key_of (c.in_ok-keys.ensures.ok i).items) (made.instrs (map instr_of (c.in_ok-content.ensures.ok i).items)))
