use Rattle.spec_compile.specs.Content.{tag_by}
use Rattle.xt_content.specs.View.{around_in}
use Rattle.xt_content.proofs.Attributes.{both_answered, found}
use Rattle.xt_content.proofs.literal.tag_of.Goals as goal

pub returns : goal.returns
returns c =
    let entries = rw c.literal_rows.ensures at c.xslt_attributes_of.ensures in
    both_answered (tag_by (around_in c.args.around.now) c.args.name.now) (found _ _ c.in_ok-entries.ensures entries) (found _ _ c.in_ok-literals.ensures c.literal_attributes.ensures)
    c.tag_with.ensures
