use Rattle.spec_compile.specs.Content.{tag_by}
use Rattle.xt_attributes.specs.View.{entries_in}
use Rattle.xt_content.specs.View.{around_in, literals_in}
use Rattle.xt_content.proofs.Attributes.{refuses_first}
use Rattle.xt_content.proofs.literal.tag_with.Goals as goal

pub returns-in-Err : goal.returns-in-Err
returns-in-Err c =
    refuses_first entries_in literals_in (tag_by (around_in c.args.around.now) c.args.name.now) c.args.entries c.args.literals c.in-Err.code c.least_with.result c.in-Err.is
    c.least_with.ensures
