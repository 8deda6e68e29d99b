use Rattle.std.proofs.Common.{◌≡◌, codes}
use Rattle.std.specs.Prelude.{IfOk}
use Rattle.std.specs.Str.{chars}
use Rattle.spec_compile.specs.Value.{at, name_in}
use Rattle.xt_attributes.specs.View.{entries_in}
use Rattle.xt_content.proofs.outline.bound_by.Goals as goal

pub returns-in-Variable : goal.returns-in-Variable
unfolding chars
returns-in-Variable c =
    let e : IfOk c.copied_name.result (λ n. n ≡ at name_in (codes "name") (entries_in c.args.entries.now)) = c.copied_name.ensures in
    rw c.in-Variable.is e

pub returns-in-Param : goal.returns-in-Param
unfolding chars
returns-in-Param c =
    let e : IfOk c.copied_name-in-Param.result (λ n. n ≡ at name_in (codes "name") (entries_in c.args.entries.now)) = c.copied_name-in-Param.ensures in
    rw c.in-Param.is e
