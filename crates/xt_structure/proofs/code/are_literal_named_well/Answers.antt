use Rattle.std.proofs.Common.{◌≡◌, List, map, IfOk, subst}
use Rattle.std.specs.Str.{chars}
use Rattle.spec_document.specs.Scope.{xslt_uri}
use Rattle.spec_structure.specs.Elements.{Row}
use Rattle.spec_structure.specs.Structure.{are_named_well}
use Rattle.xt_tree.specs.View.{written_of}
use Rattle.xt_structure.proofs.code.are_literal_named_well.Goals as goal

pub returns : goal.returns
unfolding chars
returns c =
    subst (λ (rows : List Row). IfOk c.are_named_well.result (λ are. are ≡ are_named_well c.args.scope.now xslt_uri rows (map written_of c.args.attributes.now)))
    c.literal_rows.ensures c.are_named_well.ensures
