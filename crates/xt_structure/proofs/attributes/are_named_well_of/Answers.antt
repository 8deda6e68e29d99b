use Rattle.std.proofs.Common.{◌≡◌, [], List, map, IfOk, subst}
use Rattle.std.specs.Str.{chars}
use Rattle.spec_structure.specs.Elements.{Row}
use Rattle.spec_structure.specs.Structure.{are_named_well}
use Rattle.xt_tree.specs.View.{written_of}
use Rattle.xt_structure.proofs.attributes.are_named_well_of.Goals as goal

pub returns : goal.returns
unfolding chars
returns c =
    subst (λ (rows : List Row). IfOk c.are_named_well.result (λ are. are ≡ are_named_well c.args.scope.now [] rows (map written_of c.args.attributes.now)))
    c.rows_of.ensures c.are_named_well.ensures
