use Rattle.std.proofs.Common.{◌≡◌, ◌∙◌, [], List, ap, map}
use Rattle.std.specs.Str.{chars}
use Rattle.spec_structure.specs.Elements.{Row}
use Rattle.spec_structure.specs.Structure.{are_allowed}
use Rattle.xt_structure.specs.View.{row_of}
use Rattle.xt_tree.specs.View.{written_of}
use Rattle.xt_structure.proofs.attributes.are_allowed_of.Goals as goal

pub returns : goal.returns
unfolding chars
returns c =
    let e : c.are_allowed.result ≡ are_allowed c.args.scope.now [] (map row_of c.rows_of.result.now) (map written_of c.args.attributes.now) = c.are_allowed.ensures in
    e ∙ ap (λ (rows : List Row). are_allowed c.args.scope.now [] rows (map written_of c.args.attributes.now)) c.rows_of.ensures
