use Rattle.std.proofs.Common.{◌≡◌, ◌∙◌, List, ap, map}
use Rattle.std.specs.Str.{chars}
use Rattle.spec_document.specs.Scope.{xslt_uri}
use Rattle.spec_structure.specs.Elements.{Row}
use Rattle.spec_structure.specs.Structure.{are_allowed}
use Rattle.xt_structure.specs.View.{row_of}
use Rattle.xt_tree.specs.View.{written_of}
use Rattle.xt_structure.proofs.code.are_literal_allowed.Goals as goal

pub returns : goal.returns
unfolding chars
returns c =
    let e : c.are_allowed.result ≡ are_allowed c.args.scope.now xslt_uri (map row_of c.literal_rows.result.now) (map written_of c.args.attributes.now) = c.are_allowed.ensures in
    e ∙ ap (λ (rows : List Row). are_allowed c.args.scope.now xslt_uri rows (map written_of c.args.attributes.now)) c.literal_rows.ensures
