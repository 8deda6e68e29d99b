use Rattle.std.proofs.Common.{map}
use Rattle.spec_compile.specs.Value.{entries_of, none_barred}
use Rattle.xt_attributes.specs.Answers.{answers_as}
use Rattle.xt_attributes.proofs.Uris.{xslt_uri_chars}
use Rattle.xt_structure.specs.View.{row_of}
use Rattle.xt_tree.specs.View.{written_of}
use Rattle.xt_attributes.proofs.attributes.xslt_attributes_of.Goals as goal

pub returns : goal.returns
returns c =
    answers_as (λ i. entries_of none_barred c.args.scope.now (xslt_uri_chars i) (map row_of c.args.rows.now) (map written_of c.args.attributes.now)) c.entries_by.ensures
