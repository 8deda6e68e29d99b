use Rattle.std.proofs.Common.{map}
use Rattle.std.proofs.lemmas.Str.{chars-nil}
use Rattle.spec_compile.specs.Value.{entries_of, is_barred}
use Rattle.xt_attributes.specs.Answers.{answers_as}
use Rattle.xt_tree.specs.View.{written_of}
use Rattle.xt_attributes.proofs.attributes.attributes_of.Goals as goal

pub returns : goal.returns
returns c =
    answers_as (λ i. entries_of (is_barred c.args.element) c.args.scope.now (chars-nil i) (c.rows_of.ensures i) (map written_of c.args.attributes.now)) c.entries_by.ensures
