use Rattle.std.proofs.Common.{drop, map}
use Rattle.std.specs.Str.{chars}
use Rattle.spec_compile.specs.Value as plain
use Rattle.xt_attributes.specs.Answers.{Continues}
use Rattle.xt_attributes.specs.Gathering.{gathered_in, seen}
use Rattle.xt_attributes.specs.View.{barred_by, entry_in}
use Rattle.xt_attributes.proofs.Rest.{Rest}
use Rattle.xt_structure.specs.View.{row_of}
use Rattle.xt_tree.specs.View.{written_of}
use Rattle.xt_attributes.proofs.attributes.entries_of.Given as goal

abbrev pub invariant-loop-attribute : goal.invariant-loop-attribute
invariant-loop-attribute l =
    Continues (Rest (seen (λ es. map entry_in es) (gathered_in l.entries))
    (plain.entries_of (barred_by l.element) l.scope (chars l.uri) (map row_of l.rows) (map written_of (drop l.attribute-index l.attributes))))
    (plain.entries_of (barred_by l.element) l.scope (chars l.uri) (map row_of l.rows) (map written_of l.attributes))
