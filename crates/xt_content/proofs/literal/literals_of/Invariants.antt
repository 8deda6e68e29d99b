use Rattle.std.proofs.Common.{drop, map}
use Rattle.spec_compile.specs.Content.{literal_attributes}
use Rattle.xt_syntax.specs.PartView.{literal_attribute_of}
use Rattle.xt_attributes.specs.Answers.{Continues}
use Rattle.xt_attributes.specs.Gathering.{gathered_in, seen}
use Rattle.xt_content.proofs.Attributes.{Rest}
use Rattle.xt_tree.specs.View.{written_of}
use Rattle.xt_content.proofs.literal.literals_of.Given as goal

abbrev pub invariant-loop-attribute : goal.invariant-loop-attribute
invariant-loop-attribute l =
    Continues (Rest (seen (λ ls. map literal_attribute_of ls) (gathered_in l.literals)) (literal_attributes l.scope (map written_of (drop l.attribute-index l.attributes))))
    (literal_attributes l.scope (map written_of l.attributes))
