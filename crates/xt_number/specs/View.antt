-- What is counted, as the program has it.
use Rattle.spec_transform.specs.Numbering as plain
use Rattle.xt_syntax.specs.PartView.{pattern_of}
use Rattle.spec_node.specs.declared.node_ref.NodeRef.{NodeRef}
use Rattle.xt_questions.specs.View.{answer_of}
use Rattle.xt_number.specs.declared.counted.Counted.{Counted}
use Rattle.xt_number.specs.declared.counted.Counted.TheVariants as counted

abbrev pub counted_of : Counted → plain.Counted NodeRef
counted_of (counted.Matching pattern) = plain.Matching (pattern_of pattern.now)
counted_of (counted.CalledAs called) = plain.CalledAs (answer_of called)
