-- What the operands of a comparison stand for.
use Rattle.spec_node.specs.declared.node_ref.NodeRef.{NodeRef}
use Rattle.spec_meaning.specs.Compare.{Operand, OfNode, OfText, OfNumber}
use Rattle.xp_values.specs.declared.operand.Operand as code
use Rattle.xp_values.specs.declared.operand.Operand.TheVariants as operands

abbrev pub operand_of : code.Operand → Operand NodeRef
operand_of (operands.Node node) = OfNode node
operand_of (operands.Text text) = OfText text
operand_of (operands.Number number) = OfNumber number
