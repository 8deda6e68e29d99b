-- The values that the code's values stand for.
use Rattle.spec_meaning.specs.Value.{Value, Number, Text, Boolean, Nodes, Fragment}
use Rattle.spec_node.specs.declared.node_ref.NodeRef.{NodeRef}
use Rattle.xt_tree.specs.declared.value.Value as code
use Rattle.xt_tree.specs.declared.value.Value.TheVariants as codes

abbrev pub value_of : code.Value → Value NodeRef
value_of (codes.Number number) = Number number
value_of (codes.Text text) = Text text
value_of (codes.Boolean is_true) = Boolean is_true
value_of (codes.Nodes nodes) = Nodes nodes.items
value_of (codes.Fragment fragment) = Fragment fragment
