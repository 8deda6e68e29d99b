-- What lists of values, and what is found among globals, stand for.
use Rattle.std.specs.Prelude.{List, map, Option, None, Some, Vec}
use Rattle.std.specs.Global.{Global}
use Rattle.spec_meaning.specs.Value as plain
use Rattle.spec_meaning.specs.Program.{Given, Valued}
use Rattle.xt_tree.specs.ValueView.{value_of}
use Rattle.spec_node.specs.declared.node_ref.NodeRef.{NodeRef}
use Rattle.xt_tree.specs.declared.value.Value.{Value}

abbrev pub values_in : Vec Value Global → List (plain.Value NodeRef)
values_in values = map value_of values.items

abbrev pub given_in : Option Value → Option (Given NodeRef)
given_in None = None
given_in (Some v) = Some (Valued (value_of v))
