-- What criteria, keys and rows of the program stand for.
use Rattle.std.specs.Prelude.{map}
use Rattle.spec_transform.specs.Sorted as plain
use Rattle.spec_node.specs.declared.node_ref.NodeRef.{NodeRef}
use Rattle.xt_sort.specs.declared.row.Criterion.{Criterion}
use Rattle.xt_sort.specs.declared.row.KeyValue.{KeyValue}
use Rattle.xt_sort.specs.declared.row.KeyValue.TheVariants as values
use Rattle.xt_sort.specs.declared.row.Row.{Row}

abbrev pub criterion_of : Criterion → plain.Criterion
criterion_of c = record { is_number = c.is_number; descends = c.descends }

abbrev pub key_of : KeyValue → plain.KeyValue
key_of (values.Text text) = plain.AText text
key_of (values.Number number) = plain.ANumber number

abbrev pub row_of : Row → plain.Row NodeRef
row_of r = plain.row r.node (map key_of r.keys.items)
