-- How keys compare, three ways: what comes before by the definition is less.
use Rattle.std.specs.Prelude.{List, [], ◌∷◌, if◌then◌else◌}
use Rattle.std.specs.declared.cmp.Ordering.{Ordering}
use Rattle.std.specs.declared.cmp.Ordering.TheVariants.{Less, Equal, Greater}
use Rattle.std.specs.Ordering.{nat_cmp, int_cmp, ordering_then}
use Rattle.std.specs.Option.{option_cmp}
use Rattle.std.specs.Cmp.Lexicographic.{slice_cmp}
use Rattle.spec_expression.specs.Number.{Number, value_of}
use Rattle.spec_transform.specs.Sorted.{Criterion, KeyValue, AText, ANumber}

abbrev pub number_order : Number → Number → Ordering
number_order m n = option_cmp int_cmp (value_of m) (value_of n)

abbrev pub value_order : KeyValue → KeyValue → Ordering
value_order (AText s) (AText t) = slice_cmp nat_cmp s t
value_order (ANumber m) (ANumber n) = number_order m n
value_order (ANumber m) (AText t) = Less
value_order (AText s) (ANumber n) = Greater

abbrev pub order_by : Criterion → KeyValue → KeyValue → Ordering
order_by c v w = if c.descends then value_order w v else value_order v w

abbrev pub keys_order : List Criterion → List KeyValue → List KeyValue → Ordering
keys_order (c ∷ cs) (v ∷ vs) (w ∷ ws) = ordering_then (order_by c v w) (keys_order cs vs ws)
keys_order (c ∷ cs) [] (w ∷ ws) = Less
keys_order (c ∷ cs) (v ∷ vs) [] = Greater
keys_order _ _ _ = Equal
