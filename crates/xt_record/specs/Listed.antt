-- What a run keeps, as contracts see it.
--     Row                   the items of a list
--     Listed                the records in the order in which they were kept, and their trees
--     listed                those of these entries
--     records_in, trees_in  the records and the trees of entries
--     keys_of               the numbers by which they are found
use Rattle.std.specs.Prelude.{List, map}
use Rattle.std.specs.declared.rc.Rc.{Rc}
use Rattle.std.specs.declared.alloc.Global.{Global}
use Rattle.xt_record.specs.declared.entry.Entry.{Entry}
use Rattle.xt_record.specs.declared.key.Key.{Key}
use Rattle.xt_record.specs.declared.record.Record.{Record}
use Rattle.xt_record.specs.declared.tree.Tree.{Tree}

pub record Row (A : Type 0) : Type 0 where
  pub items : List A

pub record Listed : Type 0 where
  pub records : Row (Rc Record Global)
  pub trees : Row Tree

abbrev pub record_in : Entry → Rc Record Global
record_in e = e.record

abbrev pub tree_in : Entry → Tree
tree_in e = e.tree

abbrev pub records_in : List Entry → List (Rc Record Global)
records_in es = map record_in es

abbrev pub trees_in : List Entry → List Tree
trees_in es = map tree_in es

abbrev pub listed : List Entry → Listed
listed es = record { records = record { items = records_in es }; trees = record { items = trees_in es } }

abbrev pub key_at : Entry → Key
key_at e = e.key

abbrev pub keys_of : List Entry → List Key
keys_of es = map key_at es
