-- The declarations of a search tree in its order: those before a node, its own, and those after it.
use Rattle.std.specs.Prelude.{Bool, false, List, [], ◌∷◌, ◌++◌, Option, None, Some, bytes_eq, T}
use Rattle.std.specs.Ordering.{nat_cmp}
use Rattle.std.specs.Cmp.Lexicographic.{slice_cmp}
use Rattle.std.specs.FinMap.Entries.{find, is_sorted}
use Rattle.std.specs.declared.rc.Rc.{Rc}
use Rattle.std.specs.declared.alloc.Global.{Global}
use Rattle.xt_names.specs.declared.search_tree.Node.{Node, Node-F, fold-Node}
use Rattle.xt_names.specs.View.{Entry, entry_of}

abbrev pub listed : Option (Rc (List Entry) Global) → List Entry
listed None = []
listed (Some entries) = entries.value

abbrev pub node_step : Node-F (List Entry) → List Entry
node_step n = listed n.before ++ entry_of n.namespace.value ∷ listed n.after

abbrev pub node_entries : Node → List Entry
node_entries = fold-Node (List Entry) node_step

abbrev pub link_entries : Option (Rc Node Global) → List Entry
link_entries None = []
link_entries (Some node) = node_entries node.value

-- the prefixes strictly rise
pub record IsOrdered (entries : List Entry) : Type 0 where
  pub rises : T (is_sorted (slice_cmp nat_cmp) entries)

-- whether a declaration is found among these
abbrev pub has_entry : List Entry → Entry → Bool
has_entry entries e = elim (find (slice_cmp nat_cmp) e.0 entries) [ None ↦ false | Some uri ↦ bytes_eq uri e.1 ]
