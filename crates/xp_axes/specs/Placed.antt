-- Nodes with their paths, and document order by these.
use Rattle.std.specs.Prelude.{ℕ, ◌≡◌, List, [], ◌∷◌, ◌++◌, length, Option}
use Rattle.std.specs.List.{find}
use Rattle.std.specs.Option.{ForSome, option_map, option_to_list}
use Rattle.std.specs.Ordering.{nat_cmp, ordering_then}
use Rattle.std.specs.declared.cmp.Ordering.{Ordering}
use Rattle.std.specs.Cmp.Lexicographic.{slice_cmp}
use Rattle.spec_document.specs.Forest.{Document}
use Rattle.spec_document.specs.Place.{namespaces_of}
use Rattle.spec_document.specs.Order.{Entry, entries_of}
use Rattle.xt_tree.specs.View.{numbered_node}
use Rattle.spec_node.specs.declared.node_ref.NodeRef.{NodeRef}
use Rattle.spec_node.specs.declared.node_ref.Part.{Part}
use Rattle.spec_node.specs.declared.node_ref.Part.TheVariants as part
use Rattle.spec_node.specs.Naming.{ref_of, same_ref}
pub use Rattle.xp_axes.specs.declared.ordered.Placed.{Placed}

-- where a part of a node stands among its parts
abbrev pub rank : Part → ℕ × ℕ
rank part.Itself = (0, 0)
rank (part.Namespace number) = (1, number)
rank (part.Attribute number) = (2, number)

abbrev pub part_cmp : Part → Part → Ordering
part_cmp p q = ordering_then (nat_cmp (rank p).0 (rank q).0) (nat_cmp (rank p).1 (rank q).1)

-- by the path, then by the part, then by the number
abbrev pub placed_cmp : Placed → Placed → Ordering
placed_cmp p q =
    ordering_then (ordering_then (slice_cmp nat_cmp p.path q.path) (part_cmp p.node.part q.node.part)) (nat_cmp p.node.node.number q.node.node.number)

-- an entry of the listing, and the node of a name where it is listed
abbrev pub placed_of : Entry ℕ → Placed
placed_of entry = record { path = entry.place.positions; node = ref_of entry }

abbrev pub place_of : Document ℕ → NodeRef → Option Placed
place_of document node = option_map placed_of (find (λ entry. same_ref node (ref_of entry)) (entries_of document))

abbrev pub places_of : Document ℕ → List NodeRef → List Placed
places_of document [] = []
places_of document (node ∷ nodes) = option_to_list (place_of document node) ++ places_of document nodes

-- the node of this number, where there is one, has so many namespace nodes
abbrev pub HasNamespaces : Document ℕ → ℕ → ℕ → Type 0
HasNamespaces document number count = ForSome (numbered_node document number) (λ node. count ≡ length (namespaces_of node))
