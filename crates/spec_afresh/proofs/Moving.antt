-- Moves keep documents made of XML Chars.
use Rattle.std.proofs.Common.{◌≡◌, ℕ, ◌+◌, ◌-◌, Bool, true, false, cond, List, [], ◌∷◌, ◌++◌, Option, None, Some, subst}
use Rattle.std.specs.Prelude.{Ok, nat_lt}
use Rattle.spec_document.specs.Forest.{Forest, Document, plain}
use Rattle.spec_document.specs.declared.parent.Parent.{Parent}
use Rattle.spec_document.specs.Top.{kept}
use Rattle.spec_document.specs.Document.{elements_beside}
use Rattle.spec_document.specs.Place.{Found, node_at}
use Rattle.spec_edit.specs.Splice.{Spot, spot_of, spot_from, first_siblings, later_siblings, children_changed, met, inserted, deleted}
use Rattle.spec_edit.specs.Edit.{Edited, parent_by, refused}
use Rattle.spec_move.specs.Move.{is_path, goes_through, origin_faults, target_faults, keeps_labels, put_in, siblings_between, rearranged}
use Rattle.spec_move.specs.Move.{path_without, carried}
use Rattle.spec_move.specs.Move.{tree_of, move_faults, placed, with_placed, moved_below, moved_between, moved_from, moved_at, moved_there}
use Rattle.spec_move.specs.Move.{moved_nodes}
use Rattle.spec_afresh.specs.Characters.{HasChars}
use Rattle.spec_afresh.proofs.Characters.{chars-plain, chars-numbered, chars-kept, chars-first, chars-later, chars-met, chars-inserted, chars-deleted}
use Rattle.spec_afresh.proofs.Characters.{chars-changed}
use Rattle.spec_afresh.proofs.Editing.{IfEdited, answered-chars, either-chars, at-node}

-- ---- Siblings in other places

put-chars : (from to : ℕ) (others f : Forest ℕ) → HasChars others → HasChars f → HasChars (put_in from to others f)
put-chars from to others f h k =
    chars-met (first_siblings from f) (met others (later_siblings to f)) (chars-first from f k)
    (chars-met others (later_siblings to f) h (chars-later to f k))

between-chars : (from to : ℕ) (f : Forest ℕ) → HasChars f → HasChars (siblings_between from to f)
between-chars from to f h = chars-first (to - from) (later_siblings from f) (chars-later from f h)

rearranged-chars : (from to : ℕ) (nodes f : Forest ℕ) → HasChars nodes → HasChars f → HasChars (rearranged from to nodes f)
rearranged-chars from to nodes f h k =
    elim (nat_lt from to) as (λ b. HasChars (cond b (put_in from to (met (siblings_between (from + 1) to f) nodes) f)
    (put_in to (from + 1) (met nodes (siblings_between to from f)) f))) [
      | true ↦ put-chars from to (met (siblings_between (from + 1) to f) nodes) f
          (chars-met (siblings_between (from + 1) to f) nodes (between-chars (from + 1) to f k) h) k
      | false ↦ put-chars to (from + 1) (met nodes (siblings_between to from f)) f
          (chars-met nodes (siblings_between to from f) h (between-chars to from f k)) k
    ]

abbrev same_nodes : Forest ℕ → Forest ℕ
same_nodes nodes = nodes

placed-chars : (keeps : Bool) (first : ℕ) (nodes : Forest ℕ) → HasChars nodes → HasChars (placed same_nodes keeps first nodes).nodes
placed-chars true first nodes h = h
placed-chars false first nodes h = chars-numbered first (plain nodes) (chars-plain nodes h)

module _ (first : ℕ) (document : Document ℕ) (old : HasChars document.nodes) where
  carried-chars : (from to : Spot) (node : Found ℕ) (nodes : Forest ℕ) → HasChars nodes → HasChars (carried from to node nodes document)
  carried-chars from to node nodes h =
      let without = children_changed (deleted (from.position - 1)) from.above document.nodes in
      chars-changed (inserted (to.position - 1) nodes) (λ f k. chars-inserted (to.position - 1) nodes f h k) (path_without from node to.above) without
      (chars-changed (deleted (from.position - 1)) (chars-deleted (from.position - 1)) from.above document.nodes old)

  below-chars : (from to : Spot) (node new : Found ℕ) (tree : Forest ℕ) (parent : Parent) → HasChars tree
      → IfEdited (moved_below same_nodes first from to document node new tree parent)
  below-chars from to node new tree parent h =
      let keeps = keeps_labels node new in
      let beside = elements_beside parent in
      let there = placed same_nodes keeps first (kept beside tree) in
      answered-chars (move_faults keeps first beside new tree) (Ok (with_placed from to node document there))
      (carried-chars from to node there.nodes (placed-chars keeps first (kept beside tree) (chars-kept beside tree h)))

  between-parents : (path : List ℕ) (from to : Spot) (node new : Found ℕ) (tree : Forest ℕ) (o : Option Parent) → HasChars tree
      → IfEdited (moved_between same_nodes first path from to document node new tree o)
  between-parents path from to node new tree None h = tt
  between-parents path from to node new tree (Some parent) h =
      either-chars (goes_through to.above path) (refused 15) (moved_below same_nodes first from to document node new tree parent)
      (λ inside. tt) (below-chars from to node new tree parent h)

  from-parents : (path : List ℕ) (from to : Spot) (tree : Forest ℕ) (o p : Option (Found ℕ)) → HasChars tree
      → IfEdited (moved_from same_nodes first path from to document tree o p)
  from-parents path from to tree None p h = tt
  from-parents path from to tree (Some node) None h = tt
  from-parents path from to tree (Some node) (Some new) h = between-parents path from to node new tree (parent_by new.content new) h

  at-chars : (path : List ℕ) (from to : Spot) (tree : Forest ℕ) → HasChars tree → IfEdited (moved_at same_nodes first path from to document tree)
  at-chars path from to tree h =
      let n = from.position - 1 in
      let m = to.position - 1 in
      either-chars (is_path from.above to.above)
      (Ok (record { nodes = children_changed (rearranged n m tree) from.above document.nodes; made = 0 }))
      (moved_from same_nodes first path from to document tree (node_at document from.above) (node_at document to.above))
      (λ same. chars-changed (rearranged n m tree) (λ f k. rearranged-chars n m tree f h k) from.above document.nodes old)
      (from-parents path from to tree (node_at document from.above) (node_at document to.above) h)

  there-chars : (path other : List ℕ) → IfEdited (moved_there same_nodes first path other document)
  there-chars [] other = tt
  there-chars (p ∷ ps) [] = tt
  there-chars (p ∷ ps) (q ∷ qs) =
      let from = spot_from p ps in
      let to = spot_from q qs in
      at-node first document old (λ node content. moved_at same_nodes first (p ∷ ps) from to document (tree_of node content))
      (λ node content h. at-chars (p ∷ ps) from to (tree_of node content) (h.0, h.1, tt)) (p ∷ ps)

  moved-chars : (path other : List ℕ) → IfEdited (moved_nodes first path other document)
  moved-chars path other =
      answered-chars (origin_faults document path ++ target_faults document (spot_of other)) _
      (either-chars (is_path path other) (Ok (record { nodes = document.nodes; made = 0 })) (moved_there same_nodes first path other document)
      (λ same. old) (there-chars path other))

pub move-chars : (first : ℕ) (path other : List ℕ) (document : Document ℕ) (new : Edited ℕ) → moved_nodes first path other document ≡ Ok new
    → HasChars document.nodes → HasChars new.nodes
move-chars first path other document new e old = subst IfEdited e (moved-chars first document old path other)
