-- The numbers by which moves are refused: none is that of want of memory.
use Rattle.std.proofs.Common.{ℕ, ◌+◌, Bool, true, false, List, [], ◌∷◌, Option, None, Some, lit<}
use Rattle.std.specs.Prelude.{not, nat_lt, is_none, if◌then◌else◌}
use Rattle.spec_document.specs.declared.parent.Parent.{Parent}
use Rattle.spec_document.specs.Forest.{Plain, Forest, Document, plain, height}
use Rattle.spec_document.specs.NodeFaults.{greatest_depth}
use Rattle.spec_document.specs.Numbering.{number_faults}
use Rattle.spec_document.specs.Place.{Found, node_at, scope_at}
use Rattle.spec_document.specs.Document.{elements_beside}
use Rattle.spec_edit.specs.Splice.{Spot, spot_of}
use Rattle.spec_edit.specs.Edit.{depth_of, is_position, parent_by, without_lines}
use Rattle.spec_move.specs.Move.{is_path, goes_through, tree_of, moved, moved_document, origin_faults, target_faults, parent_faults, position_faults}
use Rattle.spec_move.specs.Move.{keeps_labels, move_faults, moved_below, moved_between, moved_from, moved_at, moved_there}
use Rattle.spec_session.proofs.EditFaults.{either, node-found, spot-found}
use Rattle.spec_session.proofs.FaultNumbers.{Above, FaultIsAbove, both, one_if, answer-above, node-above, number-above, top-above}

-- ---- The paths

origin-above : {L : Type 0} (document : Document L) (path : List ℕ) → Above (origin_faults document path)
origin-above document [] = (lit< tt, tt)
origin-above document (position ∷ positions) = one_if (is_none (node_at document (position ∷ positions))) 6 0 (lit< tt)

position-above : {L : Type 0} (spot : Spot) (node : Found L) (parent : Option Parent) → Above (position_faults spot node parent)
position-above spot node None = (lit< tt, tt)
position-above spot node (Some parent) = one_if (not (is_position spot.position node.children)) 6 0 (lit< tt)

parent-above : {L : Type 0} (spot : Spot) (node : Option (Found L)) → Above (parent_faults spot node)
parent-above spot None = (lit< tt, tt)
parent-above spot (Some node) = position-above spot node (parent_by node.content node)

target-above : {L : Type 0} (document : Document L) (spot : Option Spot) → Above (target_faults document spot)
target-above document None = (lit< tt, tt)
target-above document (Some spot) = parent-above spot (node_at document spot.above)

-- ---- What is judged at another parent

numbers-above : (keeps : Bool) (first : ℕ) (lines : List ℕ) → Above (if keeps then [] else number_faults first lines)
numbers-above true first lines = tt
numbers-above false first lines = number-above _

judged-above : {L : Type 0} (keeps : Bool) (first : ℕ) (beside : Option ℕ) (new : Found L) (tree : Forest L) → Above (move_faults keeps first beside new tree)
judged-above keeps first beside new tree =
    both _ _ (both _ _ (both _ _ (top-above beside (without_lines tree)) (node-above (scope_at new) (depth_of new + 1) (without_lines tree)))
    (one_if (nat_lt (greatest_depth + 1) (depth_of new + height tree)) 11 0 (lit< tt))) (numbers-above keeps first _)

-- ---- The move

below-above : {L : Type 0} (anew : Forest ℕ → Forest L) (first : ℕ) (from to : Spot) (document : Document L) (old new : Found L) (tree : Forest L)
    (parent : Parent) → FaultIsAbove (moved_below anew first from to document old new tree parent)
below-above anew first from to document old new tree parent =
    let judged = judged-above (keeps_labels old new) first (elements_beside parent) new tree in
    answer-above (move_faults (keeps_labels old new) first (elements_beside parent) new tree) _ judged tt

between-above : {L : Type 0} (anew : Forest ℕ → Forest L) (first : ℕ) (path : List ℕ) (from to : Spot) (document : Document L) (old new : Found L)
    (tree : Forest L) (parent : Option Parent) → FaultIsAbove (moved_between anew first path from to document old new tree parent)
between-above anew first path from to document old new tree None = lit< tt
between-above anew first path from to document old new tree (Some parent) =
    either (goes_through to.above path) _ _ (lit< tt) (below-above anew first from to document old new tree parent)

from-above : {L : Type 0} (anew : Forest ℕ → Forest L) (first : ℕ) (path : List ℕ) (from to : Spot) (document : Document L) (tree : Forest L)
    (old new : Option (Found L)) → FaultIsAbove (moved_from anew first path from to document tree old new)
from-above anew first path from to document tree None new = lit< tt
from-above anew first path from to document tree (Some old) None = lit< tt
from-above anew first path from to document tree (Some old) (Some new) = between-above anew first path from to document old new tree _

at-above : {L : Type 0} (anew : Forest ℕ → Forest L) (first : ℕ) (path : List ℕ) (from to : Spot) (document : Document L) (tree : Forest L)
    → FaultIsAbove (moved_at anew first path from to document tree)
at-above anew first path from to document tree =
    either (is_path from.above to.above) _ _ tt (from-above anew first path from to document tree (node_at document from.above) (node_at document to.above))

there-above : {L : Type 0} (anew : Forest ℕ → Forest L) (first : ℕ) (path other : List ℕ) (document : Document L)
    → FaultIsAbove (moved_there anew first path other document)
there-above anew first path other document =
    spot-found path _ (λ from. spot-found other _ (λ to. node-found _ (node_at document path)
    (λ node content. at-above anew first path from to document (tree_of node content))))

moved-above : {L : Type 0} (anew : Forest ℕ → Forest L) (first : ℕ) (path other : List ℕ) (document : Document L)
    → FaultIsAbove (moved anew first path other document)
moved-above anew first path other document =
    answer-above _ _ (both _ _ (origin-above document path) (target-above document (spot_of other)))
    (either (is_path path other) _ _ tt (there-above anew first path other document))

-- no refusal of a move has the number of want of memory
pub move-above : (made : ℕ) (path other : List ℕ) (found : Option Plain) → FaultIsAbove (moved_document made path other found)
move-above made path other None = lit< tt
move-above made path other (Some tree) = moved-above plain made path other _
