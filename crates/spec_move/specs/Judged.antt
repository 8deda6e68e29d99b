-- The faults of the whole document with a node moved.
use Rattle.std.specs.Prelude.{ℕ, ◌-◌, List, [], ◌++◌, map, Some, if◌then◌else◌}
use Rattle.spec_document.specs.declared.parent.Parent.{Parent}
use Rattle.spec_document.specs.Scope.{root_scope}
use Rattle.spec_document.specs.Forest.{Forest, Document, labels}
use Rattle.spec_document.specs.Place.{Found}
use Rattle.spec_document.specs.Fault.{Fault}
use Rattle.spec_document.specs.NodeFaults.{node_faults}
use Rattle.spec_document.specs.Numbering.{number_faults}
use Rattle.spec_document.specs.Top.{top_faults, kept}
use Rattle.spec_document.specs.Document.{elements_beside}
use Rattle.spec_edit.specs.Splice.{Spot, children_changed}
use Rattle.spec_edit.specs.Edit.{without_lines}
use Rattle.spec_move.specs.Move.{is_path, keeps_labels, rearranged, carried}

-- the document with the node at its new place, and the white space that may then stand at the top still there
abbrev pub whole_with : {L : Type 0} → (from to : Spot) → (old : Found L) → (tree : Forest L) → Document L → Forest L
whole_with from to old tree document =
    if is_path from.above to.above then children_changed (rearranged (from.position - 1) (to.position - 1) tree) from.above document.nodes
    else carried from to old tree document

-- the faults at its top and those of all its nodes, as if all of it were read, and of the numbers that are given where the node is made anew
abbrev pub faults_moving : {L : Type 0} → ℕ → (from to : Spot) → (old new : Found L) → (tree : Forest L) → Parent → Document L → List Fault
faults_moving first from to old new tree parent document =
    let whole = without_lines (whole_with from to old tree document) in
    top_faults (Some 0) whole
    ++ node_faults root_scope 1 whole
    ++ (if keeps_labels old new then [] else number_faults first (map (λ l. l.first) (labels (kept (elements_beside parent) (without_lines tree)))))
