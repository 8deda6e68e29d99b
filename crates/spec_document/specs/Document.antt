-- What makes lines a document, and which fault is answered where they make none.
--     document_of, nodes_of      the document, or the siblings, of the lines of a body; else the fault that is answered
use Rattle.std.specs.Prelude.{ℕ, ◌+◌, List, [], ◌∷◌, ◌++◌, map, Option, None, Some, Result, Ok, Err}
use Rattle.spec_document.specs.declared.event.Event.{Event}
use Rattle.spec_document.specs.declared.parent.Parent.{Parent}
use Rattle.spec_document.specs.declared.parent.Parent.TheVariants.{Root, Element as ElementParent}
use Rattle.spec_document.specs.Scope.{Scope}
use Rattle.spec_document.specs.Forest.{Forest, Document, labels, numbered}
use Rattle.spec_document.specs.Fault.{Fault, answer_of}
use Rattle.spec_document.specs.Body.{events_at, line_faults}
use Rattle.spec_document.specs.Balance.{LineNumbers, forest_of, unbalanced_line}
use Rattle.spec_document.specs.Top.{without_texts, top_faults, kept}
use Rattle.spec_document.specs.NodeFaults.{node_faults}
use Rattle.spec_document.specs.Numbering.{number_faults}

-- a number that is over the limit takes nothing away; a root is numbered first and has no line
abbrev pub document_by : Scope → ℕ → Forest LineNumbers → Result (Document ℕ) Fault
document_by scope first forest =
    answer_of (top_faults (Some 0) forest ++ node_faults scope 1 forest ++ number_faults first (0 ∷ map (λ l. l.first) (labels (without_texts forest))))
    (Ok (record { root = first; nodes = numbered (first + 1) (without_texts forest) }))

-- how many elements a root has besides, and how deep a parent is
abbrev pub elements_beside : Parent → Option ℕ
elements_beside (Root elements) = Some elements
elements_beside (ElementParent depth) = None

abbrev pub depth_of : Parent → ℕ
depth_of (Root elements) = 0
depth_of (ElementParent depth) = depth

abbrev pub nodes_by : Scope → ℕ → Parent → Forest LineNumbers → Result (Forest ℕ) Fault
nodes_by scope first parent forest =
    let others = elements_beside parent in
    answer_of (top_faults others forest ++ node_faults scope (depth_of parent + 1) forest ++ number_faults first (map (λ l. l.first) (labels (kept others forest))))
    (Ok (numbered first (kept others forest)))

-- what balanced events make, or where they are not balanced
abbrev pub made_of : {A : Type 0} → (Forest LineNumbers → Result A Fault) → List (ℕ × Event (List ℕ)) → Result A Fault
made_of make events =
    elim (forest_of events) [ None ↦ Err (record { number = 9; line = unbalanced_line None [] events }) | Some forest ↦ make forest ]

-- the document of these lines, its nodes numbered from `first` on with the root, its names read in this scope
abbrev pub document_of : Scope → ℕ → List (List ℕ) → Result (Document ℕ) Fault
document_of scope first body = answer_of (line_faults body) (made_of (document_by scope first) (events_at body))

-- the siblings of these lines, for a parent with this scope inside
abbrev pub nodes_of : Scope → ℕ → Parent → List (List ℕ) → Result (Forest ℕ) Fault
nodes_of scope first parent body = answer_of (line_faults body) (made_of (nodes_by scope first parent) (events_at body))
