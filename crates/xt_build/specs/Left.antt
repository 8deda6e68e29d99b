-- What is still to be gone through, where some forests are open: for each walk over pieces its share of the whole.
use Rattle.std.specs.Prelude.{ℕ, Bool, true, false, ◌+◌, List, [], ◌∷◌, ◌++◌, map, drop, length, Option}
use Rattle.spec_document.specs.Forest.{Forest, Content, Element, Text, Comment, Instruction, labels, numbered, size}
use Rattle.spec_document.specs.Scope.{Scope}
use Rattle.spec_document.specs.Fault.{Fault}
use Rattle.spec_document.specs.Balance.{LineNumbers}
use Rattle.spec_document.specs.Top.{kept}
use Rattle.spec_document.specs.NodeFaults.{node_faults}

-- the innermost of the scopes of open elements, or the one outside
abbrev pub innermost : Scope → List Scope → Scope
innermost outside [] = outside
innermost outside (scope ∷ scopes) = scope

-- the faults of the nodes of open forests. Those of the outermost stand at this depth
abbrev pub open_faults : Scope → ℕ → List Scope → List (Forest LineNumbers) → List Fault
open_faults outside depth scopes [] = []
open_faults outside depth scopes (f ∷ fs) =
    node_faults (innermost outside scopes) (depth + length scopes) f ++ open_faults outside depth (drop 1 scopes) fs

-- open forests as they are kept: the outermost without its texts, where it stands under a root
abbrev pub kept_open : Option ℕ → List (Forest LineNumbers) → List (Forest LineNumbers)
kept_open others [] = []
kept_open others (f ∷ []) = kept others f ∷ []
kept_open others (f ∷ g ∷ fs) = f ∷ kept_open others (g ∷ fs)

-- the lines where the nodes of open forests begin, in document order
abbrev pub open_lines : List (Forest LineNumbers) → List ℕ
open_lines [] = []
open_lines (f ∷ fs) = map (λ l. l.first) (labels f) ++ open_lines fs

-- how many nodes open forests have
abbrev pub open_size : List (Forest LineNumbers) → ℕ
open_size [] = 0
open_size (f ∷ fs) = size f + open_size fs

-- open forests, their nodes numbered in document order
abbrev pub open_numbered : ℕ → List (Forest LineNumbers) → List (Forest ℕ)
open_numbered n [] = []
open_numbered n (f ∷ fs) = numbered n f ∷ open_numbered (n + size f) fs

abbrev pub is_text : Content → Bool
is_text (Element name attributes) = false
is_text (Text text) = true
is_text (Comment text) = false
is_text (Instruction target text) = false
