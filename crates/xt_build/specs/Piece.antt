-- A forest as one list of its pieces: where a node begins, and where an element ends. It is gone through with a stack of
-- one's own, however deep the forest is.
use Rattle.std.specs.Prelude.{◌≡◌, ◌<◌, List, [], ◌∷◌, length}
use Rattle.spec_document.specs.Forest.{Content, Element, Text, Comment, Instruction, Forest, Empty, Node}
use Rattle.spec_document.specs.Balance.{LineNumbers}

pub data Piece : Type 0 where
  -- a node, and the lines where it stands. What is below an element follows, up to its end; any other node has nothing below it
  Begins : (lines : LineNumbers) → (content : Content) → Piece
  Ends : Piece

abbrev pub first_of : List (Forest LineNumbers) → Forest LineNumbers
first_of [] = Empty
first_of (f ∷ fs) = f

-- an element in front: what follows up to its end is below it, and what follows behind that are its siblings
abbrev pub element_before : LineNumbers → Content → List (Forest LineNumbers) → List (Forest LineNumbers)
element_before lines content [] = Node lines content Empty Empty ∷ []
element_before lines content (children ∷ []) = Node lines content children Empty ∷ []
element_before lines content (children ∷ siblings ∷ behind) = Node lines content children siblings ∷ behind

-- another node in front
abbrev pub leaf_before : LineNumbers → Content → List (Forest LineNumbers) → List (Forest LineNumbers)
leaf_before lines content [] = Node lines content Empty Empty ∷ []
leaf_before lines content (siblings ∷ behind) = Node lines content Empty siblings ∷ behind

abbrev pub node_before : LineNumbers → Content → List (Forest LineNumbers) → List (Forest LineNumbers)
node_before lines (Element name attributes) behind = element_before lines (Element name attributes) behind
node_before lines (Text text) behind = leaf_before lines (Text text) behind
node_before lines (Comment text) behind = leaf_before lines (Comment text) behind
node_before lines (Instruction target text) behind = leaf_before lines (Instruction target text) behind

abbrev pub piece_before : Piece → List (Forest LineNumbers) → List (Forest LineNumbers)
piece_before (Begins lines content) behind = node_before lines content behind
piece_before Ends behind = Empty ∷ behind

-- what pieces say of the forests that are open in front of others: the siblings that go on at the present level, then
-- those that follow behind its parent, and so on to the top
abbrev pub pieces_before : List Piece → List (Forest LineNumbers) → List (Forest LineNumbers)
pieces_before [] behind = behind
pieces_before (piece ∷ pieces) behind = piece_before piece (pieces_before pieces behind)

abbrev pub open_in : List Piece → List (Forest LineNumbers)
open_in pieces = pieces_before pieces (Empty ∷ [])

-- the forest of the pieces
abbrev pub forest_in : List Piece → Forest LineNumbers
forest_in pieces = first_of (open_in pieces)

-- in front of these forests each element has its end: what is below it is open there, and its siblings
abbrev pub AreClosed : List Piece → List (Forest LineNumbers) → Type 0
AreClosed [] behind = Unit {0}
AreClosed (Ends ∷ pieces) behind = AreClosed pieces behind
AreClosed (Begins lines (Element name attributes) ∷ pieces) behind = (1 < length (pieces_before pieces behind)) × AreClosed pieces behind
AreClosed (Begins lines (Text text) ∷ pieces) behind = AreClosed pieces behind
AreClosed (Begins lines (Comment text) ∷ pieces) behind = AreClosed pieces behind
AreClosed (Begins lines (Instruction target text) ∷ pieces) behind = AreClosed pieces behind

-- nothing but that forest is there, and each element has its end
abbrev pub IsWhole : List Piece → Type 0
IsWhole pieces = (length (open_in pieces) ≡ 1) × AreClosed pieces (Empty ∷ [])
