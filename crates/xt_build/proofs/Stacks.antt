-- Stacks of open forests, and what pieces in front make of them.
use Rattle.std.proofs.Common.{◌≡◌, ◌<◌, Bool, true, false, List, [], ◌∷◌, length, arith}
use Rattle.spec_document.specs.Forest.{Forest, Content, Element, Text, Comment, Instruction}
use Rattle.spec_document.specs.Balance.{LineNumbers}
use Rattle.xt_build.specs.Piece.{Piece, Begins, Ends, element_before, leaf_before, pieces_before, open_in, AreClosed}

element-some : (l : LineNumbers) (c : Content) (s : List (Forest LineNumbers)) → 0 < length (element_before l c s)
element-some l c [] = omega arith
element-some l c (f ∷ []) = omega arith
element-some l c (f ∷ g ∷ s) = omega arith

leaf-some : (l : LineNumbers) (c : Content) (s : List (Forest LineNumbers)) → 0 < length (leaf_before l c s)
leaf-some l c [] = omega arith
leaf-some l c (f ∷ s) = omega arith

-- some forest is always open
pub open-some : (ps : List Piece) → 0 < length (open_in ps)
open-some [] = omega arith
open-some (Ends ∷ ps) = omega arith
open-some (Begins l (Element n a) ∷ ps) = element-some l (Element n a) (open_in ps)
open-some (Begins l (Text t) ∷ ps) = leaf-some l (Text t) (open_in ps)
open-some (Begins l (Comment t) ∷ ps) = leaf-some l (Comment t) (open_in ps)
open-some (Begins l (Instruction n t) ∷ ps) = leaf-some l (Instruction n t) (open_in ps)

abbrev pub is_element : Content → Bool
is_element (Element name a) = true
is_element (Text t) = false
is_element (Comment t) = false
is_element (Instruction m t) = false

-- each element has its end, behind the first piece and at it
pub closed-rest : (p : Piece) (ps : List Piece) (behind : List (Forest LineNumbers)) → AreClosed (p ∷ ps) behind → AreClosed ps behind
closed-rest Ends ps behind h = h
closed-rest (Begins l (Element n a)) ps behind h = h.1
closed-rest (Begins l (Text t)) ps behind h = h
closed-rest (Begins l (Comment t)) ps behind h = h
closed-rest (Begins l (Instruction n t)) ps behind h = h

pub closed-element : (l : LineNumbers) (c : Content) (ps : List Piece) (behind : List (Forest LineNumbers)) → is_element c ≡ true
    → AreClosed (Begins l c ∷ ps) behind
    → 1 < length (pieces_before ps behind)
closed-element l (Element n a) ps behind e h = h.0
closed-element l (Text t) ps behind e h = absurd (cc)
closed-element l (Comment t) ps behind e h = absurd (cc)
closed-element l (Instruction n t) ps behind e h = absurd (cc)
