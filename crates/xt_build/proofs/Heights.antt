-- How deep a forest without faults is.
use Rattle.std.proofs.Common.{◌≡◌, ◌≤◌, ℕ, ◌+◌, Bool, true, false, List, [], ◌∷◌, ◌++◌, Option, None, max, ltb-false, refl, sym}
use Rattle.std.proofs.Common.{ap, ◌∙◌, arith}
use Rattle.std.specs.Prelude.{nat_lt}
use Rattle.spec_document.specs.Scope.{Scope}
use Rattle.spec_document.specs.Declaration.{within}
use Rattle.spec_document.specs.Forest.{Written, Element, Text, Comment, Instruction, Forest, Empty, Node, height, numbered, size}
use Rattle.spec_document.specs.Fault.{Fault, fault_if, least}
use Rattle.spec_document.specs.Balance.{LineNumbers}
use Rattle.spec_document.specs.Top.{without_texts}
use Rattle.spec_document.specs.NodeFaults.{is_wrong_element, greatest_depth, attribute_faults, content_faults, node_faults}
use Rattle.spec_edit.specs.Depth.{ElementsFit}
use Rattle.xt_build.specs.Least.{merged}
use Rattle.xt_build.specs.Piece.{Piece, Begins, Ends, first_of, piece_before, pieces_before, open_in, forest_in}
use Rattle.xt_build.proofs.Building.{merged_none, least_none}
use Rattle.xt_build.proofs.RoundTripFaults.{both_empty}

-- ---- Nothing is below a node that is no element

abbrev pub AreBare : {L : Type 0} → Forest L → Type 0
AreBare Empty = Unit {0}
AreBare (Node l (Element name a) f g) = AreBare f × AreBare g
AreBare (Node l (Text t) f g) = (f ≡ Empty) × AreBare g
AreBare (Node l (Comment t) f g) = (f ≡ Empty) × AreBare g
AreBare (Node l (Instruction n t) f g) = (f ≡ Empty) × AreBare g

abbrev AllBare : List (Forest LineNumbers) → Type 0
AllBare [] = Unit {0}
AllBare (f ∷ fs) = AreBare f × AllBare fs

bare-piece : (p : Piece) (s : List (Forest LineNumbers)) → AllBare s → AllBare (piece_before p s)
bare-piece Ends s h = (tt, h)
bare-piece (Begins l (Element n a)) [] h = ((tt, tt), tt)
bare-piece (Begins l (Element n a)) (f ∷ []) h = ((h.0, tt), tt)
bare-piece (Begins l (Element n a)) (f ∷ g ∷ s) h = ((h.0, h.1.0), h.1.1)
bare-piece (Begins l (Text t)) [] h = ((refl, tt), tt)
bare-piece (Begins l (Text t)) (f ∷ s) h = ((refl, h.0), h.1)
bare-piece (Begins l (Comment t)) [] h = ((refl, tt), tt)
bare-piece (Begins l (Comment t)) (f ∷ s) h = ((refl, h.0), h.1)
bare-piece (Begins l (Instruction n t)) [] h = ((refl, tt), tt)
bare-piece (Begins l (Instruction n t)) (f ∷ s) h = ((refl, h.0), h.1)

bare-pieces : (ps : List Piece) (s : List (Forest LineNumbers)) → AllBare s → AllBare (pieces_before ps s)
bare-pieces [] s h = h
bare-pieces (p ∷ ps) s h = bare-piece p (pieces_before ps s) (bare-pieces ps s h)

bare-first : (s : List (Forest LineNumbers)) → AllBare s → AreBare (first_of s)
bare-first [] h = tt
bare-first (f ∷ s) h = h.0

pub bare-forest : (ps : List Piece) → AreBare (forest_in ps)
bare-forest ps = bare-first (open_in ps) (bare-pieces ps (Empty ∷ []) (tt, tt))

-- ---- No fault of depth

none-stands : (stands : Bool) (number line : ℕ) → fault_if stands number line ≡ [] → stands ≡ false
none-stands true number line e = absurd (cc)
none-stands false number line e = refl

within-depth : (scope : Scope) (depth : ℕ) (l : LineNumbers) (name : List ℕ) (a : List Written) → content_faults scope depth l (Element name a) ≡ []
    → depth ≤ greatest_depth
within-depth scope depth l name a e =
    let wrong = fault_if (is_wrong_element scope name) 10 l.first in
    let deep = fault_if (nat_lt greatest_depth depth) 11 l.first in
    let front = both_empty (wrong ++ deep) (attribute_faults scope [] l.attributes a) e in
    ltb-false greatest_depth depth (none-stands (nat_lt greatest_depth depth) 11 l.first (both_empty wrong deep front.0).1)

taller : (f g depth : ℕ) → f + (depth + 1) ≤ greatest_depth + 2 → g + depth ≤ greatest_depth + 2 → max (1 + f) g + depth ≤ greatest_depth + 2
taller f g depth below after = omega (arith, below, after)

leaf : {L : Type 0} (f : Forest L) (g depth : ℕ) → f ≡ Empty → depth ≤ greatest_depth + 1 → g + depth ≤ greatest_depth + 2
    → max (1 + height f) g + depth ≤ greatest_depth + 2
leaf f g depth e d after = let none = ap height e in omega (arith, none, d, after)

pub height-fits : (f : Forest LineNumbers) (scope : Scope) (depth : ℕ) → AreBare f → depth ≤ greatest_depth + 1 → node_faults scope depth f ≡ []
    → height f + depth ≤ greatest_depth + 2
height-fits Empty scope depth h d e = omega (arith, d)
height-fits (Node l (Element name a) f g) scope depth h d e =
    let inside = within (Element name a) scope in
    let parts = both_empty (content_faults inside depth l (Element name a) ++ node_faults inside (depth + 1) f) (node_faults scope depth g) e in
    let front = both_empty (content_faults inside depth l (Element name a)) (node_faults inside (depth + 1) f) parts.0 in
    let fits = within-depth inside depth l name a front.0 in
    taller (height f) (height g) depth (height-fits f inside (depth + 1) h.0 (omega (arith, fits)) front.1) (height-fits g scope depth h.1 d parts.1)
height-fits (Node l (Text t) f g) scope depth h d e =
    leaf f (height g) depth h.0 d
    (height-fits g scope depth h.1 d (both_empty (content_faults scope depth l (Text t) ++ node_faults scope (depth + 1) f) (node_faults scope depth g) e).1)
height-fits (Node l (Comment t) f g) scope depth h d e =
    leaf f (height g) depth h.0 d
    (height-fits g scope depth h.1 d
    (both_empty (content_faults scope depth l (Comment t) ++ node_faults scope (depth + 1) f) (node_faults scope depth g) e).1)
height-fits (Node l (Instruction n t) f g) scope depth h d e =
    leaf f (height g) depth h.0 d
    (height-fits g scope depth h.1 d
    (both_empty (content_faults scope depth l (Instruction n t) ++ node_faults scope (depth + 1) f) (node_faults scope depth g) e).1)

pub elements-fit : (f : Forest LineNumbers) (scope : Scope) (depth : ℕ) → node_faults scope depth f ≡ [] → ElementsFit depth f
elements-fit Empty scope depth e = tt
elements-fit (Node l (Element name a) f g) scope depth e =
    let inside = within (Element name a) scope in
    let parts = both_empty (content_faults inside depth l (Element name a) ++ node_faults inside (depth + 1) f) (node_faults scope depth g) e in
    let front = both_empty (content_faults inside depth l (Element name a)) (node_faults inside (depth + 1) f) parts.0 in
    (λ is. within-depth inside depth l name a front.0, elements-fit f inside (depth + 1) front.1, elements-fit g scope depth parts.1)
elements-fit (Node l (Text t) f g) scope depth e =
    let parts = both_empty (content_faults scope depth l (Text t) ++ node_faults scope (depth + 1) f) (node_faults scope depth g) e in (
      λ is. absurd (cc),
      elements-fit f scope (depth + 1) (both_empty (content_faults scope depth l (Text t)) (node_faults scope (depth + 1) f) parts.0).1,
      elements-fit g scope depth parts.1,
    )
elements-fit (Node l (Comment t) f g) scope depth e =
    let parts = both_empty (content_faults scope depth l (Comment t) ++ node_faults scope (depth + 1) f) (node_faults scope depth g) e in (
      λ is. absurd (cc),
      elements-fit f scope (depth + 1) (both_empty (content_faults scope depth l (Comment t)) (node_faults scope (depth + 1) f) parts.0).1,
      elements-fit g scope depth parts.1,
    )
elements-fit (Node l (Instruction n t) f g) scope depth e =
    let parts = both_empty (content_faults scope depth l (Instruction n t) ++ node_faults scope (depth + 1) f) (node_faults scope depth g) e in (
      λ is. absurd (cc),
      elements-fit f scope (depth + 1) (both_empty (content_faults scope depth l (Instruction n t)) (node_faults scope (depth + 1) f) parts.0).1,
      elements-fit g scope depth parts.1,
    )

-- ---- The same nodes with numbers, and without the texts at the top

fit-numbered : {L : Type 0} (depth n : ℕ) (f : Forest L) → ElementsFit depth f → ElementsFit depth (numbered n f)
fit-numbered depth n Empty h = tt
fit-numbered depth n (Node l c f g) h = (h.0, fit-numbered (depth + 1) (n + 1) f h.1, fit-numbered depth (n + 1 + size f) g h.2)

fit-kept : {L : Type 0} (depth : ℕ) (f : Forest L) → ElementsFit depth f → ElementsFit depth (without_texts f)
fit-kept depth Empty h = tt
fit-kept depth (Node l (Text t) f g) h = fit-kept depth g h.2
fit-kept depth (Node l (Element n a) f g) h = (h.0, h.1, fit-kept depth g h.2)
fit-kept depth (Node l (Comment t) f g) h = (h.0, h.1, fit-kept depth g h.2)
fit-kept depth (Node l (Instruction n t) f g) h = (h.0, h.1, fit-kept depth g h.2)

height-numbered : {L : Type 0} (n : ℕ) (f : Forest L) → height (numbered n f) ≡ height f
height-numbered n Empty = refl
height-numbered n (Node l c f g) =
    let below = height-numbered (n + 1) f in
    let after = height-numbered (n + 1 + size f) g in
    λ i. max (1 + below i) (after i)

height-kept : {L : Type 0} (f : Forest L) → height (without_texts f) ≤ height f
height-kept Empty = omega arith
height-kept (Node l (Text t) f g) = let after = height-kept g in omega (arith, after)
height-kept (Node l (Element n a) f g) = let after = height-kept g in omega (arith, after)
height-kept (Node l (Comment t) f g) = let after = height-kept g in omega (arith, after)
height-kept (Node l (Instruction n t) f g) = let after = height-kept g in omega (arith, after)

-- what is found of names, then of the number of the root, then of the other numbers: where that is nothing, the names have no fault
none-found : (top names number numbers more most : Option Fault) (faults : List Fault) → names ≡ merged top (least faults)
    → number ≡ merged names more → numbers ≡ merged number most
    → numbers ≡ None → faults ≡ []
none-found top names number numbers more most faults n m o none =
    let first = (merged_none number most (sym o ∙ none)).0 in
    let second = (merged_none names more (sym m ∙ first)).0 in
    least_none faults (merged_none top (least faults) (sym n ∙ second)).1

pub document-height : (scope : Scope) (first : ℕ) (ps : List Piece) (top names number numbers more most : Option Fault)
    → names ≡ merged top (least (node_faults scope 1 (forest_in ps))) → number ≡ merged names more → numbers ≡ merged number most
    → numbers ≡ None
    → height (numbered first (without_texts (forest_in ps))) ≤ greatest_depth + 1
document-height scope first ps top names number numbers more most n m o none =
    let f = forest_in ps in
    let fits = height-fits f scope 1 (bare-forest ps) (omega arith) (none-found top names number numbers more most (node_faults scope 1 f) n m o none) in
    let same = height-numbered first (without_texts f) in
    let less = height-kept f in
    omega (arith, fits, same, less)

pub document-fits : (scope : Scope) (first : ℕ) (ps : List Piece) (top names number numbers more most : Option Fault)
    → names ≡ merged top (least (node_faults scope 1 (forest_in ps))) → number ≡ merged names more → numbers ≡ merged number most
    → numbers ≡ None
    → ElementsFit 1 (numbered first (without_texts (forest_in ps)))
document-fits scope first ps top names number numbers more most n m o none =
    let f = forest_in ps in
    let fits = elements-fit f scope 1 (none-found top names number numbers more most (node_faults scope 1 f) n m o none) in
    fit-numbered 1 first (without_texts f) (fit-kept 1 f fits)
