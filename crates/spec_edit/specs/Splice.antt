-- Siblings with others in their place, and where in a tree that is.
use Rattle.std.specs.Prelude.{ℕ, ◌+◌, ◌-◌, ◌++◌, ◌==◌, List, [], ◌∷◌, Option, None, Some, if◌then◌else◌}
use Rattle.spec_document.specs.Forest.{Content, Text, Forest, Empty, Node, followed}

-- so many of the siblings, the first ones, and those behind them
abbrev pub first_siblings : {L : Type 0} → ℕ → Forest L → Forest L
first_siblings count Empty = Empty
first_siblings count (Node label content children siblings) =
    if count == 0 then Empty else Node label content children (first_siblings (count - 1) siblings)

abbrev pub later_siblings : {L : Type 0} → ℕ → Forest L → Forest L
later_siblings count Empty = Empty
later_siblings count (Node label content children siblings) =
    if count == 0 then Node label content children siblings else later_siblings (count - 1) siblings

-- these others in place of the siblings from the index `from` up to, but not including, `to`. An index counts from 0
abbrev pub replaced : {L : Type 0} → (from to : ℕ) → (others siblings : Forest L) → Forest L
replaced from to others siblings = followed (first_siblings from siblings) (followed others (later_siblings to siblings))

-- the sibling at this position, from 1, with this content in place of its own
abbrev pub content_replaced : {L : Type 0} → ℕ → Content → Forest L → Forest L
content_replaced position new Empty = Empty
content_replaced position new (Node label content children siblings) =
    if position == 1 then Node label new children siblings
    else Node label content children (content_replaced (position - 1) new siblings)

-- the children of the sibling at this position changed so
abbrev pub below_changed : {L : Type 0} → (Forest L → Forest L) → ℕ → Forest L → Forest L
below_changed change position Empty = Empty
below_changed change position (Node label content children siblings) =
    if position == 1 then Node label content (change children) siblings
    else Node label content children (below_changed change (position - 1) siblings)

-- the children of the node at these positions changed so; without positions the siblings themselves. Where they lead to no node nothing is changed
abbrev pub children_changed : {L : Type 0} → (Forest L → Forest L) → List ℕ → Forest L → Forest L
children_changed change [] siblings = change siblings
children_changed change (position ∷ positions) siblings = below_changed (children_changed change positions) position siblings

-- a text directly before others: with a text at their front it is one, which has the label of the first
abbrev pub text_before : {L : Type 0} → L → List ℕ → Forest L → Forest L → Forest L
text_before label text children Empty = Node label (Text text) children Empty
text_before label text children (Node next (Text more) below siblings) = Node label (Text (text ++ more)) children siblings
text_before label text children (Node next content below siblings) = Node label (Text text) children (Node next content below siblings)

abbrev pub last_before : {L : Type 0} → L → Content → Forest L → Forest L → Forest L
last_before label (Text text) children others = text_before label text children others
last_before label content children others = Node label content children others

-- siblings, and others after them: a text at the end of the first and one at the front of the others are one
abbrev pub met : {L : Type 0} → Forest L → Forest L → Forest L
met Empty others = others
met (Node label content children Empty) others = last_before label content children others
met (Node label content children (Node next more below siblings)) others = Node label content children (met (Node next more below siblings) others)

-- these nodes put before the sibling at this index, and the sibling at this index taken away
abbrev pub inserted : {L : Type 0} → ℕ → (nodes siblings : Forest L) → Forest L
inserted index nodes siblings = met (first_siblings index siblings) (met nodes (later_siblings index siblings))

abbrev pub deleted : {L : Type 0} → ℕ → Forest L → Forest L
deleted index siblings = met (first_siblings index siblings) (later_siblings (index + 1) siblings)

-- how many siblings there are
abbrev pub sibling_count : {L : Type 0} → Forest L → ℕ
sibling_count Empty = 0
sibling_count (Node label content children siblings) = 1 + sibling_count siblings

-- a path that is not that of the root: the way to the parent, and the position below it
pub record Spot : Type 0 where
  pub above : List ℕ
  pub position : ℕ

abbrev pub spot_from : ℕ → List ℕ → Spot
spot_from position [] = record { above = []; position = position }
spot_from position (next ∷ positions) =
    let below = spot_from next positions in
    record { above = position ∷ below.above; position = below.position }

abbrev pub spot_of : List ℕ → Option Spot
spot_of [] = None
spot_of (position ∷ positions) = Some (spot_from position positions)
