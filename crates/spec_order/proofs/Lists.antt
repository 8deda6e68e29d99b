-- Lists of nodes in an order: fewer of them are in that order too, and turned around they are in the order turned around.
use Rattle.std.proofs.Common.{Bool, true, false, cond, List, [], ◌∷◌, ◌++◌}
use Rattle.std.specs.Prelude.{map, filter, reverse}
use mathlib.Core.List.{reverse_aux}
use Rattle.spec_document.specs.declared.axis.Axis.{Axis}
use Rattle.spec_document.specs.Axis.{is_reverse, in_axis_order}
use Rattle.spec_order.specs.NodeSet.{ComesBeforeAll, AreInOrder}

first_without : {N : Type 0} (before : N → N → Bool) (n : N) (done : List N) (m : N) (ns : List N) → ComesBeforeAll before n (done ++ m ∷ ns)
    → ComesBeforeAll before n (done ++ ns)
first_without before n [] m ns h = h.1
first_without before n (d ∷ ds) m ns h = (h.0, first_without before n ds m ns h.1)

-- without one of them
pub without : {N : Type 0} (before : N → N → Bool) (done : List N) (n : N) (ns : List N) → AreInOrder before (done ++ n ∷ ns)
    → AreInOrder before (done ++ ns)
without before [] n ns h = h.1
without before (d ∷ ds) n ns h = (first_without before d ds n ns h.0, without before ds n ns h.1)

-- those that pass a test
first_filter : {N : Type 0} (before : N → N → Bool) (p : N → Bool) (n : N) (ns : List N) → ComesBeforeAll before n ns
    → ComesBeforeAll before n (filter p ns)
first_filter before p n [] h = tt
first_filter before p n (m ∷ ms) h =
    let rest = first_filter before p n ms h.1 in
    elim (p m) as (λ b. ComesBeforeAll before n (cond b (m ∷ filter p ms) (filter p ms))) [ true ↦ (h.0, rest) | false ↦ rest ]

pub filtered : {N : Type 0} (before : N → N → Bool) (p : N → Bool) (ns : List N) → AreInOrder before ns → AreInOrder before (filter p ns)
filtered before p [] h = tt
filtered before p (n ∷ ns) h =
    let rest = filtered before p ns h.1 in
    elim (p n) as (λ b. AreInOrder before (cond b (n ∷ filter p ns) (filter p ns))) [ true ↦ (first_filter before p n ns h.0, rest) | false ↦ rest ]

-- the names of entries that pass a test
first_named : {E N : Type 0} (before : N → N → Bool) (key : E → N) (p : E → Bool) (n : N) (es : List E) → ComesBeforeAll before n (map key es)
    → ComesBeforeAll before n (map key (filter p es))
first_named before key p n [] h = tt
first_named before key p n (e ∷ es) h =
    let rest = first_named before key p n es h.1 in
    elim (p e) as (λ b. ComesBeforeAll before n (map key (cond b (e ∷ filter p es) (filter p es)))) [ true ↦ (h.0, rest) | false ↦ rest ]

pub named : {E N : Type 0} (before : N → N → Bool) (key : E → N) (p : E → Bool) (es : List E) → AreInOrder before (map key es)
    → AreInOrder before (map key (filter p es))
named before key p [] h = tt
named before key p (e ∷ es) h =
    let rest = named before key p es h.1 in
    elim (p e) as (λ b. AreInOrder before (map key (cond b (e ∷ filter p es) (filter p es))))
    [ true ↦ (first_named before key p (key e) es h.0, rest) | false ↦ rest ]

-- ---- turned around
abbrev pub around : {N : Type 0} → (N → N → Bool) → N → N → Bool
around before m n = before n m

-- each of some nodes comes before each of others
abbrev AllBefore : {N : Type 0} → (N → N → Bool) → List N → List N → Type 0
AllBefore before [] ns = Unit {0}
AllBefore before (m ∷ ms) ns = ComesBeforeAll before m ns × AllBefore before ms ns

all_after : {N : Type 0} (before : N → N → Bool) (n : N) (ms ns : List N) → ComesBeforeAll before n ms → AllBefore (around before) ms ns
    → AllBefore (around before) ms (n ∷ ns)
all_after before n [] ns h g = tt
all_after before n (m ∷ ms) ns h g = ((h.0, g.0), all_after before n ms ns h.1 g.1)

all_before_none : {N : Type 0} (before : N → N → Bool) (ms : List N) → AllBefore before ms []
all_before_none before [] = tt
all_before_none before (m ∷ ms) = (tt, all_before_none before ms)

turned_onto : {N : Type 0} (before : N → N → Bool) (ms ns : List N) → AreInOrder before ms → AreInOrder (around before) ns
    → AllBefore (around before) ms ns → AreInOrder (around before) (reverse_aux ms ns)
turned_onto before [] ns h g a = g
turned_onto before (m ∷ ms) ns h g a = turned_onto before ms (m ∷ ns) h.1 (a.0, g) (all_after before m ms ns h.0 a.1)

pub turned : {N : Type 0} (before : N → N → Bool) (ns : List N) → AreInOrder before ns → AreInOrder (around before) (reverse ns)
turned before ns h = turned_onto before ns [] h tt (all_before_none (around before) ns)

-- ---- the order of an axis
abbrev pub along_axis : {N : Type 0} → Axis → (N → N → Bool) → N → N → Bool
along_axis axis before = cond (is_reverse axis) (around before) before

pub in_axis : {N : Type 0} (axis : Axis) (before : N → N → Bool) (ns : List N) → AreInOrder before ns
    → AreInOrder (along_axis axis before) (in_axis_order axis ns)
in_axis {N} axis before ns h = go (is_reverse axis)
  where
    go : (b : Bool) → AreInOrder (cond b (around before) before) (cond b (reverse ns) ns)
    go true = turned before ns h
    go false = h

pub out_of_axis : {N : Type 0} (axis : Axis) (before : N → N → Bool) (ns : List N) → AreInOrder (along_axis axis before) ns
    → AreInOrder before (in_axis_order axis ns)
out_of_axis {N} axis before ns = go (is_reverse axis)
  where
    go : (b : Bool) → AreInOrder (cond b (around before) before) ns → AreInOrder before (cond b (reverse ns) ns)
    go true h = turned (around before) ns h
    go false h = h
