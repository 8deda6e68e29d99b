-- A step gives nodes in document order, each once, in the order of its axis.
use Rattle.std.proofs.Common.{◌≡◌, Bool, true, false, cond, List, [], ◌∷◌, Option, None, Some, refl, sym, ap, subst}
use Rattle.std.specs.Prelude.{◌&&◌, map, filter, if◌then◌else◌, reverse}
use Rattle.std.specs.List.{find}
use Rattle.spec_document.specs.declared.axis.Axis.{Axis}
use Rattle.spec_document.specs.Axis.{is_on, is_reverse, in_axis_order}
use Rattle.spec_document.specs.Forest.{Document}
use Rattle.spec_document.specs.Order.{Way, Entry, entries_of, way_to, ways_of, is_same_place, ComesBeforeAll, AreInOrder}
use Rattle.spec_document.specs.Place.{Place}
use Rattle.spec_document.proofs.Listed.{in_order}
use Rattle.spec_expression.specs.Syntax.{Test}
use Rattle.spec_meaning.specs.Step.{passes, step_from, stepped}

first-filter : {L : Type 0} (p : Entry L → Bool) (w : List Way) (es : List (Entry L)) → ComesBeforeAll w (ways_of es)
    → ComesBeforeAll w (ways_of (filter p es))
first-filter p w [] h = tt
first-filter p w (e ∷ es) h =
    let rest = first-filter p w es h.1 in
    elim (p e) as (λ b. ComesBeforeAll w (ways_of (cond b (e ∷ filter p es) (filter p es)))) [ true ↦ (h.0, rest) | false ↦ rest ]

order-filter : {L : Type 0} (p : Entry L → Bool) (es : List (Entry L)) → AreInOrder (ways_of es) → AreInOrder (ways_of (filter p es))
order-filter p [] h = tt
order-filter p (e ∷ es) h =
    let rest = order-filter p es h.1 in
    elim (p e) as (λ b. AreInOrder (ways_of (cond b (e ∷ filter p es) (filter p es))))
    [ true ↦ (first-filter p (way_to e.place) es h.0, rest) | false ↦ rest ]

places-ways : {L : Type 0} (es : List (Entry L)) → map way_to (map (λ e. e.place) es) ≡ ways_of es
places-ways [] = refl
places-ways (e ∷ es) = ap (λ (ws : List (List Way)). way_to e.place ∷ ws) (places-ways es)

in_axis_order-nil : {A : Type 0} (axis : Axis) → in_axis_order {A = A} axis [] ≡ []
in_axis_order-nil {A} axis = go (is_reverse axis)
  where
    none : List A
    none = []

    go : (b : Bool) → (if b then reverse none else none) ≡ none
    go true = refl
    go false = refl

abbrev Once : List Place → Axis → Type 0
Once answer axis = (nodes : List Place) × (answer ≡ in_axis_order axis nodes) × AreInOrder (map way_to nodes)

once_from : {L : Type 0} (document : Document L) (axis : Axis) (test : Test) (found : Option (Entry L))
    → Once (step_from (λ e. e.place) (entries_of document) axis test found) axis
once_from document axis test None = ([], sym (in_axis_order-nil axis), tt)
once_from {L} document axis test (Some node) =
    let p : Entry L → Bool = λ other. is_on axis (way_to node.place) (way_to other.place) && passes axis test other.item in (
      map (λ e. e.place) (filter p (entries_of document)),
      refl,
      subst AreInOrder (sym (places-ways (filter p (entries_of document)))) (order-filter p (entries_of document) (in_order document)),
    )

pub once : {L : Type 0} (document : Document L) (axis : Axis) (test : Test) (node : Place)
    → Once (stepped (λ e. e.place) is_same_place (entries_of document) axis test node) axis
once document axis test node = once_from document axis test (find (λ entry. is_same_place node entry.place) (entries_of document))
