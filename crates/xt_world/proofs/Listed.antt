-- No element is called as a node of a source is.
use Rattle.std.proofs.Common.{◌≡◌, ◌<◌, ℕ, ◌+◌, ◌==◌, arith, List, [], ◌∷◌, ◌++◌, Bool, true, false, refl}
use Rattle.std.specs.Prelude.{◌&&◌}
use Rattle.std.proofs.lemmas.Bool.Decides.{Decides-eqb}
use Rattle.spec_document.specs.Forest.{Written, Content, Forest, Empty, Node, Document}
use Rattle.spec_document.specs.Place.{Found, root_of, found_in, attributes_of, namespaces_of}
use Rattle.spec_document.specs.Order.{Entry, namespace_entries, attribute_entries, own_entries, entries_in, entries_of, is_same_place}
use Rattle.spec_stylesheet.specs.Place.{Place}
use Rattle.spec_stylesheet.specs.Sheet.{Unit as Piece}
use Rattle.spec_meaning.specs.Naming.{AllDiffer, AreApart}
use Rattle.spec_run.specs.World.{InSource, InModule, same_node}
use Rattle.spec_run.proofs.Truths.{AreStrangers}
use Rattle.spec_node.specs.declared.node_ref.Part.{Part}
use Rattle.spec_node.specs.declared.node_ref.Part.TheVariants as part
use Rattle.spec_node.specs.Naming.{ref_of, number_of, same_ref, same_part}
use Rattle.xt_world.specs.Numbered.{element_called}

-- ---- by places
pub strangers_at_places : {L : Type 0} (us : List Piece) (es : List (Entry L)) → AreStrangers (λ (e : Entry L). InSource e.place) same_node InModule us es
strangers_at_places us [] = tt
strangers_at_places us (e ∷ es) = ((λ p h. (refl, refl)), strangers_at_places us es)

nodes_differ : {L : Type 0} (e : Entry L) (es : List (Entry L)) → AllDiffer (λ (d : Entry L). d.place) is_same_place e es
    → AllDiffer (λ (d : Entry L). InSource d.place) same_node e es
nodes_differ e [] h = tt
nodes_differ e (d ∷ es) h = (h.0, h.1, nodes_differ e es h.2)

pub nodes_apart : {L : Type 0} (es : List (Entry L)) → AreApart (λ (e : Entry L). e.place) is_same_place es
    → AreApart (λ (e : Entry L). InSource e.place) same_node es
nodes_apart [] h = tt
nodes_apart (e ∷ es) h = (h.0, nodes_differ e es h.1, nodes_apart es h.2)

-- ---- by numbers
-- no attribute of the number 0
abbrev NoZeroth : Part → Type 0
NoZeroth p = (same_part (part.Attribute 0) p ≡ false) × (same_part p (part.Attribute 0) ≡ false)

abbrev AllCounted : List (Entry ℕ) → Type 0
AllCounted [] = Unit {0}
AllCounted (e ∷ es) = NoZeroth (ref_of e).part × AllCounted es

counted_append : (xs ys : List (Entry ℕ)) → AllCounted xs → AllCounted ys → AllCounted (xs ++ ys)
counted_append [] ys h g = g
counted_append (x ∷ xs) ys h g = (h.0, counted_append xs ys h.1 g)

namespaces_counted : (positions : List ℕ) (node : Found ℕ) (s : ℕ) (ns : List (List ℕ × List ℕ)) → AllCounted (namespace_entries positions node s ns)
namespaces_counted positions node s [] = tt
namespaces_counted positions node s (n ∷ ns) = ((refl, refl), namespaces_counted positions node (s + 1) ns)

not_zero : (s : ℕ) → 0 < s → NoZeroth (part.Attribute s)
not_zero s h = (front (0 == s) refl, back (s == 0) refl)
  where
    front : (b : Bool) → (0 == s) ≡ b → b ≡ false
    front true e = absurd (let is = (Decides-eqb 0 s).0 e in omega arith)
    front false e = refl

    back : (b : Bool) → (s == 0) ≡ b → b ≡ false
    back true e = absurd (let is = (Decides-eqb s 0).0 e in omega arith)
    back false e = refl

attributes_counted : (positions : List ℕ) (node : Found ℕ) (s : ℕ) → 0 < s → (xs : List Written) → AllCounted (attribute_entries positions node s xs)
attributes_counted positions node s h [] = tt
attributes_counted positions node s h (x ∷ xs) = (not_zero s h, attributes_counted positions node (s + 1) (omega arith) xs)

own_counted : (positions : List ℕ) (node : Found ℕ) → AllCounted (own_entries positions node)
own_counted positions node = (
  (refl, refl),
  counted_append (namespace_entries positions node 1 (namespaces_of node)) (attribute_entries positions node 1 (attributes_of node))
      (namespaces_counted positions node 1 (namespaces_of node))
      (attributes_counted positions node 1 (let h : 0 < 1 = omega arith in h) (attributes_of node)),
)

siblings_counted : (above : List Content) (parent : List ℕ) (position : ℕ) (f : Forest ℕ) → AllCounted (entries_in above parent position f)
siblings_counted above parent position Empty = tt
siblings_counted above parent position (Node l c f g) =
    let here = parent ++ position ∷ [] in
    counted_append (own_entries here (found_in above l c f) ++ entries_in (c ∷ above) here 1 f) _
    (counted_append (own_entries here (found_in above l c f)) _ (own_counted here (found_in above l c f)) (siblings_counted (c ∷ above) here 1 f))
    (siblings_counted above parent (position + 1) g)

and_neither : (a b : Bool) → b ≡ false → (a && b) ≡ false
and_neither true b h = h
and_neither false b h = refl

strangers_counted : (numbers : Place → ℕ) (us : List Piece) (es : List (Entry ℕ)) → AllCounted es
    → AreStrangers ref_of same_ref (element_called numbers) us es
strangers_counted numbers us [] h = tt
strangers_counted numbers us (e ∷ es) h = (
  (λ p k. (and_neither (numbers p == number_of e.item) _ h.0.0, and_neither (number_of e.item == numbers p) _ h.0.1)),
  strangers_counted numbers us es h.1,
)

pub strangers_at_numbers : (numbers : Place → ℕ) (us : List Piece) (document : Document ℕ)
    → AreStrangers ref_of same_ref (element_called numbers) us (entries_of document)
strangers_at_numbers numbers us document =
    strangers_counted numbers us (entries_of document)
    (counted_append (own_entries [] (root_of document)) (entries_in [] [] 1 document.nodes) (own_counted [] (root_of document)) (siblings_counted [] [] 1 document.nodes))
