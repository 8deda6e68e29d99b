-- The names of all nodes of a document, as a walk with the namespaces in scope finds them.
use Rattle.std.proofs.Common.{◌≡◌, ℕ, ◌+◌, List, [], ◌∷◌, ◌++◌, map, refl, sym, ap, ◌∙◌}
use Rattle.std.proofs.lemmas.List.{map-append}
use Rattle.spec_document.specs.Declaration.{scope_of}
use Rattle.spec_document.specs.Forest.{Content, Forest, Empty, Node, Written, Document}
use Rattle.spec_document.specs.Order.{Entry, namespace_entries, attribute_entries, own_entries, entries_in, entries_of}
use Rattle.spec_document.specs.Place.{Found, found_in, attributes_of, namespaces_of}
use Rattle.spec_document.specs.Scope.{root_scope}
use Rattle.spec_meaning.specs.Naming.{AllDiffer, AreApart}
use Rattle.xt_tree.specs.Numbers.{IsNumbered}
use Rattle.xt_tree.specs.View as view
use Rattle.spec_node.specs.Naming.{ref_of, same_ref}
use Rattle.xp_axes.proofs.Told.{all_told}
use Rattle.xt_questions.specs.Runs.{itself}
use Rattle.xt_keys.specs.Nodes.{namespace_ref, namespace_refs, attribute_ref, attribute_refs, refs_in}
use Rattle.xt_keys.specs.View.{AreNodesApart}

namespaces_named : (positions : List ℕ) (node : Found ℕ) (number : ℕ) (ns : List (List ℕ × List ℕ))
    → namespace_refs node.label number ns ≡ map ref_of (namespace_entries positions node number ns)
namespaces_named positions node number [] = refl
namespaces_named positions node number (n ∷ ns) = ap (λ l. namespace_ref node.label number ∷ l) (namespaces_named positions node (number + 1) ns)

attributes_named : (positions : List ℕ) (node : Found ℕ) (number : ℕ) (xs : List Written)
    → attribute_refs node.label number xs ≡ map ref_of (attribute_entries positions node number xs)
attributes_named positions node number [] = refl
attributes_named positions node number (x ∷ xs) = ap (λ l. attribute_ref node.label number ∷ l) (attributes_named positions node (number + 1) xs)

own_named : (positions : List ℕ) (node : Found ℕ)
    → view.itself node.label ∷ (namespace_refs node.label 1 (namespaces_of node) ++ attribute_refs node.label 1 (attributes_of node)) ≡ map ref_of (own_entries positions node)
own_named positions node =
    ap (λ l. view.itself node.label ∷ l)
    ((λ i. namespaces_named positions node 1 (namespaces_of node) i ++ attributes_named positions node 1 (attributes_of node) i)
    ∙ sym (map-append ref_of (namespace_entries positions node 1 (namespaces_of node)) (attribute_entries positions node 1 (attributes_of node))))

siblings_named : (above : List Content) (parent : List ℕ) (position : ℕ) (f : Forest ℕ)
    → refs_in (scope_of root_scope above) f ≡ map ref_of (entries_in above parent position f)
siblings_named above parent position Empty = refl
siblings_named above parent position (Node l c f g) =
    let node = found_in above l c f in
    let here = parent ++ position ∷ [] in
    let inner = entries_in (c ∷ above) here 1 f in
    let rest = entries_in above parent (position + 1) g in
    (λ i. own_named here node i ++ siblings_named (c ∷ above) here 1 f i ++ siblings_named above parent (position + 1) g i)
    ∙ ap (λ l. l ++ map ref_of rest) (sym (map-append ref_of (own_entries here node) inner))
    ∙ sym (map-append ref_of (own_entries here node ++ inner) rest)

pub all_named : (document : Document ℕ) → view.itself document.root ∷ refs_in root_scope document.nodes ≡ map ref_of (entries_of document)
all_named document = ap (λ l. view.itself document.root ∷ l) (siblings_named [] [] 1 document.nodes)

differ_named : (e : Entry ℕ) (es : List (Entry ℕ)) → AllDiffer ref_of same_ref e es → AllDiffer itself same_ref (ref_of e) (map ref_of es)
differ_named e [] h = tt
differ_named e (d ∷ es) h = (h.0, h.1, differ_named e es h.2)

apart_named : (es : List (Entry ℕ)) → AreApart ref_of same_ref es → AreNodesApart (map ref_of es)
apart_named [] h = tt
apart_named (e ∷ es) h = (h.0, differ_named e es h.1, apart_named es h.2)

pub all_apart : (document : Document ℕ) → IsNumbered document → AreNodesApart (map ref_of (entries_of document))
all_apart document numbered = apart_named (entries_of document) (all_told document numbered)
