-- Where nodes are named in two ways: questions of the tree are answered alike.
use Rattle.std.proofs.Common.{◌≡◌, ℕ, ◌+◌, List, [], ◌∷◌, ◌++◌, map, filter, Bool, true, false, cond, Option, Some, refl, sym, ap, subst, ◌∙◌}
use Rattle.std.specs.Prelude.{◌&&◌, ◌||◌, codes}
use Rattle.std.specs.List.{list_any, find}
use Rattle.std.specs.Ordering.{is_eq, ordering_reverse}
use Rattle.std.specs.declared.cmp.Ordering.TheVariants.{Less, Greater}
use Rattle.std.specs.Cmp.{tied_itself}
use Rattle.spec_document.specs.declared.axis.Axis.{Axis}
use Rattle.spec_document.specs.declared.kind.Kind.{Kind}
use Rattle.spec_document.specs.Name.{Expanded, same_expanded}
use Rattle.spec_document.specs.Forest.{Written, Content, Element, Text, Comment, Instruction, Forest, Empty, Node, Document, plain, texts_in, text_of}
use Rattle.spec_document.specs.Place.{Itself, Found, found_in, Item, TreeNode, attributes_of, namespaces_of, kind_of, expanded_name}
use Rattle.spec_document.specs.Order.{document_cmp, is_same_place, ways_of, ComesBeforeAll, AreInOrder}
use Rattle.spec_document.proofs.Ways.{document_total}
use Rattle.spec_document.proofs.Listed.{in_order, less}
use Rattle.spec_document.specs.Order.{Entry, way_to, namespace_entries, attribute_entries, own_entries, entries_in, entries_of}
use Rattle.spec_document.specs.Axis.{is_on}
use Rattle.spec_expression.specs.declared.NodeType.TheVariants as type
use Rattle.spec_expression.specs.Syntax as tree
use Rattle.spec_expression.specs.Syntax.{Test}
use Rattle.spec_meaning.specs.Question as question
use Rattle.spec_meaning.specs.Question.{Answer}
use Rattle.spec_meaning.specs.Step.{is_principal, is_in_namespace, is_of_type, has_local, passes}
use Rattle.spec_meaning.specs.Truth.{answer_by, positions_text, ending_text}
use Rattle.spec_meaning.specs.Related.{Each, none, more, steps, texts, names, places, orders, keys, choices, copies, units, externals, Answers, gone}
use Rattle.spec_meaning.specs.Related.{some_nodes, some_text, named, Worlds}
use Rattle.spec_meaning.specs.Naming.{Beside, first, later, Names, Alike, AllDiffer, AreApart, unlabelled}
use Rattle.spec_meaning.proofs.Matching.{in_axis_order_match, each_append}

-- ---- entries told by their keys
left_differs : {A B K : Type 0} (key : A → K) (same : K → K → Bool) (x : A) {xs : List A} {ys : List B} {d : A} {g : B}
    → AllDiffer key same x xs → Beside xs ys d g
    → (same (key x) (key d) ≡ false) × (same (key d) (key x) ≡ false)
left_differs key same x h first = (h.0, h.1)
left_differs key same x h (later b) = left_differs key same x h.2 b

right_differs : {A B K : Type 0} (key : B → K) (same : K → K → Bool) (y : B) {xs : List A} {ys : List B} {d : A} {g : B}
    → AllDiffer key same y ys → Beside xs ys d g
    → (same (key y) (key g) ≡ false) × (same (key g) (key y) ≡ false)
right_differs key same y h first = (h.0, h.1)
right_differs key same y h (later b) = right_differs key same y h.2 b

left_found : {A B K : Type 0} (key : A → K) (same : K → K → Bool) {xs : List A} {ys : List B} {d : A} {g : B} → AreApart key same xs → Beside xs ys d g
    → find (λ x. same (key d) (key x)) xs ≡ Some d
left_found key same h (first {x = x} {xs = xs}) = ap (λ b. cond b (Some x) (find (λ z. same (key x) (key z)) xs)) h.0
left_found key same h (later {x = x} {z = z} {xs = xs} b) =
    ap (λ t. cond t (Some z) (find (λ y. same (key x) (key y)) xs)) (left_differs key same z h.1 b).1 ∙ left_found key same h.2 b

right_found : {A B K : Type 0} (key : B → K) (same : K → K → Bool) {xs : List A} {ys : List B} {d : A} {g : B} → AreApart key same ys → Beside xs ys d g
    → find (λ y. same (key g) (key y)) ys ≡ Some g
right_found key same h (first {y = y} {ys = ys}) = ap (λ b. cond b (Some y) (find (λ z. same (key y) (key z)) ys)) h.0
right_found key same h (later {y = y} {w = w} {ys = ys} b) =
    ap (λ t. cond t (Some w) (find (λ z. same (key y) (key z)) ys)) (right_differs key same w h.1 b).1 ∙ right_found key same h.2 b

-- two entries are told alike by both kinds of keys
same_tests : {A B K J : Type 0} (key : A → K) (same : K → K → Bool) (also : B → J) (like : J → J → Bool) {xs : List A} {ys : List B} {e d : A} {f g : B}
    → AreApart key same xs → AreApart also like ys → Beside xs ys e f → Beside xs ys d g → same (key e) (key d) ≡ like (also f) (also g)
same_tests key same also like h k first first = h.0 ∙ sym k.0
same_tests key same also like h k (first {x = x} {y = y}) (later b) = (left_differs key same x h.1 b).0 ∙ sym (right_differs also like y k.1 b).0
same_tests key same also like h k (later b) (first {x = x} {y = y}) = (left_differs key same x h.1 b).1 ∙ sym (right_differs also like y k.1 b).1
same_tests key same also like h k (later a) (later b) = same_tests key same also like h.2 k.2 a b

alike_at : {L M : Type 0} {es : List (Entry L)} {fs : List (Entry M)} {e : Entry L} {f : Entry M} → Each Alike es fs → Beside es fs e f → Alike e f
alike_at none b = elim b [ ]
alike_at (more h hs) first = h
alike_at (more h hs) (later b) = alike_at hs b

-- ---- entries picked by tests
picked_one : {L M K J : Type 0} (key : Entry L → K) (also : Entry M → J) (es : List (Entry L)) (fs : List (Entry M)) (b : Bool) (x : Entry L) (y : Entry M)
    (xs : List (Entry L)) (ys : List (Entry M)) → Beside es fs x y → Each (Names key also es fs) (map key xs) (map also ys)
    → Each (Names key also es fs) (map key (cond b (x ∷ xs) xs)) (map also (cond b (y ∷ ys) ys))
picked_one key also es fs true x y xs ys b h = more (record { entry = x; other = y; beside = b; named = refl; also_named = refl }) h
picked_one key also es fs false x y xs ys b h = h

each_picked : {L M K J : Type 0} (key : Entry L → K) (also : Entry M → J) (es : List (Entry L)) (fs : List (Entry M)) (p : Entry L → Bool) (q : Entry M → Bool)
    {xs : List (Entry L)} {ys : List (Entry M)} → Each Alike xs ys → ((x : Entry L) (y : Entry M) → Beside xs ys x y → Beside es fs x y)
    → ((x : Entry L) (y : Entry M) → Beside xs ys x y → p x ≡ q y) → Each (Names key also es fs) (map key (filter p xs)) (map also (filter q ys))
each_picked key also es fs p q none there same = none
each_picked key also es fs p q (more {x = x} {y = y} {xs = xs} {ys = ys} h hs) there same =
    rw (same x y first) (picked_one key also es fs (q y) x y (filter p xs) (filter q ys) (there x y first)
    (each_picked key also es fs p q hs (λ d g b. there d g (later b)) (λ d g b. same d g (later b))))

same_passing : {L M : Type 0} (axis : Axis) (test : Test) (e : Item L) (f : Item M) → kind_of e ≡ kind_of f → expanded_name e ≡ expanded_name f
    → passes axis test e ≡ passes axis test f
same_passing axis tree.AnyName e f kind name = ap (is_principal axis) kind
same_passing axis (tree.InNamespace uri) e f kind name = λ i. is_principal axis (kind i) && is_in_namespace uri (name i)
same_passing axis (tree.Named own) e f kind name = λ i. is_principal axis (kind i) && same_expanded (Some own) (name i)
same_passing axis (tree.OfType type) e f kind name = ap (is_of_type type) kind
same_passing axis (tree.Instruction target) e f kind name = λ i. is_of_type type.ProcessingInstruction (kind i) && has_local target (name i)

-- ---- answers
-- what holds of the keys of entries that stand beside one another holds of all that name one node
at_names : {L M K J : Type 0} (key : Entry L → K) (also : Entry M → J) {es : List (Entry L)} {fs : List (Entry M)} (P : K → J → Type 0)
    → ((e : Entry L) (f : Entry M) → Beside es fs e f → P (key e) (also f)) → {k : K} {j : J} → Names key also es fs k j → P k j
at_names key also P h {j = j} n = subst (λ x. P x j) n.named (subst (λ y. P (key n.entry) y) n.also_named (h n.entry n.other n.beside))

same_text : {N M : Type 0} {R : N → M → Type 0} {s t : List ℕ} → s ≡ t → Answers R (question.SomeText s) (question.SomeText t)
same_text {R = R} {s = s} e = subst (λ t. Answers R (question.SomeText s) (question.SomeText t)) e some_text

same_name : {N M : Type 0} {R : N → M → Type 0} {k l : Kind} {n m : Option Expanded} {s t : List ℕ} → k ≡ l → n ≡ m → s ≡ t
    → Answers R (question.Named k n s) (question.Named l m t)
same_name {R = R} {k = k} {n = n} {m = m} {s = s} {t = t} kind name written =
    subst (λ l. Answers R (question.Named k n s) (question.Named l m t)) kind
    (subst (λ x. Answers R (question.Named k n s) (question.Named k x t)) name
    (subst (λ x. Answers R (question.Named k n s) (question.Named k n x)) written named))

same_any : {L M K J : Type 0} (key : Entry L → K) (same : K → K → Bool) (also : Entry M → J) (like : J → J → Bool) (es : List (Entry L)) (fs : List (Entry M))
    → AreApart key same es → AreApart also like fs → {ns : List K} {ms : List J} → Each (Names key also es fs) ns ms
    → (d : Entry L) (g : Entry M) → Beside es fs d g → list_any (λ k. same k (key d)) ns ≡ list_any (λ j. like j (also g)) ms
same_any key same also like es fs h k none d g b = refl
same_any key same also like es fs h k (more {x = x} {y = y} {xs = xs} {ys = ys} n ns) d g b =
    let one : same x (key d) ≡ like y (also g) =
    at_names key also (λ x y. same x (key d) ≡ like y (also g)) (λ e f a. same_tests key same also like h k a b) n in
    let rest = same_any key same also like es fs h k ns d g b in
    λ i. one i || rest i

-- related questions of the tree have related answers
pub worlds : {L M K J : Type 0} (key : Entry L → K) (same : K → K → Bool) (also : Entry M → J) (like : J → J → Bool) (es : List (Entry L)) (fs : List (Entry M))
    → Each Alike es fs → AreApart key same es → AreApart also like fs → Worlds (Names key also es fs) (answer_by key same es) (answer_by also like fs)
worlds key same also like es fs alike h k _ _ (steps {axis = axis} {test = test} n) =
    at_names key also
    (λ x y. Answers (Names key also es fs) (answer_by key same es (question.Step x axis test)) (answer_by also like fs (question.Step y axis test)))
    (λ e f b. let a = alike_at alike b in
    rw (left_found key same h b, right_found also like k b)
    (some_nodes (in_axis_order_match axis (each_picked key also es fs _ _ alike (λ d g c. c) (λ d g c. let o = alike_at alike c in
    λ i. is_on axis (way_to (a.place i)) (way_to (o.place i)) && same_passing axis test d.item g.item o.kind o.name i))))) n
worlds key same also like es fs alike h k _ _ (texts n) =
    at_names key also (λ x y. Answers (Names key also es fs) (answer_by key same es (question.Text x)) (answer_by also like fs (question.Text y)))
    (λ e f b. rw (left_found key same h b, right_found also like k b) (same_text (alike_at alike b).text)) n
worlds key same also like es fs alike h k _ _ (names n) =
    at_names key also (λ x y. Answers (Names key also es fs) (answer_by key same es (question.Name x)) (answer_by also like fs (question.Name y)))
    (λ e f b. let a = alike_at alike b in rw (left_found key same h b, right_found also like k b) (same_name a.kind a.name a.written)) n
worlds key same also like es fs alike h k _ _ (places n) =
    at_names key also (λ x y. Answers (Names key also es fs) (answer_by key same es (question.Place x)) (answer_by also like fs (question.Place y)))
    (λ e f b. let a = alike_at alike b in
    rw (left_found key same h b, right_found also like k b)
    (same_text (λ i. codes "n" ++ positions_text (a.place i).positions ++ ending_text (a.place i).ending (a.number i)))) n
worlds key same also like es fs alike h k _ _ (orders ns) =
    some_nodes (each_picked key also es fs _ _ alike (λ d g c. c) (λ d g c. same_any key same also like es fs h k ns d g c))
worlds key same also like es fs alike h k _ _ keys = gone
worlds key same also like es fs alike h k _ _ (choices n) = gone
worlds key same also like es fs alike h k _ _ (copies n) = gone
worlds key same also like es fs alike h k _ _ (units n) = gone
worlds key same also like es fs alike h k _ _ externals = gone

-- ---- a document and the same without labels
plain_texts : {L : Type 0} (f : Forest L) → texts_in (plain f) ≡ texts_in f
plain_texts Empty = refl
plain_texts (Node label content children siblings) = λ i. text_of content ++ plain_texts children i ++ plain_texts siblings i

plain_found : {L : Type 0} (positions : List ℕ) (above : List Content) (label : L) (content : Content) (children : Forest L)
    → Alike (record { place = record { positions = positions; ending = Itself }; number = 0; item = TreeNode (found_in above tt content (plain children)) })
    (record { place = record { positions = positions; ending = Itself }; number = 0; item = TreeNode (found_in above label content children) })
plain_found positions above label (Element name attributes) children =
    record { place = refl; number = refl; kind = refl; name = refl; written = refl; text = plain_texts children }
plain_found positions above label (Text text) children =
    record { place = refl; number = refl; kind = refl; name = refl; written = refl; text = refl }
plain_found positions above label (Comment text) children =
    record { place = refl; number = refl; kind = refl; name = refl; written = refl; text = refl }
plain_found positions above label (Instruction target text) children =
    record { place = refl; number = refl; kind = refl; name = refl; written = refl; text = refl }

namespaces_alike : {L M : Type 0} (positions : List ℕ) (element : Found L) (other : Found M) (number : ℕ) (ns : List (List ℕ × List ℕ))
    → Each Alike (namespace_entries positions element number ns) (namespace_entries positions other number ns)
namespaces_alike positions element other number [] = none
namespaces_alike positions element other number (n ∷ ns) =
    more (record { place = refl; number = refl; kind = refl; name = refl; written = refl; text = refl })
    (namespaces_alike positions element other (number + 1) ns)

attributes_alike : {L M : Type 0} (positions : List ℕ) (content : Option Content) (above : List Content) (l : L) (m : M) (f : Forest L) (g : Forest M)
    (number : ℕ) (xs : List Written)
    → Each Alike (attribute_entries positions (record { label = l; content = content; children = f; above = above }) number xs)
    (attribute_entries positions (record { label = m; content = content; children = g; above = above }) number xs)
attributes_alike positions content above l m f g number [] = none
attributes_alike positions content above l m f g number (x ∷ xs) =
    more (record { place = refl; number = refl; kind = refl; name = refl; written = refl; text = refl })
    (attributes_alike positions content above l m f g (number + 1) xs)

own_alike : {L : Type 0} (positions : List ℕ) (above : List Content) (label : L) (content : Content) (children : Forest L)
    → Each Alike (own_entries positions (found_in above tt content (plain children))) (own_entries positions (found_in above label content children))
own_alike positions above label content children =
    more (plain_found positions above label content children)
    (each_append (namespaces_alike positions _ _ 1 (namespaces_of (found_in above label content children)))
    (attributes_alike positions (Some content) (content ∷ above) tt label (plain children) children 1 (attributes_of (found_in above label content children))))

forests_alike : {L : Type 0} (above : List Content) (parent : List ℕ) (position : ℕ) (f : Forest L)
    → Each Alike (entries_in above parent position (plain f)) (entries_in above parent position f)
forests_alike above parent position Empty = none
forests_alike above parent position (Node label content children siblings) =
    each_append
    (each_append (own_alike (parent ++ position ∷ []) above label content children) (forests_alike (content ∷ above) (parent ++ position ∷ []) 1 children))
    (forests_alike above parent (position + 1) siblings)

pub documents_alike : {L : Type 0} (document : Document L) → Each Alike (entries_of (unlabelled document)) (entries_of document)
documents_alike document =
    more (record { place = refl; number = refl; kind = refl; name = refl; written = refl; text = plain_texts document.nodes })
    (forests_alike [] [] 1 document.nodes)

-- ---- places
differs_before : {L : Type 0} (e : Entry L) (es : List (Entry L)) → ComesBeforeAll (way_to e.place) (ways_of es)
    → AllDiffer (λ (d : Entry L). d.place) is_same_place e es
differs_before e [] h = tt
differs_before e (d ∷ es) h =
    let before : document_cmp (way_to e.place) (way_to d.place) ≡ Less = less _ h.0 in
    let after : document_cmp (way_to d.place) (way_to e.place) ≡ Greater =
    document_total.antisymm (way_to d.place) (way_to e.place) ∙ ap ordering_reverse before in
    (ap is_eq before, ap is_eq after, differs_before e es h.1)

apart_in_order : {L : Type 0} (es : List (Entry L)) → AreInOrder (ways_of es) → AreApart (λ (e : Entry L). e.place) is_same_place es
apart_in_order [] h = tt
apart_in_order (e ∷ es) h = (ap is_eq (tied_itself document_total (way_to e.place)), differs_before e es h.0, apart_in_order es h.1)

-- no two nodes stand at one place
pub places_apart : {L : Type 0} (document : Document L) → AreApart (λ (e : Entry L). e.place) is_same_place (entries_of document)
places_apart document = apart_in_order (entries_of document) (in_order document)
