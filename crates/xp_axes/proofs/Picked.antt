-- The listing of a document's nodes, level by level, and what of it passes a test of ways.
use Rattle.std.proofs.Common.{◌≡◌, ◌≤◌, ◌<◌, ℕ, ◌+◌, ◌-◌, ◌==◌, Bool, true, false, cond, zero, suc, List, [], ◌∷◌}
use Rattle.std.proofs.Common.{◌++◌, None, Some, refl, sym, ap, ◌∙◌, arith, append-nil, eq-eqb}
use Rattle.std.specs.Prelude.{map, filter}
use Rattle.std.proofs.lemmas.Bool.{eqb-true}
use Rattle.spec_document.specs.Forest.{Written, Content, Forest, Empty, Node, labels}
use Rattle.spec_document.specs.Place.{Found, found_in, child_at, attributes_of, namespaces_of}
use Rattle.spec_document.specs.Order.{Way, ToNamespace, ToAttribute, ToChild, way_to, Entry, namespace_entries, attribute_entries, own_entries, entries_in}
use Rattle.spec_document.specs.Axis.{is_in_tree}
use Rattle.xt_tree.specs.View.{itself}
use Rattle.spec_node.specs.declared.node_ref.NodeRef.{NodeRef}
use Rattle.xp_axes.specs.declared.extent.Extent.{Extent}
use Rattle.xp_axes.specs.declared.extent.Extent.TheVariants.{Nothing, Themselves, WithAllBelow}
use Rattle.spec_node.specs.Naming.{ref_of}
use Rattle.xp_axes.specs.Along.{taken, taken_one, if_taken, around}

kept : {A : Type 0} (x : A) (xs ys : List A) → xs ≡ ys → x ∷ xs ≡ x ∷ ys
kept x xs ys e = λ i. x ∷ e i

pub both : {A : Type 0} (xs us ys vs : List A) → xs ≡ us → ys ≡ vs → xs ++ ys ≡ us ++ vs
both xs us ys vs d e = λ i. d i ++ e i

pub map_append : {A B : Type 0} (f : A → B) (xs ys : List A) → map f (xs ++ ys) ≡ map f xs ++ map f ys
map_append f [] ys = refl
map_append f (x ∷ xs) ys = kept (f x) _ _ (map_append f xs ys)

-- ---- One level down

abbrev pub under : ℕ → Entry ℕ → Entry ℕ
under n e = record { place = record { positions = n ∷ e.place.positions; ending = e.place.ending }; number = e.number; item = e.item }

-- what is listed from a node on
abbrev pub listing : Found ℕ → List (Entry ℕ)
listing node = own_entries [] node ++ entries_in node.above [] 1 node.children

namespaces_under : (n : ℕ) (ps : List ℕ) (element : Found ℕ) (number : ℕ) (ns : List (List ℕ × List ℕ))
    → namespace_entries (n ∷ ps) element number ns ≡ map (under n) (namespace_entries ps element number ns)
namespaces_under n ps element number [] = refl
namespaces_under n ps element number (m ∷ ns) = kept _ _ _ (namespaces_under n ps element (number + 1) ns)

attributes_under : (n : ℕ) (ps : List ℕ) (element : Found ℕ) (number : ℕ) (xs : List Written)
    → attribute_entries (n ∷ ps) element number xs ≡ map (under n) (attribute_entries ps element number xs)
attributes_under n ps element number [] = refl
attributes_under n ps element number (m ∷ ns) = kept _ _ _ (attributes_under n ps element (number + 1) ns)

own_under : (n : ℕ) (ps : List ℕ) (node : Found ℕ) → own_entries (n ∷ ps) node ≡ map (under n) (own_entries ps node)
own_under n ps node =
    let ns = namespace_entries ps node 1 (namespaces_of node) in
    let xs = attribute_entries ps node 1 (attributes_of node) in
    kept _ _ _ (both _ (map (under n) ns) _ (map (under n) xs) (namespaces_under n ps node 1 (namespaces_of node))
    (attributes_under n ps node 1 (attributes_of node))
    ∙ sym (map_append (under n) ns xs))

three : (n : ℕ) (us vs ws xs ys zs : List (Entry ℕ)) → us ≡ map (under n) xs → vs ≡ map (under n) ys → ws ≡ map (under n) zs
    → (us ++ vs) ++ ws ≡ map (under n) ((xs ++ ys) ++ zs)
three n us vs ws xs ys zs d e f =
    both _ (map (under n) (xs ++ ys)) _ (map (under n) zs) (both _ (map (under n) xs) _ (map (under n) ys) d e ∙ sym (map_append (under n) xs ys)) f
    ∙ sym (map_append (under n) (xs ++ ys) zs)

entries_under : (n : ℕ) (above : List Content) (parent : List ℕ) (k : ℕ) (f : Forest ℕ)
    → entries_in above (n ∷ parent) k f ≡ map (under n) (entries_in above parent k f)
entries_under n above parent k Empty = refl
entries_under n above parent k (Node l c f g) =
    three n _ _ _ (own_entries (parent ++ k ∷ []) (found_in above l c f)) (entries_in (c ∷ above) (parent ++ k ∷ []) 1 f)
    (entries_in above parent (k + 1) g)
    (own_under n (parent ++ k ∷ []) (found_in above l c f)) (entries_under n (c ∷ above) (parent ++ k ∷ []) 1 f)
    (entries_under n above parent (k + 1) g)

pub listed_node : (above : List Content) (k l : ℕ) (c : Content) (f g : Forest ℕ)
    → entries_in above [] k (Node l c f g) ≡ map (under k) (listing (found_in above l c f)) ++ entries_in above [] (k + 1) g
listed_node above k l c f g =
    let own = own_entries [] (found_in above l c f) in
    let inner = entries_in (c ∷ above) [] 1 f in
    both _ (map (under k) (own ++ inner)) _ (entries_in above [] (k + 1) g)
    (both _ (map (under k) own) _ (map (under k) inner) (own_under k [] (found_in above l c f)) (entries_under k (c ∷ above) [] 1 f)
    ∙ sym (map_append (under k) own inner)) refl

-- ---- What passes a test of ways

abbrev pub picked : (List Way → Bool) → List (Entry ℕ) → List NodeRef
picked p [] = []
picked p (e ∷ es) = cond (p (way_to e.place)) (ref_of e ∷ picked p es) (picked p es)

pub picked_is : (p : List Way → Bool) (es : List (Entry ℕ)) → map ref_of (filter (λ e. p (way_to e.place)) es) ≡ picked p es
picked_is p [] = refl
picked_is p (e ∷ es) =
    elim (p (way_to e.place)) as (λ b. map ref_of (cond b (e ∷ filter (λ e. p (way_to e.place)) es) (filter (λ e. p (way_to e.place)) es))
    ≡ cond b (ref_of e ∷ picked p es) (picked p es)) [
      | true ↦ kept (ref_of e) _ _ (picked_is p es)
      | false ↦ picked_is p es
    ]

in_front : (b : Bool) (x : NodeRef) (xs ys zs : List NodeRef) → xs ≡ ys ++ zs → cond b (x ∷ xs) xs ≡ cond b (x ∷ ys) ys ++ zs
in_front true x xs ys zs e = kept x _ _ e
in_front false x xs ys zs e = e

fronted : (b c : Bool) (x : NodeRef) (xs ys : List NodeRef) → b ≡ c → xs ≡ ys → cond b (x ∷ xs) xs ≡ cond c (x ∷ ys) ys
fronted b c x xs ys d e = λ i. cond (d i) (x ∷ e i) (e i)

pub passed_over : (b : Bool) (x : NodeRef) (xs ys : List NodeRef) → b ≡ false → xs ≡ ys → cond b (x ∷ xs) xs ≡ ys
passed_over b x xs ys d e = ap (λ c. cond c (x ∷ xs) xs) d ∙ e

pub picked_append : (p : List Way → Bool) (xs ys : List (Entry ℕ)) → picked p (xs ++ ys) ≡ picked p xs ++ picked p ys
picked_append p [] ys = refl
picked_append p (e ∷ xs) ys = in_front (p (way_to e.place)) (ref_of e) _ (picked p xs) (picked p ys) (picked_append p xs ys)

pub picked_under : (p : List Way → Bool) (n : ℕ) (es : List (Entry ℕ)) → picked p (map (under n) es) ≡ picked (λ q. p (ToChild n ∷ q)) es
picked_under p n [] = refl
picked_under p n (e ∷ es) = fronted _ _ (ref_of e) _ _ refl (picked_under p n es)

pub picked_same : (p r : List Way → Bool) → ((q : List Way) → p q ≡ r q) → (es : List (Entry ℕ)) → picked p es ≡ picked r es
picked_same p r h [] = refl
picked_same p r h (e ∷ es) = fronted _ _ (ref_of e) _ _ (h (way_to e.place)) (picked_same p r h es)

pub picked_none : (p : List Way → Bool) → ((q : List Way) → p q ≡ false) → (es : List (Entry ℕ)) → picked p es ≡ []
picked_none p h [] = refl
picked_none p h (e ∷ es) = ap (λ b. cond b (ref_of e ∷ picked p es) (picked p es)) (h (way_to e.place)) ∙ picked_none p h es

-- one child with all below it, and the children after it
pub picked_node : (p : List Way → Bool) (above : List Content) (k l : ℕ) (c : Content) (f g : Forest ℕ) (xs ys : List NodeRef)
    → picked (λ q. p (ToChild k ∷ q)) (listing (found_in above l c f)) ≡ xs → picked p (entries_in above [] (k + 1) g) ≡ ys
    → picked p (entries_in above [] k (Node l c f g)) ≡ xs ++ ys
picked_node p above k l c f g xs ys d e =
    ap (picked p) (listed_node above k l c f g) ∙ picked_append p (map (under k) (listing (found_in above l c f))) (entries_in above [] (k + 1) g)
    ∙ both _ xs _ ys (picked_under p k (listing (found_in above l c f)) ∙ d) e

-- ---- Own entries

pub attributes_none : (p : List Way → Bool) → ((n : ℕ) → p (ToAttribute n ∷ []) ≡ false)
    → (node : Found ℕ) (number : ℕ) (xs : List Written)
    → picked p (attribute_entries [] node number xs) ≡ []
attributes_none p h node number [] = refl
attributes_none p h node number (x ∷ xs) = passed_over _ _ _ _ (h number) (attributes_none p h node (number + 1) xs)

pub namespaces_none : (p : List Way → Bool) → ((x : List ℕ) → p (ToNamespace x ∷ []) ≡ false)
    → (node : Found ℕ) (number : ℕ) (xs : List (List ℕ × List ℕ))
    → picked p (namespace_entries [] node number xs) ≡ []
namespaces_none p h node number [] = refl
namespaces_none p h node number (x ∷ xs) = passed_over _ _ _ _ (h x.0) (namespaces_none p h node (number + 1) xs)

-- the node itself, its namespace nodes and its attributes
pub own_is : (p : List Way → Bool) (node : Found ℕ) (xs ys : List NodeRef) → picked p (namespace_entries [] node 1 (namespaces_of node)) ≡ xs
    → picked p (attribute_entries [] node 1 (attributes_of node)) ≡ ys
    → picked p (own_entries [] node) ≡ if_taken (p []) (itself node.label) ++ (xs ++ ys)
own_is p node xs ys d e =
    let ns = namespace_entries [] node 1 (namespaces_of node) in
    let more = picked_append p ns (attribute_entries [] node 1 (attributes_of node)) ∙ both _ xs _ ys d e in
    own (p []) (picked p (ns ++ attribute_entries [] node 1 (attributes_of node))) (xs ++ ys) more
  where
    own : (b : Bool) (us vs : List NodeRef) → us ≡ vs → cond b (itself node.label ∷ us) us ≡ if_taken b (itself node.label) ++ vs
    own true us vs h = kept _ _ _ h
    own false us vs h = h

pub own_only : (p : List Way → Bool) (node : Found ℕ) → ((x : List ℕ) → p (ToNamespace x ∷ []) ≡ false)
    → ((n : ℕ) → p (ToAttribute n ∷ []) ≡ false)
    → picked p (own_entries [] node) ≡ if_taken (p []) (itself node.label)
own_only p node h g =
    own_is p node [] [] (namespaces_none p h node 1 (namespaces_of node)) (attributes_none p g node 1 (attributes_of node))
    ∙ append-nil (if_taken (p []) (itself node.label))

-- ---- Siblings to an extent

abbrev pub within : Extent → List Way → Bool
within Nothing q = false
within Themselves [] = true
within Themselves (a ∷ q) = false
within WithAllBelow q = is_in_tree q

children_all : (above : List Content) (k : ℕ) (f : Forest ℕ) → picked is_in_tree (entries_in above [] k f) ≡ map itself (labels f)
children_all above k Empty = refl
children_all above k (Node l c f g) =
    picked_node is_in_tree above k l c f g (itself l ∷ map itself (labels f)) (map itself (labels g))
    (picked_append is_in_tree (own_entries [] (found_in above l c f)) (entries_in (c ∷ above) [] 1 f)
    ∙ both _ (itself l ∷ []) _ (map itself (labels f)) (own_only is_in_tree (found_in above l c f) (λ x. refl) (λ n. refl))
    (children_all (c ∷ above) 1 f))
    (children_all above (k + 1) g)
    ∙ kept (itself l) _ _ (sym (map_append itself (labels f) (labels g)))

pub children_none : (p : List Way → Bool) → ((n : ℕ) (q : List Way) → p (ToChild n ∷ q) ≡ false)
    → (above : List Content) (k : ℕ) (f : Forest ℕ)
    → picked p (entries_in above [] k f) ≡ []
children_none p h above k Empty = refl
children_none p h above k (Node l c f g) =
    picked_node p above k l c f g [] [] (picked_none (λ q. p (ToChild k ∷ q)) (h k) (listing (found_in above l c f))) (children_none p h above (k + 1) g)

one : (x : Extent) (above : List Content) (l : ℕ) (c : Content) (f : Forest ℕ) → picked (within x) (listing (found_in above l c f)) ≡ taken_one x l f
one Nothing above l c f = picked_none (within Nothing) (λ q. refl) (listing (found_in above l c f))
one Themselves above l c f =
    picked_append (within Themselves) (own_entries [] (found_in above l c f)) (entries_in (c ∷ above) [] 1 f)
    ∙ both _ (itself l ∷ []) _ [] (own_only (within Themselves) (found_in above l c f) (λ x. refl) (λ n. refl))
    (children_none (within Themselves) (λ n q. refl) (c ∷ above) 1 f)
one WithAllBelow above l c f =
    picked_append is_in_tree (own_entries [] (found_in above l c f)) (entries_in (c ∷ above) [] 1 f)
    ∙ both _ (itself l ∷ []) _ (map itself (labels f)) (own_only is_in_tree (found_in above l c f) (λ x. refl) (λ n. refl))
    (children_all (c ∷ above) 1 f)

pub one_more : (x : Extent) (l : ℕ) (c : Content) (f g : Forest ℕ) → taken_one x l f ++ taken x g ≡ taken x (Node l c f g)
one_more Nothing l c f g = refl
one_more Themselves l c f g = refl
one_more WithAllBelow l c f g = kept (itself l) _ _ (sym (map_append itself (labels f) (labels g)))

pub taken_all : (p : List Way → Bool) (x : Extent) (above : List Content) (k : ℕ) (f : Forest ℕ)
    → ((n : ℕ) (q : List Way) → k ≤ n → p (ToChild n ∷ q) ≡ within x q)
    → picked p (entries_in above [] k f) ≡ taken x f
taken_all p x above k Empty h = none x
  where
    none : (x : Extent) → [] ≡ taken x Empty
    none Nothing = refl
    none Themselves = refl
    none WithAllBelow = refl
taken_all p x above k (Node l c f g) h =
    picked_node p above k l c f g (taken_one x l f) (taken x g)
    (picked_same (λ q. p (ToChild k ∷ q)) (within x) (λ q. h k q (omega arith)) (listing (found_in above l c f)) ∙ one x above l c f)
    (taken_all p x above (k + 1) g (λ n q le. h n q (omega arith)))
    ∙ one_more x l c f g

some_same : {A : Type 0} (x y : A) → Some x ≡ Some y → x ≡ y
some_same x y e = ap (λ o. elim o [ Some z ↦ z | None ↦ x ]) e

not_zero : (j : ℕ) → (j == 0) ≡ false → 1 ≤ j
not_zero zero h = absurd (cc)
not_zero (suc j) h = omega arith

-- the child at an index, which passes by a test of its own, with those before and after it
pub around_is : (p r : List Way → Bool) (b a : Extent) (m : ℕ) (inner : ℕ → Forest ℕ → List NodeRef) (x : Found ℕ)
    → ((n : ℕ) (q : List Way) → n < m → p (ToChild n ∷ q) ≡ within b q) → ((q : List Way) → p (ToChild m ∷ q) ≡ r q)
    → ((n : ℕ) (q : List Way) → m < n → p (ToChild n ∷ q) ≡ within a q) → picked r (listing x) ≡ inner x.label x.children
    → (above : List Content) (k j : ℕ) (f : Forest ℕ) → m ≡ k + j → child_at above f (j + 1) ≡ Some x
    → picked p (entries_in above [] k f) ≡ around inner b a j f
around_is p r b a m inner x before here after own above k j Empty is at = absurd (cc)
around_is p r b a m inner x before here after own above k j (Node l c f g) is at =
    let own_at : (j + 1 == 1) ≡ true → found_in above l c f ≡ x
    = λ e. some_same (found_in above l c f) x (sym (ap (λ t. cond t (Some (found_in above l c f)) (child_at above g (j + 1 - 1))) e) ∙ at) in
    elim (j == 0) as (λ t. (j == 0) ≡ t
    → picked p (entries_in above [] k (Node l c f g)) ≡ cond t (inner l f ++ taken a g) (taken_one b l f ++ around inner b a (j - 1) g)) [
      | true ↦ λ e.
          let zero_j : j ≡ 0 = eqb-true j 0 e in
          let same : m ≡ k = omega arith in
          let found = own_at (eq-eqb (j + 1) 1 (omega arith)) in
          picked_node p above k l c f g (inner l f) (taken a g)
          (picked_same (λ q. p (ToChild k ∷ q)) r (λ q. ap (λ n. p (ToChild n ∷ q)) (sym same) ∙ here q) (listing (found_in above l c f))
          ∙ ap (λ y. picked r (listing y)) found ∙ own ∙ sym (ap (λ y. inner y.label y.children) found))
          (taken_all p a above (k + 1) g (λ n q le. after n q (omega arith)))
      | false ↦ λ e.
          let positive : 1 ≤ j = not_zero j e in
          let later : (j + 1 == 1) ≡ false = other (j + 1) (omega arith) in
          let back : j + 1 - 1 ≡ j - 1 + 1 = omega arith in
          let behind = ap (child_at above g) (sym back) ∙ sym (ap (λ t. cond t (Some (found_in above l c f)) (child_at above g (j + 1 - 1))) later)
          ∙ at in
          picked_node p above k l c f g (taken_one b l f) (around inner b a (j - 1) g)
          (picked_same (λ q. p (ToChild k ∷ q)) (within b) (λ q. before k q (omega arith)) (listing (found_in above l c f)) ∙ one b above l c f)
          (around_is p r b a m inner x before here after own above (k + 1) (j - 1) g (omega arith) behind)
    ] refl
  where
    other : (n : ℕ) → 1 < n → (n == 1) ≡ false
    other n h = elim (n == 1) as (λ t. (n == 1) ≡ t → t ≡ false)
        [ true ↦ λ e. absurd (let is : n ≡ 1 = eqb-true n 1 e in omega arith) | false ↦ λ e. refl ] refl
