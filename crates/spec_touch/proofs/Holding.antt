-- A tree that stands somewhere in a document: its nodes follow each other in document order, and before and behind them are those of places that do
-- not lead through it.
use Rattle.std.proofs.Common.{◌≡◌, ◌≤◌, arith, ℕ, ◌+◌, ◌==◌, false, List, [], ◌∷◌, ◌++◌, refl, sym, ap, ◌∙◌, subst}
use Rattle.std.proofs.Common.{append_assoc, eq-eqb}
use Rattle.spec_document.specs.Forest.{Written, Content, Forest, Empty, Node, Document, followed}
use Rattle.spec_document.specs.Place.{Found, root_of, found_in, attributes_of, namespaces_of}
use Rattle.spec_document.specs.Order.{Entry, namespace_entries, attribute_entries, own_entries, entries_in, entries_of}
use Rattle.spec_edit.proofs.Around.{Around, Here, Below, filled, above_in}
use Rattle.spec_edit.proofs.Numbers.{one_if, stands, stands_around, unlike}
use Rattle.spec_node.specs.Naming.{number_of}
use Rattle.spec_touch.proofs.Apart.{IsApart, ends, parts, further, apart-prefixed}

abbrev pub tree_entries : List Content → List ℕ → ℕ → Content → Forest ℕ → List (Entry ℕ)
tree_entries above positions l c f = own_entries positions (found_in above l c f) ++ entries_in (c ∷ above) positions 1 f

-- not of the node of this number, and at a place that does not lead through these positions
pub record IsOutside (n : ℕ) (way : List ℕ) (e : Entry ℕ) : Type 0 where
  pub named : (n == number_of e.item) ≡ false
  pub apart : IsApart way e.place.positions

abbrev pub AllOutside : ℕ → (way : List ℕ) → List (Entry ℕ) → Type 0
AllOutside n way [] = Unit {0}
AllOutside n way (e ∷ es) = IsOutside n way e × AllOutside n way es

-- where the tree of these stands among the entries of a document, or of siblings below the node at some positions
pub record HoldsAt (n : ℕ) (above : List Content) (l : ℕ) (c : Content) (f : Forest ℕ) (way : List ℕ) (es : List (Entry ℕ)) : Type 0 where
  pub before : List (Entry ℕ)
  pub after : List (Entry ℕ)
  pub is : es ≡ (before ++ tree_entries above way l c f) ++ after
  pub sooner : AllOutside n way before
  pub later : AllOutside n way after

abbrev count : ℕ → Forest ℕ → ℕ
count n f = stands (λ m. m == n) f

outside-append : (n : ℕ) (way : List ℕ) (es fs : List (Entry ℕ)) → AllOutside n way es → AllOutside n way fs → AllOutside n way (es ++ fs)
outside-append n way [] fs h g = g
outside-append n way (e ∷ es) fs h g = (h.0, outside-append n way es fs h.1 g)

another : (n l : ℕ) → one_if (l == n) ≡ 0 → (n == l) ≡ false
another n l none = unlike n l (λ same. (let own : one_if (l == n) ≡ 1 = ap one_if (eq-eqb l n (sym same)) in absurd (omega arith)))

module _ (n : ℕ) (way : List ℕ) where
  namespaces-outside : (s : List ℕ) (x : Found ℕ) → IsApart way s → (n == x.label) ≡ false → (k : ℕ) (ns : List (List ℕ × List ℕ))
      → AllOutside n way (namespace_entries s x k ns)
  namespaces-outside s x a h k [] = tt
  namespaces-outside s x a h k (m ∷ ns) = (record { named = h; apart = a }, namespaces-outside s x a h (k + 1) ns)

  attributes-outside : (s : List ℕ) (x : Found ℕ) → IsApart way s → (n == x.label) ≡ false → (k : ℕ) (ws : List Written)
      → AllOutside n way (attribute_entries s x k ws)
  attributes-outside s x a h k [] = tt
  attributes-outside s x a h k (w ∷ ws) = (record { named = h; apart = a }, attributes-outside s x a h (k + 1) ws)

  own-outside : (s : List ℕ) (x : Found ℕ) → IsApart way s → (n == x.label) ≡ false → AllOutside n way (own_entries s x)
  own-outside s x a h = (
    record { named = h; apart = a },
    outside-append n way (namespace_entries s x 1 (namespaces_of x)) (attribute_entries s x 1 (attributes_of x))
        (namespaces-outside s x a h 1 (namespaces_of x)) (attributes-outside s x a h 1 (attributes_of x)),
  )

  spread : (s : List ℕ) (k : ℕ) (rest : List ℕ) → IsApart way (s ++ k ∷ rest) → IsApart way ((s ++ k ∷ []) ++ rest)
  spread s k rest a = subst (λ p. IsApart way p) (sym (append_assoc s (k ∷ []) rest)) a

  below-outside : (s : List ℕ) (above : List Content) (k : ℕ) (f : Forest ℕ)
      → ((j : ℕ) (rest : List ℕ) → k ≤ j → IsApart way (s ++ j ∷ rest)) → count n f ≡ 0 → AllOutside n way (entries_in above s k f)
  below-outside s above k Empty a none = tt
  below-outside s above k (Node l c f g) a none =
      outside-append n way (tree_entries above (s ++ k ∷ []) l c f) (entries_in above s (k + 1) g)
      (outside-append n way (own_entries (s ++ k ∷ []) (found_in above l c f)) (entries_in (c ∷ above) (s ++ k ∷ []) 1 f)
      (own-outside (s ++ k ∷ []) (found_in above l c f) (a k [] (omega arith)) (another n l (omega arith)))
      (below-outside (s ++ k ∷ []) (c ∷ above) 1 f (λ j rest _. spread s k (j ∷ rest) (a k (j ∷ rest) (omega arith))) (omega arith)))
      (below-outside s above (k + 1) g (λ j rest low. a j rest (omega arith)) (omega arith))

  tree-outside : (s : List ℕ) (above : List Content) (k l : ℕ) (c : Content) (f : Forest ℕ)
      → ((rest : List ℕ) → IsApart way (s ++ k ∷ rest)) → (n == l) ≡ false → count n f ≡ 0 → AllOutside n way (tree_entries above (s ++ k ∷ []) l c f)
  tree-outside s above k l c f a h none =
      outside-append n way (own_entries (s ++ k ∷ []) (found_in above l c f)) (entries_in (c ∷ above) (s ++ k ∷ []) 1 f)
      (own-outside (s ++ k ∷ []) (found_in above l c f) (a []) h)
      (below-outside (s ++ k ∷ []) (c ∷ above) 1 f (λ j rest _. spread s k (j ∷ rest) (a (j ∷ rest))) none)

-- ---- Where the tree stands

regroup : {A : Type 0} (t b x a : List A) → t ++ ((b ++ x) ++ a) ≡ ((t ++ b) ++ x) ++ a
regroup t b x a = sym (append_assoc t (b ++ x) a) ∙ ap (λ xs. xs ++ a) (sym (append_assoc t b x))

module _ (n : ℕ) (over : List Content) (l : ℕ) (c : Content) (f : Forest ℕ) where
  -- it stands among siblings from this position on below the node at these, or below one of them
  record Holds (s : List ℕ) (k : ℕ) (es : List (Entry ℕ)) : Type 0 where
    position : ℕ
    rest : List ℕ
    low : k ≤ position
    holds : HoldsAt n over l c f (s ++ position ∷ rest) es

  first-of-all : (s : List ℕ) (k : ℕ) (g : Forest ℕ) → count n g ≡ 0 → Holds s k (entries_in over s k (Node l c f g))
  first-of-all s k g none =
      record {
        position = k;
        rest = [];
        low = omega arith;
        holds = record {
          before = [];
          after = entries_in over s (k + 1) g;
          is = refl;
          sooner = tt;
          later = below-outside n (s ++ k ∷ []) s over (k + 1) g
              (λ j rest low. apart-prefixed s (parts (unlike j k (λ e. omega arith)))) none;
        };
      }

  behind : (s : List ℕ) (k : ℕ) (above : List Content) (m : ℕ) (d : Content) (g : Forest ℕ) (es : List (Entry ℕ)) → (n == m) ≡ false
      → count n g ≡ 0
      → Holds s (k + 1) es → Holds s k (tree_entries above (s ++ k ∷ []) m d g ++ es)
  behind s k above m d g es other none h =
      let i = h.holds in
      let low = h.low in
      let way = s ++ h.position ∷ h.rest in
      let t = tree_entries above (s ++ k ∷ []) m d g in
      record {
        position = h.position;
        rest = h.rest;
        low = omega arith;
        holds = record {
          before = t ++ i.before;
          after = i.after;
          is = ap (λ xs. t ++ xs) i.is ∙ regroup t i.before (tree_entries over way l c f) i.after;
          sooner = outside-append n way t i.before
              (tree-outside n way s above k m d g (λ rest. apart-prefixed s (parts (unlike k h.position (λ e. omega arith)))) other none)
              i.sooner;
          later = i.later;
        };
      }

  below : (s : List ℕ) (k : ℕ) (above : List Content) (m : ℕ) (d : Content) (g r : Forest ℕ) → (n == m) ≡ false → count n r ≡ 0
      → Holds (s ++ k ∷ []) 1 (entries_in (d ∷ above) (s ++ k ∷ []) 1 g) → Holds s k (entries_in above s k (Node m d g r))
  below s k above m d g r other none h =
      let i = h.holds in
      let inner = h.position ∷ h.rest in
      let way = s ++ k ∷ inner in
      let same : (s ++ k ∷ []) ++ inner ≡ way = append_assoc s (k ∷ []) inner in
      let own = own_entries (s ++ k ∷ []) (found_in above m d g) in
      let siblings = entries_in above s (k + 1) r in
      let tree = tree_entries over way l c f in
      record {
        position = k;
        rest = inner;
        low = omega arith;
        holds = record {
          before = own ++ i.before;
          after = i.after ++ siblings;
          is = ap (λ xs. (own ++ xs) ++ siblings) (i.is ∙ ap (λ w. (i.before ++ tree_entries over w l c f) ++ i.after) same)
              ∙ ap (λ xs. xs ++ siblings) (regroup own i.before tree i.after)
              ∙ append_assoc ((own ++ i.before) ++ tree) i.after siblings;
          sooner = outside-append n way own i.before
              (own-outside n way (s ++ k ∷ []) (found_in above m d g) (apart-prefixed s (further ends)) other)
              (subst (λ w. AllOutside n w i.before) same i.sooner);
          later = outside-append n way i.after siblings (subst (λ w. AllOutside n w i.after) same i.later)
              (below-outside n way s above (k + 1) r (λ j rest low. apart-prefixed s (parts (unlike j k (λ e. omega arith)))) none);
        };
      }

  among : (s : List ℕ) (above : List Content) (b g : Forest ℕ) → count n b ≡ 0 → (k : ℕ)
      → ((j : ℕ) → k ≤ j → Holds s j (entries_in above s j g)) → Holds s k (entries_in above s k (followed b g))
  among s above Empty g none k go = go k (omega arith)
  among s above (Node m d h b) g none k go =
      behind s k above m d h (entries_in above s (k + 1) (followed b g)) (another n m (omega arith)) (omega arith)
      (among s above b g (omega arith) (k + 1) (λ j low. go j (omega arith)))

  inside : (around : Around ℕ) (s : List ℕ) (above : List Content) (g : Forest ℕ) → stands_around (λ m. m == n) around ≡ 0 → (k : ℕ)
      → ((t : List ℕ) (j : ℕ) → Holds t j (entries_in (above_in above around) t j g)) → Holds s k (entries_in above s k (filled around g))
  inside Here s above g none k go = go s k
  inside (Below b m d around a) s above g none k go =
      among s above b (Node m d (filled around g) a) (omega arith) k
      (λ j low. below s j above m d (filled around g) a (another n m (omega arith)) (omega arith)
      (inside around (s ++ j ∷ []) (d ∷ above) g (omega arith) 1 go))

-- in a document, where no other node has the number
pub record HoldsIn (n : ℕ) (above : List Content) (l : ℕ) (c : Content) (f : Forest ℕ) (document : Document ℕ) : Type 0 where
  pub way : List ℕ
  pub holds : HoldsAt n above l c f way (entries_of document)

pub holds-in : (n : ℕ) (document : Document ℕ) (around : Around ℕ) (before : Forest ℕ) (l : ℕ) (c : Content) (f after : Forest ℕ)
    → document.nodes ≡ filled around (followed before (Node l c f after)) → (n == document.root) ≡ false
    → stands_around (λ m. m == n) around ≡ 0 → count n before ≡ 0 → count n after ≡ 0
    → HoldsIn n (above_in [] around) l c f document
holds-in n document around before l c f after is other none sooner later =
    let over = above_in [] around in
    let h = inside n over l c f around [] [] (followed before (Node l c f after)) none 1
    (λ t j. among n over l c f t over before (Node l c f after) sooner j (λ k _. first-of-all n over l c f t k after later)) in
    let i = h.holds in
    let way = h.position ∷ h.rest in
    let own = own_entries [] (root_of document) in
    record {
      way = way;
      holds = record {
        before = own ++ i.before;
        after = i.after;
        is = ap (λ g. own ++ entries_in [] [] 1 g) is ∙ ap (λ xs. own ++ xs) i.is
            ∙ regroup own i.before (tree_entries over way l c f) i.after;
        sooner = outside-append n way own i.before (own-outside n way [] (root_of document) ends other) i.sooner;
        later = i.later;
      };
    }
