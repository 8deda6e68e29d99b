-- The nodes of a document before a change and after it, in document order: those that stay, and between them those that go or come.
use Rattle.std.proofs.Common.{◌≡◌, ◌≤◌, arith, ℕ, suc, ◌+◌, ◌==◌, Bool, true, false, cond, List, [], ◌∷◌, ◌++◌}
use Rattle.std.proofs.Common.{refl, sym, ap, ◌∙◌, subst, append_assoc}
use Rattle.std.specs.Prelude.{◌&&◌, ◌||◌}
use Rattle.std.specs.List.{list_all, list_any}
use Rattle.std.specs.Option.{option_and_then}
use Rattle.spec_document.specs.Name.{qname_of}
use Rattle.spec_document.specs.Scope.{root_scope}
use Rattle.spec_document.specs.Forest.{Written, Content, Forest, Empty, Node, labels}
use Rattle.spec_document.specs.Declaration.{within, scope_of, attribute_name}
use Rattle.spec_document.specs.Place.{Ending, Itself, AtAttribute, Found, found_in, TreeNode}
use Rattle.spec_document.specs.Place.{kind_of, expanded_name, written_name, string_value, string_value_by}
use Rattle.spec_document.specs.Place.{attributes_of, namespaces_of}
use Rattle.spec_document.specs.Order.{Entry, namespace_entries, attribute_entries, own_entries, entries_in}
use Rattle.spec_run.specs.Copy.{copy_of, copied_by}
use Rattle.spec_edit.proofs.Numbers.{unlike}
use Rattle.spec_change.specs.Change.{Change, is_among}
use Rattle.spec_node.specs.declared.node_ref.NodeRef.{NodeRef}
use Rattle.spec_node.specs.declared.node_ref.Part.TheVariants as part
use Rattle.spec_node.specs.Naming.{number_of, ref_of}
use Rattle.spec_touch.specs.Touched.{goes_or_comes, holds_change, inside_but}
use Rattle.spec_touch.specs.Leads.{Parts, at_end, stays, rewritten, goes, comes}
use Rattle.spec_touch.proofs.Positions.{self, rises_from, Where, here, higher, child, elsewhere, Stands, deeper}
use Rattle.spec_touch.proofs.Off.{IsBelow, in_deeper}
use Rattle.spec_touch.proofs.Scopes.{Like, same-content, tree-copied, attribute-copied}

-- ---- What is marked, seen from where a node stands

abbrev pub IsMarked : Change → Where → ℕ → Type 0
IsMarked change here n = change.node ≡ n
IsMarked change higher n = is_among change.above n ≡ true
IsMarked change child n = is_among (change.before ++ change.after) n ≡ true
IsMarked change elsewhere n = Unit {0}

abbrev pub marks_text : (loose : List ℕ) → Change → NodeRef → Bool
marks_text loose change node = cond change.of_attributes false (inside_but loose change node)

abbrev pub marks_copy : (loose : List ℕ) → Change → NodeRef → Bool
marks_copy loose change node = cond change.of_attributes (holds_change change node) (inside_but loose change node)

abbrev pub node_ref : ℕ → NodeRef
node_ref n = record { node = record { number = n }; part = part.Itself }

-- ---- Nodes that stay

pub record Same (loose : List ℕ) (change : Change) (olds news way : List ℕ) (e f : Entry ℕ) : Type 0 where
  pub where_is : Where
  pub stands : Stands olds news where_is way e.place.positions f.place.positions
  pub ending : e.place.ending ≡ f.place.ending
  pub number : e.number ≡ f.number
  pub label : number_of e.item ≡ number_of f.item
  pub kind : kind_of e.item ≡ kind_of f.item
  pub name : expanded_name e.item ≡ expanded_name f.item
  pub written : written_name e.item ≡ written_name f.item
  pub marked : IsMarked change where_is (number_of e.item)
  pub text : marks_text loose change (ref_of e) ≡ false → string_value e.item ≡ string_value f.item
  pub copy : marks_copy loose change (ref_of e) ≡ false → copy_of e.item ≡ copy_of f.item

-- ---- Nodes that go or come

pub data IsAway (change : Change) (kept way : List ℕ) : List ℕ → Ending → Type 0 where
  below_child : {positions : List ℕ} {ending : Ending} → change.of_attributes ≡ false → IsBelow kept way positions
      → IsAway change kept way positions ending
  an_attribute : {positions : List ℕ} (k : ℕ) → change.of_attributes ≡ true → positions ≡ way
      → IsAway change kept way positions (AtAttribute k)

pub record IsLost (change : Change) (kept way : List ℕ) (e : Entry ℕ) : Type 0 where
  pub named : goes_or_comes change (ref_of e) ≡ true
  pub away : IsAway change kept way e.place.positions e.place.ending

abbrev pub AllLost : Change → (kept way : List ℕ) → List (Entry ℕ) → Type 0
AllLost change kept way [] = Unit {0}
AllLost change kept way (e ∷ es) = IsLost change kept way e × AllLost change kept way es

-- ---- The nodes of two documents

pub data Runs (loose : List ℕ) (change : Change) (olds news way : List ℕ) : (before after : List (Entry ℕ)) → Type 0 where
  both_end : Runs loose change olds news way [] []
  both : {e f : Entry ℕ} {es fs : List (Entry ℕ)} → Same loose change olds news way e f → Runs loose change olds news way es fs
      → Runs loose change olds news way (e ∷ es) (f ∷ fs)
  gone : {e : Entry ℕ} {es fs : List (Entry ℕ)} → IsLost change olds way e → Runs loose change olds news way es fs
      → Runs loose change olds news way (e ∷ es) fs
  brought : {f : Entry ℕ} {es fs : List (Entry ℕ)} → IsLost change news way f → Runs loose change olds news way es fs
      → Runs loose change olds news way es (f ∷ fs)

pub runs-append : {loose : List ℕ} {change : Change} {olds news way : List ℕ} {es fs gs hs : List (Entry ℕ)} → Runs loose change olds news way es fs
    → Runs loose change olds news way gs hs → Runs loose change olds news way (es ++ gs) (fs ++ hs)
runs-append both_end r = r
runs-append (both s q) r = both s (runs-append q r)
runs-append (gone l q) r = gone l (runs-append q r)
runs-append (brought l q) r = brought l (runs-append q r)

pub lost-append : (change : Change) (kept way : List ℕ) (es fs : List (Entry ℕ)) → AllLost change kept way es → AllLost change kept way fs
    → AllLost change kept way (es ++ fs)
lost-append change kept way [] fs h g = g
lost-append change kept way (e ∷ es) fs h g = (h.0, lost-append change kept way es fs h.1 g)

pub all-gone : {loose : List ℕ} {change : Change} {olds news way : List ℕ} (es : List (Entry ℕ)) {fs gs : List (Entry ℕ)} → AllLost change olds way es
    → Runs loose change olds news way fs gs → Runs loose change olds news way (es ++ fs) gs
all-gone [] h r = r
all-gone (e ∷ es) h r = gone h.0 (all-gone es h.1 r)

pub all-brought : {loose : List ℕ} {change : Change} {olds news way : List ℕ} (es : List (Entry ℕ)) {fs gs : List (Entry ℕ)} → AllLost change news way es
    → Runs loose change olds news way fs gs → Runs loose change olds news way fs (es ++ gs)
all-brought [] h r = r
all-brought (e ∷ es) h r = brought h.0 (all-brought es h.1 r)

-- ---- The same with a way before all

pub prefixed : {olds news : List ℕ} {w : Where} {way old new : List ℕ} (s : List ℕ) → Stands olds news w way old new
    → Stands olds news w (s ++ way) (s ++ old) (s ++ new)
prefixed [] h = h
prefixed (q ∷ s) h = deeper (prefixed s h)

pub below-prefixed : {kept : List ℕ} {way positions : List ℕ} (s : List ℕ) → IsBelow kept way positions
    → IsBelow kept (s ++ way) (s ++ positions)
below-prefixed [] h = h
below-prefixed (q ∷ s) h = in_deeper (below-prefixed s h)

-- positions behind one more
pub spread : {olds news : List ℕ} {w : Where} {way : List ℕ} (s t : List ℕ) (n k : ℕ) (old new : List ℕ)
    → Stands olds news w way (s ++ n ∷ old) (t ++ k ∷ new) → Stands olds news w way ((s ++ n ∷ []) ++ old) ((t ++ k ∷ []) ++ new)
spread {olds = olds} {news = news} {w = w} {way = way} s t n k old new h =
    subst (λ p. Stands olds news w way p ((t ++ k ∷ []) ++ new)) (sym (append_assoc s (n ∷ []) old))
    (subst (λ p. Stands olds news w way (s ++ n ∷ old) p) (sym (append_assoc t (k ∷ []) new)) h)

pub below-spread : {kept way : List ℕ} (s : List ℕ) (n : ℕ) (rest : List ℕ) → IsBelow kept way (s ++ n ∷ rest)
    → IsBelow kept way ((s ++ n ∷ []) ++ rest)
below-spread {kept = kept} {way = way} s n rest h = subst (λ p. IsBelow kept way p) (sym (append_assoc s (n ∷ []) rest)) h

-- ---- A node that stays, with its namespace nodes and its attributes

module _ (loose : List ℕ) (change : Change) (olds news way : List ℕ) where
  module _ (s t : List ℕ) (w : Where) (stands : Stands olds news w way s t) (x y : Found ℕ) (like : Like x y)
      (marked : IsMarked change w x.label) where
    pub namespaces-run : (k : ℕ) (ns : List (List ℕ × List ℕ))
        → Runs loose change olds news way (namespace_entries s x k ns) (namespace_entries t y k ns)
    namespaces-run k [] = both_end
    namespaces-run k (n ∷ ns) =
        both (record {
          where_is = w;
          stands = stands;
          ending = refl;
          number = refl;
          label = like.label;
          kind = refl;
          name = refl;
          written = refl;
          marked = marked;
          text = λ _. refl;
          copy = λ _. refl;
        }) (namespaces-run (k + 1) ns)

    attributes-run : (k : ℕ) (ws : List Written) → Runs loose change olds news way (attribute_entries s x k ws) (attribute_entries t y k ws)
    attributes-run k [] = both_end
    attributes-run k (a ∷ ws) =
        both (record {
          where_is = w;
          stands = stands;
          ending = refl;
          number = refl;
          label = like.label;
          kind = refl;
          name = λ i. option_and_then (attribute_name (like.scope i)) (qname_of a.name);
          written = refl;
          marked = marked;
          text = λ _. refl;
          copy = λ _. attribute-copied x y like.scope a;
        }) (attributes-run (k + 1) ws)

    abbrev TextStays : Type 0
    TextStays = marks_text loose change (node_ref x.label) ≡ false → string_value_by x.content x.children ≡ string_value_by y.content y.children

    abbrev CopyStays : Type 0
    CopyStays = marks_copy loose change (node_ref x.label) ≡ false → copied_by x x.content ≡ copied_by y y.content

    pub node-same : TextStays → CopyStays → Same loose change olds news way
        (record { place = record { positions = s; ending = Itself }; number = 0; item = TreeNode x })
        (record { place = record { positions = t; ending = Itself }; number = 0; item = TreeNode y })
    node-same text copy =
        record {
          where_is = w;
          stands = stands;
          ending = refl;
          number = refl;
          label = like.label;
          kind = like.kind;
          name = like.name;
          written = like.written;
          marked = marked;
          text = text;
          copy = copy;
        }

    pub namespaces-same : Runs loose change olds news way (namespace_entries s x 1 (namespaces_of x)) (namespace_entries t y 1 (namespaces_of y))
    namespaces-same =
        subst (λ ns. Runs loose change olds news way (namespace_entries s x 1 (namespaces_of x)) (namespace_entries t y 1 ns)) like.namespaces
        (namespaces-run 1 (namespaces_of x))

    pub own-run : attributes_of x ≡ attributes_of y → TextStays → CopyStays → Runs loose change olds news way (own_entries s x) (own_entries t y)
    own-run attributes text copy =
        both (node-same text copy) (runs-append namespaces-same
        (subst (λ ws. Runs loose change olds news way (attribute_entries s x 1 (attributes_of x)) (attribute_entries t y 1 ws)) attributes
        (attributes-run 1 (attributes_of x))))

  -- siblings that stay with all that is below them, and stand neither on the way nor are children of the node of the change
  pub below-run : (s t : List ℕ) (above over : List Content) → scope_of root_scope above ≡ scope_of root_scope over → (n : ℕ) (f : Forest ℕ)
      → ((k : ℕ) (rest : List ℕ) → n ≤ k → Stands olds news elsewhere way (s ++ k ∷ rest) (t ++ k ∷ rest))
      → Runs loose change olds news way (entries_in above s n f) (entries_in over t n f)
  below-run s t above over e n Empty h = both_end
  below-run s t above over e n (Node l c f g) h =
      runs-append (runs-append (own-run (s ++ n ∷ []) (t ++ n ∷ []) elsewhere (h n [] (omega arith)) (found_in above l c f)
      (found_in over l c f)
      (same-content above over e l c f f) tt refl (λ _. refl) (λ _. tree-copied above over e l c f))
      (below-run (s ++ n ∷ []) (t ++ n ∷ []) (c ∷ above) (c ∷ over) (ap (within c) e) 1 f
      (λ k rest _. spread s t n n (k ∷ rest) (k ∷ rest) (h n (k ∷ rest) (omega arith)))))
      (below-run s t above over e (n + 1) g (λ k rest low. h k rest (omega arith)))

-- ---- Nodes that go or come, with all that is below them

pub first-of : (a b : Bool) → (a && b) ≡ true → a ≡ true
first-of true b e = refl
first-of false b e = absurd (cc)

pub second-of : (a b : Bool) → (a && b) ≡ true → b ≡ true
second-of true b e = e
second-of false b e = absurd (cc)

pub or-first : (a b : Bool) → a ≡ true → (a || b) ≡ true
or-first true b e = refl
or-first false b e = absurd (cc)

pub or-second : (a b : Bool) → b ≡ true → (a || b) ≡ true
or-second true b e = refl
or-second false b e = e

pub all-front : (test : ℕ → Bool) (xs ys : List ℕ) → list_all test (xs ++ ys) ≡ true → list_all test xs ≡ true
all-front test [] ys h = refl
all-front test (x ∷ xs) ys h =
    (λ i. first-of (test x) (list_all test (xs ++ ys)) h i && list_all test xs) ∙ all-front test xs ys (second-of (test x) _ h)

pub all-back : (test : ℕ → Bool) (xs ys : List ℕ) → list_all test (xs ++ ys) ≡ true → list_all test ys ≡ true
all-back test [] ys h = h
all-back test (x ∷ xs) ys h = all-back test xs ys (second-of (test x) _ h)

module _ (change : Change) (kept way : List ℕ) (children : change.of_attributes ≡ false) (test : ℕ → Bool)
    (names : (node : NodeRef) → test node.node.number ≡ true → goes_or_comes change node ≡ true) where
  namespaces-lost : (s : List ℕ) (x : Found ℕ) → IsBelow kept way s → test x.label ≡ true → (k : ℕ) (ns : List (List ℕ × List ℕ))
      → AllLost change kept way (namespace_entries s x k ns)
  namespaces-lost s x b h k [] = tt
  namespaces-lost s x b h k (n ∷ ns) = (
    record { named = names (record { node = record { number = x.label }; part = part.Namespace k }) h; away = below_child children b },
    namespaces-lost s x b h (k + 1) ns,
  )

  attributes-lost : (s : List ℕ) (x : Found ℕ) → IsBelow kept way s → test x.label ≡ true → (k : ℕ) (ws : List Written)
      → AllLost change kept way (attribute_entries s x k ws)
  attributes-lost s x b h k [] = tt
  attributes-lost s x b h k (a ∷ ws) = (
    record { named = names (record { node = record { number = x.label }; part = part.Attribute k }) h; away = below_child children b },
    attributes-lost s x b h (k + 1) ws,
  )

  pub own-lost : (s : List ℕ) (x : Found ℕ) → IsBelow kept way s → test x.label ≡ true → AllLost change kept way (own_entries s x)
  own-lost s x b h = (
    record { named = names (node_ref x.label) h; away = below_child children b },
    lost-append change kept way (namespace_entries s x 1 (namespaces_of x)) (attribute_entries s x 1 (attributes_of x))
        (namespaces-lost s x b h 1 (namespaces_of x)) (attributes-lost s x b h 1 (attributes_of x)),
  )

  pub below-lost : (s : List ℕ) (above : List Content) (n : ℕ) (f : Forest ℕ) → ((k : ℕ) (rest : List ℕ) → IsBelow kept way (s ++ k ∷ rest))
      → list_all test (labels f) ≡ true → AllLost change kept way (entries_in above s n f)
  below-lost s above n Empty h all = tt
  below-lost s above n (Node l c f g) h all =
      let rest = second-of (test l) (list_all test (labels f ++ labels g)) all in
      lost-append change kept way (own_entries (s ++ n ∷ []) (found_in above l c f) ++ entries_in (c ∷ above) (s ++ n ∷ []) 1 f)
      (entries_in above s (n + 1) g)
      (lost-append change kept way (own_entries (s ++ n ∷ []) (found_in above l c f)) (entries_in (c ∷ above) (s ++ n ∷ []) 1 f)
      (own-lost (s ++ n ∷ []) (found_in above l c f) (h n []) (first-of (test l) (list_all test (labels f ++ labels g)) all))
      (below-lost (s ++ n ∷ []) (c ∷ above) 1 f (λ k more. below-spread s n (k ∷ more) (h n (k ∷ more))) (all-front test (labels f) (labels g) rest)))
      (below-lost s above (n + 1) g h (all-back test (labels f) (labels g) rest))

  -- one node with all that is below it
  pub tree-lost : (s : List ℕ) (above : List Content) (n l : ℕ) (c : Content) (f : Forest ℕ) → ((rest : List ℕ)
      → IsBelow kept way (s ++ n ∷ rest))
      → list_all test (l ∷ labels f) ≡ true
      → AllLost change kept way (own_entries (s ++ n ∷ []) (found_in above l c f) ++ entries_in (c ∷ above) (s ++ n ∷ []) 1 f)
  tree-lost s above n l c f h all =
      lost-append change kept way (own_entries (s ++ n ∷ []) (found_in above l c f)) (entries_in (c ∷ above) (s ++ n ∷ []) 1 f)
      (own-lost (s ++ n ∷ []) (found_in above l c f) (h []) (first-of (test l) (list_all test (labels f)) all))
      (below-lost (s ++ n ∷ []) (c ∷ above) 1 f (λ k more. below-spread s n (k ∷ more) (h (k ∷ more)))
      (second-of (test l) (list_all test (labels f)) all))

-- ---- Children of the node of the change

-- the positions of those that stay, before and after, where the first sibling has this position
abbrev pub olds_in : {away arriving : List ℕ} {old new : Forest ℕ} → Parts away arriving old new → ℕ → List ℕ
olds_in at_end n = []
olds_in (stays p) n = n ∷ olds_in p (n + 1)
olds_in (rewritten r p) n = n ∷ olds_in p (n + 1)
olds_in (goes h p) n = olds_in p (n + 1)
olds_in (comes h p) n = olds_in p n

abbrev pub news_in : {away arriving : List ℕ} {old new : Forest ℕ} → Parts away arriving old new → ℕ → List ℕ
news_in at_end n = []
news_in (stays p) n = n ∷ news_in p (n + 1)
news_in (rewritten r p) n = n ∷ news_in p (n + 1)
news_in (goes h p) n = news_in p n
news_in (comes h p) n = news_in p (n + 1)

weaker : (low high : ℕ) (ns : List ℕ) → low ≤ high → rises_from high ns → rises_from low ns
weaker low high [] l h = tt
weaker low high (n ∷ ns) l h = let own = h.0 in (omega arith, h.1)

pub olds-rise : {away arriving : List ℕ} {old new : Forest ℕ} (p : Parts away arriving old new) (n : ℕ) → rises_from n (olds_in p n)
olds-rise at_end n = tt
olds-rise (stays p) n = (omega arith, weaker (suc n) (n + 1) (olds_in p (n + 1)) (omega arith) (olds-rise p (n + 1)))
olds-rise (rewritten r p) n = (omega arith, weaker (suc n) (n + 1) (olds_in p (n + 1)) (omega arith) (olds-rise p (n + 1)))
olds-rise (goes h p) n = weaker n (n + 1) (olds_in p (n + 1)) (omega arith) (olds-rise p (n + 1))
olds-rise (comes h p) n = olds-rise p n

pub news-rise : {away arriving : List ℕ} {old new : Forest ℕ} (p : Parts away arriving old new) (n : ℕ) → rises_from n (news_in p n)
news-rise at_end n = tt
news-rise (stays p) n = (omega arith, weaker (suc n) (n + 1) (news_in p (n + 1)) (omega arith) (news-rise p (n + 1)))
news-rise (rewritten r p) n = (omega arith, weaker (suc n) (n + 1) (news_in p (n + 1)) (omega arith) (news-rise p (n + 1)))
news-rise (goes h p) n = news-rise p n
news-rise (comes h p) n = weaker n (n + 1) (news_in p (n + 1)) (omega arith) (news-rise p (n + 1))

pub none-below : (low high : ℕ) (ns : List ℕ) → suc low ≤ high → rises_from high ns → list_any (λ k. k == low) ns ≡ false
none-below low high [] l h = refl
none-below low high (n ∷ ns) l h =
    let own = h.0 in
    (λ i. unlike n low (λ e. omega arith) i || list_any (λ k. k == low) ns) ∙ none-below low (suc n) ns (omega arith) h.1

-- a later position is among those from one on, or among these without the one before
pub skipped : (n m : ℕ) (ns : List ℕ) → n + 1 ≤ m → is_among (n ∷ ns) m ≡ is_among ns m
skipped n m ns l = λ i. unlike n m (λ e. omega arith) i || is_among ns m

pub self-among : (l : ℕ) (ns : List ℕ) → is_among (l ∷ ns) l ≡ true
self-among l ns = or-first (l == l) (is_among ns l) (self l)
