-- The nodes of two documents of which a change leads from the first to the second.
use Rattle.std.proofs.Common.{◌≡◌, ◌≤◌, arith, ℕ, suc, ◌+◌, ◌==◌, Bool, true, false, cond, List, [], ◌∷◌, ◌++◌, Some}
use Rattle.std.proofs.Common.{refl, sym, ap, ◌∙◌, subst, append_assoc}
use Rattle.std.specs.Prelude.{◌&&◌, ◌||◌}
use Rattle.std.specs.List.{list_all}
use Rattle.std.proofs.lemmas.Bool.{eqb-true}
use Rattle.spec_document.specs.Scope.{root_scope}
use Rattle.spec_document.specs.Forest.{Written, Content, Element, Text, Comment, Instruction, Forest, Empty, Node}
use Rattle.spec_document.specs.Forest.{Document, text_of, texts_in}
use Rattle.spec_document.specs.Declaration.{within, scope_of}
use Rattle.spec_document.specs.Place.{Found, found_in, root_of, string_value_by, attributes_of}
use Rattle.spec_document.specs.Order.{Entry, attribute_entries, own_entries, entries_in, entries_of}
use Rattle.spec_meaning.specs.Naming.{Beside, first, later}
use Rattle.spec_edit.proofs.Numbers.{unlike}
use Rattle.spec_change.specs.Change.{Change, is_among, sibling_labels}
use Rattle.spec_node.specs.declared.node_ref.NodeRef.{NodeRef}
use Rattle.spec_node.specs.declared.node_ref.Part.TheVariants as part
use Rattle.spec_touch.specs.Touched.{goes_or_comes, holds_change, inside_but}
use Rattle.spec_touch.specs.Leads.{Rewrites, text_rewritten, comment_rewritten, instruction_rewritten, Parts, at_end, stays, rewritten, goes, comes, ChildrenChange}
use Rattle.spec_touch.specs.Leads.{is_element, AreLoose, AreLooseIn, AreLooseBelow, AreFree, IsFreeIn}
use Rattle.spec_touch.specs.Leads.{ChangesIn, children, attributes, inside, further, Leads, at_root, below_root}
use Rattle.spec_touch.proofs.Positions.{self, rises_from, Where, here, higher, child, elsewhere}
use Rattle.spec_touch.proofs.Positions.{Stands, is_here, is_higher, is_aside, is_child as stands_child, is_lower, deeper}
use Rattle.spec_touch.proofs.Off.{IsBelow, in_child, in_deeper}
use Rattle.spec_touch.proofs.Scopes.{Like, same-content, other-text, other-attributes, same-declarations}
use Rattle.spec_touch.proofs.Scopes.{rewritten-scope, rewritten-attributes, tree-copied}
use Rattle.spec_touch.proofs.Entries.{marks_text, marks_copy, node_ref, an_attribute, AllLost, Runs, both_end, both}
use Rattle.spec_touch.proofs.Entries.{gone, brought}
use Rattle.spec_touch.proofs.Entries.{runs-append, all-gone, all-brought, prefixed, below-prefixed, spread}
use Rattle.spec_touch.proofs.Entries.{below-spread, node-same, namespaces-same, own-run}
use Rattle.spec_touch.proofs.Entries.{below-run, first-of, second-of, or-first, or-second, tree-lost, olds_in}
use Rattle.spec_touch.proofs.Entries.{news_in, olds-rise, news-rise, none-below, skipped}
use Rattle.spec_touch.proofs.Entries.{self-among}

pub contradicted : {A : Type 0} (b : Bool) → b ≡ true → b ≡ false → A
contradicted true e f = absurd (cc)
contradicted false e f = absurd (cc)

gone-named : (change : Change) (node : NodeRef) → is_among change.gone node.node.number ≡ true → goes_or_comes change node ≡ true
gone-named change node h =
    or-first (is_among change.gone node.node.number || is_among change.brought node.node.number) _
    (or-first (is_among change.gone node.node.number) (is_among change.brought node.node.number) h)

brought-named : (change : Change) (node : NodeRef) → is_among change.brought node.node.number ≡ true → goes_or_comes change node ≡ true
brought-named change node h =
    or-first (is_among change.gone node.node.number || is_among change.brought node.node.number) _
    (or-second (is_among change.gone node.node.number) (is_among change.brought node.node.number) h)

-- ---- Children of the node of the change

-- a text of a child may be another
child-marked : (loose : List ℕ) (change : Change) → change.of_attributes ≡ false → (l : ℕ) → is_among loose l ≡ true
    → (marks_text loose change (node_ref l) ≡ true) × (marks_copy loose change (node_ref l) ≡ true)
child-marked loose change e l h =
    let held : inside_but loose change (node_ref l) ≡ true = or-second (holds_change change (node_ref l)) _ h in (
      (λ i. cond (e i) false (inside_but loose change (node_ref l))) ∙ held,
      (λ i. cond (e i) (holds_change change (node_ref l)) (inside_but loose change (node_ref l))) ∙ held,
    )

-- what gets another text is no element
no-element : {c d : Content} → Rewrites c d → is_element d ≡ false
no-element text_rewritten = refl
no-element comment_rewritten = refl
no-element instruction_rewritten = refl

-- children that go, where their positions are not among those that stay
record LaterOnes (all some : List ℕ) (n : ℕ) : Type 0 where
  same_later : (m : ℕ) → n ≤ m → is_among all m ≡ is_among some m

module _ (loose : List ℕ) (change : Change) (of_children : change.of_attributes ≡ false) (olds news way s : List ℕ)
    (place : (w : Where) (old new : List ℕ) → Stands olds news w [] old new → Stands olds news w way (s ++ old) (s ++ new))
    (old_place : (positions : List ℕ) → IsBelow olds [] positions → IsBelow olds way (s ++ positions))
    (new_place : (positions : List ℕ) → IsBelow news [] positions → IsBelow news way (s ++ positions)) where
  tree-run : (above over : List Content) → scope_of root_scope above ≡ scope_of root_scope over → (n k l : ℕ) (c : Content) (f : Forest ℕ)
      → Beside olds news n k → is_among (change.before ++ change.after) l ≡ true
      → Runs loose change olds news way (own_entries (s ++ n ∷ []) (found_in above l c f) ++ entries_in (c ∷ above) (s ++ n ∷ []) 1 f)
      (own_entries (s ++ k ∷ []) (found_in over l c f) ++ entries_in (c ∷ over) (s ++ k ∷ []) 1 f)
  tree-run above over e n k l c f b h =
      runs-append (own-run loose change olds news way (s ++ n ∷ []) (s ++ k ∷ []) child (place _ _ _ (stands_child b))
      (found_in above l c f) (found_in over l c f)
      (same-content above over e l c f f) h refl (λ _. refl) (λ _. tree-copied above over e l c f))
      (below-run loose change olds news way (s ++ n ∷ []) (s ++ k ∷ []) (c ∷ above) (c ∷ over) (ap (within c) e) 1 f
      (λ j rest _. spread s s n k (j ∷ rest) (j ∷ rest) (place _ _ _ (is_lower b))))

  rewritten-run : (above over : List Content) → scope_of root_scope above ≡ scope_of root_scope over
      → (n k l : ℕ) (c d : Content) (f : Forest ℕ)
      → Rewrites c d → Beside olds news n k → is_among (change.before ++ change.after) l ≡ true → is_among loose l ≡ true
      → Runs loose change olds news way (own_entries (s ++ n ∷ []) (found_in above l c f) ++ entries_in (c ∷ above) (s ++ n ∷ []) 1 f)
      (own_entries (s ++ k ∷ []) (found_in over l d f) ++ entries_in (d ∷ over) (s ++ k ∷ []) 1 f)
  rewritten-run above over e n k l c d f r b h free =
      let marked = child-marked loose change of_children l free in
      runs-append (own-run loose change olds news way (s ++ n ∷ []) (s ++ k ∷ []) child (place _ _ _ (stands_child b))
      (found_in above l c f) (found_in over l d f)
      (other-text above over e l c d f r) h (rewritten-attributes above over l c d f r)
      (λ u. contradicted (marks_text loose change (node_ref l)) marked.0 u) (λ u. contradicted (marks_copy loose change (node_ref l)) marked.1 u))
      (below-run loose change olds news way (s ++ n ∷ []) (s ++ k ∷ []) (c ∷ above) (d ∷ over)
      (ap (within c) e ∙ rewritten-scope c d r (scope_of root_scope over)) 1 f
      (λ j rest _. spread s s n k (j ∷ rest) (j ∷ rest) (place _ _ _ (is_lower b))))

  pub parts-run : (above over : List Content) → scope_of root_scope above ≡ scope_of root_scope over
      → {old new : Forest ℕ} (p : Parts change.gone change.brought old new) (n k : ℕ)
      → ((a b : ℕ) → Beside (olds_in p n) (news_in p k) a b → Beside olds news a b)
      → ((m : ℕ) → n ≤ m → is_among olds m ≡ is_among (olds_in p n) m) → ((m : ℕ) → k ≤ m → is_among news m ≡ is_among (news_in p k) m)
      → ((m : ℕ) → is_among (sibling_labels old) m ≡ true → is_among (change.before ++ change.after) m ≡ true)
      → AreLoose loose new → Runs loose change olds news way (entries_in above s n old) (entries_in over s k new)
  parts-run above over e at_end n k beside from to among free = both_end
  parts-run above over e (stays {label = l} {content = c} {children = f} {old = g} {new = h} p) n k beside from to among free =
      (runs-append (tree-run above over e n k l c f (beside _ _ first) (among l (self-among l (sibling_labels g))))
      (parts-run above over e p (n + 1) (k + 1) (λ x y b. beside x y (later b))
      (λ m low. from m (omega arith) ∙ skipped n m (olds_in p (n + 1)) low)
      (λ m low. to m (omega arith) ∙ skipped k m (news_in p (k + 1)) low)
      (λ m i. among m (or-second (l == m) (is_among (sibling_labels g) m) i)) free.1))
  parts-run above over e (rewritten {label = l} {content = c} {other = d} {children = f} {old = g} {new = h} r p) n k beside from to among free =
      (runs-append (rewritten-run above over e n k l c d f r (beside _ _ first) (among l (self-among l (sibling_labels g))) (free.0 (no-element r)))
      (parts-run above over e p (n + 1) (k + 1) (λ x y b. beside x y (later b))
      (λ m low. from m (omega arith) ∙ skipped n m (olds_in p (n + 1)) low)
      (λ m low. to m (omega arith) ∙ skipped k m (news_in p (k + 1)) low)
      (λ m i. among m (or-second (l == m) (is_among (sibling_labels g) m) i)) free.1))
  parts-run above over e (goes {label = l} {content = c} {children = f} {old = g} {new = h} all p) n k beside from to among free =
      let away : is_among olds n ≡ false = from n (omega arith) ∙ none-below n (n + 1) (olds_in p (n + 1)) (omega arith)
      (olds-rise p (n + 1)) in
      (all-gone (own_entries (s ++ n ∷ []) (found_in above l c f) ++ entries_in (c ∷ above) (s ++ n ∷ []) 1 f)
      (tree-lost change olds way of_children (is_among change.gone) (gone-named change) s above n l c f
      (λ rest. old_place _ (in_child away)) all)
      (parts-run above over e p (n + 1) k beside (λ m low. from m (omega arith)) to
      (λ m i. among m (or-second (l == m) (is_among (sibling_labels g) m) i)) free))
  parts-run above over e (comes {label = l} {content = c} {children = f} {old = g} {new = h} all p) n k beside from to among free =
      let away : is_among news k ≡ false = to k (omega arith) ∙ none-below k (k + 1) (news_in p (k + 1)) (omega arith)
      (news-rise p (k + 1)) in
      (all-brought (own_entries (s ++ k ∷ []) (found_in over l c f) ++ entries_in (c ∷ over) (s ++ k ∷ []) 1 f)
      (tree-lost change news way of_children (is_among change.brought) (brought-named change) s over k l c f
      (λ rest. new_place _ (in_child away)) all)
      (parts-run above over e p n (k + 1) beside from (λ m low. to m (omega arith)) among free.1))

-- ---- Children of an element whose attributes change

abbrev pub positions_in : ℕ → Forest ℕ → List ℕ
positions_in n Empty = []
positions_in n (Node l c f g) = n ∷ positions_in (n + 1) g

weaker : (low high : ℕ) (ns : List ℕ) → low ≤ high → rises_from high ns → rises_from low ns
weaker low high [] l h = tt
weaker low high (n ∷ ns) l h = let own = h.0 in (omega arith, h.1)

positions-rise : (n : ℕ) (f : Forest ℕ) → rises_from n (positions_in n f)
positions-rise n Empty = tt
positions-rise n (Node l c f g) = (omega arith, weaker (suc n) (n + 1) (positions_in (n + 1) g) (omega arith) (positions-rise (n + 1) g))

module _ (loose : List ℕ) (change : Change) (olds news way s : List ℕ)
    (place : (w : Where) (old new : List ℕ) → Stands olds news w [] old new → Stands olds news w way (s ++ old) (s ++ new)) where
  pub kept-run : (above over : List Content) → scope_of root_scope above ≡ scope_of root_scope over → (n : ℕ) (f : Forest ℕ)
      → ((a b : ℕ) → Beside (positions_in n f) (positions_in n f) a b → Beside olds news a b)
      → ((m : ℕ) → is_among (sibling_labels f) m ≡ true → is_among (change.before ++ change.after) m ≡ true)
      → Runs loose change olds news way (entries_in above s n f) (entries_in over s n f)
  kept-run above over e n Empty beside among = both_end
  kept-run above over e n (Node l c f g) beside among =
      runs-append (runs-append (own-run loose change olds news way (s ++ n ∷ []) (s ++ n ∷ []) child
      (place _ _ _ (stands_child (beside _ _ first)))
      (found_in above l c f) (found_in over l c f) (same-content above over e l c f f) (among l (self-among l (sibling_labels g))) refl
      (λ _. refl) (λ _. tree-copied above over e l c f))
      (below-run loose change olds news way (s ++ n ∷ []) (s ++ n ∷ []) (c ∷ above) (c ∷ over) (ap (within c) e) 1 f
      (λ j rest _. spread s s n n (j ∷ rest) (j ∷ rest) (place _ _ _ (is_lower (beside _ _ first))))))
      (kept-run above over e (n + 1) g (λ x y b. beside x y (later b))
      (λ m i. among m (or-second (l == m) (is_among (sibling_labels g) m) i)))

-- ---- The whole of two documents

-- where the sibling of the change stands, and how the way goes on from there; which children stay
abbrev pub position_of : {change : Change} {above : List ℕ} {old new : Forest ℕ} → ChangesIn change above old new → ℕ → ℕ
position_of (children c) n = n
position_of (attributes c) n = n
position_of (inside c) n = n
position_of (further c) n = position_of c (n + 1)

abbrev pub way_on : {change : Change} {above : List ℕ} {old new : Forest ℕ} → ChangesIn change above old new → List ℕ
way_on (children c) = []
way_on (attributes c) = []
way_on (inside c) = position_of c 1 ∷ way_on c
way_on (further c) = way_on c

abbrev pub olds_of : {change : Change} {above : List ℕ} {old new : Forest ℕ} → ChangesIn change above old new → List ℕ
olds_of (children c) = olds_in c.parts 1
olds_of (attributes {below = f} c) = positions_in 1 f
olds_of (inside c) = olds_of c
olds_of (further c) = olds_of c

abbrev pub news_of : {change : Change} {above : List ℕ} {old new : Forest ℕ} → ChangesIn change above old new → List ℕ
news_of (children c) = news_in c.parts 1
news_of (attributes {below = f} c) = positions_in 1 f
news_of (inside c) = news_of c
news_of (further c) = news_of c

pub olds-of-rise : {change : Change} {above : List ℕ} {old new : Forest ℕ} (c : ChangesIn change above old new) → rises_from 1 (olds_of c)
olds-of-rise (children c) = olds-rise c.parts 1
olds-of-rise (attributes {below = f} c) = positions-rise 1 f
olds-of-rise (inside c) = olds-of-rise c
olds-of-rise (further c) = olds-of-rise c

pub news-of-rise : {change : Change} {above : List ℕ} {old new : Forest ℕ} (c : ChangesIn change above old new) → rises_from 1 (news_of c)
news-of-rise (children c) = news-rise c.parts 1
news-of-rise (attributes {below = f} c) = positions-rise 1 f
news-of-rise (inside c) = news-of-rise c
news-of-rise (further c) = news-of-rise c

position-from : {change : Change} {above : List ℕ} {old new : Forest ℕ} (c : ChangesIn change above old new) (n : ℕ) → n ≤ position_of c n
position-from (children c) n = omega arith
position-from (attributes c) n = omega arith
position-from (inside c) n = omega arith
position-from (further c) n = let rest = position-from c (n + 1) in omega arith

-- attributes are in no text
texts-stay : {change : Change} {above : List ℕ} {old new : Forest ℕ} → change.of_attributes ≡ true → ChangesIn change above old new
    → texts_in old ≡ texts_in new
texts-stay e (children c) = contradicted _ e c.of_children
texts-stay e (attributes c) = refl
texts-stay e (inside {content = c} {siblings = s} d) = ap (λ t. text_of c ++ t ++ texts_in s) (texts-stay e d)
texts-stay e (further {content = c} {below = f} d) = ap (λ t. text_of c ++ texts_in f ++ t) (texts-stay e d)

value-same : (c : Content) (f g : Forest ℕ) → texts_in f ≡ texts_in g → string_value_by (Some c) f ≡ string_value_by (Some c) g
value-same (Element name ws) f g e = e
value-same (Text text) f g e = refl
value-same (Comment text) f g e = refl
value-same (Instruction target text) f g e = refl

-- the node of the change, and those above it
holder-marked : (loose : List ℕ) (change : Change) (l : ℕ) → is_among (change.node ∷ change.above) l ≡ true
    → (change.of_attributes ≡ false → marks_text loose change (node_ref l) ≡ true) × (marks_copy loose change (node_ref l) ≡ true)
holder-marked loose change l h =
    let held : inside_but loose change (node_ref l) ≡ true = or-first (holds_change change (node_ref l)) _ h in
    ((λ e. (λ i. cond (e i) false (inside_but loose change (node_ref l))) ∙ held), by change.of_attributes held h)
  where
    by : (b : Bool) → inside_but loose change (node_ref l) ≡ true → holds_change change (node_ref l) ≡ true
        → cond b (holds_change change (node_ref l)) (inside_but loose change (node_ref l)) ≡ true
    by true held h = h
    by false held h = held

text-by : (loose : List ℕ) (change : Change) (l : ℕ) {a b : List ℕ} → is_among (change.node ∷ change.above) l ≡ true → (change.of_attributes ≡ true → a ≡ b)
    → marks_text loose change (node_ref l) ≡ false → a ≡ b
text-by loose change l {a = a} {b = b} h same u = by change.of_attributes refl
  where
    by : (o : Bool) → change.of_attributes ≡ o → a ≡ b
    by true e = same e
    by false e = contradicted (marks_text loose change (node_ref l)) ((holder-marked loose change l h).0 e) u

among-either : (a b c : Bool) → (a || b) ≡ true → (b ≡ true → c ≡ true) → (a || c) ≡ true
among-either true b c h f = refl
among-either false b c h f = f h

among-front : (xs ys : List ℕ) (m : ℕ) → is_among xs m ≡ true → is_among (xs ++ ys) m ≡ true
among-front [] ys m h = absurd (cc)
among-front (x ∷ xs) ys m h = among-either (x == m) (is_among xs m) (is_among (xs ++ ys) m) h (among-front xs ys m)

-- what is told of a list is so of each in it
told-one : (numbers ns : List ℕ) → list_all (is_among numbers) ns ≡ true → (m : ℕ) → is_among ns m ≡ true → is_among numbers m ≡ true
told-one numbers [] h m i = absurd (cc)
told-one numbers (n ∷ ns) h m i =
    by (n == m) refl (told-one numbers ns (second-of (is_among numbers n) (list_all (is_among numbers) ns) h) m)
  where
    by : (b : Bool) → (n == m) ≡ b → (is_among ns m ≡ true → is_among numbers m ≡ true) → is_among numbers m ≡ true
    by true e rest = ap (is_among numbers) (sym (eqb-true n m e)) ∙ first-of (is_among numbers n) (list_all (is_among numbers) ns) h
    by false e rest = rest ((λ j. sym e j || is_among ns m) ∙ i)

told-among : (change : Change) (ns : List ℕ) → list_all (is_among change.before) ns ≡ true → (m : ℕ) → is_among ns m ≡ true
    → is_among (change.before ++ change.after) m ≡ true
told-among change ns h m i = among-front change.before change.after m (told-one change.before ns h m i)

-- what goes, and in its place what comes
between : {loose : List ℕ} {change : Change} {olds news way : List ℕ} (es fs : List (Entry ℕ)) → AllLost change olds way es → AllLost change news way fs
    → Runs loose change olds news way es fs
between [] [] h g = both_end
between [] (f ∷ fs) h g = brought g.0 (between [] fs h g.1)
between (e ∷ es) fs h g = gone h.0 (between es fs h.1 g)

pub attribute-named : (change : Change) (l k : ℕ) → change.of_attributes ≡ true → change.node ≡ l
    → goes_or_comes change (record { node = record { number = l }; part = part.Attribute k }) ≡ true
attribute-named change l k e h =
    or-second (is_among change.gone l || is_among change.brought l) _ ((λ i. (e i && true) && (l == h i)) ∙ self l)

attributes-lost : (change : Change) (kept s : List ℕ) (x : Found ℕ) → change.of_attributes ≡ true → change.node ≡ x.label
    → (k : ℕ) (ws : List Written)
    → AllLost change kept s (attribute_entries s x k ws)
attributes-lost change kept s x e h k [] = tt
attributes-lost change kept s x e h k (a ∷ ws) =
    (record { named = attribute-named change x.label k e h; away = an_attribute k e refl }, attributes-lost change kept s x e h (k + 1) ws)

module _ (loose : List ℕ) (change : Change) where
  -- the siblings after the one on the way
  siblings-run : (olds news s rest : List ℕ) (above : List Content) (n : ℕ) (f : Forest ℕ)
      → Runs loose change olds news (s ++ n ∷ rest) (entries_in above s (n + 1) f) (entries_in above s (n + 1) f)
  siblings-run olds news s rest above n f =
      below-run loose change olds news (s ++ n ∷ rest) s s above above refl (n + 1) f
      (λ k more low. prefixed s (is_aside (unlike k n (λ e. omega arith))))

  below-placed : {olds news : List ℕ} (s : List ℕ) (n : ℕ) (w : Where) (old new : List ℕ) → Stands olds news w [] old new
      → Stands olds news w (s ++ n ∷ []) ((s ++ n ∷ []) ++ old) ((s ++ n ∷ []) ++ new)
  below-placed s n w old new h = spread s s n n old new (prefixed s (deeper h))

  lost-placed : {kept : List ℕ} (s : List ℕ) (n : ℕ) (positions : List ℕ) → IsBelow kept [] positions
      → IsBelow kept (s ++ n ∷ []) ((s ++ n ∷ []) ++ positions)
  lost-placed s n positions h = below-spread s n positions (below-prefixed s (in_deeper h))

  children-among : (number : ℕ) (old new : Forest ℕ) (c : ChildrenChange change number old new) (m : ℕ)
      → is_among (sibling_labels old) m ≡ true
      → is_among (change.before ++ change.after) m ≡ true
  children-among number old new c m h = told-among change (sibling_labels old) c.before m h

  pub changes-run : (above : List Content) (s : List ℕ) (n : ℕ) {numbers : List ℕ} {old new : Forest ℕ}
      (c : ChangesIn change numbers old new)
      → ((m : ℕ) → is_among numbers m ≡ true → is_among change.above m ≡ true) → AreFree loose c
      → Runs loose change (olds_of c) (news_of c) (s ++ position_of c n ∷ way_on c) (entries_in above s n old) (entries_in above s n new)
  changes-run above s n (children {label = l} {content = c} {old = f} {new = g} {siblings = h} d) among free =
      let olds = olds_in d.parts 1 in
      let news = news_in d.parts 1 in
      let marked : is_among (change.node ∷ change.above) l ≡ true =
      (λ i. is_among (d.node i ∷ change.above) l) ∙ self-among l change.above in
      runs-append (runs-append (own-run loose change olds news (s ++ n ∷ []) (s ++ n ∷ []) (s ++ n ∷ []) here (prefixed s (deeper is_here))
      (found_in above l c f) (found_in above l c g) (same-content above above refl l c f g) d.node refl
      (λ u. contradicted (marks_text loose change (node_ref l)) ((holder-marked loose change l marked).0 d.of_children) u)
      (λ u. contradicted (marks_copy loose change (node_ref l)) (holder-marked loose change l marked).1 u))
      (parts-run loose change d.of_children olds news (s ++ n ∷ []) (s ++ n ∷ []) (below-placed s n) (lost-placed s n) (lost-placed s n)
      (c ∷ above) (c ∷ above) refl d.parts 1 1 (λ _ _ b. b) (λ _ _. refl) (λ _ _. refl) (children-among l f g d) free))
      (siblings-run olds news s [] above n h)
  changes-run above s n (attributes {label = l} {name = name} {old = old} {new = new} {below = f} {siblings = h} d) among free =
      let olds = positions_in 1 f in
      let way = s ++ n ∷ [] in
      let x = found_in above l (Element name old) f in
      let y = found_in above l (Element name new) f in
      let like = other-attributes above above refl l name old new f d.declarations in
      let stands : Stands olds olds here way way way = prefixed s (deeper is_here) in
      let marked : is_among (change.node ∷ change.above) l ≡ true =
      (λ i. is_among (d.node i ∷ change.above) l) ∙ self-among l change.above in
      runs-append (runs-append (both (node-same loose change olds olds way way way here stands x y like d.node (λ _. refl)
      (λ u. contradicted (marks_copy loose change (node_ref l)) (holder-marked loose change l marked).1 u))
      (runs-append (namespaces-same loose change olds olds way way way here stands x y like d.node)
      (between (attribute_entries way x 1 (attributes_of x)) (attribute_entries way y 1 (attributes_of y))
      (attributes-lost change olds way x d.of_attributes d.node 1 (attributes_of x))
      (attributes-lost change olds way y d.of_attributes d.node 1 (attributes_of y)))))
      (kept-run loose change olds olds way way (below-placed s n) (Element name old ∷ above) (Element name new ∷ above)
      (same-declarations old new d.declarations (scope_of root_scope above)) 1 f (λ _ _ b. b)
      (told-among change (sibling_labels f) d.before)))
      (siblings-run olds olds s [] above n h)
  changes-run above s n (inside {label = l} {content = c} {above = numbers} {old = f} {new = g} {siblings = h} d) among free =
      let olds = olds_of d in
      let news = news_of d in
      let rest = position_of d 1 ∷ way_on d in
      let known : is_among change.above l ≡ true = among l (self-among l numbers) in
      let marked : is_among (change.node ∷ change.above) l ≡ true = or-second (change.node == l) (is_among change.above l) known in
      runs-append (runs-append (own-run loose change olds news (s ++ n ∷ rest) (s ++ n ∷ []) (s ++ n ∷ []) higher (prefixed s (deeper is_higher))
      (found_in above l c f) (found_in above l c g) (same-content above above refl l c f g) known refl
      (text-by loose change l marked (λ e. value-same c f g (texts-stay e d)))
      (λ u. contradicted (marks_copy loose change (node_ref l)) (holder-marked loose change l marked).1 u))
      (subst (λ way. Runs loose change olds news way (entries_in (c ∷ above) (s ++ n ∷ []) 1 f) (entries_in (c ∷ above) (s ++ n ∷ []) 1 g))
      (append_assoc s (n ∷ []) rest)
      (changes-run (c ∷ above) (s ++ n ∷ []) 1 d (λ m i. among m (or-second (l == m) (is_among numbers m) i)) free)))
      (siblings-run olds news s rest above n h)
  changes-run above s n (further {label = l} {content = c} {below = f} {old = g} {new = h} d) among free =
      let olds = olds_of d in
      let news = news_of d in
      let q = position_of d (n + 1) in
      let later = position-from d (n + 1) in
      let way = s ++ q ∷ way_on d in
      runs-append (runs-append (own-run loose change olds news way (s ++ n ∷ []) (s ++ n ∷ []) elsewhere
      (prefixed s (is_aside (unlike n q (λ e. omega arith)))) (found_in above l c f) (found_in above l c f)
      (same-content above above refl l c f f) tt refl (λ _. refl) (λ _. refl))
      (below-run loose change olds news way (s ++ n ∷ []) (s ++ n ∷ []) (c ∷ above) (c ∷ above) refl 1 f
      (λ k more _. spread s s n n (k ∷ more) (k ∷ more) (prefixed s (is_aside (unlike n q (λ e. omega arith)))))))
      (changes-run above s (n + 1) d among free)

-- the way to the node of the change; of its children the positions of those that stay
abbrev pub way_in : {change : Change} {old new : Document ℕ} → Leads change old new → List ℕ
way_in (at_root same above c) = []
way_in (below_root same above c) = position_of c 1 ∷ way_on c

abbrev pub olds_at : {change : Change} {old new : Document ℕ} → Leads change old new → List ℕ
olds_at (at_root same above c) = olds_in c.parts 1
olds_at (below_root same above c) = olds_of c

abbrev pub news_at : {change : Change} {old new : Document ℕ} → Leads change old new → List ℕ
news_at (at_root same above c) = news_in c.parts 1
news_at (below_root same above c) = news_of c

pub olds-at-rise : {change : Change} {old new : Document ℕ} (h : Leads change old new) → rises_from 1 (olds_at h)
olds-at-rise (at_root same above c) = olds-rise c.parts 1
olds-at-rise (below_root same above c) = olds-of-rise c

pub news-at-rise : {change : Change} {old new : Document ℕ} (h : Leads change old new) → rises_from 1 (news_at h)
news-at-rise (at_root same above c) = news-rise c.parts 1
news-at-rise (below_root same above c) = news-of-rise c

root-like : (old new : Document ℕ) → new.root ≡ old.root → Like (root_of old) (root_of new)
root-like old new e = record { label = sym e; kind = refl; name = refl; written = refl; scope = refl; namespaces = refl }

pub leads-run : (loose : List ℕ) (change : Change) (old new : Document ℕ) (h : Leads change old new) → IsFreeIn loose h
    → Runs loose change (olds_at h) (news_at h) (way_in h) (entries_of old) (entries_of new)
leads-run loose change old new (at_root same above c) free =
    let olds = olds_in c.parts 1 in
    let news = news_in c.parts 1 in
    let marked : is_among (change.node ∷ change.above) old.root ≡ true =
    (λ i. is_among (c.node i ∷ change.above) old.root) ∙ self-among old.root change.above in
    runs-append (own-run loose change olds news [] [] [] here is_here (root_of old) (root_of new) (root-like old new same) c.node refl
    (λ u. contradicted (marks_text loose change (node_ref old.root)) ((holder-marked loose change old.root marked).0 c.of_children) u)
    (λ u. contradicted (marks_copy loose change (node_ref old.root)) (holder-marked loose change old.root marked).1 u))
    (parts-run loose change c.of_children olds news [] [] (λ w a b s. s) (λ p b. b) (λ p b. b) [] [] refl c.parts 1 1 (λ _ _ b. b)
    (λ _ _. refl) (λ _ _. refl)
    (children-among loose change old.root old.nodes new.nodes c) free)
leads-run loose change old new (below_root {above = numbers} same above c) free =
    let known : is_among change.above old.root ≡ true = ap (λ ns. is_among ns old.root) above ∙ self-among old.root numbers in
    let marked : is_among (change.node ∷ change.above) old.root ≡ true = or-second (change.node == old.root)
    (is_among change.above old.root) known in
    runs-append (own-run loose change (olds_of c) (news_of c) (position_of c 1 ∷ way_on c) [] [] higher is_higher (root_of old) (root_of new)
    (root-like old new same) known refl (text-by loose change old.root marked (λ e. texts-stay e c))
    (λ u. contradicted (marks_copy loose change (node_ref old.root)) (holder-marked loose change old.root marked).1 u))
    (changes-run loose change [] [] 1 c (λ m i. ap (λ ns. is_among ns m) above ∙ or-second (old.root == m) (is_among numbers m) i) free)

-- ---- By the table any child may be another

told-free : (change : Change) (f : Forest ℕ) → list_all (is_among change.after) (sibling_labels f) ≡ true → AreLoose (change.before ++ change.after) f
told-free change Empty h = tt
told-free change (Node l c f g) h = (
  λ _. among-back change.before change.after l (first-of (is_among change.after l) (list_all (is_among change.after) (sibling_labels g)) h),
  told-free change g (second-of (is_among change.after l) (list_all (is_among change.after) (sibling_labels g)) h),
)
  where
    among-back : (xs ys : List ℕ) (m : ℕ) → is_among ys m ≡ true → is_among (xs ++ ys) m ≡ true
    among-back [] ys m e = e
    among-back (x ∷ xs) ys m e = or-second (x == m) (is_among (xs ++ ys) m) (among-back xs ys m e)

any-free : (change : Change) {above : List ℕ} {old new : Forest ℕ} (c : ChangesIn change above old new) → AreFree (change.before ++ change.after) c
any-free change (children {new = g} d) = told-free change g d.after
any-free change (attributes d) = tt
any-free change (inside c) = any-free change c
any-free change (further c) = any-free change c

pub all-free : (change : Change) (old new : Document ℕ) (h : Leads change old new) → IsFreeIn (change.before ++ change.after) h
all-free change old new (at_root same above c) = told-free change new.nodes c.after
all-free change old new (below_root same above c) = any-free change c

-- ---- By what they are

loose-free : (loose : List ℕ) (change : Change) {above : List ℕ} (old new : Forest ℕ) (c : ChangesIn change above old new)
    → AreLooseIn loose change.node new → AreFree loose c
loose-free loose change old Empty c h = elim c [ ]
loose-free loose change old (Node l k g s) (children d) h = h.0 d.node
loose-free loose change old (Node l k g s) (attributes d) h = tt
loose-free loose change (Node m j f r) (Node l k g s) (inside c) h = loose-free loose change f g c h.1
loose-free loose change (Node m j f r) (Node l k g s) (further c) h = loose-free loose change r s c h.2

pub loose-free-in : (loose : List ℕ) (change : Change) (old new : Document ℕ) (h : Leads change old new)
    → AreLooseBelow loose change.node new → IsFreeIn loose h
loose-free-in loose change old new (at_root same above c) h = h.0 (c.node ∙ sym same)
loose-free-in loose change old new (below_root same above c) h = loose-free loose change old.nodes new.nodes c h.1
