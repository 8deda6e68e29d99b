-- The true answers of a document are those of a tree, whatever names its nodes.
use Rattle.std.proofs.Common.{◌≡◌, ℕ, ◌⊎◌, inl, inr, Bool, true, false, cond, List, [], ◌∷◌, ◌++◌, Option, None, Some, refl, sym, ap, subst, ◌∙◌, append_assoc}
use Rattle.std.proofs.lemmas.List.{append-nil}
use Rattle.std.proofs.lemmas.Grind.{reverse_onto}
use Rattle.std.proofs.lemmas.List.Sorted.{list_any-IsPermutation, IsPermutation-reverse}
use Rattle.std.specs.Prelude.{◌&&◌, ◌||◌, map, filter, reverse, is_some}
use Rattle.std.specs.List.{list_any}
use Rattle.spec_document.specs.declared.axis.Axis.{Axis}
use Rattle.spec_document.specs.declared.axis.Axis.TheVariants as axis
use Rattle.spec_document.specs.declared.kind.Kind.{Kind}
use Rattle.spec_document.specs.declared.kind.Kind.TheVariants as kind
use Rattle.spec_document.specs.Name.{Expanded}
use Rattle.spec_document.specs.Forest.{Document}
use Rattle.spec_document.specs.Place.{Place, Item, kind_of, expanded_name, written_name}
use Rattle.spec_document.specs.Order.{Way, ToNamespace, ToAttribute, ToChild, way_to, Entry, entries_of, entries_in, is_same_place}
use Rattle.spec_document.specs.Axis.{rest_after, is_end, is_in_tree, is_child_step, is_attribute_step, is_step, is_longer, is_on, is_reverse, in_axis_order}
use Rattle.spec_expression.specs.declared.NodeType.TheVariants as type
use Rattle.spec_expression.specs.Syntax.{Test, AnyName, InNamespace, Named, OfType, Instruction}
use Rattle.spec_static.specs.PatternGrammar.{is_pattern_axis}
use Rattle.spec_meaning.specs.Step as steps
use Rattle.spec_meaning.specs.Step.{is_attribute}
use Rattle.spec_meaning.specs.Question as question
use Rattle.spec_meaning.specs.Question.{Question, Answer, nodes_in}
use Rattle.spec_meaning.specs.Meaning.{last_of}
use Rattle.spec_meaning.specs.Truth.{entry_named, told_of, answer_by, truth_at_places}
use Rattle.spec_transform.specs.Match.{is_child, is_led_to, passes_test, passes, is_root}
use Rattle.spec_matching.specs.Asked.{TellsApart, is_among, nodes_on}
use Rattle.spec_matching.specs.Tree.{is_named, is_there, answering_keys, IsEachOnce, IsTree}
use Rattle.spec_matching.specs.Given.{IsOneOf, at_the_front, further_on}
use Rattle.spec_matching.proofs.Leading.{or_left, or_right, and_parts, and_both, by_test, forward}
use Rattle.spec_matching.proofs.Ways.{places_apart, rest_of, goes_on, some_rest, one_step, child_is_step, attribute_is_step, longer, no_step_to_root, same_last, within, parent_in_tree}
use Rattle.spec_matching.proofs.Placed.{KindBy, HasParent, IsPlaced, root_entry, placed, one_entry, NoneTwice, entries_once}

-- ---- Names

either_way : (a b : Bool) → (a ≡ true → b ≡ true) → (b ≡ true → a ≡ true) → a ≡ b
either_way true true h g = refl
either_way true false h g = sym (h refl)
either_way false true h g = g refl
either_way false false h g = refl

-- entries that are named apart
abbrev pub NamesApart : {L K : Type 0} → (Entry L → K) → List (Entry L) → Type 0
NamesApart {L = L} key es = (e f : Entry L) → IsOneOf e es → IsOneOf f es → key e ≡ key f → e ≡ f

turned : {K : Type 0} (same : K → K → Bool) → TellsApart same → (a b : K) → same a b ≡ same b a
turned {K} same apart a b =
    either_way (same a b) (same b a)
    (λ h. subst (λ (x : K). same x a ≡ true) ((apart a b).1 h) (apart a a).0)
    (λ h. subst (λ (x : K). same x b ≡ true) ((apart b a).1 h) (apart b b).0)

among_turned : {A : Type 0} (p : A → Bool) (xs : List A) → list_any p (reverse xs) ≡ list_any p xs
among_turned p xs = sym (list_any-IsPermutation p xs (reverse xs) (IsPermutation-reverse xs))

among_along : {K : Type 0} (same : K → K → Bool) (x : Axis) (m : K) (ns : List K) → is_among same m (in_axis_order x ns) ≡ is_among same m ns
among_along {K} same x m ns = go (is_reverse x)
  where
    go : (b : Bool) → is_among same m (cond b (reverse ns) ns) ≡ is_among same m ns
    go true = among_turned (same m) ns
    go false = refl

-- ---- The names of entries that pass a test

record Passing {L K : Type 0} (key : Entry L → K) (p : Entry L → Bool) (es : List (Entry L)) (m : K) : Type 0 where
  entry : Entry L
  is_one : IsOneOf entry es
  named : key entry ≡ m
  passed : p entry ≡ true

passing : {L K : Type 0} (key : Entry L → K) (same : K → K → Bool) → TellsApart same → (p : Entry L → Bool) (es : List (Entry L)) (m : K)
    → is_among same m (map key (filter p es)) ≡ true → Passing key p es m
passing key same apart p [] m h = absurd (cc)
passing {L} {K} key same apart p (e ∷ es) m h = go (p e) refl h (passing key same apart p es m)
  where
    more : Passing key p es m → Passing key p (e ∷ es) m
    more it = record { entry = it.entry; is_one = further_on it.is_one; named = it.named; passed = it.passed }

    own : p e ≡ true → (t : Bool) → same m (key e) ≡ t → (t || is_among same m (map key (filter p es))) ≡ true
        → (is_among same m (map key (filter p es)) ≡ true → Passing key p es m) → Passing key p (e ∷ es) m
    own is true s g rest = record { entry = e; is_one = at_the_front; named = sym ((apart m (key e)).1 s); passed = is }
    own is false s g rest = more (rest g)

    go : (t : Bool) → p e ≡ t → is_among same m (map key (cond t (e ∷ filter p es) (filter p es))) ≡ true
        → (is_among same m (map key (filter p es)) ≡ true → Passing key p es m) → Passing key p (e ∷ es) m
    go true is g rest = own is (same m (key e)) refl g rest
    go false is g rest = more (rest g)

one_passing : {L K : Type 0} (key : Entry L → K) (same : K → K → Bool) → TellsApart same → (p : Entry L → Bool) (e : Entry L) (es : List (Entry L))
    → IsOneOf e es → p e ≡ true → is_among same (key e) (map key (filter p es)) ≡ true
one_passing key same apart p e _ (at_the_front {xs = es}) h =
    ap (λ t. is_among same (key e) (map key (cond t (e ∷ filter p es) (filter p es)))) h ∙ or_left (same (key e) (key e)) (is_among same (key e) (map key (filter p es))) (apart (key e) (key e)).0
one_passing key same apart p e _ (further_on {y = d} {ys = es} i) h = go (p d) (one_passing key same apart p e es i h)
  where
    go : (t : Bool) → is_among same (key e) (map key (filter p es)) ≡ true → is_among same (key e) (map key (cond t (d ∷ filter p es) (filter p es))) ≡ true
    go true rest = or_right (same (key e) (key d)) (is_among same (key e) (map key (filter p es))) rest
    go false rest = rest

is_passing : {L K : Type 0} (key : Entry L → K) (same : K → K → Bool) → TellsApart same → (p : Entry L → Bool) (es : List (Entry L)) (m : K)
    → Passing key p es m → is_among same m (map key (filter p es)) ≡ true
is_passing {L} {K} key same apart p es m it =
    subst (λ (k : K). is_among same k (map key (filter p es)) ≡ true) it.named (one_passing key same apart p it.entry es it.is_one it.passed)

-- each of them once
once_named : {L K : Type 0} (key : Entry L → K) (same : K → K → Bool) → TellsApart same → (p : Entry L → Bool) (es : List (Entry L)) → NamesApart key es
    → NoneTwice es → IsEachOnce same (map key (filter p es))
once_named key same apart p [] names once = tt
once_named {L} {K} key same apart p (e ∷ es) names once =
    go (p e) (once_named key same apart p es (λ d f i j is. names d f (further_on i) (further_on j) is) once.1)
  where
    not_again : is_among same (key e) (map key (filter p es)) ≡ true → ⊥
    not_again h =
        let it = passing key same apart p es (key e) h in
        once.0 (subst (λ (d : Entry L). IsOneOf d es) (names it.entry e (further_on it.is_one) at_the_front it.named) it.is_one)

    go : (t : Bool) → IsEachOnce same (map key (filter p es)) → IsEachOnce same (map key (cond t (e ∷ filter p es) (filter p es)))
    go true rest = (by_test (is_among same (key e) (map key (filter p es))) (λ h. absurd (not_again h)) (λ h. h), rest)
    go false rest = rest

-- ---- The entry that a name names

found_entry : {L K : Type 0} (key : Entry L → K) (same : K → K → Bool) → TellsApart same → (e : Entry L) (es : List (Entry L)) → NamesApart key es
    → IsOneOf e es → entry_named key same es (key e) ≡ Some e
found_entry key same apart e _ names (at_the_front {xs = es}) =
    ap (λ t. cond t (Some e) (entry_named key same es (key e))) (apart (key e) (key e)).0
found_entry {L} key same apart e _ names (further_on {y = d} {ys = es} i) =
    go (same (key e) (key d)) refl (found_entry key same apart e es (λ a b j k is. names a b (further_on j) (further_on k) is) i)
  where
    go : (t : Bool) → same (key e) (key d) ≡ t → entry_named key same es (key e) ≡ Some e → cond t (Some d) (entry_named key same es (key e)) ≡ Some e
    go true is rest = ap (λ (x : Entry L). Some x) (names d e at_the_front (further_on i) (sym ((apart (key e) (key d)).1 is)))
    go false is rest = rest

-- a name names one of the entries, or none
abbrev IsNamed : {L K : Type 0} → (Entry L → K) → (K → K → Bool) → List (Entry L) → K → Type 0
IsNamed {L = L} key same es n = ((e : Entry L) × IsOneOf e es × (key e ≡ n)) ⊎ (entry_named key same es n ≡ None)

named_or_none : {L K : Type 0} (key : Entry L → K) (same : K → K → Bool) → TellsApart same → (es : List (Entry L)) (n : K) → IsNamed key same es n
named_or_none key same apart [] n = inr refl
named_or_none {L} {K} key same apart (d ∷ es) n = go (same n (key d)) refl (named_or_none key same apart es n)
  where
    go : (t : Bool) → same n (key d) ≡ t → IsNamed key same es n
        → ((e : Entry L) × IsOneOf e (d ∷ es) × (key e ≡ n)) ⊎ (cond t (Some d) (entry_named key same es n) ≡ None)
    go true is rest = inl (d, at_the_front, sym ((apart n (key d)).1 is))
    go false is (inl e) = inl (e.0, further_on e.1, e.2)
    go false is (inr none) = inr none

-- ---- What is answered

pub record World {L K : Type 0} (document : Document L) (key : Entry L → K) (same : K → K → Bool) : Type 0 where
  pub apart : TellsApart same
  pub names : NamesApart key (entries_of document)

abbrev truth : {L K : Type 0} → Document L → (Entry L → K) → (K → K → Bool) → Question K → Answer K
truth document key same = answer_by key same (entries_of document)

abbrev stands_so : {L : Type 0} → Axis → Test → Entry L → Entry L → Bool
stands_so x test e f = is_on x (way_to e.place) (way_to f.place) && steps.passes x test f.item

step_told : {L K : Type 0} {document : Document L} {key : Entry L → K} {same : K → K → Bool} → World document key same → (e : Entry L)
    → IsOneOf e (entries_of document) → (x : Axis) (test : Test)
    → nodes_in (truth document key same (question.Step (key e) x test)) ≡ in_axis_order x (map key (filter (stands_so x test e) (entries_of document)))
step_told {document = document} {key = key} {same = same} w e i x test =
    let found = found_entry key same w.apart e (entries_of document) w.names i in
    λ j. nodes_in (told_of (λ d. question.SomeNodes (steps.step_from key (entries_of document) x test (found j))) (found j))

name_told : {L K : Type 0} {document : Document L} {key : Entry L → K} {same : K → K → Bool} → World document key same → (e : Entry L)
    → IsOneOf e (entries_of document)
    → truth document key same (question.Name (key e)) ≡ question.Named (kind_of e.item) (expanded_name e.item) (written_name e.item)
name_told {L} {K} {document = document} {key = key} {same = same} w e i =
    ap (told_of {L = L} {K = K} (λ d. question.Named (kind_of d.item) (expanded_name d.item) (written_name d.item)))
    (found_entry key same w.apart e (entries_of document) w.names i)

-- two nodes of which the second stands on an axis of the first and passes a test
record Stands {L K : Type 0} (document : Document L) (key : Entry L → K) (x : Axis) (test : Test) (n m : K) : Type 0 where
  from : Entry L
  from_in : IsOneOf from (entries_of document)
  from_named : key from ≡ n
  to : Entry L
  to_in : IsOneOf to (entries_of document)
  to_named : key to ≡ m
  on : is_on x (way_to from.place) (way_to to.place) ≡ true
  passed : steps.passes x test to.item ≡ true

stands : {L K : Type 0} {document : Document L} {key : Entry L → K} {same : K → K → Bool} → World document key same → (x : Axis) (test : Test) (n m : K)
    → is_among same m (nodes_in (truth document key same (question.Step n x test))) ≡ true → Stands document key x test n m
stands {L} {K} {document = document} {key = key} {same = same} w x test n m h = go (named_or_none key same w.apart (entries_of document) n)
  where
    of_entry : (e : Entry L) → IsOneOf e (entries_of document) → key e ≡ n → Stands document key x test n m
    of_entry e i is =
        let there = subst (λ (k : K). is_among same m (nodes_in (truth document key same (question.Step k x test))) ≡ true) (sym is) h in
        let it = passing key same w.apart (stands_so x test e) (entries_of document) m
        (sym (among_along same x m (map key (filter (stands_so x test e) (entries_of document)))) ∙ sym (ap (is_among same m) (step_told w e i x test)) ∙ there) in
        let parts = and_parts (is_on x (way_to e.place) (way_to it.entry.place)) (steps.passes x test it.entry.item) it.passed in
        record {
          from = e;
          from_in = i;
          from_named = is;
          to = it.entry;
          to_in = it.is_one;
          to_named = it.named;
          on = parts.0;
          passed = parts.1;
        }

    go : IsNamed key same (entries_of document) n → Stands document key x test n m
    go (inl e) = of_entry e.0 e.1 e.2
    go (inr none) =
        let nothing : nodes_in (truth document key same (question.Step n x test)) ≡ [] =
        λ j. nodes_in (told_of (λ d. question.SomeNodes (steps.step_from key (entries_of document) x test (none j))) (none j)) in
        let absent = sym (ap (is_among same m) nothing) ∙ h in absurd (cc)

stand : {L K : Type 0} {document : Document L} {key : Entry L → K} {same : K → K → Bool} → World document key same → (x : Axis) (test : Test) (n m : K)
    → Stands document key x test n m → is_among same m (nodes_in (truth document key same (question.Step n x test))) ≡ true
stand {L} {K} {document = document} {key = key} {same = same} w x test n m s =
    let it = is_passing key same w.apart (stands_so x test s.from) (entries_of document) m
    (record {
      entry = s.to;
      is_one = s.to_in;
      named = s.to_named;
      passed = and_both (is_on x (way_to s.from.place) (way_to s.to.place)) (steps.passes x test s.to.item) s.on s.passed;
    }) in
    subst (λ (k : K). is_among same m (nodes_in (truth document key same (question.Step k x test))) ≡ true) s.from_named
    (ap (is_among same m) (step_told w s.from s.from_in x test)
    ∙ among_along same x m (map key (filter (stands_so x test s.from) (entries_of document))) ∙ it)

-- ---- One step further

one_further : {L : Type 0} (e f : Entry L) → is_step (rest_after (way_to f.place) (way_to e.place)) ≡ true
    → (a : Way) × (way_to e.place ≡ way_to f.place ++ a ∷ [])
one_further e f h =
    let one = one_step (rest_after (way_to f.place) (way_to e.place)) h in
    (one.0, goes_on (way_to f.place) (way_to e.place) (one.0 ∷ []) one.1)

is_further : (p q r : List Way) → q ≡ p ++ r → rest_after p q ≡ Some r
is_further p q r e = ap (rest_after p) e ∙ rest_of p r

-- the kind of a node that stands one step further than another
further_kind : {L : Type 0} (document : Document L) (e : Entry L) (w : List Way) (a : Way) → IsOneOf e (entries_of document) → way_to e.place ≡ w ++ a ∷ []
    → KindBy a (kind_of e.item)
further_kind {L} document e w a i is = go (placed document e i)
  where
    go : IsPlaced (entries_of document) e → KindBy a (kind_of e.item)
    go (inl r) = absurd (no_step_to_root w a (way_to e.place) r.0 is)
    go (inr p) = subst (λ (b : Way). KindBy b (kind_of e.item)) (same_last (way_to p.up.place) w p.step a (sym p.way ∙ is)).1 p.is_kind

-- along the axis of children or of attributes a step leads to nodes of their kinds
led_step : (x : Axis) → is_pattern_axis x ≡ true → (p q : List Way) → is_on x p q ≡ true
    → (a : Way) × (rest_after p q ≡ Some (a ∷ [])) × ((k : Kind) → KindBy a k → is_led_to x k ≡ true)
led_step axis.Child good p q h = let it = child_is_step (rest_after p q) h in (ToChild it.0, it.1, λ k g. g.0)
led_step axis.Attribute good p q h = let it = attribute_is_step (rest_after p q) h in (ToAttribute it.0, it.1, λ k g. ap is_attribute g)
led_step axis.Ancestor good p q h = absurd (cc)
led_step axis.AncestorOrSelf good p q h = absurd (cc)
led_step axis.Descendant good p q h = absurd (cc)
led_step axis.DescendantOrSelf good p q h = absurd (cc)
led_step axis.Following good p q h = absurd (cc)
led_step axis.FollowingSibling good p q h = absurd (cc)
led_step axis.Namespace good p q h = absurd (cc)
led_step axis.Parent good p q h = absurd (cc)
led_step axis.Preceding good p q h = absurd (cc)
led_step axis.PrecedingSibling good p q h = absurd (cc)
led_step axis.Itself good p q h = absurd (cc)

child_led : (p q : List Way) (a : Way) (k : Kind) → rest_after p q ≡ Some (a ∷ []) → KindBy a k → is_child k ≡ true → is_child_step (rest_after p q) ≡ true
child_led p q (ToChild n) k r g h = ap is_child_step r
child_led p q (ToAttribute n) k r g h = let never = sym (ap is_child g) ∙ h in absurd (cc)
child_led p q (ToNamespace n) k r g h = let never = sym (ap is_child g) ∙ h in absurd (cc)

attribute_led : (p q : List Way) (a : Way) (k : Kind) → rest_after p q ≡ Some (a ∷ []) → KindBy a k → is_attribute k ≡ true
    → is_attribute_step (rest_after p q) ≡ true
attribute_led p q (ToChild n) k r g h = let never = sym g.1 ∙ h in absurd (cc)
attribute_led p q (ToAttribute n) k r g h = ap is_attribute_step r
attribute_led p q (ToNamespace n) k r g h = let never = sym (ap is_attribute g) ∙ h in absurd (cc)

step_led : (x : Axis) → is_pattern_axis x ≡ true → (p q : List Way) (a : Way) (k : Kind) → rest_after p q ≡ Some (a ∷ []) → KindBy a k
    → is_led_to x k ≡ true → is_on x p q ≡ true
step_led axis.Child good p q a k r g h = child_led p q a k r g h
step_led axis.Attribute good p q a k r g h = attribute_led p q a k r g h
step_led axis.Ancestor good p q a k r g h = absurd (cc)
step_led axis.AncestorOrSelf good p q a k r g h = absurd (cc)
step_led axis.Descendant good p q a k r g h = absurd (cc)
step_led axis.DescendantOrSelf good p q a k r g h = absurd (cc)
step_led axis.Following good p q a k r g h = absurd (cc)
step_led axis.FollowingSibling good p q a k r g h = absurd (cc)
step_led axis.Namespace good p q a k r g h = absurd (cc)
step_led axis.Parent good p q a k r g h = absurd (cc)
step_led axis.Preceding good p q a k r g h = absurd (cc)
step_led axis.PrecedingSibling good p q a k r g h = absurd (cc)
step_led axis.Itself good p q a k r g h = absurd (cc)

-- it leads to no root
not_to_root : (x : Axis) → is_pattern_axis x ≡ true → (k : Kind) → k ≡ kind.Root → is_led_to x k ≡ true → ⊥
not_to_root axis.Child good k is h = let never = sym (ap is_child is) ∙ h in absurd (cc)
not_to_root axis.Attribute good k is h = let never = sym (ap is_attribute is) ∙ h in absurd (cc)
not_to_root axis.Ancestor good k is h = absurd (cc)
not_to_root axis.AncestorOrSelf good k is h = absurd (cc)
not_to_root axis.Descendant good k is h = absurd (cc)
not_to_root axis.DescendantOrSelf good k is h = absurd (cc)
not_to_root axis.Following good k is h = absurd (cc)
not_to_root axis.FollowingSibling good k is h = absurd (cc)
not_to_root axis.Namespace good k is h = absurd (cc)
not_to_root axis.Parent good k is h = absurd (cc)
not_to_root axis.Preceding good k is h = absurd (cc)
not_to_root axis.PrecedingSibling good k is h = absurd (cc)
not_to_root axis.Itself good k is h = absurd (cc)

same_test : {L : Type 0} (x : Axis) (test : Test) (item : Item L) → passes_test x test (kind_of item) (expanded_name item) ≡ steps.passes x test item
same_test x AnyName item = refl
same_test x (InNamespace uri) item = refl
same_test x (Named name) item = refl
same_test x (OfType t) item = refl
same_test x (Instruction target) item = refl

-- ---- The fields, one after another

there_is : {L K : Type 0} {document : Document L} {key : Entry L → K} {same : K → K → Bool} → World document key same → (e : Entry L)
    → IsOneOf e (entries_of document) → (n : K) → key e ≡ n → is_there (truth document key same) n ≡ true
there_is {K = K} {document = document} {key = key} {same = same} w e i n is =
    subst (λ (k : K). is_there (truth document key same) k ≡ true) is (ap is_named (name_told w e i))

-- the entry of a node that is there
entry_there : {L K : Type 0} {document : Document L} {key : Entry L → K} {same : K → K → Bool} → World document key same → (n : K)
    → is_named (truth document key same (question.Name n)) ≡ true → (e : Entry L) × IsOneOf e (entries_of document) × (key e ≡ n)
entry_there {L} {K} {document = document} {key = key} {same = same} w n h = go (named_or_none key same w.apart (entries_of document) n)
  where
    go : IsNamed key same (entries_of document) n → (e : Entry L) × IsOneOf e (entries_of document) × (key e ≡ n)
    go (inl e) = e
    go (inr none) =
        let gone =
        ap (λ (o : Option (Entry L)). is_named {N = K} (told_of {L = L} {K = K} (λ d. question.Named (kind_of d.item) (expanded_name d.item) (written_name d.item)) o))
        none in
        let never = sym gone ∙ h in absurd (cc)

passes_named : {K : Type 0} (x : Axis) (test : Test) (a : Answer K) → passes x test a ≡ true → is_named a ≡ true
passes_named x test (question.Named k name written) h = refl
passes_named x test question.Gone h = absurd (cc)
passes_named x test (question.Refused why) h = absurd (cc)
passes_named x test (question.SomeNodes nodes) h = absurd (cc)
passes_named x test (question.SomeText text) h = absurd (cc)
passes_named x test (question.Chosen rule) h = absurd (cc)
passes_named x test (question.Copied stream) h = absurd (cc)
passes_named x test (question.Resolved unit) h = absurd (cc)
passes_named x test (question.Passed text) h = absurd (cc)

-- what passes a step, by its entry
passes_by : {L K : Type 0} {document : Document L} {key : Entry L → K} {same : K → K → Bool} → World document key same → (x : Axis) (test : Test)
    (e : Entry L) → IsOneOf e (entries_of document) → (n : K) → key e ≡ n
    → passes x test (truth document key same (question.Name n)) ≡ (is_led_to x (kind_of e.item) && steps.passes x test e.item)
passes_by {K = K} {document = document} {key = key} {same = same} w x test e i n is =
    subst (λ (k : K). passes x test (truth document key same (question.Name k)) ≡ (is_led_to x (kind_of e.item) && steps.passes x test e.item)) is
    (ap (passes x test) (name_told w e i) ∙ ap (λ t. is_led_to x (kind_of e.item) && t) (same_test x test e.item))

only_one : {K : Type 0} (same : K → K → Bool) → TellsApart same → (k : K) (xs : List K) → IsEachOnce same xs → is_among same k xs ≡ true
    → ((m : K) → is_among same m xs ≡ true → m ≡ k) → xs ≡ k ∷ []
only_one same apart k [] once h all = absurd (cc)
only_one {K} same apart k (a ∷ []) once h all =
    let is = all a (or_left (same a a) false (apart a a).0) in ap (λ (x : K). x ∷ []) is
only_one {K} same apart k (a ∷ b ∷ xs) once h all =
    let first = all a (or_left (same a a) (is_among same a (b ∷ xs)) (apart a a).0) in
    let second = all b (or_right (same b a) (is_among same b (b ∷ xs)) (or_left (same b b) (is_among same b xs) (apart b b).0)) in
    let twice = or_left (same a b) (is_among same a xs) (subst (λ (x : K). same a x ≡ true) (first ∙ sym second) (apart a a).0) in
    let never = sym once.0 ∙ twice in absurd (cc)

-- nodes that are named alike are one entry
one_named : {L K : Type 0} {document : Document L} {key : Entry L → K} {same : K → K → Bool} → World document key same → (e f : Entry L)
    → IsOneOf e (entries_of document) → IsOneOf f (entries_of document) → (n : K) → key e ≡ n → key f ≡ n → way_to e.place ≡ way_to f.place
one_named {L} w e f i j n is so = ap (λ (d : Entry L). way_to d.place) (w.names e f i j (is ∙ sym so))

its_parent : {L K : Type 0} {document : Document L} {key : Entry L → K} {same : K → K → Bool} → World document key same → (e : Entry L)
    → IsOneOf e (entries_of document) → HasParent (entries_of document) e
    → (parent : K) × (nodes_on (truth document key same) axis.Parent (key e) ≡ parent ∷ [])
its_parent {L} {K} {document = document} {key = key} {same = same} w e i p =
    (key p.up, step_told w e i axis.Parent (OfType type.Node) ∙ only_one same w.apart (key p.up) these once itself all)
  where
    test : Entry L → Bool
    test = stands_so axis.Parent (OfType type.Node) e

    these : List K
    these = map key (filter test (entries_of document))

    once : IsEachOnce same these
    once = once_named key same w.apart test (entries_of document) w.names (entries_once document)

    itself : is_among same (key p.up) these ≡ true
    itself =
        one_passing key same w.apart test p.up (entries_of document) p.is_one
        (and_both (is_step (rest_after (way_to p.up.place) (way_to e.place))) true
        (ap is_step (is_further (way_to p.up.place) (way_to e.place) (p.step ∷ []) p.way)) refl)

    all : (m : K) → is_among same m these ≡ true → m ≡ key p.up
    all m h =
        let it = passing key same w.apart test (entries_of document) m h in
        let parts = and_parts (is_step (rest_after (way_to it.entry.place) (way_to e.place))) true it.passed in
        let further = one_further e it.entry parts.0 in
        let alike = same_last (way_to it.entry.place) (way_to p.up.place) further.0 p.step (sym further.1 ∙ p.way) in
        sym it.named ∙ ap key (one_entry document it.entry p.up it.is_one p.is_one alike.0)

tree_one_parent : {L K : Type 0} {document : Document L} {key : Entry L → K} {same : K → K → Bool} → World document key same → (n : K) (x : Axis)
    (test : Test) → is_pattern_axis x ≡ true → passes x test (truth document key same (question.Name n)) ≡ true
    → (parent : K) × (nodes_on (truth document key same) axis.Parent n ≡ parent ∷ [])
tree_one_parent {L} {K} {document = document} {key = key} {same = same} w n x test good h =
    let it = entry_there w n (passes_named x test (truth document key same (question.Name n)) h) in
    let parts = and_parts (is_led_to x (kind_of it.0.item)) (steps.passes x test it.0.item) (sym (passes_by w x test it.0 it.1 n it.2) ∙ h) in
    subst (λ (k : K). (parent : K) × (nodes_on (truth document key same) axis.Parent k ≡ parent ∷ [])) it.2 (go it.0 it.1 (placed document it.0 it.1) parts.0)
  where
    go : (e : Entry L) → IsOneOf e (entries_of document) → IsPlaced (entries_of document) e → is_led_to x (kind_of e.item) ≡ true
        → (parent : K) × (nodes_on (truth document key same) axis.Parent (key e) ≡ parent ∷ [])
    go e i (inl r) led = absurd (not_to_root x good (kind_of e.item) r.1 led)
    go e i (inr p) led = its_parent w e i p

tree_steps : {L K : Type 0} {document : Document L} {key : Entry L → K} {same : K → K → Bool} → World document key same → (n parent : K) (x : Axis)
    (test : Test) → is_pattern_axis x ≡ true
    → is_among same n (nodes_in (truth document key same (question.Step parent x test)))
    ≡ (is_among same parent (nodes_on (truth document key same) axis.Parent n) && passes x test (truth document key same (question.Name n)))
tree_steps {L} {K} {document = document} {key = key} {same = same} w n parent x test good =
    either_way (is_among same n (nodes_in (truth document key same (question.Step parent x test))))
    (is_among same parent (nodes_on (truth document key same) axis.Parent n) && passes x test (truth document key same (question.Name n))) forth back
  where
    forth : is_among same n (nodes_in (truth document key same (question.Step parent x test))) ≡ true
        → (is_among same parent (nodes_on (truth document key same) axis.Parent n) && passes x test (truth document key same (question.Name n))) ≡ true
    forth h =
        let s = stands w x test parent n h in
        let led = led_step x good (way_to s.from.place) (way_to s.to.place) s.on in
        let is = goes_on (way_to s.from.place) (way_to s.to.place) (led.0 ∷ []) led.1 in
        let of_kind = led.2 (kind_of s.to.item) (further_kind document s.to (way_to s.from.place) led.0 s.to_in is) in
        and_both (is_among same parent (nodes_on (truth document key same) axis.Parent n)) (passes x test (truth document key same (question.Name n)))
        (stand w axis.Parent (OfType type.Node) n parent
        (record {
          from = s.to;
          from_in = s.to_in;
          from_named = s.to_named;
          to = s.from;
          to_in = s.from_in;
          to_named = s.from_named;
          on = ap is_step led.1;
          passed = refl;
        }))
        (passes_by w x test s.to s.to_in n s.to_named ∙ and_both (is_led_to x (kind_of s.to.item)) (steps.passes x test s.to.item) of_kind s.passed)

    back : (is_among same parent (nodes_on (truth document key same) axis.Parent n) && passes x test (truth document key same (question.Name n))) ≡ true
        → is_among same n (nodes_in (truth document key same (question.Step parent x test))) ≡ true
    back h =
        let both = and_parts (is_among same parent (nodes_on (truth document key same) axis.Parent n)) (passes x test (truth document key same (question.Name n))) h in
        let s = stands w axis.Parent (OfType type.Node) n parent both.0 in
        let further = one_further s.from s.to s.on in
        let rest = is_further (way_to s.to.place) (way_to s.from.place) (further.0 ∷ []) further.1 in
        let of_kind = further_kind document s.from (way_to s.to.place) further.0 s.from_in further.1 in
        let parts = and_parts (is_led_to x (kind_of s.from.item)) (steps.passes x test s.from.item) (sym (passes_by w x test s.from s.from_in n s.from_named) ∙ both.1) in
        stand w x test parent n
        (record {
          from = s.to;
          from_in = s.to_in;
          from_named = s.to_named;
          to = s.from;
          to_in = s.from_in;
          to_named = s.from_named;
          on = step_led x good (way_to s.to.place) (way_to s.from.place) further.0 (kind_of s.from.item) rest of_kind parts.0;
          passed = parts.1;
        })

tree_once : {L K : Type 0} {document : Document L} {key : Entry L → K} {same : K → K → Bool} → World document key same → (n : K) (x : Axis) (test : Test)
    → is_pattern_axis x ≡ true → IsEachOnce same (nodes_in (truth document key same (question.Step n x test)))
tree_once {L} {K} {document = document} {key = key} {same = same} w n x test good = go (named_or_none key same w.apart (entries_of document) n)
  where
    go : IsNamed key same (entries_of document) n → IsEachOnce same (nodes_in (truth document key same (question.Step n x test)))
    go (inl e) =
        let these = map key (filter (stands_so x test e.0) (entries_of document)) in
        let ahead = ap (λ t. cond t (reverse these) these) (forward x good) in
        subst (λ (k : K). IsEachOnce same (nodes_in (truth document key same (question.Step k x test)))) e.2
        (subst (λ (ks : List K). IsEachOnce same ks) (sym (step_told w e.0 e.1 x test ∙ ahead))
        (once_named key same w.apart (stands_so x test e.0) (entries_of document) w.names (entries_once document)))
    go (inr none) =
        let nothing : nodes_in (truth document key same (question.Step n x test)) ≡ [] =
        λ j. nodes_in (told_of (λ d. question.SomeNodes (steps.step_from key (entries_of document) x test (none j))) (none j)) in
        subst (λ (ks : List K). IsEachOnce same ks) (sym nothing) tt

tree_there : {L K : Type 0} {document : Document L} {key : Entry L → K} {same : K → K → Bool} → World document key same → (x : Axis) (n m : K)
    → is_among same m (nodes_on (truth document key same) x n) ≡ true → is_there (truth document key same) m ≡ true
tree_there w x n m h = let s = stands w x (OfType type.Node) n m h in there_is w s.to s.to_in m s.to_named

-- what is longer, ends, or is there
longer_by : (s : List Way) (a : Way) → is_longer (Some (s ++ a ∷ [])) ≡ true
longer_by [] a = refl
longer_by (b ∷ s) a = refl

some_or_longer : (o : Option (List Way)) (t : Bool) → (is_end o || (is_longer o && t)) ≡ true → is_some o ≡ true
some_or_longer None t h = absurd (cc)
some_or_longer (Some []) t h = refl
some_or_longer (Some (a ∷ r)) t h = refl

ends_or_goes_on : (s : List Way) (t : Bool) → t ≡ true → (is_end (Some s) || (is_longer (Some s) && t)) ≡ true
ends_or_goes_on [] t h = refl
ends_or_goes_on (a ∷ s) t h = h

descends : (p q s : List Way) → rest_after p q ≡ Some s → is_in_tree q ≡ true → is_on axis.DescendantOrSelf p q ≡ true
descends p q s rest in_tree = ap (λ (o : Option (List Way)). is_end o || (is_longer o && is_in_tree q)) rest ∙ ends_or_goes_on s (is_in_tree q) in_tree

tree_below : {L K : Type 0} {document : Document L} {key : Entry L → K} {same : K → K → Bool} → World document key same → (n parent m : K)
    → is_among same parent (nodes_on (truth document key same) axis.Parent n) ≡ true
    → is_among same m (nodes_on (truth document key same) axis.Ancestor n) ≡ is_among same parent (nodes_on (truth document key same) axis.DescendantOrSelf m)
tree_below {L} {K} {document = document} {key = key} {same = same} w n parent m h =
    either_way (is_among same m (nodes_on (truth document key same) axis.Ancestor n))
    (is_among same parent (nodes_on (truth document key same) axis.DescendantOrSelf m)) forth back
  where
    s : Stands document key axis.Parent (OfType type.Node) n parent
    s = stands w axis.Parent (OfType type.Node) n parent h

    further : (a : Way) × (way_to s.from.place ≡ way_to s.to.place ++ a ∷ [])
    further = one_further s.from s.to s.on

    forth : is_among same m (nodes_on (truth document key same) axis.Ancestor n) ≡ true
        → is_among same parent (nodes_on (truth document key same) axis.DescendantOrSelf m) ≡ true
    forth g =
        let t = stands w axis.Ancestor (OfType type.Node) n m g in
        let more = longer (rest_after (way_to t.to.place) (way_to t.from.place)) t.on in
        let is = goes_on (way_to t.to.place) (way_to t.from.place) (more.0 ∷ more.1) more.2 in
        let alike = one_named w s.from t.from s.from_in t.from_in n s.from_named t.from_named in
        let inner = within (way_to s.to.place) further.0 (way_to t.to.place) more.0 more.1 (sym further.1 ∙ alike ∙ is) in
        let rest = is_further (way_to t.to.place) (way_to s.to.place) inner.0 inner.1 in
        stand w axis.DescendantOrSelf (OfType type.Node) m parent
        (record {
          from = t.to;
          from_in = t.to_in;
          from_named = t.to_named;
          to = s.to;
          to_in = s.to_in;
          to_named = s.to_named;
          on =
              descends (way_to t.to.place) (way_to s.to.place) inner.0 rest
              (parent_in_tree s.from.place (way_to s.to.place) further.0 further.1);
          passed = refl;
        })

    back : is_among same parent (nodes_on (truth document key same) axis.DescendantOrSelf m) ≡ true
        → is_among same m (nodes_on (truth document key same) axis.Ancestor n) ≡ true
    back g =
        let t = stands w axis.DescendantOrSelf (OfType type.Node) m parent g in
        let some = some_rest (rest_after (way_to t.from.place) (way_to t.to.place))
        (some_or_longer (rest_after (way_to t.from.place) (way_to t.to.place)) (is_in_tree (way_to t.to.place)) t.on) in
        let is = goes_on (way_to t.from.place) (way_to t.to.place) some.0 some.1 in
        let alike = one_named w s.to t.to s.to_in t.to_in parent s.to_named t.to_named in
        let whole = further.1 ∙ ap (λ (v : List Way). v ++ further.0 ∷ []) (alike ∙ is) ∙ append_assoc (way_to t.from.place) some.0 (further.0 ∷ []) in
        stand w axis.Ancestor (OfType type.Node) n m
        (record {
          from = s.from;
          from_in = s.from_in;
          from_named = s.from_named;
          to = t.from;
          to_in = t.from_in;
          to_named = t.from_named;
          on = ap is_longer (is_further (way_to t.from.place) (way_to s.from.place) (some.0 ++ further.0 ∷ []) whole) ∙ longer_by some.0 further.0;
          passed = refl;
        })

tree_parent_above : {L K : Type 0} {document : Document L} {key : Entry L → K} {same : K → K → Bool} → World document key same → (n parent : K)
    → is_among same parent (nodes_on (truth document key same) axis.Parent n) ≡ true
    → is_among same parent (nodes_on (truth document key same) axis.Ancestor n) ≡ true
tree_parent_above w n parent h =
    let s = stands w axis.Parent (OfType type.Node) n parent h in
    let one = one_step (rest_after (way_to s.to.place) (way_to s.from.place)) s.on in
    stand w axis.Ancestor (OfType type.Node) n parent
    (record {
      from = s.from;
      from_in = s.from_in;
      from_named = s.from_named;
      to = s.to;
      to_in = s.to_in;
      to_named = s.to_named;
      on = ap is_longer one.1;
      passed = refl;
    })

tree_itself : {L K : Type 0} {document : Document L} {key : Entry L → K} {same : K → K → Bool} → World document key same → (n : K)
    → is_there (truth document key same) n ≡ true → is_among same n (nodes_on (truth document key same) axis.AncestorOrSelf n) ≡ true
tree_itself w n h =
    let it = entry_there w n h in
    stand w axis.AncestorOrSelf (OfType type.Node) n n
    (record {
      from = it.0;
      from_in = it.1;
      from_named = it.2;
      to = it.0;
      to_in = it.1;
      to_named = it.2;
      on = ap is_some (is_further (way_to it.0.place) (way_to it.0.place) [] (sym (append-nil (way_to it.0.place))));
      passed = refl;
    })

tree_above : {L K : Type 0} {document : Document L} {key : Entry L → K} {same : K → K → Bool} → World document key same → (n m other : K)
    → is_among same m (nodes_on (truth document key same) axis.Ancestor n) ≡ true
    → is_among same other (nodes_on (truth document key same) axis.AncestorOrSelf m) ≡ true
    → is_among same other (nodes_on (truth document key same) axis.AncestorOrSelf n) ≡ true
tree_above w n m other h g =
    let s = stands w axis.Ancestor (OfType type.Node) n m h in
    let t = stands w axis.AncestorOrSelf (OfType type.Node) m other g in
    let more = longer (rest_after (way_to s.to.place) (way_to s.from.place)) s.on in
    let some = some_rest (rest_after (way_to t.to.place) (way_to t.from.place)) t.on in
    let upper = goes_on (way_to s.to.place) (way_to s.from.place) (more.0 ∷ more.1) more.2 in
    let lower = goes_on (way_to t.to.place) (way_to t.from.place) some.0 some.1 in
    let alike = one_named w s.to t.from s.to_in t.from_in m s.to_named t.from_named in
    let whole = upper ∙ ap (λ (v : List Way). v ++ more.0 ∷ more.1) (alike ∙ lower) ∙ append_assoc (way_to t.to.place) some.0 (more.0 ∷ more.1) in
    stand w axis.AncestorOrSelf (OfType type.Node) n other
    (record {
      from = s.from;
      from_in = s.from_in;
      from_named = s.from_named;
      to = t.to;
      to_in = t.to_in;
      to_named = t.to_named;
      on = ap is_some (is_further (way_to t.to.place) (way_to s.from.place) (some.0 ++ more.0 ∷ more.1) whole);
      passed = refl;
    })

-- ---- The root

last_of_snoc : {A : Type 0} (xs : List A) (k : A) → last_of (xs ++ k ∷ []) ≡ k ∷ []
last_of_snoc [] k = refl
last_of_snoc (x ∷ []) k = refl
last_of_snoc (x ∷ y ∷ xs) k = last_of_snoc (y ∷ xs) k

last_turned : {A : Type 0} (k : A) (xs : List A) → last_of (reverse (k ∷ xs)) ≡ k ∷ []
last_turned k xs = ap last_of (reverse_onto xs k []) ∙ last_of_snoc (reverse xs) k

not_root : (K : Type 0) (a : Way) (k : Kind) (name : Option Expanded) (written : List ℕ) → KindBy a k → is_root {N = K} (question.Named k name written) ≡ false
not_root K (ToChild n) kind.Root name written h = let never = h.0 in absurd (cc)
not_root K (ToAttribute n) kind.Root name written h = absurd (cc)
not_root K (ToNamespace n) kind.Root name written h = absurd (cc)
not_root K a kind.Element name written h = refl
not_root K a kind.Attribute name written h = refl
not_root K a kind.Namespace name written h = refl
not_root K a kind.Text name written h = refl
not_root K a kind.Comment name written h = refl
not_root K a kind.Instruction name written h = refl

-- a name is that of the root where it is told to be a root
root_told : {L K : Type 0} {document : Document L} {key : Entry L → K} {same : K → K → Bool} → World document key same → (e : Entry L)
    → IsOneOf e (entries_of document) → same (key e) (key (root_entry document)) ≡ is_root (truth document key same (question.Name (key e)))
root_told {L} {K} {document = document} {key = key} {same = same} w e i = go (placed document e i) ∙ ap is_root (sym (name_told w e i))
  where
    go : IsPlaced (entries_of document) e
        → same (key e) (key (root_entry document)) ≡ is_root {N = K} (question.Named (kind_of e.item) (expanded_name e.item) (written_name e.item))
    go (inl r) =
        let is = one_entry document e (root_entry document) i at_the_front r.0 in
        subst (λ (k : K). same (key e) k ≡ true) (ap key is) (w.apart (key e) (key e)).0
        ∙ sym (ap (λ (k : Kind). is_root {N = K} (question.Named k (expanded_name e.item) (written_name e.item))) r.1)
    go (inr p) =
        by_test (same (key e) (key (root_entry document)))
        (λ h. let is = w.names e (root_entry document) i at_the_front ((w.apart (key e) (key (root_entry document))).1 h) in
        absurd (no_step_to_root (way_to p.up.place) p.step (way_to e.place) (ap (λ (d : Entry L). way_to d.place) is) p.way))
        (λ h. h ∙ sym (not_root K p.step (kind_of e.item) (expanded_name e.item) (written_name e.item) p.is_kind))

tree_root : {L K : Type 0} {document : Document L} {key : Entry L → K} {same : K → K → Bool} → World document key same → (n m : K)
    → is_there (truth document key same) n ≡ true → is_there (truth document key same) m ≡ true
    → is_among same m (last_of (nodes_on (truth document key same) axis.AncestorOrSelf n)) ≡ is_root (truth document key same (question.Name m))
tree_root {L} {K} {document = document} {key = key} {same = same} w n m h g =
    let from = entry_there w n h in
    let to = entry_there w m g in
    let these = map key (filter (stands_so axis.AncestorOrSelf (OfType type.Node) from.0) (entries_in [] [] 1 document.nodes)) in
    let told = step_told w from.0 from.1 axis.AncestorOrSelf (OfType type.Node) in
    let last = ap last_of told ∙ last_turned (key (root_entry document)) these in
    let at_entry = ap (λ ks. is_among same (key to.0) ks) last ∙ or_none (same (key to.0) (key (root_entry document))) ∙ root_told w to.0 to.1 in
    subst (λ (k : K). is_among same m (last_of (nodes_on (truth document key same) axis.AncestorOrSelf k)) ≡ is_root (truth document key same (question.Name m)))
    from.2
    (subst (λ (k : K). is_among same k (last_of (nodes_on (truth document key same) axis.AncestorOrSelf (key from.0))) ≡ is_root (truth document key same (question.Name k)))
    to.2 at_entry)
  where
    or_none : (t : Bool) → (t || false) ≡ t
    or_none true = refl
    or_none false = refl

tree_order : {L K : Type 0} {document : Document L} {key : Entry L → K} {same : K → K → Bool} → World document key same → (n : K) (nodes : List K)
    → is_there (truth document key same) n ≡ true
    → is_among same n (nodes_in (truth document key same (question.Order nodes))) ≡ is_among same n nodes
tree_order {L} {K} {document = document} {key = key} {same = same} w n nodes h =
    either_way (is_among same n (map key (filter test (entries_of document)))) (is_among same n nodes) forth back
  where
    test : Entry L → Bool
    test = λ e. list_any (λ node. same node (key e)) nodes

    around : (e : Entry L) → key e ≡ n → test e ≡ is_among same n nodes
    around e is = ap (λ (k : K). list_any (λ node. same node k) nodes) is ∙ (λ i. list_any (λ node. turned same w.apart node n i) nodes)

    forth : is_among same n (map key (filter test (entries_of document))) ≡ true → is_among same n nodes ≡ true
    forth g = let it = passing key same w.apart test (entries_of document) n g in sym (around it.entry it.named) ∙ it.passed

    back : is_among same n nodes ≡ true → is_among same n (map key (filter test (entries_of document))) ≡ true
    back g =
        let it = entry_there w n h in
        is_passing key same w.apart test (entries_of document) n (record { entry = it.0; is_one = it.1; named = it.2; passed = around it.0 it.2 ∙ g })

-- ---- All of them

pub is_tree : {L K : Type 0} (document : Document L) (key : Entry L → K) (same : K → K → Bool) → World document key same
    → IsTree same (answer_by key same (entries_of document))
is_tree document key same w = record {
  apart = w.apart;
  there = tree_there w;
  one_parent = tree_one_parent w;
  steps = tree_steps w;
  once = tree_once w;
  below = tree_below w;
  parent_above = tree_parent_above w;
  itself = tree_itself w;
  above = tree_above w;
  root = tree_root w;
  order = tree_order w;
}

at_places : {L : Type 0} (document : Document L) → World document (λ e. e.place) is_same_place
at_places document = record { apart = places_apart; names = λ e f i j is. one_entry document e f i j (ap way_to is) }

-- whatever is answered for keys
with_keys : {K : Type 0} (same : K → K → Bool) (keys : Expanded → List ℕ → Answer K) (ask : Question K → Answer K) → IsTree same ask
    → IsTree same (answering_keys keys ask)
with_keys same keys ask t = record {
  apart = t.apart;
  there = t.there;
  one_parent = t.one_parent;
  steps = t.steps;
  once = t.once;
  below = t.below;
  parent_above = t.parent_above;
  itself = t.itself;
  above = t.above;
  root = t.root;
  order = t.order;
}

pub documents_are_trees : {L : Type 0} (document : Document L) (keys : Expanded → List ℕ → Answer Place)
    → IsTree is_same_place (answering_keys keys (truth_at_places document))
documents_are_trees document keys =
    with_keys is_same_place keys (truth_at_places document) (is_tree document (λ e. e.place) is_same_place (at_places document))
