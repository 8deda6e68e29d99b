-- The choice of a rule for a node that stays is spared, where the rules of its mode have plain patterns.
use Rattle.std.proofs.Common.{◌≡◌, ℕ, ◌+◌, ◌==◌, Bool, true, false, cond, List, [], ◌∷◌, ◌++◌, map, Option, None, Some}
use Rattle.std.proofs.Common.{refl, sym, ap, ◌∙◌}
use Rattle.std.specs.Prelude.{◌&&◌, ◌||◌, not, reverse}
use Rattle.std.specs.List.{list_all, find, filter}
use Rattle.std.specs.Ordering.{nat_cmp, is_eq}
use Rattle.spec_document.specs.declared.axis.Axis.{Axis}
use Rattle.spec_document.specs.declared.axis.Axis.TheVariants as axis
use Rattle.spec_document.specs.Forest.{Written, Content, Forest, Empty, Node, Document, labels}
use Rattle.spec_document.specs.Place.{Ending, Itself, AtAttribute, AtNamespace, Found, found_in, root_of, attributes_of, namespaces_of}
use Rattle.spec_document.specs.Place.{kind_of, expanded_name, written_name}
use Rattle.spec_document.specs.Order.{Way, ToAttribute, ToChild, Entry, namespace_entries, attribute_entries, own_entries, entries_in}
use Rattle.spec_document.specs.Order.{way_to, entries_of}
use Rattle.spec_document.specs.Axis.{rest_after, is_step, is_longer, is_on, is_reverse, in_axis_order}
use Rattle.spec_expression.specs.declared.NodeType.TheVariants as type
use Rattle.spec_expression.specs.Syntax.{Test, OfType}
use Rattle.spec_stylesheet.specs.declared.pattern.Separator.{Separator}
use Rattle.spec_stylesheet.specs.declared.pattern.Separator.TheVariants as separators
use Rattle.spec_stylesheet.specs.Place as stylesheet
use Rattle.spec_stylesheet.specs.Sheet.{Sheet}
use Rattle.spec_meaning.specs.Question as question
use Rattle.spec_meaning.specs.Question.{Question, Answer, Candidates, nodes_in}
use Rattle.spec_meaning.specs.Step.{passes, step_from}
use Rattle.spec_meaning.specs.Truth.{told_of, answer_by}
use Rattle.spec_transform.specs.Match.{axis_above}
use Rattle.spec_transform.specs.Key.{no_globals}
use Rattle.spec_transform.specs.Choice.{context_for}
use Rattle.spec_run.specs.Documents.{Parameters}
use Rattle.spec_run.specs.World.{rule_at, rule_by, source_by, truth_by}
use Rattle.spec_document.specs.Name.{Expanded}
use Rattle.spec_change.specs.Change.{Change, is_among}
use Rattle.spec_node.specs.declared.node_ref.NodeRef.{NodeRef}
use Rattle.spec_node.specs.Naming.{number_of, part_at, ref_of, same_ref}
use Rattle.spec_touch.specs.Touched.{goes_or_comes, is_attribute}
use Rattle.spec_touch.specs.Leads.{Leads}
use Rattle.spec_touch.specs.Plain.{is_mode_among, AreAsking, are_plain_in, spared, TellsApart}
use Rattle.spec_touch.proofs.Positions.{way_from}
use Rattle.spec_touch.proofs.Entries.{first-of, second-of, all-front, all-back}
use Rattle.spec_touch.proofs.Answering.{unmarked}
use Rattle.spec_touch.proofs.Choosing.{both-true, all-reverse, AreAlike, outcome-same, choice-alike}

-- ---- The numbers of all entries are those of the document

all-append : {A : Type 0} (test : A → Bool) (xs ys : List A) → list_all test xs ≡ true → list_all test ys ≡ true
    → list_all test (xs ++ ys) ≡ true
all-append test [] ys h g = g
all-append test (x ∷ xs) ys h g =
    both-true (test x) (list_all test (xs ++ ys)) (first-of (test x) (list_all test xs) h)
    (all-append test xs ys (second-of (test x) (list_all test xs) h) g)

module _ (test : ℕ → Bool) where
  abbrev passed : Entry ℕ → Bool
  passed e = test (number_of e.item)

  namespaces-pass : (s : List ℕ) (x : Found ℕ) → test x.label ≡ true → (k : ℕ) (ns : List (List ℕ × List ℕ))
      → list_all passed (namespace_entries s x k ns) ≡ true
  namespaces-pass s x h k [] = refl
  namespaces-pass s x h k (n ∷ ns) =
      both-true (test x.label) (list_all passed (namespace_entries s x (k + 1) ns)) h (namespaces-pass s x h (k + 1) ns)

  attributes-pass : (s : List ℕ) (x : Found ℕ) → test x.label ≡ true → (k : ℕ) (ws : List Written)
      → list_all passed (attribute_entries s x k ws) ≡ true
  attributes-pass s x h k [] = refl
  attributes-pass s x h k (a ∷ ws) =
      both-true (test x.label) (list_all passed (attribute_entries s x (k + 1) ws)) h (attributes-pass s x h (k + 1) ws)

  own-pass : (s : List ℕ) (x : Found ℕ) → test x.label ≡ true → list_all passed (own_entries s x) ≡ true
  own-pass s x h =
      let spaces = namespace_entries s x 1 (namespaces_of x) in
      let written = attribute_entries s x 1 (attributes_of x) in
      both-true (test x.label) (list_all passed (spaces ++ written)) h
      (all-append passed spaces written (namespaces-pass s x h 1 (namespaces_of x)) (attributes-pass s x h 1 (attributes_of x)))

  below-pass : (s : List ℕ) (above : List Content) (n : ℕ) (f : Forest ℕ) → list_all test (labels f) ≡ true
      → list_all passed (entries_in above s n f) ≡ true
  below-pass s above n Empty h = refl
  below-pass s above n (Node l c f g) h =
      let rest = second-of (test l) (list_all test (labels f ++ labels g)) h in
      let own = own_entries (s ++ n ∷ []) (found_in above l c f) in
      let below = entries_in (c ∷ above) (s ++ n ∷ []) 1 f in
      all-append passed (own ++ below) (entries_in above s (n + 1) g)
      (all-append passed own below (own-pass (s ++ n ∷ []) (found_in above l c f) (first-of (test l) (list_all test (labels f ++ labels g)) h))
      (below-pass (s ++ n ∷ []) (c ∷ above) 1 f (all-front test (labels f) (labels g) rest)))
      (below-pass s above (n + 1) g (all-back test (labels f) (labels g) rest))

  entries-pass : (d : Document ℕ) → list_all test (d.root ∷ labels d.nodes) ≡ true → list_all passed (entries_of d) ≡ true
  entries-pass d h =
      all-append passed (own_entries [] (root_of d)) (entries_in [] [] 1 d.nodes)
      (own-pass [] (root_of d) (first-of (test d.root) (list_all test (labels d.nodes)) h))
      (below-pass [] [] 1 d.nodes (second-of (test d.root) (list_all test (labels d.nodes)) h))

-- ---- What is above a node is no attribute

-- nothing goes on from an attribute
none-on : (qs : List ℕ) (k : ℕ) (ps : List ℕ) (ending : Ending)
    → is_longer (rest_after (map ToChild qs ++ ToAttribute k ∷ []) (way_from ps ending)) ≡ false
none-on [] k [] Itself = refl
none-on [] k [] (AtAttribute j) = by (is_eq (nat_cmp k j))
  where
    by : (b : Bool) → is_longer (cond b (Some []) None) ≡ false
    by true = refl
    by false = refl
none-on [] k [] (AtNamespace p) = refl
none-on [] k (m ∷ ps) ending = refl
none-on (n ∷ qs) k [] Itself = refl
none-on (n ∷ qs) k [] (AtAttribute j) = refl
none-on (n ∷ qs) k [] (AtNamespace p) = refl
none-on (n ∷ qs) k (m ∷ ps) ending =
    by (is_eq (nat_cmp n m)) (rest_after (map ToChild qs ++ ToAttribute k ∷ []) (way_from ps ending)) (none-on qs k ps ending)
  where
    by : (b : Bool) (o : Option (List Way)) → is_longer o ≡ false → is_longer (cond b o None) ≡ false
    by true o h = h
    by false o h = refl

no-step : (o : Option (List Way)) → is_longer o ≡ false → is_step o ≡ false
no-step None h = refl
no-step (Some []) h = refl
no-step (Some (w ∷ ws)) h = absurd (cc)

no-attribute : (separator : Separator) (p : List ℕ) (from : Ending) (q : List ℕ) (to : Ending) (k : ℕ)
    → is_on (axis_above separator) (way_from p from) (way_from q to) ≡ true → not (is_attribute (part_at to k)) ≡ true
no-attribute separator p from q Itself k h = refl
no-attribute separator p from q (AtNamespace prefix) k h = refl
no-attribute separators.Child p from q (AtAttribute j) k h =
    absurd (let e : true ≡ false = sym h ∙ no-step (rest_after (way_from q (AtAttribute j)) (way_from p from)) (none-on q j p from) in cc)
no-attribute separators.Descendant p from q (AtAttribute j) k h = absurd (let e : true ≡ false = sym h ∙ none-on q j p from in cc)

-- ---- What is answered above a node

module _ (test : NodeRef → Bool) (own : Entry ℕ → Bool) where
  picked-pass : (p : Entry ℕ → Bool) → ((e : Entry ℕ) → p e ≡ true → own e ≡ true → test (ref_of e) ≡ true) → (es : List (Entry ℕ))
      → list_all own es ≡ true → list_all test (map ref_of (filter p es)) ≡ true
  picked-pass p give [] h = refl
  picked-pass p give (e ∷ es) h = by (p e) refl (picked-pass p give es (second-of (own e) (list_all own es) h))
    where
      by : (b : Bool) → p e ≡ b → list_all test (map ref_of (filter p es)) ≡ true
          → list_all test (map ref_of (cond b (e ∷ filter p es) (filter p es))) ≡ true
      by true f rest =
          both-true (test (ref_of e)) (list_all test (map ref_of (filter p es))) (give e f (first-of (own e) (list_all own es) h)) rest
      by false f rest = rest

  ordered-pass : (a : Axis) (ns : List NodeRef) → list_all test ns ≡ true → list_all test (in_axis_order a ns) ≡ true
  ordered-pass a ns h = by (is_reverse a)
    where
      by : (b : Bool) → list_all test (cond b (reverse ns) ns) ≡ true
      by true = all-reverse test ns h
      by false = h

  answer-passes : (a : Axis) (t : Test) (es : List (Entry ℕ))
      → ((x e : Entry ℕ) → is_on a (way_to x.place) (way_to e.place) ≡ true → own e ≡ true → test (ref_of e) ≡ true)
      → list_all own es ≡ true → (n : NodeRef) → list_all test (nodes_in (answer_by ref_of same_ref es (question.Step n a t))) ≡ true
  answer-passes a t es give h n = by (find (λ e. same_ref n (ref_of e)) es)
    where
      by : (o : Option (Entry ℕ)) → list_all test (nodes_in (told_of (λ e. question.SomeNodes (step_from ref_of es a t o)) o)) ≡ true
      by None = refl
      by (Some x) =
          ordered-pass a (map ref_of (filter (λ d. is_on a (way_to x.place) (way_to d.place) && passes a t d.item) es))
          (picked-pass (λ d. is_on a (way_to x.place) (way_to d.place) && passes a t d.item)
          (λ e f g. give x e (first-of (is_on a (way_to x.place) (way_to e.place)) (passes a t e.item) f) g) es h)

-- ---- Nodes that stay

abbrev pub stays_through : Change → NodeRef → Bool
stays_through change node = not (goes_or_comes change node)

untold : (gone brought attributes part same : Bool) → not gone ≡ true → not brought ≡ true → not part ≡ true
    → not (gone || brought || (attributes && part && same)) ≡ true
untold false false true false same g b p = refl
untold false false false part same g b p = refl
untold true brought attributes part same g b p = absurd (cc)
untold false true attributes part same g b p = absurd (cc)
untold false false true true same g b p = absurd (cc)

all-three : (p q r s : NodeRef → Bool) → ((n : NodeRef) → p n ≡ true → q n ≡ true → r n ≡ true → s n ≡ true) → (ns : List NodeRef)
    → list_all p ns ≡ true → list_all q ns ≡ true → list_all r ns ≡ true → list_all s ns ≡ true
all-three p q r s give [] f g h = refl
all-three p q r s give (n ∷ ns) f g h =
    both-true (s n) (list_all s ns)
    (give n (first-of (p n) (list_all p ns) f) (first-of (q n) (list_all q ns) g) (first-of (r n) (list_all r ns) h))
    (all-three p q r s give ns (second-of (p n) (list_all p ns) f) (second-of (q n) (list_all q ns) g) (second-of (r n) (list_all r ns) h))

abbrev name_told : Entry ℕ → Answer NodeRef
name_told e = question.Named (kind_of e.item) (expanded_name e.item) (written_name e.item)

-- what is told of no entry is told of none, whatever is told
told-alike : (o p : Option (Entry ℕ)) → told_of name_told o ≡ told_of name_told p → (x y : Answer NodeRef) → x ≡ y
    → told_of (λ _. x) o ≡ told_of (λ _. y) p
told-alike None None h x y e = refl
told-alike (Some d) (Some f) h x y e = e
told-alike None (Some f) h x y e = absurd (cc)
told-alike (Some d) None h x y e = absurd (cc)

abbrev pub tree_of : Document ℕ → Question NodeRef → Answer NodeRef
tree_of d = answer_by ref_of same_ref (entries_of d)

not-true : (b : Bool) → not b ≡ true → b ≡ false
not-true false e = refl
not-true true e = absurd (cc)

-- ---- Where nodes that stay are called as before, and have the same nodes above them

pub record KeepsAbove (change : Change) (old new : Document ℕ) : Type 0 where
  pub called : (n : NodeRef) → stays_through change n ≡ true → tree_of old (question.Name n) ≡ tree_of new (question.Name n)
  pub above : (separator : Separator) (n : NodeRef) → stays_through change n ≡ true
      → tree_of old (question.Step n (axis_above separator) (OfType type.Node))
      ≡ tree_of new (question.Step n (axis_above separator) (OfType type.Node))

module _ (change : Change) (old new : Document ℕ) (kept : KeepsAbove change old new) (apart : TellsApart change old new) where
  abbrev has_number : (ℕ → Bool) → NodeRef → Bool
  has_number test node = test node.node.number

  -- what is above a node that stays is there before and after, so it stays too
  stay-above : (separator : Separator) (n : NodeRef) → stays_through change n ≡ true
      → list_all (stays_through change) (nodes_in (tree_of old (question.Step n (axis_above separator) (OfType type.Node)))) ≡ true
  stay-above separator n h =
      let a = axis_above separator in
      let t = OfType type.Node in
      let not_gone : ℕ → Bool = λ k. not (is_among change.gone k) in
      let not_brought : ℕ → Bool = λ k. not (is_among change.brought k) in
      let is_tree : NodeRef → Bool = λ m. not (is_attribute m.part) in
      all-three (has_number not_gone) (has_number not_brought) is_tree (stays_through change)
      (λ m g b p. untold (is_among change.gone m.node.number) (is_among change.brought m.node.number) change.of_attributes
      (is_attribute m.part) (m.node.number == change.node) g b p)
      (nodes_in (tree_of old (question.Step n a t)))
      (ap (λ x. list_all (has_number not_gone) (nodes_in x)) (kept.above separator n h)
      ∙ answer-passes (has_number not_gone) (passed not_gone) a t (entries_of new) (λ x e on own. own) (entries-pass not_gone new apart.gone) n)
      (answer-passes (has_number not_brought) (passed not_brought) a t (entries_of old) (λ x e on own. own)
      (entries-pass not_brought old apart.brought) n)
      (answer-passes is_tree (passed not_brought) a t (entries_of old)
      (λ x e on own. no-attribute separator x.place.positions x.place.ending e.place.positions e.place.ending e.number on)
      (entries-pass not_brought old apart.brought) n)

  module _ (s : Sheet) (parameters : Parameters) (called : stylesheet.Place → NodeRef) where
    abbrev ask : Question NodeRef → Answer NodeRef
    ask = source_by ref_of same_ref s (entries_of old)

    abbrev tell : Question NodeRef → Answer NodeRef
    tell = source_by ref_of same_ref s (entries_of new)

    alike : AreAlike ask tell (stays_through change)
    alike = record { called = kept.called; above = kept.above; stay_above = stay-above }

    choice-same : (node : NodeRef) (mode : Option Expanded) (candidates : Candidates) → stays_through change node ≡ true
        → are_plain_in mode s.rules.rules ≡ true
        → truth_by ref_of same_ref called s parameters (entries_of old) (question.Choice node mode candidates)
        ≡ truth_by ref_of same_ref called s parameters (entries_of new) (question.Choice node mode candidates)
    choice-same node mode candidates h plain =
        told-alike (find (λ e. same_ref node (ref_of e)) (entries_of old)) (find (λ e. same_ref node (ref_of e)) (entries_of new))
        (kept.called node h)
        (rule_at called same_ref s ask node mode candidates) (rule_at called same_ref s tell node mode candidates)
        (ap (rule_by called s) (outcome-same ask tell no_globals
        (choice-alike ask tell (stays_through change) alike same_ref (context_for s.units node) mode candidates s.rules.rules plain node h)))

    pub spared-same : (asking : List (Option Expanded)) → AreAsking asking s.rules.rules → (q : Question NodeRef)
        → spared asking change q ≡ true
        → truth_by ref_of same_ref called s parameters (entries_of old) q ≡ truth_by ref_of same_ref called s parameters (entries_of new) q
    spared-same asking plain (question.Step node a test) u = absurd (cc)
    spared-same asking plain (question.Text node) u = absurd (cc)
    spared-same asking plain (question.Name node) u = absurd (cc)
    spared-same asking plain (question.Place node) u = absurd (cc)
    spared-same asking plain (question.Order nodes) u = absurd (cc)
    spared-same asking plain (question.Key name value) u = absurd (cc)
    spared-same asking plain (question.Choice node mode candidates) u =
        choice-same node mode candidates (first-of (stays_through change node) (not (is_mode_among asking mode)) u)
        (plain mode (not-true (is_mode_among asking mode) (second-of (stays_through change node) (not (is_mode_among asking mode)) u)))
    spared-same asking plain (question.Copy node) u = absurd (cc)
    spared-same asking plain (question.Unit element) u = absurd (cc)
    spared-same asking plain (question.External name) u = absurd (cc)

-- ---- Where a change leads from one document to the other

pub name-unmarked : (b g : Bool) → not g ≡ true → cond b g g ≡ false
name-unmarked b true e = absurd (cc)
name-unmarked true false e = refl
name-unmarked false false e = refl

pub step-unmarked : (b g : Bool) → not g ≡ true → cond b (g || false) (g || false) ≡ false
step-unmarked b true e = absurd (cc)
step-unmarked true false e = refl
step-unmarked false false e = refl

module _ (change : Change) (old new : Document ℕ) (leads : Leads change old new)
    (s : Sheet) (parameters : Parameters) (called : stylesheet.Place → NodeRef) where
  above-kept : (separator : Separator) (n : NodeRef) → stays_through change n ≡ true
      → tree_of old (question.Step n (axis_above separator) (OfType type.Node))
      ≡ tree_of new (question.Step n (axis_above separator) (OfType type.Node))
  above-kept separators.Child n h =
      unmarked change old new leads s parameters called (question.Step n axis.Parent (OfType type.Node))
      (step-unmarked change.of_attributes (goes_or_comes change n) h)
  above-kept separators.Descendant n h =
      unmarked change old new leads s parameters called (question.Step n axis.Ancestor (OfType type.Node))
      (step-unmarked change.of_attributes (goes_or_comes change n) h)

  keeps-above : KeepsAbove change old new
  keeps-above =
      record {
        called = λ n h. unmarked change old new leads s parameters called (question.Name n)
            (name-unmarked change.of_attributes (goes_or_comes change n) h);
        above = above-kept;
      }

  pub choice-spared : TellsApart change old new → (asking : List (Option Expanded)) → AreAsking asking s.rules.rules → (q : Question NodeRef)
      → spared asking change q ≡ true
      → truth_by ref_of same_ref called s parameters (entries_of old) q ≡ truth_by ref_of same_ref called s parameters (entries_of new) q
  choice-spared apart asking plain q u = spared-same change old new keeps-above apart s parameters called asking plain q u
