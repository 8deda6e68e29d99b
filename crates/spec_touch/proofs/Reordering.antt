-- A move within one parent. What is asked of nodes apart from the moved one and those below it is the same with it taken away and put in again;
-- what is asked of those is the same with its siblings taken away and put in again.
use Rattle.std.proofs.Common.{◌≡◌, ◌≤◌, arith, ℕ, zero, suc, ◌+◌, ◌-◌, ◌==◌, Bool, true, false, not, cond, List, [], ◌∷◌, ◌++◌, Some}
use Rattle.std.proofs.Common.{refl, sym, ap, ◌∙◌, subst}
use Rattle.std.specs.Prelude.{◌||◌}
use Rattle.std.specs.List.{filter}
use Rattle.std.proofs.lemmas.Bool.{eqb-true}
use Rattle.spec_document.specs.Forest.{Content, Forest, Empty, Node, Document, labels, followed}
use Rattle.spec_document.specs.Place.{Found, root_of, found_in, child_at, node_at}
use Rattle.spec_document.specs.Order.{entries_of}
use Rattle.spec_stylesheet.specs.Place as stylesheet
use Rattle.spec_stylesheet.specs.Sheet.{Sheet}
use Rattle.spec_meaning.specs.Question as question
use Rattle.spec_meaning.specs.Question.{Question}
use Rattle.spec_run.specs.Documents.{Parameters}
use Rattle.spec_run.specs.World.{truth_by}
use Rattle.spec_edit.specs.Splice.{below_changed, children_changed, met}
use Rattle.spec_edit.proofs.Around.{below}
use Rattle.spec_edit.proofs.Numbers.{one_if, occurs, occurs-labels, stands, stands-filled, stands-followed}
use Rattle.spec_change.specs.Change.{Change, is_among, without, sibling_labels, passed, passed_below, change_between}
use Rattle.spec_change.proofs.Changing.{with_children}
use Rattle.spec_change.proofs.Gone.{some-among}
use Rattle.spec_move.proofs.Shapes.{Reordered, is_later, is_earlier}
use Rattle.spec_node.specs.declared.node_ref.NodeRef.{NodeRef}
use Rattle.spec_node.specs.Naming.{ref_of, same_ref}
use Rattle.spec_touch.specs.Touched.{by_children}
use Rattle.spec_touch.specs.Moved.{asks_order}
use Rattle.spec_touch.proofs.Answering.{unmarked, neither-first, neither-second}
use Rattle.spec_touch.proofs.Carrying.{document_with, change_made, found-then, leads-by}
use Rattle.spec_touch.proofs.Joining.{met-all}
use Rattle.spec_touch.proofs.Lesser.{IsLess, AtAsked, less-marked}
use Rattle.spec_touch.proofs.Parting.{Split, split_end, split_stays, split_goes, split_comes, unsplit, last-kept, met-split, followed-split, come-met}
use Rattle.spec_touch.proofs.Parting.{come-split, still-among}

-- ---- Two changes of the children of one node

below-twice : (c d e : Forest ℕ → Forest ℕ) → ((f : Forest ℕ) → c (d f) ≡ e f) → (p : ℕ) (f : Forest ℕ)
    → below_changed c p (below_changed d p f) ≡ below_changed e p f
below-twice c d e same p Empty = refl
below-twice c d e same p (Node l k f s) =
    elim (p == 1) as (λ b. (p == 1) ≡ b → below_changed c p (cond b (Node l k (d f) s) (Node l k f (below_changed d (p - 1) s)))
    ≡ cond b (Node l k (e f) s) (Node l k f (below_changed e (p - 1) s))) [
      | true ↦ λ h.
          (λ i. cond (h i) (Node l k (c (d f)) s) (Node l k (d f) (below_changed c (p - 1) s))) ∙ ap (λ g. Node l k g s) (same f)
      | false ↦ λ h.
          (λ i. cond (h i) (Node l k (c f) (below_changed d (p - 1) s)) (Node l k f (below_changed c (p - 1) (below_changed d (p - 1) s))))
          ∙ ap (Node l k f) (below-twice c d e same (p - 1) s)
    ] refl

changed-twice : (g h : Forest ℕ → Forest ℕ) (ps : List ℕ) (f : Forest ℕ)
    → children_changed g ps (children_changed h ps f) ≡ children_changed (λ x. g (h x)) ps f
changed-twice g h [] f = refl
changed-twice g h (p ∷ ps) f =
    below-twice (children_changed g ps) (children_changed h ps) (children_changed (λ x. g (h x)) ps) (changed-twice g h ps) p f

-- the numbers on the way stay
passed-below : (g : Forest ℕ → Forest ℕ) (p : ℕ) (ps : List ℕ) (above : List Content) (f : Forest ℕ)
    → passed_below (passed ps) (child_at above (below_changed (children_changed g ps) p f) p) ≡ passed_below (passed ps) (child_at above f p)
passed-below g p ps above Empty = refl
passed-below g p [] above (Node l c f s) =
    elim (p == 1) as (λ b. (p == 1) ≡ b
    → passed_below (passed []) (child_at above (cond b (Node l c (g f) s) (Node l c f (below_changed (children_changed g []) (p - 1) s))) p)
    ≡ passed_below (passed []) (cond b (Some (found_in above l c f)) (child_at above s (p - 1)))) [
      | true ↦ λ h i. passed_below (passed []) (cond (h i) (Some (found_in above l c (g f))) (child_at above s (p - 1)))
      | false ↦ λ h.
          (λ i. passed_below (passed []) (cond (h i) (Some (found_in above l c f))
          (child_at above (below_changed (children_changed g []) (p - 1) s) (p - 1)))) ∙ passed-below g (p - 1) [] above s
    ] refl
passed-below g p (q ∷ qs) above (Node l c f s) =
    let inner = children_changed g (q ∷ qs) in
    elim (p == 1) as (λ b. (p == 1) ≡ b
    → passed_below (passed (q ∷ qs)) (child_at above (cond b (Node l c (inner f) s) (Node l c f (below_changed inner (p - 1) s))) p)
    ≡ passed_below (passed (q ∷ qs)) (cond b (Some (found_in above l c f)) (child_at above s (p - 1)))) [
      | true ↦ λ h.
          (λ i. passed_below (passed (q ∷ qs)) (cond (h i) (Some (found_in above l c (inner f))) (child_at above s (p - 1))))
          ∙ ap (λ ns. l ∷ ns) (passed-below g q qs (c ∷ above) f)
      | false ↦ λ h.
          (λ i. passed_below (passed (q ∷ qs)) (cond (h i) (Some (found_in above l c f)) (child_at above (below_changed inner (p - 1) s) (p - 1))))
          ∙ passed-below g (p - 1) (q ∷ qs) above s
    ] refl

passed-same : (document : Document ℕ) (g : Forest ℕ → Forest ℕ) (path : List ℕ)
    → passed path (root_of (document_with document (children_changed g path document.nodes))) ≡ passed path (root_of document)
passed-same document g [] = refl
passed-same document g (p ∷ ps) = ap (λ ns. document.root ∷ ns) (passed-below g p ps [] document.nodes)

-- ---- Numbers among others

among-append : (n : ℕ) (xs ys : List ℕ) → is_among (xs ++ ys) n ≡ (is_among xs n || is_among ys n)
among-append n [] ys = refl
among-append n (x ∷ xs) ys = ap (λ b. (x == n) || b) (among-append n xs ys) ∙ or-all (x == n) (is_among xs n) (is_among ys n)
  where
    or-all : (a b c : Bool) → (a || (b || c)) ≡ ((a || b) || c)
    or-all true b c = refl
    or-all false b c = refl

neither : (a b : Bool) → a ≡ false → b ≡ false → (a || b) ≡ false
neither true b e f = absurd (cc)
neither false b e f = f

abbrev count : ℕ → List ℕ → ℕ
count n ns = occurs (λ m. m == n) ns

filter-out : (n : ℕ) (test : ℕ → Bool) → test n ≡ false → (ns : List ℕ) → is_among (filter test ns) n ≡ false
filter-out n test t [] = refl
filter-out n test t (k ∷ ks) = by (test k) (k == n) refl refl (filter-out n test t ks)
  where
    by : (b e : Bool) → test k ≡ b → (k == n) ≡ e → is_among (filter test ks) n ≡ false
        → is_among (cond (test k) (k ∷ filter test ks) (filter test ks)) n ≡ false
    by false e g h r = (λ i. is_among (cond (g i) (k ∷ filter test ks) (filter test ks)) n) ∙ r
    by true false g h r =
        (λ i. is_among (cond (g i) (k ∷ filter test ks) (filter test ks)) n) ∙ neither (k == n) (is_among (filter test ks) n) h r
    by true true g h r = absurd (let no : true ≡ false = sym g ∙ ap test (eqb-true k n h) ∙ t in cc)

filter-none : (n : ℕ) (test : ℕ → Bool) (ns : List ℕ) → count n ns ≡ 0 → is_among (filter test ns) n ≡ false
filter-none n test [] none = refl
filter-none n test (k ∷ ks) none = by (test k) (k == n) refl refl (filter-none n test ks (omega arith))
  where
    by : (b e : Bool) → test k ≡ b → (k == n) ≡ e → is_among (filter test ks) n ≡ false
        → is_among (cond (test k) (k ∷ filter test ks) (filter test ks)) n ≡ false
    by false e g h r = (λ i. is_among (cond (g i) (k ∷ filter test ks) (filter test ks)) n) ∙ r
    by true false g h r =
        (λ i. is_among (cond (g i) (k ∷ filter test ks) (filter test ks)) n) ∙ neither (k == n) (is_among (filter test ks) n) h r
    by true true g h r = absurd (let own : one_if (k == n) ≡ 1 = ap one_if h in omega arith)

without-some : (n : ℕ) (others ns : List ℕ) → 1 ≤ count n others → is_among (without others ns) n ≡ false
without-some n others ns some = filter-out n (λ number. not (is_among others number)) (ap not (some-among n others some)) ns

without-none : (n : ℕ) (others ns : List ℕ) → count n ns ≡ 0 → is_among (without others ns) n ≡ false
without-none n others ns none = filter-none n (λ number. not (is_among others number)) ns none

-- none is among those without others: it was not there, or is among the others
none-without : (n : ℕ) (others ns : List ℕ) → is_among (without others ns) n ≡ false → count n others ≡ 0 → count n ns ≡ 0
none-without n others ns u none = by (count n ns) refl
  where
    by : (k : ℕ) → count n ns ≡ k → count n ns ≡ 0
    by zero e = e
    by (suc k) e = absurd (let yes : true ≡ false = sym (still-among n others ns (omega arith) none) ∙ u in cc)

without-covered : (n : ℕ) (others ns : List ℕ) → count n ns ≤ count n others → is_among (without others ns) n ≡ false
without-covered n others ns most = by (count n others) refl
  where
    by : (k : ℕ) → count n others ≡ k → is_among (without others ns) n ≡ false
    by zero e = without-none n others ns (omega arith)
    by (suc k) e = without-some n others ns (omega arith)

without-fewer : (n : ℕ) (others ns ms : List ℕ) → count n ms ≡ count n ns → is_among (without others ns) n ≡ false
    → is_among (without others ms) n ≡ false
without-fewer n others ns ms same u = by (count n others) refl
  where
    by : (k : ℕ) → count n others ≡ k → is_among (without others ms) n ≡ false
    by zero e = without-none n others ms (let none = none-without n others ns u e in omega arith)
    by (suc k) e = without-some n others ms (omega arith)

without-like : (n : ℕ) (ns ms others : List ℕ) → count n ms ≡ count n ns → is_among (without ns others) n ≡ false
    → is_among (without ms others) n ≡ false
without-like n ns ms others same u = by (count n ms) refl
  where
    by : (k : ℕ) → count n ms ≡ k → is_among (without ms others) n ≡ false
    by zero e = without-none n ms others (none-without n ns others u (omega arith))
    by (suc k) e = without-some n ms others (omega arith)

-- ---- By siblings between

abbrev number_of : Question NodeRef → ℕ
number_of (question.Step node a test) = node.node.number
number_of (question.Text node) = node.node.number
number_of (question.Name node) = node.node.number
number_of (question.Place node) = node.node.number
number_of (question.Order nodes) = 0
number_of (question.Key name value) = 0
number_of (question.Choice node mode candidates) = 0
number_of (question.Copy node) = node.node.number
number_of (question.Unit element) = 0
number_of (question.External name) = 0

at-asked : (P : ℕ → Type 0) (q : Question NodeRef) → P (number_of q) → AtAsked P q
at-asked P (question.Step node a test) h = h
at-asked P (question.Text node) h = h
at-asked P (question.Name node) h = h
at-asked P (question.Place node) h = h
at-asked P (question.Order nodes) h = tt
at-asked P (question.Key name value) h = tt
at-asked P (question.Choice node mode candidates) h = tt
at-asked P (question.Copy node) h = h
at-asked P (question.Unit element) h = tt
at-asked P (question.External name) h = tt

abbrev times : ℕ → Forest ℕ → ℕ
times n f = stands (λ m. m == n) f

among-both : (n : ℕ) (xs ys : List ℕ) → is_among xs n ≡ false → is_among ys n ≡ false → is_among (xs ++ ys) n ≡ false
among-both n xs ys e f = among-append n xs ys ∙ neither (is_among xs n) (is_among ys n) e f

module _ (document : Document ℕ) (path : List ℕ) (old : Found ℕ) (there : node_at document path ≡ Some old)
    (once : (k : ℕ) → times k document.nodes ≤ 1) (last : Forest ℕ) where
  abbrev whole_change : Change
  whole_change = change_between false (passed path (root_of document)) old (with_children old last)

  abbrev then : Forest ℕ → Document ℕ
  then siblings = document_with document (children_changed (λ _. siblings) path document.nodes)

  abbrev then_times : ℕ → Forest ℕ → ℕ
  then_times k siblings = times k (children_changed (λ _. siblings) path document.nodes)

  -- by way of these siblings
  record Way (Used : ℕ → Type 0) (siblings : Forest ℕ) : Type 0 where
    away : Split (λ _. Unit {0}) old.children siblings
    come : Split Used siblings last
    used : (k : ℕ) → 1 ≤ then_times k siblings → Used k
    fewer : (k : ℕ) → times k siblings ≤ times k old.children
    told : (n : ℕ) → is_among (sibling_labels old.children) n ≡ false → is_among (sibling_labels siblings) n ≡ false

  module _ (Used : ℕ → Type 0) (siblings : Forest ℕ) (w : Way Used siblings) where
    abbrev parent : Found ℕ
    parent = with_children old siblings

    abbrev parent_then : node_at (then siblings) path ≡ Some parent
    parent_then = found-then (λ _. Unit {0}) document path old there (λ _. siblings)

    abbrev first_change : Change
    first_change = change_made (λ _. Unit {0}) document path old there (λ _. siblings)

    abbrev second_change : Change
    second_change = change_made Used (then siblings) path parent parent_then (λ _. last)

    then-once : (k : ℕ) → then_times k siblings ≤ 1
    then-once k =
        let b = below path (root_of document) old there in
        let was = ap (times k) b.whole ∙ stands-filled (λ m. m == k) b.around old.children in
        let now = ap (times k) (b.changed (λ _. siblings)) ∙ stands-filled (λ m. m == k) b.around siblings in
        let most = w.fewer k in
        let one = once k in
        omega arith

    first-less : (n : ℕ) → times n siblings ≡ times n old.children → IsLess whole_change first_change n
    first-less n same =
        let olds = occurs-labels (λ m. m == n) old.children in
        let news = occurs-labels (λ m. m == n) siblings in
        record {
          of_children = refl;
          node = refl;
          above = refl;
          gone = λ _ _. without-covered n (labels siblings) (labels old.children) (omega arith);
          brought = λ _ _. without-covered n (labels old.children) (labels siblings) (omega arith);
          child = λ u.
              (let own = neither-first (is_among (sibling_labels old.children) n) (is_among (sibling_labels last) n)
              (sym (among-append n (sibling_labels old.children) (sibling_labels last)) ∙ u) in
              among-both n (sibling_labels old.children) (sibling_labels siblings) own (w.told n own));
        }

    second-less : (n : ℕ) → times n siblings ≡ times n old.children → IsLess whole_change second_change n
    second-less n same =
        let olds = occurs-labels (λ m. m == n) old.children in
        let news = occurs-labels (λ m. m == n) siblings in
        record {
          of_children = refl;
          node = refl;
          above = passed-same document (λ _. siblings) path;
          gone = λ u _. without-fewer n (labels last) (labels old.children) (labels siblings) (omega arith) u;
          brought = λ _ u. without-like n (labels old.children) (labels siblings) (labels last) (omega arith) u;
          child = λ u.
              (let both = sym (among-append n (sibling_labels old.children) (sibling_labels last)) ∙ u in
              among-both n (sibling_labels siblings) (sibling_labels last)
              (w.told n (neither-first (is_among (sibling_labels old.children) n) (is_among (sibling_labels last) n) both))
              (neither-second (is_among (sibling_labels old.children) n) (is_among (sibling_labels last) n) both));
        }

    twice : document_with document (children_changed (λ _. last) path (then siblings).nodes) ≡ then last
    twice = ap (document_with document) (changed-twice (λ _. last) (λ _. siblings) path document.nodes)

    by-way : (s : Sheet) (parameters : Parameters) (called : stylesheet.Place → NodeRef) (q : Question NodeRef)
        → times (number_of q) siblings ≡ times (number_of q) old.children → asks_order q ≡ false → by_children whole_change q ≡ false
        → truth_by ref_of same_ref called s parameters (entries_of document) q
        ≡ truth_by ref_of same_ref called s parameters (entries_of (then last)) q
    by-way s parameters called q same o u =
        unmarked first_change document (then siblings)
        (leads-by (λ _. Unit {0}) document path old there (λ _. siblings) w.away once (λ _ _. tt)) s parameters called q
        (less-marked whole_change first_change q (at-asked (IsLess whole_change first_change) q (first-less (number_of q) same)) o u)
        ∙ unmarked second_change (then siblings) (document_with document (children_changed (λ _. last) path (then siblings).nodes))
        (leads-by Used (then siblings) path parent parent_then (λ _. last) w.come then-once w.used) s parameters called q
        (less-marked whole_change second_change q (at-asked (IsLess whole_change second_change) q (second-less (number_of q) same)) o u)
        ∙ ap (λ d. truth_by ref_of same_ref called s parameters (entries_of d) q) twice

-- ---- The moved node among its siblings

followed-all : (f g h : Forest ℕ) → followed (followed f g) h ≡ followed f (followed g h)
followed-all Empty g h = refl
followed-all (Node l c f s) g h = ap (Node l c f) (followed-all s g h)

all-go : {Used : ℕ → Type 0} (f : Forest ℕ) → Split Used f Empty
all-go Empty = split_end
all-go (Node l c f s) = split_goes (all-go s)

front-goes : {Used : ℕ → Type 0} {old new : Forest ℕ} (f : Forest ℕ) → Split Used old new → Split Used (followed f old) new
front-goes Empty r = r
front-goes (Node l c f s) r = split_goes (front-goes s r)

all-come : {Used : ℕ → Type 0} (f : Forest ℕ) → ((k : ℕ) → Used k → times k f ≡ 0) → Split Used Empty f
all-come Empty h = split_end
all-come (Node l c f s) h =
    split_comes (λ k used. (let all = h k used in omega arith)) (all-come s (λ k used. (let all = h k used in omega arith)))

split-from : {Used : ℕ → Type 0} {old was new : Forest ℕ} → old ≡ was → Split Used was new → Split Used old new
split-from {Used} {new = new} e r = subst (λ f. Split Used f new) (sym e) r

split-to : {Used : ℕ → Type 0} {old new now : Forest ℕ} → new ≡ now → Split Used old now → Split Used old new
split-to {Used} {old = old} e r = subst (λ f. Split Used old f) (sym e) r

labels-followed : (f g : Forest ℕ) → sibling_labels (followed f g) ≡ sibling_labels f ++ sibling_labels g
labels-followed Empty g = refl
labels-followed (Node l c f s) g = ap (λ ns. l ∷ ns) (labels-followed s g)

-- those before it and behind it, and what comes of all where it is put in among them, and where they are put in around it
pub record Sides (label : ℕ) (content : Content) (children old new : Forest ℕ) : Type 0 where
  front : Forest ℕ
  back : Forest ℕ
  whole : old ≡ followed front (Node label content children back)
  node_comes : Split (λ k. times k (Node label content children Empty) ≡ 0) (followed front back) new
  others_come : Split (λ k. times k front + times k back ≡ 0) (Node label content children Empty) new

pub sides : (label : ℕ) (content : Content) (children old new : Forest ℕ) → Reordered label content children old new
    → Sides label content children old new
sides l c f old new (is_later before inner after whole is) =
    let own = Node l c f Empty in
    let now : new ≡ met before (met inner (met own after)) = is ∙ ap (met before) (met-all inner own after) in
    let all : (k : ℕ) → times k (followed inner after) ≡ times k inner + times k after = λ k. stands-followed (λ m. m == k) inner after in
    record {
      front = before;
      back = followed inner after;
      whole = whole;
      node_comes = split-to now (met-split before (met-split inner (come-split own after (λ _ none. none))));
      others_come = split-to now (come-met before (met inner (met own after)) (λ k none. omega arith)
          (come-met inner (met own after) (λ k none. (let sum = all k in omega arith))
          (last-kept l c f (all-come after (λ k none. (let sum = all k in omega arith))))));
    }
sides l c f old new (is_earlier before inner after whole is) =
    let own = Node l c f Empty in
    let now : new ≡ met before (met own (met inner after)) = is ∙ ap (met before) (met-all own inner after) in
    let all : (k : ℕ) → times k (followed before inner) ≡ times k before + times k inner = λ k. stands-followed (λ m. m == k) before inner in
    record {
      front = followed before inner;
      back = after;
      whole = whole ∙ sym (followed-all before inner (Node l c f after));
      node_comes = split-from (followed-all before inner after) (split-to now (met-split before
          (come-met own (met inner after) (λ _ none. none) (met-split inner (unsplit _ after)))));
      others_come = split-to now (come-met before (met own (met inner after)) (λ k none. (let sum = all k in omega arith))
          (last-kept l c f (come-met inner after (λ k none. (let sum = all k in omega arith)) (all-come after (λ k none. omega arith)))));
    }

module _ (document : Document ℕ) (path : List ℕ) (old : Found ℕ) (there : node_at document path ≡ Some old)
    (once : (k : ℕ) → times k document.nodes ≤ 1) (label : ℕ) (content : Content) (children last : Forest ℕ)
    (s : Sides label content children old.children last) where
  abbrev own : Forest ℕ
  own = Node label content children Empty

  abbrev others : Forest ℕ
  others = followed s.front s.back

  olds : (k : ℕ) → times k old.children ≡ times k s.front + times k own + times k s.back
  olds k =
      let all = ap (times k) s.whole ∙ stands-followed (λ m. m == k) s.front (Node label content children s.back) in omega arith

  around-old : (k : ℕ) (siblings : Forest ℕ)
      → then_times document path old there once last k siblings + times k old.children ≡ times k document.nodes + times k siblings
  around-old k siblings =
      let b = below path (root_of document) old there in
      let was = ap (times k) b.whole ∙ stands-filled (λ m. m == k) b.around old.children in
      let now = ap (times k) (b.changed (λ _. siblings)) ∙ stands-filled (λ m. m == k) b.around siblings in
      omega arith

  told-parts : (n : ℕ) → is_among (sibling_labels old.children) n ≡ false
      → (is_among (sibling_labels s.front) n || ((label == n) || is_among (sibling_labels s.back) n)) ≡ false
  told-parts n u =
      sym (among-append n (sibling_labels s.front) (label ∷ sibling_labels s.back))
      ∙ sym (ap (λ ns. is_among ns n) (ap sibling_labels s.whole ∙ labels-followed s.front (Node label content children s.back))) ∙ u

  without-node : Way document path old there once last (λ k. times k own ≡ 0) others
  without-node =
      record {
        away = split-from s.whole (followed-split s.front (split_goes (unsplit _ s.back)));
        come = s.node_comes;
        used = λ k some. (
            let sum = around-old k others in
            let parts = olds k in
            let all = stands-followed (λ m. m == k) s.front s.back in
            let one = once k in
            omega arith
            );
        fewer = λ k. (let parts = olds k in let all = stands-followed (λ m. m == k) s.front s.back in omega arith);
        told = λ n u. (
            let parts = told-parts n u in
            let rest = neither-second (is_among (sibling_labels s.front) n) _ parts in
            ap (λ ns. is_among ns n) (labels-followed s.front s.back)
            ∙ among-both n (sibling_labels s.front) (sibling_labels s.back) (neither-first (is_among (sibling_labels s.front) n) _ parts)
            (neither-second (label == n) _ rest)
            );
      }

  without-others : Way document path old there once last (λ k. times k s.front + times k s.back ≡ 0) own
  without-others =
      record {
        away = split-from s.whole (front-goes s.front (split_stays (all-go s.back)));
        come = s.others_come;
        used = λ k some. (let sum = around-old k own in let parts = olds k in let one = once k in omega arith);
        fewer = λ k. (let parts = olds k in omega arith);
        told = λ n u. (
            let rest = neither-second (is_among (sibling_labels s.front) n) _ (told-parts n u) in
            neither (label == n) false (neither-first (label == n) _ rest) refl
            );
      }

  pub reordered-unmarked : (sheet : Sheet) (parameters : Parameters) (called : stylesheet.Place → NodeRef) (q : Question NodeRef)
      → asks_order q ≡ false → by_children (whole_change document path old there once last) q ≡ false
      → truth_by ref_of same_ref called sheet parameters (entries_of document) q
      ≡ truth_by ref_of same_ref called sheet parameters (entries_of (then document path old there once last last)) q
  reordered-unmarked sheet parameters called q o u = by (times (number_of q) own) refl
    where
      n : ℕ
      n = number_of q

      by : (k : ℕ) → times n own ≡ k
          → truth_by ref_of same_ref called sheet parameters (entries_of document) q
          ≡ truth_by ref_of same_ref called sheet parameters (entries_of (then document path old there once last last)) q
      by zero e =
          by-way document path old there once last (λ k. times k own ≡ 0) others without-node sheet parameters called q
          (let parts = olds n in let all = stands-followed (λ m. m == n) s.front s.back in omega arith) o u
      by (suc k) e =
          by-way document path old there once last (λ k. times k s.front + times k s.back ≡ 0) own without-others sheet parameters called q
          (let parts = olds n in let sum = around-old n Empty in let one = once n in omega arith) o u
