-- A question that is not marked has the same true answer before and after.
use Rattle.std.proofs.Common.{◌≡◌, ℕ, ◌==◌, Bool, true, false, cond, List, [], ◌∷◌, ◌++◌, map, Option, None, Some}
use Rattle.std.proofs.Common.{refl, sym, ap, ◌∙◌, subst}
use Rattle.std.specs.Prelude.{◌&&◌, ◌||◌, codes}
use Rattle.std.specs.List.{list_any, find, filter}
use Rattle.spec_document.specs.declared.axis.Axis.{Axis}
use Rattle.spec_document.specs.declared.axis.Axis.TheVariants as axis
use Rattle.spec_document.specs.Name.{same_expanded}
use Rattle.spec_document.specs.Forest.{Forest, Document}
use Rattle.spec_document.specs.Place.{Ending, Itself, AtAttribute, AtNamespace, Item, kind_of, expanded_name}
use Rattle.spec_document.specs.Place.{written_name, string_value}
use Rattle.spec_document.specs.Order.{Entry, way_to, entries_of}
use Rattle.spec_document.specs.Axis.{is_on, in_axis_order}
use Rattle.spec_expression.specs.declared.NodeType.TheVariants as type
use Rattle.spec_expression.specs.Syntax as tree
use Rattle.spec_expression.specs.Syntax.{Test}
use Rattle.spec_stylesheet.specs.Place as stylesheet
use Rattle.spec_stylesheet.specs.Sheet.{Sheet}
use Rattle.spec_meaning.specs.Question as question
use Rattle.spec_meaning.specs.Question.{Question, Answer, SomeNodes, SomeText, Named, Copied}
use Rattle.spec_meaning.specs.Step.{passes, is_principal, is_in_namespace, has_local, is_of_type, step_from}
use Rattle.spec_meaning.specs.Truth.{told_of, identifier, positions_text, ending_text}
use Rattle.spec_meaning.specs.Naming.{Beside, first, later}
use Rattle.spec_run.specs.Documents.{Parameters}
use Rattle.spec_run.specs.Copy.{copy_of}
use Rattle.spec_run.specs.World.{truth_by}
use Rattle.spec_change.specs.Change.{Change, is_among}
use Rattle.spec_node.specs.declared.node_ref.NodeRef.{NodeRef}
use Rattle.spec_node.specs.Naming.{number_of, part_at, ref_of, same_ref}
use Rattle.xp_axes.proofs.Kept.{ref_is}
use Rattle.spec_touch.specs.Touched.{goes_or_comes, is_changed, holds_change, is_child, step_by_children}
use Rattle.spec_touch.specs.Touched.{step_by_attributes, inside_but, touched_but}
use Rattle.spec_touch.specs.Touched.{is_touched}
use Rattle.spec_touch.specs.Leads.{ChangesIn, children, attributes, inside, further, Leads, at_root, below_root, IsFreeIn}
use Rattle.spec_touch.proofs.Ways.{on-same}
use Rattle.spec_touch.proofs.Positions.{way_from, rises_from, Where, here, higher, child, elsewhere, Stands, is_here}
use Rattle.spec_touch.proofs.Positions.{is_higher, is_aside}
use Rattle.spec_touch.proofs.Positions.{is_child as stands_child, is_lower, deeper, at-old, at-new, At, sorts, pair, self}
use Rattle.spec_touch.proofs.Off.{at_node, at_or_above, at_a_child, at_an_attribute, below-off, attribute-off, attribute-outside}
use Rattle.spec_touch.proofs.Off.{marks_children, marks_attributes, children-unmarked, attributes-unmarked}
use Rattle.spec_touch.proofs.Entries.{IsMarked, marks_text, marks_copy, Same, IsAway, below_child, an_attribute, IsLost}
use Rattle.spec_touch.proofs.Entries.{Runs, both_end, both, gone, brought, or-first, or-second}
use Rattle.spec_touch.proofs.Running.{contradicted, attribute-named, olds_of, news_of, olds_at, news_at, way_in}
use Rattle.spec_touch.proofs.Running.{olds-at-rise, news-at-rise, leads-run, all-free}

-- ---- Truths

pub neither-first : (a b : Bool) → (a || b) ≡ false → a ≡ false
neither-first true b e = absurd (cc)
neither-first false b e = refl

pub neither-second : (a b : Bool) → (a || b) ≡ false → b ≡ false
neither-second true b e = absurd (cc)
neither-second false b e = e

-- ---- From where a node stands to what is marked

abbrev ref_at : ℕ → Ending → ℕ → NodeRef
ref_at label ending number = record { node = record { number = label }; part = part_at ending number }

node-marked : (change : Change) (w : Where) (e : Ending) (l k : ℕ) → IsMarked change w l
    → is_changed change (ref_at l e k) ≡ false → at_node w e ≡ false
node-marked change here Itself l k m u =
    contradicted (is_among (change.node ∷ []) l) ((λ i. (m i == l) || false) ∙ or-first (l == l) false (self l)) u
node-marked change here (AtAttribute n) l k m u = refl
node-marked change here (AtNamespace p) l k m u = refl
node-marked change higher e l k m u = refl
node-marked change child e l k m u = refl
node-marked change elsewhere e l k m u = refl

holder-marked : (change : Change) (w : Where) (e : Ending) (l k : ℕ) → IsMarked change w l → holds_change change (ref_at l e k) ≡ false
    → at_or_above w e ≡ false
holder-marked change here Itself l k m u =
    contradicted (is_among (change.node ∷ change.above) l)
    ((λ i. (m i == l) || is_among change.above l) ∙ or-first (l == l) (is_among change.above l) (self l)) u
holder-marked change here (AtAttribute n) l k m u = refl
holder-marked change here (AtNamespace p) l k m u = refl
holder-marked change higher Itself l k m u =
    contradicted (is_among (change.node ∷ change.above) l) (or-second (change.node == l) (is_among change.above l) m) u
holder-marked change higher (AtAttribute n) l k m u = refl
holder-marked change higher (AtNamespace p) l k m u = refl
holder-marked change child e l k m u = refl
holder-marked change elsewhere e l k m u = refl

child-marked : (change : Change) (w : Where) (e : Ending) (l k : ℕ) → IsMarked change w l
    → is_child change (ref_at l e k) ≡ false → at_a_child w e ≡ false
child-marked change child Itself l k m u = contradicted (is_among (change.before ++ change.after) l) m u
child-marked change child (AtAttribute n) l k m u = refl
child-marked change child (AtNamespace p) l k m u = refl
child-marked change here e l k m u = refl
child-marked change higher e l k m u = refl
child-marked change elsewhere e l k m u = refl

attribute-marked : (change : Change) → change.of_attributes ≡ true → (w : Where) (e : Ending) (l k : ℕ) → IsMarked change w l
    → goes_or_comes change (ref_at l e k) ≡ false → at_an_attribute w e ≡ false
attribute-marked change o here Itself l k m u = refl
attribute-marked change o here (AtAttribute n) l k m u =
    contradicted (goes_or_comes change (ref_at l (AtAttribute n) k)) (attribute-named change l k o m) u
attribute-marked change o here (AtNamespace p) l k m u = refl
attribute-marked change o higher e l k m u = refl
attribute-marked change o child e l k m u = refl
attribute-marked change o elsewhere e l k m u = refl

step-children : (change : Change) (a : Axis) (w : Where) (e : Ending) (l k : ℕ) → IsMarked change w l
    → step_by_children change a (ref_at l e k) ≡ false → marks_children a w e ≡ false
step-children change axis.Child w e l k m u = node-marked change w e l k m u
step-children change axis.Descendant w e l k m u = holder-marked change w e l k m u
step-children change axis.DescendantOrSelf w e l k m u = holder-marked change w e l k m u
step-children change axis.FollowingSibling w e l k m u = child-marked change w e l k m u
step-children change axis.PrecedingSibling w e l k m u = child-marked change w e l k m u
step-children change axis.Following w e l k m u = u
step-children change axis.Preceding w e l k m u = u
step-children change axis.Itself w e l k m u = refl
step-children change axis.Parent w e l k m u = refl
step-children change axis.Ancestor w e l k m u = refl
step-children change axis.AncestorOrSelf w e l k m u = refl
step-children change axis.Attribute w e l k m u = refl
step-children change axis.Namespace w e l k m u = refl

step-attributes : (change : Change) (a : Axis) (w : Where) (e : Ending) (l k : ℕ) → IsMarked change w l
    → step_by_attributes change a (ref_at l e k) ≡ false → marks_attributes a w e ≡ false
step-attributes change axis.Attribute w e l k m u = node-marked change w e l k m u
step-attributes change axis.Child w e l k m u = refl
step-attributes change axis.Descendant w e l k m u = refl
step-attributes change axis.DescendantOrSelf w e l k m u = refl
step-attributes change axis.FollowingSibling w e l k m u = refl
step-attributes change axis.PrecedingSibling w e l k m u = refl
step-attributes change axis.Following w e l k m u = refl
step-attributes change axis.Preceding w e l k m u = refl
step-attributes change axis.Itself w e l k m u = refl
step-attributes change axis.Parent w e l k m u = refl
step-attributes change axis.Ancestor w e l k m u = refl
step-attributes change axis.AncestorOrSelf w e l k m u = refl
step-attributes change axis.Namespace w e l k m u = refl

-- ---- Nodes by their names

pub passes-same : (a : Axis) (test : Test) (e f : Item ℕ) → kind_of e ≡ kind_of f → expanded_name e ≡ expanded_name f
    → passes a test e ≡ passes a test f
passes-same a tree.AnyName e f kind name = ap (is_principal a) kind
passes-same a (tree.InNamespace uri) e f kind name = λ i. is_principal a (kind i) && is_in_namespace uri (name i)
passes-same a (tree.Named own) e f kind name = λ i. is_principal a (kind i) && same_expanded (Some own) (name i)
passes-same a (tree.OfType type) e f kind name = ap (is_of_type type) kind
passes-same a (tree.Instruction target) e f kind name = λ i. is_of_type type.ProcessingInstruction (kind i) && has_local target (name i)

module _ (loose : List ℕ) (change : Change) (olds news way : List ℕ) where
  ref-same : {e f : Entry ℕ} → Same loose change olds news way e f → ref_of e ≡ ref_of f
  ref-same s = λ i. record { node = record { number = s.label i }; part = part_at (s.ending i) (s.number i) }

  -- what goes or comes has another name than a node that does not
  other-name : (node : NodeRef) (d : Entry ℕ) → goes_or_comes change node ≡ false → goes_or_comes change (ref_of d) ≡ true
      → same_ref node (ref_of d) ≡ false
  other-name node d u n = by (same_ref node (ref_of d)) refl
    where
      by : (b : Bool) → same_ref node (ref_of d) ≡ b → same_ref node (ref_of d) ≡ false
      by true e = contradicted (goes_or_comes change node) (sym (ap (goes_or_comes change) (ref_is node d e)) ∙ n) u
      by false e = e

  -- the node of a name, before and after
  data Found (node : NodeRef) : Option (Entry ℕ) → Option (Entry ℕ) → Type 0 where
    nowhere : Found node None None
    at : {e f : Entry ℕ} → Same loose change olds news way e f → ref_of e ≡ node → Found node (Some e) (Some f)

  found-cond : (node : NodeRef) (e f : Entry ℕ) (b c : Bool) (o p : Option (Entry ℕ)) → Same loose change olds news way e f
      → same_ref node (ref_of e) ≡ b
      → b ≡ c → Found node o p → Found node (cond b (Some e) o) (cond c (Some f) p)
  found-cond node e f true true o p s h g r = at s (ref_is node e h)
  found-cond node e f false false o p s h g r = r
  found-cond node e f true false o p s h g r = absurd (cc)
  found-cond node e f false true o p s h g r = absurd (cc)

  found : (node : NodeRef) {es fs : List (Entry ℕ)} → Runs loose change olds news way es fs → goes_or_comes change node ≡ false
      → Found node (find (λ e. same_ref node (ref_of e)) es) (find (λ e. same_ref node (ref_of e)) fs)
  found node both_end u = nowhere
  found node (both {e = e} {f = f} {es = es} {fs = fs} s r) u =
      found-cond node e f (same_ref node (ref_of e)) (same_ref node (ref_of f)) (find (λ e. same_ref node (ref_of e)) es)
      (find (λ e. same_ref node (ref_of e)) fs) s refl (ap (same_ref node) (ref-same s)) (found node r u)
  found node (gone {e = e} {es = es} {fs = fs} l r) u =
      subst (λ b. Found node (cond b (Some e) (find (λ e. same_ref node (ref_of e)) es)) (find (λ e. same_ref node (ref_of e)) fs))
      (sym (other-name node e u l.named)) (found node r u)
  found node (brought {f = f} {es = es} {fs = fs} l r) u =
      subst (λ b. Found node (find (λ e. same_ref node (ref_of e)) es) (cond b (Some f) (find (λ e. same_ref node (ref_of e)) fs)))
      (sym (other-name node f u l.named)) (found node r u)

  -- those that pass two tests which agree on what stays and pass nothing that goes or comes
  picked : (p q : Entry ℕ → Bool) → ((e f : Entry ℕ) → Same loose change olds news way e f → p e ≡ q f)
      → ((e : Entry ℕ) → IsLost change olds way e → p e ≡ false) → ((f : Entry ℕ) → IsLost change news way f → q f ≡ false)
      → {es fs : List (Entry ℕ)} → Runs loose change olds news way es fs → map ref_of (filter p es) ≡ map ref_of (filter q fs)
  picked p q same lost won both_end = refl
  picked p q same lost won (both {e = e} {f = f} {es = es} {fs = fs} s r) =
      (λ i. map ref_of (cond (same e f s i) (e ∷ filter p es) (filter p es))) ∙ either (q f) (picked p q same lost won r)
    where
      either : (b : Bool) → map ref_of (filter p es) ≡ map ref_of (filter q fs)
          → map ref_of (cond b (e ∷ filter p es) (filter p es)) ≡ map ref_of (cond b (f ∷ filter q fs) (filter q fs))
      either true h = λ i. ref-same s i ∷ h i
      either false h = h
  picked p q same lost won (gone {e = e} {es = es} l r) =
      (λ i. map ref_of (cond (lost e l i) (e ∷ filter p es) (filter p es))) ∙ picked p q same lost won r
  picked p q same lost won (brought {f = f} {fs = fs} l r) =
      picked p q same lost won r ∙ sym (λ i. map ref_of (cond (won f l i) (f ∷ filter q fs) (filter q fs)))

  -- ---- Steps

  -- no axis of the question's node has what goes or comes
  away-off : {kept : List ℕ} (a : Axis) (w : Where) (positions others : List ℕ) (e d : Ending) → At kept w way positions
      → (change.of_attributes ≡ false → marks_children a w e ≡ false)
      → (change.of_attributes ≡ true → marks_attributes a w e ≡ false) → (change.of_attributes ≡ true → at_an_attribute w e ≡ false)
      → IsAway change kept way others d → is_on a (way_from positions e) (way_from others d) ≡ false
  away-off a w positions others e d t u v x (below_child o b) =
      children-unmarked a w e (way_from positions e) (way_from others d) (u o) (below-off e d t b)
  away-off a w positions others e _ t u v x (an_attribute k o h) =
      ap (λ p. is_on a (way_from positions e) (way_from p (AtAttribute k))) h
      ∙ attributes-unmarked a w e (way_from positions e) (way_from way (AtAttribute k)) (v o) (attribute-off e k (x o) t)
      (attribute-outside way k)

  and-not : (b c : Bool) → b ≡ false → (b && c) ≡ false
  and-not true c e = absurd (cc)
  and-not false c e = refl

  on-kept : (low high : ℕ) → rises_from low olds → rises_from high news → (a : Axis) (e f d g : Entry ℕ) → Same loose change olds news way e f
      → Same loose change olds news way d g → is_on a (way_to e.place) (way_to d.place) ≡ is_on a (way_to f.place) (way_to g.place)
  on-kept low high o n a e f d g s t =
      on-same a (pair olds news low high o n e.place.ending d.place.ending s.stands t.stands)
      (pair olds news low high o n d.place.ending e.place.ending t.stands s.stands) (sorts d.place.ending t.stands)
      ∙ (λ i. is_on a (way_from f.place.positions (s.ending i)) (way_from g.place.positions (t.ending i)))

  record IsUnmarked (a : Axis) (w : Where) (e : Ending) : Type 0 where
    by_children_not : change.of_attributes ≡ false → marks_children a w e ≡ false
    by_attributes_not : change.of_attributes ≡ true → marks_attributes a w e ≡ false
    is_no_attribute : change.of_attributes ≡ true → at_an_attribute w e ≡ false

  stepped-same : (low high : ℕ) → rises_from low olds → rises_from high news → (a : Axis) (test : Test) (e f : Entry ℕ)
      (s : Same loose change olds news way e f) → IsUnmarked a s.where_is e.place.ending → {es fs : List
      (Entry ℕ)} → Runs loose change olds news way es fs
      → step_from ref_of es a test (Some e) ≡ step_from ref_of fs a test (Some f)
  stepped-same low high o n a test e f s u r =
      ap (in_axis_order a) (picked (λ d. is_on a (way_to e.place) (way_to d.place) && passes a test d.item)
      (λ d. is_on a (way_to f.place) (way_to d.place) && passes a test d.item)
      (λ d g t i. on-kept low high o n a e f d g s t i && passes-same a test d.item g.item t.kind t.name i)
      (λ d l. and-not _ (passes a test d.item) (away-off a s.where_is e.place.positions d.place.positions e.place.ending d.place.ending
      (at-old s.stands) u.by_children_not u.by_attributes_not u.is_no_attribute l.away))
      (λ d l. and-not _ (passes a test d.item) (ap (λ x. is_on a (way_from f.place.positions x) (way_to d.place)) (sym s.ending)
      ∙ away-off a s.where_is f.place.positions d.place.positions e.place.ending d.place.ending
      (at-new s.stands) u.by_children_not u.by_attributes_not u.is_no_attribute l.away)) r)

-- ---- Places

-- where attributes change, nothing stands elsewhere than before
beside-same : {xs ys : List ℕ} {n k : ℕ} → xs ≡ ys → Beside xs ys n k → n ≡ k
beside-same e (first {x = n}) = ap (λ zs. elim zs [ [] ↦ n | z ∷ rest ↦ z ]) e
beside-same e (later {xs = xs} b) = beside-same (ap (λ zs. elim zs [ [] ↦ xs | z ∷ rest ↦ rest ]) e) b

stands-same : {olds news : List ℕ} {w : Where} {way old new : List ℕ} → olds ≡ news → Stands olds news w way old new → old ≡ new
stands-same e is_here = refl
stands-same e is_higher = refl
stands-same e (is_aside h) = refl
stands-same e (stands_child b) = ap (λ n. n ∷ []) (beside-same e b)
stands-same e (is_lower {next = next} {rest = rest} b) = ap (λ n. n ∷ next ∷ rest) (beside-same e b)
stands-same e (deeper {q = q} s) = ap (λ p. q ∷ p) (stands-same e s)

all-of-same : {change : Change} {above : List ℕ} {old new : Forest ℕ} → change.of_attributes ≡ true
    → (c : ChangesIn change above old new) → olds_of c ≡ news_of c
all-of-same e (children c) = contradicted _ e c.of_children
all-of-same e (attributes c) = refl
all-of-same e (inside c) = all-of-same e c
all-of-same e (further c) = all-of-same e c

all-same : {change : Change} {old new : Document ℕ} → change.of_attributes ≡ true → (h : Leads change old new) → olds_at h ≡ news_at h
all-same e (at_root same above c) = contradicted _ e c.of_children
all-same e (below_root same above c) = all-of-same e c

-- ---- What a question that is not marked names

when-false : (b x y : Bool) → cond b x y ≡ false → b ≡ false → y ≡ false
when-false true x y e h = absurd (cc)
when-false false x y e h = e

when-true : (b x y : Bool) → cond b x y ≡ false → b ≡ true → x ≡ false
when-true true x y e h = e
when-true false x y e h = absurd (cc)

not-named : (b g p q : Bool) → cond b (g || p) (g || q) ≡ false → g ≡ false
not-named true g p q e = neither-first g p e
not-named false g p q e = neither-first g q e

not-marked : (b g p q : Bool) → cond b (g || p) (g || q) ≡ false → cond b p q ≡ false
not-marked true g p q e = neither-second g p e
not-marked false g p q e = neither-second g q e

no-more : (b g q : Bool) → cond b g (g || q) ≡ false → (g ≡ false) × (cond b false q ≡ false)
no-more true g q e = (e, refl)
no-more false g q e = (neither-first g q e, neither-second g q e)

same-both : (b g : Bool) → cond b g g ≡ false → g ≡ false
same-both true g e = e
same-both false g e = e

-- ---- Each question

module _ (loose : List ℕ) (change : Change) (old new : Document ℕ) (h : Leads change old new) (free : IsFreeIn loose h) where
  abbrev olds : List ℕ
  olds = olds_at h

  abbrev news : List ℕ
  news = news_at h

  abbrev way : List ℕ
  way = way_in h

  run : Runs loose change olds news way (entries_of old) (entries_of new)
  run = leads-run loose change old new h free

  abbrev SameNode : (e f : Entry ℕ) → Type 0
  SameNode e f = Same loose change olds news way e f

  -- where what is told of a node that stays is the same, so is what is told of any
  told-same : (node : NodeRef) (tell say : Entry ℕ → Answer NodeRef) → goes_or_comes change node ≡ false
      → ((e f : Entry ℕ) → SameNode e f → ref_of e ≡ node → tell e ≡ say f)
      → told_of tell (find (λ e. same_ref node (ref_of e)) (entries_of old)) ≡ told_of say
      (find (λ e. same_ref node (ref_of e)) (entries_of new))
  told-same node tell say u same = by (found loose change olds news way node run u)
    where
      by : {o p : Option (Entry ℕ)} → Found loose change olds news way node o p → told_of tell o ≡ told_of say p
      by nowhere = refl
      by (at {e = e} {f = f} s n) = same e f s n

  unmarked-at : (a : Axis) (e f : Entry ℕ) (s : SameNode e f) → goes_or_comes change (ref_of e) ≡ false
      → cond change.of_attributes (step_by_attributes change a (ref_of e)) (step_by_children change a (ref_of e)) ≡ false
      → IsUnmarked loose change olds news way a s.where_is e.place.ending
  unmarked-at a e f s g u =
      record {
        by_children_not = λ o. step-children change a s.where_is e.place.ending (number_of e.item) e.number s.marked
            (when-false change.of_attributes _ _ u o);
        by_attributes_not = λ o. step-attributes change a s.where_is e.place.ending (number_of e.item) e.number s.marked
            (when-true change.of_attributes _ _ u o);
        is_no_attribute = λ o. attribute-marked change o s.where_is e.place.ending (number_of e.item) e.number s.marked g;
      }

  step-same : (node : NodeRef) (a : Axis) (test : Test) → goes_or_comes change node ≡ false
      → cond change.of_attributes (step_by_attributes change a node) (step_by_children change a node) ≡ false
      → told_of (λ e. SomeNodes (step_from ref_of (entries_of old) a test (find (λ e. same_ref node (ref_of e)) (entries_of old))))
      (find (λ e. same_ref node (ref_of e)) (entries_of old))
      ≡ told_of (λ e. SomeNodes (step_from ref_of (entries_of new) a test (find (λ e. same_ref node (ref_of e)) (entries_of new))))
      (find (λ e. same_ref node (ref_of e)) (entries_of new))
  step-same node a test g u = by (found loose change olds news way node run g)
    where
      by : {o p : Option (Entry ℕ)} → Found loose change olds news way node o p
          → told_of (λ e. SomeNodes (step_from ref_of (entries_of old) a test o)) o ≡ told_of
          (λ e. SomeNodes (step_from ref_of (entries_of new) a test p)) p
      by nowhere = refl
      by (at {e = e} {f = f} s n) =
          ap SomeNodes (stepped-same loose change olds news way 1 1 (olds-at-rise h) (news-at-rise h) a test e f s
          (unmarked-at a e f s (ap (goes_or_comes change) n ∙ g)
          (ap (λ r. cond change.of_attributes (step_by_attributes change a r) (step_by_children change a r)) n ∙ u)) run)

  not-among : (nodes : List NodeRef) (d : Entry ℕ) → list_any (goes_or_comes change) nodes ≡ false → goes_or_comes change (ref_of d) ≡ true
      → list_any (λ node. same_ref node (ref_of d)) nodes ≡ false
  not-among [] d u n = refl
  not-among (node ∷ nodes) d u n =
      (λ i. other-name loose change olds news way node d (neither-first (goes_or_comes change node) (list_any (goes_or_comes change) nodes) u) n i
      || list_any (λ node. same_ref node (ref_of d)) nodes)
      ∙ not-among nodes d (neither-second (goes_or_comes change node) (list_any (goes_or_comes change) nodes) u) n

  ordered-same : (nodes : List NodeRef) → list_any (goes_or_comes change) nodes ≡ false
      → map ref_of (filter (λ e. list_any (λ node. same_ref node (ref_of e)) nodes) (entries_of old))
      ≡ map ref_of (filter (λ e. list_any (λ node. same_ref node (ref_of e)) nodes) (entries_of new))
  ordered-same nodes u =
      picked loose change olds news way (λ e. list_any (λ node. same_ref node (ref_of e)) nodes)
      (λ e. list_any (λ node. same_ref node (ref_of e)) nodes)
      (λ e f s. ap (λ r. list_any (λ node. same_ref node r) nodes) (ref-same loose change olds news way s))
      (λ d l. not-among nodes d u l.named) (λ d l. not-among nodes d u l.named) run

  place-same : change.of_attributes ≡ true → (e f : Entry ℕ) → SameNode e f → identifier e ≡ identifier f
  place-same o e f s =
      λ i. codes "n" ++ positions_text (stands-same (all-same o h) s.stands i) ++ ending_text (s.ending i) (s.number i)

  place-told : (b : Bool) → change.of_attributes ≡ b → (node : NodeRef) → cond b (goes_or_comes change node) true ≡ false
      → told_of {K = NodeRef} (λ e. SomeText (identifier e)) (find (λ e. same_ref node (ref_of e)) (entries_of old))
      ≡ told_of {K = NodeRef} (λ e. SomeText (identifier e)) (find (λ e. same_ref node (ref_of e)) (entries_of new))
  place-told true o node u = told-same node (λ e. SomeText (identifier e)) (λ e. SomeText (identifier e)) u
      (λ e f s n. ap SomeText (place-same o e f s))
  place-told false o node u = absurd (cc)

  pub unmarked_but : (s : Sheet) (parameters : Parameters) (called : stylesheet.Place → NodeRef) (q : Question NodeRef)
      → touched_but loose change q ≡ false
      → truth_by ref_of same_ref called s parameters (entries_of old) q ≡ truth_by ref_of same_ref called s parameters (entries_of new) q
  unmarked_but s parameters called (question.Step node a test) u =
      step-same node a test (not-named change.of_attributes _ _ _ u) (not-marked change.of_attributes _ _ _ u)
  unmarked_but s parameters called (question.Text node) u =
      let n = no-more change.of_attributes (goes_or_comes change node) (inside_but loose change node) u in
      told-same node (λ e. SomeText (string_value e.item)) (λ e. SomeText (string_value e.item)) n.0
      (λ e f t r. ap SomeText (t.text (ap (marks_text loose change) r ∙ n.1)))
  unmarked_but s parameters called (question.Name node) u =
      told-same node (λ e. Named (kind_of e.item) (expanded_name e.item) (written_name e.item))
      (λ e. Named (kind_of e.item) (expanded_name e.item) (written_name e.item))
      (same-both change.of_attributes (goes_or_comes change node) u) (λ e f t r i. Named (t.kind i) (t.name i) (t.written i))
  unmarked_but s parameters called (question.Place node) u = place-told change.of_attributes refl node u
  unmarked_but s parameters called (question.Order nodes) u =
      ap SomeNodes (ordered-same nodes (same-both change.of_attributes (list_any (goes_or_comes change) nodes) u))
  unmarked_but s parameters called (question.Key name value) u = absurd (let t : true ≡ false = always change.of_attributes ∙ u in cc)
    where
      always : (b : Bool) → true ≡ cond b true true
      always true = refl
      always false = refl
  unmarked_but s parameters called (question.Choice node mode candidates) u = absurd
      (let t : true ≡ false = always change.of_attributes ∙ u in cc)
    where
      always : (b : Bool) → true ≡ cond b true true
      always true = refl
      always false = refl
  unmarked_but s parameters called (question.Copy node) u =
      told-same node (λ e. Copied (copy_of e.item)) (λ e. Copied (copy_of e.item)) (not-named change.of_attributes _ _ _ u)
      (λ e f t r. ap Copied (t.copy (ap (marks_copy loose change) r ∙ not-marked change.of_attributes (goes_or_comes change node) _ _ u)))
  unmarked_but s parameters called (question.Unit element) u = refl
  unmarked_but s parameters called (question.External name) u = refl

-- by the table
pub unmarked : (change : Change) (old new : Document ℕ) (h : Leads change old new) (s : Sheet) (parameters : Parameters)
    (called : stylesheet.Place → NodeRef) (q : Question NodeRef) → is_touched change q ≡ false
    → truth_by ref_of same_ref called s parameters (entries_of old) q ≡ truth_by ref_of same_ref called s parameters (entries_of new) q
unmarked change old new h s parameters called q u =
    unmarked_but (change.before ++ change.after) change old new h (all-free change old new h) s parameters called q u
