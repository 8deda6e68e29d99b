-- What is asked of a node of a tree that is moved, and tells of that tree alone, has the same true answer before and after.
use Rattle.std.proofs.Common.{◌≡◌, ℕ, Bool, true, false, cond, not, List, [], ◌∷◌, ◌++◌, map, Option, None, Some}
use Rattle.std.proofs.Common.{refl, sym, ap, ◌∙◌, subst, append_assoc}
use Rattle.std.specs.Prelude.{◌&&◌}
use Rattle.std.specs.List.{find, filter}
use Rattle.spec_document.specs.declared.axis.Axis.{Axis}
use Rattle.spec_document.specs.Forest.{Content, Forest, Document}
use Rattle.spec_document.specs.Scope.{root_scope}
use Rattle.spec_document.specs.Declaration.{scope_of}
use Rattle.spec_document.specs.Place.{Ending, Itself, AtAttribute, AtNamespace, kind_of, expanded_name, written_name, string_value}
use Rattle.spec_document.specs.Order.{Entry, way_to, entries_of}
use Rattle.spec_document.specs.Axis.{is_on, in_axis_order}
use Rattle.spec_expression.specs.Syntax.{Test}
use Rattle.spec_stylesheet.specs.Place as stylesheet
use Rattle.spec_stylesheet.specs.Sheet.{Sheet}
use Rattle.spec_meaning.specs.Question as question
use Rattle.spec_meaning.specs.Question.{Question, Answer, SomeNodes, SomeText, Named, Copied}
use Rattle.spec_meaning.specs.Step.{passes, step_from}
use Rattle.spec_meaning.specs.Truth.{told_of}
use Rattle.spec_run.specs.Documents.{Parameters}
use Rattle.spec_run.specs.Copy.{copy_of}
use Rattle.spec_run.specs.World.{truth_by}
use Rattle.spec_change.specs.Change.{Change, is_among}
use Rattle.spec_node.specs.declared.node_ref.NodeRef.{NodeRef}
use Rattle.spec_node.specs.Naming.{part_at, ref_of, same_ref, same_part}
use Rattle.xp_axes.proofs.Kept.{ref_is}
use Rattle.spec_touch.specs.Touched.{is_itself, is_child}
use Rattle.spec_touch.specs.Moved.{goes_along, stays_along, stays_in_move}
use Rattle.spec_touch.proofs.Positions.{way_from}
use Rattle.spec_touch.proofs.Entries.{first-of, second-of}
use Rattle.spec_touch.proofs.Answering.{passes-same}
use Rattle.spec_touch.proofs.Apart.{is_top, below-stays, onward, way-onward, on-onward, on-apart}
use Rattle.spec_touch.proofs.Holding.{AllOutside, IsOutside, HoldsAt, HoldsIn, tree_entries}
use Rattle.spec_touch.proofs.Pairing.{Alike, Pairs, no_more, one_more, IsSort, tree-paired}

-- the tree in which the node of this number is stands in both documents, below contents that give the same scope
pub record StaysIn (left : Change) (n : ℕ) (old new : Document ℕ) : Type 0 where
  pub above : List Content
  pub over : List Content
  pub label : ℕ
  pub content : Content
  pub other : Content
  pub children : Forest ℕ
  pub scope : scope_of root_scope above ≡ scope_of root_scope over
  pub sort : IsSort content other
  pub was : HoldsIn n above label content children old
  pub is : HoldsIn n over label other children new
  -- the tree's own node was a child of the node that it leaves
  pub child : is_among (left.before ++ left.after) label ≡ true

-- ---- Among entries, of which some stand elsewhere

abbrev is_named : NodeRef → Entry ℕ → Bool
is_named node e = same_ref node (ref_of e)

module _ (node : NodeRef) (way : List ℕ) where
  abbrev Elsewhere : List (Entry ℕ) → Type 0
  Elsewhere es = AllOutside node.node.number way es

  unnamed : (e : Entry ℕ) → IsOutside node.node.number way e → is_named node e ≡ false
  unnamed e o = λ i. o.named i && same_part node.part (part_at e.place.ending e.number)

  find-behind : (es fs : List (Entry ℕ)) → Elsewhere es → find (is_named node) (es ++ fs) ≡ find (is_named node) fs
  find-behind [] fs h = refl
  find-behind (e ∷ es) fs h =
      (λ i. cond (unnamed e h.0 i) (Some e) (find (is_named node) (es ++ fs))) ∙ find-behind es fs h.1

  find-none : (es : List (Entry ℕ)) → Elsewhere es → find (is_named node) es ≡ None
  find-none [] h = refl
  find-none (e ∷ es) h = (λ i. cond (unnamed e h.0 i) (Some e) (find (is_named node) es)) ∙ find-none es h.1

  module _ (test : Entry ℕ → Bool) (none : (e : Entry ℕ) → IsOutside node.node.number way e → test e ≡ false) where
    filter-behind : (es fs : List (Entry ℕ)) → Elsewhere es → filter test (es ++ fs) ≡ filter test fs
    filter-behind [] fs h = refl
    filter-behind (e ∷ es) fs h =
        (λ i. cond (none e h.0 i) (e ∷ filter test (es ++ fs)) (filter test (es ++ fs))) ∙ filter-behind es fs h.1

    filter-none : (es : List (Entry ℕ)) → Elsewhere es → filter test es ≡ []
    filter-none [] h = refl
    filter-none (e ∷ es) h = (λ i. cond (none e h.0 i) (e ∷ filter test es) (filter test es)) ∙ filter-none es h.1

-- ---- Nodes of the tree

alike-ref : {l : ℕ} {s t : List ℕ} {e f : Entry ℕ} → Alike l s t e f → ref_of e ≡ ref_of f
alike-ref a = λ i. record { node = record { number = a.label i }; part = part_at (a.ending i) (a.number i) }

-- the node of a name, before and after
data Found (l : ℕ) (s t : List ℕ) (node : NodeRef) : Option (Entry ℕ) → Option (Entry ℕ) → Type 0 where
  nowhere : Found l s t node None None
  at : {e f : Entry ℕ} → Alike l s t e f → ref_of e ≡ node → Found l s t node (Some e) (Some f)

found-cond : (l : ℕ) (s t : List ℕ) (node : NodeRef) (e f : Entry ℕ) (b c : Bool) (o p : Option (Entry ℕ)) → Alike l s t e f
    → is_named node e ≡ b → b ≡ c → Found l s t node o p → Found l s t node (cond b (Some e) o) (cond c (Some f) p)
found-cond l s t node e f true true o p a h g r = at a (ref_is node e h)
found-cond l s t node e f false false o p a h g r = r
found-cond l s t node e f true false o p a h g r = absurd (cc)
found-cond l s t node e f false true o p a h g r = absurd (cc)

found : (l : ℕ) (s t : List ℕ) (node : NodeRef) {es fs : List (Entry ℕ)} → Pairs l s t es fs → (xs ys : List (Entry ℕ))
    → AllOutside node.node.number s xs → AllOutside node.node.number t ys
    → Found l s t node (find (is_named node) (es ++ xs)) (find (is_named node) (fs ++ ys))
found l s t node no_more xs ys h g =
    subst (λ o. Found l s t node o (find (is_named node) ys)) (sym (find-none node s xs h))
    (subst (λ o. Found l s t node None o) (sym (find-none node t ys g)) nowhere)
found l s t node (one_more {e = e} {f = f} {es = es} {fs = fs} a r) xs ys h g =
    found-cond l s t node e f (is_named node e) (is_named node f) (find (is_named node) (es ++ xs)) (find (is_named node) (fs ++ ys)) a refl
    (ap (same_ref node) (alike-ref a)) (found l s t node r xs ys h g)

-- those that pass two tests which agree on the nodes of the tree
picked : (l : ℕ) (s t : List ℕ) (p q : Entry ℕ → Bool) → ((e f : Entry ℕ) → Alike l s t e f → p e ≡ q f) → {es fs : List (Entry ℕ)}
    → Pairs l s t es fs → (xs ys : List (Entry ℕ)) → filter p xs ≡ [] → filter q ys ≡ []
    → map ref_of (filter p (es ++ xs)) ≡ map ref_of (filter q (fs ++ ys))
picked l s t p q same no_more xs ys h g = ap (map ref_of) (h ∙ sym g)
picked l s t p q same (one_more {e = e} {f = f} {es = es} {fs = fs} a r) xs ys h g =
    (λ i. map ref_of (cond (same e f a i) (e ∷ filter p (es ++ xs)) (filter p (es ++ xs)))) ∙ either (q f) (picked l s t p q same r xs ys h g)
  where
    either : (b : Bool) → map ref_of (filter p (es ++ xs)) ≡ map ref_of (filter q (fs ++ ys))
        → map ref_of (cond b (e ∷ filter p (es ++ xs)) (filter p (es ++ xs))) ≡ map ref_of (cond b (f ∷ filter q (fs ++ ys)) (filter q (fs ++ ys)))
    either true k = λ i. alike-ref a i ∷ k i
    either false k = k

-- ---- Each question

module _ (left : Change) (node : NodeRef) (old new : Document ℕ) (h : StaysIn left node.node.number old new) where
  abbrev l : ℕ
  l = h.label

  abbrev s : List ℕ
  s = h.was.way

  abbrev t : List ℕ
  t = h.is.way

  abbrev was : HoldsAt node.node.number h.above h.label h.content h.children s (entries_of old)
  was = h.was.holds

  abbrev is : HoldsAt node.node.number h.over h.label h.other h.children t (entries_of new)
  is = h.is.holds

  abbrev es : List (Entry ℕ)
  es = tree_entries h.above s h.label h.content h.children

  abbrev fs : List (Entry ℕ)
  fs = tree_entries h.over t h.label h.other h.children

  pairs : Pairs l s t es fs
  pairs = tree-paired s t h.above h.over h.scope h.label h.content h.other h.sort h.children

  old-found : find (is_named node) (entries_of old) ≡ find (is_named node) (es ++ was.after)
  old-found =
      ap (find (is_named node)) (was.is ∙ append_assoc was.before es was.after) ∙ find-behind node s was.before (es ++ was.after) was.sooner

  new-found : find (is_named node) (entries_of new) ≡ find (is_named node) (fs ++ is.after)
  new-found = ap (find (is_named node)) (is.is ∙ append_assoc is.before fs is.after) ∙ find-behind node t is.before (fs ++ is.after) is.sooner

  same-found : Found l s t node (find (is_named node) (entries_of old)) (find (is_named node) (entries_of new))
  same-found =
      subst (λ o. Found l s t node o (find (is_named node) (entries_of new))) (sym old-found)
      (subst (λ o. Found l s t node (find (is_named node) (es ++ was.after)) o) (sym new-found)
      (found l s t node pairs was.after is.after was.later is.later))

  -- a node that is not moved itself stands below the tree's own
  top-moved : (e f : Entry ℕ) (a : Alike l s t e f) → ref_of e ≡ node → is_top e.place.ending a.below ≡ true → is_child left node ≡ true
  top-moved e f a r top =
      ap (is_child left) (sym r)
      ∙ (λ i. is_itself (part_at e.place.ending e.number) && is_among (left.before ++ left.after) (a.top top i))
      ∙ (λ i. is_itself (part_at e.place.ending e.number) && h.child i) ∙ itself e.place.ending a.below top
    where
      itself : (d : Ending) (p : List ℕ) → is_top d p ≡ true → (is_itself (part_at d e.number) && true) ≡ true
      itself Itself p k = refl
      itself (AtAttribute n) p k = absurd (cc)
      itself (AtNamespace q) p k = absurd (cc)

  below-top : (e f : Entry ℕ) (a : Alike l s t e f) → ref_of e ≡ node → is_child left node ≡ false → is_top e.place.ending a.below ≡ false
  below-top e f a r u = by (is_top e.place.ending a.below) refl
    where
      by : (b : Bool) → is_top e.place.ending a.below ≡ b → is_top e.place.ending a.below ≡ false
      by true k = absurd (let no : true ≡ false = sym (top-moved e f a r k) ∙ u in cc)
      by false k = k

  told-stays : (tell say : Entry ℕ → Answer NodeRef) → ((e f : Entry ℕ) → Alike l s t e f → ref_of e ≡ node → tell e ≡ say f)
      → told_of tell (find (is_named node) (entries_of old)) ≡ told_of say (find (is_named node) (entries_of new))
  told-stays tell say same = by same-found
    where
      by : {o p : Option (Entry ℕ)} → Found l s t node o p → told_of tell o ≡ told_of say p
      by nowhere = refl
      by (at {e = e} {f = f} a r) = same e f a r

  -- ---- Steps

  module _ (a : Axis) (test : Test) (stays : stays_along a (is_child left node) ≡ true) where
    -- the way of a node of the tree
    old-way : (e f : Entry ℕ) (x : Alike l s t e f) → way_to e.place ≡ onward s (way_from x.below e.place.ending)
    old-way e f x = (λ i. way_from (x.old i) e.place.ending) ∙ way-onward s x.below e.place.ending

    new-way : (e f : Entry ℕ) (x : Alike l s t e f) → way_to f.place ≡ onward t (way_from x.below e.place.ending)
    new-way e f x = (λ i. way_from (x.new i) (sym x.ending i)) ∙ way-onward t x.below e.place.ending

    module _ (e f : Entry ℕ) (x : Alike l s t e f) (r : ref_of e ≡ node) where
      abbrev passes_old : Entry ℕ → Bool
      passes_old d = is_on a (way_to e.place) (way_to d.place) && passes a test d.item

      abbrev passes_new : Entry ℕ → Bool
      passes_new d = is_on a (way_to f.place) (way_to d.place) && passes a test d.item

      -- the axis stays by where the node stands in the tree
      stays-there : stays_along a (is_top e.place.ending x.below) ≡ true
      stays-there = by (is_top e.place.ending x.below) refl
        where
          by : (b : Bool) → is_top e.place.ending x.below ≡ b → stays_along a b ≡ true
          by true k = ap (stays_along a) (sym (top-moved e f x r k)) ∙ stays
          by false k = below-stays a (is_child left node) stays

      agree : (d g : Entry ℕ) → Alike l s t d g → passes_old d ≡ passes_new g
      agree d g y =
          let v = way_from x.below e.place.ending in
          let w = way_from y.below d.place.ending in
          let moved = is_child left node in
          let on : is_on a (way_to e.place) (way_to d.place) ≡ is_on a (way_to f.place) (way_to g.place) =
          (λ i. is_on a (old-way e f x i) (old-way d g y i)) ∙ on-onward a moved stays s v w
          ∙ sym ((λ i. is_on a (new-way e f x i) (new-way d g y i)) ∙ on-onward a moved stays t v w) in
          λ i. on i && passes-same a test d.item g.item y.kind y.name i

      none-old : (d : Entry ℕ) → IsOutside node.node.number s d → passes_old d ≡ false
      none-old d o =
          (λ i. is_on a (old-way e f x i) (way_to d.place) && passes a test d.item)
          ∙ (λ i. on-apart a o.apart e.place.ending x.below stays-there d.place.ending i && passes a test d.item)

      none-new : (d : Entry ℕ) → IsOutside node.node.number t d → passes_new d ≡ false
      none-new d o =
          (λ i. is_on a (new-way e f x i) (way_to d.place) && passes a test d.item)
          ∙ (λ i. on-apart a o.apart e.place.ending x.below stays-there d.place.ending i && passes a test d.item)

      stepped-stays : step_from ref_of (entries_of old) a test (Some e) ≡ step_from ref_of (entries_of new) a test (Some f)
      stepped-stays =
          ap (in_axis_order a)
          (ap (λ xs. map ref_of (filter passes_old xs)) (was.is ∙ append_assoc was.before es was.after)
          ∙ ap (map ref_of) (filter-behind node s passes_old none-old was.before (es ++ was.after) was.sooner)
          ∙ picked l s t passes_old passes_new agree pairs was.after is.after (filter-none node s passes_old none-old was.after was.later)
          (filter-none node t passes_new none-new is.after is.later)
          ∙ sym (ap (λ xs. map ref_of (filter passes_new xs)) (is.is ∙ append_assoc is.before fs is.after)
          ∙ ap (map ref_of) (filter-behind node t passes_new none-new is.before (fs ++ is.after) is.sooner)))

    step-stays : told_of (λ e. SomeNodes (step_from ref_of (entries_of old) a test (find (is_named node) (entries_of old))))
        (find (is_named node) (entries_of old))
        ≡ told_of (λ e. SomeNodes (step_from ref_of (entries_of new) a test (find (is_named node) (entries_of new))))
        (find (is_named node) (entries_of new))
    step-stays = by same-found
      where
        by : {o p : Option (Entry ℕ)} → Found l s t node o p
            → told_of (λ e. SomeNodes (step_from ref_of (entries_of old) a test o)) o
            ≡ told_of (λ e. SomeNodes (step_from ref_of (entries_of new) a test p)) p
        by nowhere = refl
        by (at {e = e} {f = f} x r) = ap SomeNodes (stepped-stays e f x r)

-- ---- All

not-true : (b : Bool) → not b ≡ true → b ≡ false
not-true true h = absurd (cc)
not-true false h = refl

module _ (left entered : Change) (old new : Document ℕ)
    (h : (node : NodeRef) → goes_along left entered node ≡ true → StaysIn left node.node.number old new)
    (sheet : Sheet) (parameters : Parameters) (called : stylesheet.Place → NodeRef) where
  pub stays-kept : (q : Question NodeRef) → stays_in_move left entered q ≡ true
      → truth_by ref_of same_ref called sheet parameters (entries_of old) q ≡ truth_by ref_of same_ref called sheet parameters (entries_of new) q
  stays-kept (question.Step node a test) u =
      let along = first-of (goes_along left entered node) (stays_along a (is_child left node)) u in
      step-stays left node old new (h node along) a test (second-of (goes_along left entered node) (stays_along a (is_child left node)) u)
  stays-kept (question.Text node) u =
      let along = first-of (goes_along left entered node) (not (is_child left node)) u in
      let below = not-true (is_child left node) (second-of (goes_along left entered node) (not (is_child left node)) u) in
      let k = h node along in
      told-stays left node old new k (λ e. SomeText (string_value e.item)) (λ e. SomeText (string_value e.item))
      (λ e f a r. ap SomeText (a.text (below-top left node old new k e f a r below)))
  stays-kept (question.Name node) u =
      told-stays left node old new (h node u) (λ e. Named (kind_of e.item) (expanded_name e.item) (written_name e.item))
      (λ e. Named (kind_of e.item) (expanded_name e.item) (written_name e.item)) (λ e f a r i. Named (a.kind i) (a.name i) (a.written i))
  stays-kept (question.Place node) u = absurd (cc)
  stays-kept (question.Order nodes) u = absurd (cc)
  stays-kept (question.Key name value) u = absurd (cc)
  stays-kept (question.Choice node mode candidates) u = absurd (cc)
  stays-kept (question.Copy node) u =
      let along = first-of (goes_along left entered node) (not (is_child left node)) u in
      let below = not-true (is_child left node) (second-of (goes_along left entered node) (not (is_child left node)) u) in
      let k = h node along in
      told-stays left node old new k (λ e. Copied (copy_of e.item)) (λ e. Copied (copy_of e.item))
      (λ e f a r. ap Copied (a.copy (below-top left node old new k e f a r below)))
  stays-kept (question.Unit element) u = absurd (cc)
  stays-kept (question.External name) u = absurd (cc)
