-- A node that is moved to another parent and keeps its number stands there as it stood, with all that is below it.
use Rattle.std.proofs.Common.{◌≡◌, ◌≤◌, ◌<◌, arith, ℕ, zero, suc, ◌+◌, ◌-◌, ◌==◌, Bool, true, false, not, cond, List, [], ◌∷◌, ◌++◌}
use Rattle.std.proofs.Common.{Option, None, Some, refl, sym, ap, ◌∙◌, eq-eqb}
use Rattle.std.specs.Prelude.{◌&&◌, ◌||◌, nat_lt, bytes_eq}
use Rattle.std.specs.FinMap.{entries, same_entries_map}
use Rattle.std.proofs.lemmas.Bool.{eqb-true, ltb-true, ltb-false, and_parts}
use Rattle.std.proofs.lemmas.Slice.Eq.{bytes_eq-Decides}
use Rattle.spec_document.specs.Scope.{root_scope}
use Rattle.spec_document.specs.Declaration.{scope_of}
use Rattle.spec_document.specs.Forest.{Content, Element, Text, Comment, Instruction, Forest, Empty, Node, Document}
use Rattle.spec_document.specs.Forest.{labels, plain, numbered, followed}
use Rattle.spec_document.specs.Place.{Found, scope_at}
use Rattle.spec_document.specs.Top.{kept}
use Rattle.spec_edit.specs.Splice.{Spot, first_siblings, later_siblings, last_before, met, inserted, deleted}
use Rattle.spec_edit.proofs.Around.{Around, above_in, filled, first-later}
use Rattle.spec_edit.proofs.Shapes.{same_nodes}
use Rattle.spec_edit.proofs.Numbers.{one_if, occurs, occurs-labels, stands, stands_around, stands-filled, stands-followed, stands-met, unlike}
use Rattle.spec_edit.proofs.Numbers.{added-earlier, numbered-again, AreOnce, AreBelow}
use Rattle.spec_change.specs.Change.{Change, is_among, without, sibling_labels}
use Rattle.spec_change.proofs.Gone.{some-among}
use Rattle.spec_move.specs.Move.{preserves, same_truth, same_entries, same_scope, keeps_labels, placed, carried}
use Rattle.spec_move.proofs.Moving.{Place, tree}
use Rattle.spec_touch.specs.Leads.{text_rewritten}
use Rattle.spec_touch.proofs.Holding.{holds-in}
use Rattle.spec_touch.proofs.Pairing.{IsSort, same_sort, other_words}
use Rattle.spec_touch.proofs.Staying.{StaysIn}

abbrev count : ℕ → Forest ℕ → ℕ
count n f = stands (λ m. m == n) f

-- ---- Numbers without others

or-second : (a b : Bool) → a ≡ false → (a || b) ≡ true → b ≡ true
or-second true b e h = absurd (cc)
or-second false b e h = h

told-without : (n : ℕ) (others ns : List ℕ) → is_among (without others ns) n ≡ true
    → (1 ≤ occurs (λ m. m == n) ns) × (is_among others n ≡ false)
told-without n others [] h = absurd (cc)
told-without n others (k ∷ ks) h = by (is_among others k) (k == n) refl refl (told-without n others ks)
  where
    rest : List ℕ
    rest = without others ks

    by : (b e : Bool) → is_among others k ≡ b → (k == n) ≡ e
        → (is_among rest n ≡ true → (1 ≤ occurs (λ m. m == n) ks) × (is_among others n ≡ false))
        → (1 ≤ occurs (λ m. m == n) (k ∷ ks)) × (is_among others n ≡ false)
    by true e f g more =
        let r = more (sym (λ i. is_among (cond (not (f i)) (k ∷ rest) rest) n) ∙ h) in (let some = r.0 in omega arith, r.1)
    by false true f g more =
        let own : one_if (k == n) ≡ 1 = ap one_if g in (omega arith, sym (ap (is_among others) (eqb-true k n g)) ∙ f)
    by false false f g more =
        let r = more (or-second (k == n) (is_among rest n) g (sym (λ i. is_among (cond (not (f i)) (k ∷ rest) rest) n) ∙ h)) in
        (let some = r.0 in omega arith, r.1)

none-occurs : (n : ℕ) (ns : List ℕ) → is_among ns n ≡ false → occurs (λ m. m == n) ns ≡ 0
none-occurs n ns u = by (occurs (λ m. m == n) ns) refl
  where
    by : (k : ℕ) → occurs (λ m. m == n) ns ≡ k → occurs (λ m. m == n) ns ≡ 0
    by zero e = e
    by (suc k) e = absurd (let yes : true ≡ false = sym (some-among n ns (omega arith)) ∙ u in cc)

among-followed : (f : Forest ℕ) (l : ℕ) (c : Content) (g h : Forest ℕ) (others : List ℕ)
    → is_among (sibling_labels (followed f (Node l c g h)) ++ others) l ≡ true
among-followed Empty l c g h others = λ i. eq-eqb l l refl i || is_among (sibling_labels h ++ others) l
among-followed (Node k d e s) l c g h others = by (k == l) (among-followed s l c g h others)
  where
    by : (b : Bool) → is_among (sibling_labels (followed s (Node l c g h)) ++ others) l ≡ true
        → (b || is_among (sibling_labels (followed s (Node l c g h)) ++ others) l) ≡ true
    by true r = refl
    by false r = r

-- ---- The same scope

same-entries : (one other : List (List ℕ × List ℕ)) → same_entries one other ≡ true → one ≡ other
same-entries [] [] e = refl
same-entries [] (b ∷ other) e = absurd (cc)
same-entries (a ∷ one) [] e = absurd (cc)
same-entries (a ∷ one) (b ∷ other) e =
    let all = and_parts (bytes_eq a.0 b.0 && bytes_eq a.1 b.1) (same_entries one other) e in
    let both = and_parts (bytes_eq a.0 b.0) (bytes_eq a.1 b.1) all.0 in
    let prefix = (bytes_eq-Decides a.0 b.0).0 both.0 in
    let uri = (bytes_eq-Decides a.1 b.1).0 both.1 in
    λ i. (prefix i, uri i) ∷ same-entries one other all.1 i

pub keeps-scope : (old next : Found ℕ) → keeps_labels old next ≡ true → scope_at old ≡ scope_at next
keeps-scope old next e =
    let both = and_parts (same_scope (scope_at old) (scope_at next)) (same_truth (preserves old.above) (preserves next.above)) e in
    same_entries_map (scope_at old) (scope_at next) (same-entries (entries (scope_at old)) (entries (scope_at next)) both.0)

-- ---- A tree put among siblings

-- before these: where it is a text, one at their front may be joined to it
record Before (l : ℕ) (c : Content) (f others : Forest ℕ) : Type 0 where
  content : Content
  rest : Forest ℕ
  sort : IsSort c content
  is : last_before l c f others ≡ Node l content f rest
  fewer : (k : ℕ) → count k rest ≤ count k others

before-others : (l : ℕ) (c : Content) (f others : Forest ℕ) → Before l c f others
before-others l (Element m a) f others =
    record { content = Element m a; rest = others; sort = same_sort; is = refl; fewer = λ k. omega arith }
before-others l (Comment t) f others =
    record { content = Comment t; rest = others; sort = same_sort; is = refl; fewer = λ k. omega arith }
before-others l (Instruction m t) f others =
    record { content = Instruction m t; rest = others; sort = same_sort; is = refl; fewer = λ k. omega arith }
before-others l (Text t) f Empty = record { content = Text t; rest = Empty; sort = same_sort; is = refl; fewer = λ k. omega arith }
before-others l (Text t) f (Node m (Text more) g s) =
    record { content = Text (t ++ more); rest = s; sort = other_words text_rewritten; is = refl; fewer = λ k. omega arith }
before-others l (Text t) f (Node m (Element n a) g s) =
    record { content = Text t; rest = Node m (Element n a) g s; sort = same_sort; is = refl; fewer = λ k. omega arith }
before-others l (Text t) f (Node m (Comment u) g s) =
    record { content = Text t; rest = Node m (Comment u) g s; sort = same_sort; is = refl; fewer = λ k. omega arith }
before-others l (Text t) f (Node m (Instruction n u) g s) =
    record { content = Text t; rest = Node m (Instruction n u) g s; sort = same_sort; is = refl; fewer = λ k. omega arith }

-- behind these: where it is a text, it may be joined to one at their end, and its number is there no more
data Behind (front : Forest ℕ) (l : ℕ) (c : Content) (f rest : Forest ℕ) : Forest ℕ → Type 0 where
  stands_behind : {whole : Forest ℕ} → whole ≡ followed front (Node l c f rest) → Behind front l c f rest whole
  is_joined : {whole : Forest ℕ} → ((k : ℕ) → count k whole ≤ count k front + count k rest) → Behind front l c f rest whole

behind : (front : Forest ℕ) (l : ℕ) (c : Content) (f rest : Forest ℕ) → Behind front l c f rest (met front (Node l c f rest))
behind Empty l c f rest = stands_behind refl
behind (Node k (Element m a) g Empty) l c f rest = stands_behind refl
behind (Node k (Comment t) g Empty) l c f rest = stands_behind refl
behind (Node k (Instruction m t) g Empty) l c f rest = stands_behind refl
behind (Node k (Text t) g Empty) l (Element m a) f rest = stands_behind refl
behind (Node k (Text t) g Empty) l (Comment u) f rest = stands_behind refl
behind (Node k (Text t) g Empty) l (Instruction m u) f rest = stands_behind refl
behind (Node k (Text t) g Empty) l (Text u) f rest = is_joined (λ j. omega arith)
behind (Node k d g (Node j e h s)) l c f rest = further (behind (Node j e h s) l c f rest)
  where
    further : {whole : Forest ℕ} → Behind (Node j e h s) l c f rest whole → Behind (Node k d g (Node j e h s)) l c f rest (Node k d g whole)
    further (stands_behind e) = stands_behind (ap (Node k d g) e)
    further (is_joined most) = is_joined (λ i. (let all = most i in omega arith))

-- ---- The tree as it is put in

whole-kept : (n : ℕ) (beside : Option ℕ) (l : ℕ) (c : Content) (f : Forest ℕ) → 1 ≤ count n (kept beside (Node l c f Empty))
    → kept beside (Node l c f Empty) ≡ Node l c f Empty
whole-kept n None l c f some = refl
whole-kept n (Some others) l (Element m a) f some = refl
whole-kept n (Some others) l (Text t) f some = absurd (omega arith)
whole-kept n (Some others) l (Comment t) f some = refl
whole-kept n (Some others) l (Instruction m t) f some = refl

-- not made anew, since what is new has other numbers
put-whole : (n first : ℕ) (keeps : Bool) (beside : Option ℕ) (l : ℕ) (c : Content) (f : Forest ℕ) → n < first
    → 1 ≤ count n (placed same_nodes keeps first (kept beside (Node l c f Empty))).nodes
    → (keeps ≡ true) × ((placed same_nodes keeps first (kept beside (Node l c f Empty))).nodes ≡ Node l c f Empty)
put-whole n first true beside l c f low some = (refl, whole-kept n beside l c f some)
put-whole n first false beside l c f low some =
    let own = plain (kept beside (Node l c f Empty)) in
    let none = added-earlier n first (numbered first own) (numbered-again first first own) low in
    absurd (omega arith)

-- the siblings that it comes to, once it was taken away, and what is around them
pub record Target (document : Document ℕ) (origin to : Spot) (old x next : Found ℕ) (at : Place document origin old x) : Type 0 where
  pub into : Around ℕ
  pub siblings : Forest ℕ
  pub left : filled at.around (met at.before at.after) ≡ filled into siblings
  pub above : next.above ≡ above_in [] into
  pub carried_is : (nodes : Forest ℕ) → carried origin to old nodes document ≡ filled into (inserted (to.position - 1) nodes siblings)

module _ (first : ℕ) (document : Document ℕ) (origin to : Spot) (old x next : Found ℕ) (at : Place document origin old x)
    (c : Target document origin to old x next at) (beside : Option ℕ) (keeps : Bool) (same : keeps ≡ true → scope_at old ≡ scope_at next)
    (once : AreOnce (document.root ∷ labels document.nodes)) (low : AreBelow first (document.root ∷ labels document.nodes)) where
  abbrev put : Forest ℕ
  put = (placed same_nodes keeps first (kept beside (tree at))).nodes

  abbrev put_at : ℕ
  put_at = to.position - 1

  abbrev after : Document ℕ
  after = record { root = document.root; nodes = carried origin to old put document }

  module _ (n : ℕ) (some_gone : 1 ≤ count n old.children) (some_put : 1 ≤ count n put) (some_new : 1 ≤ count n (inserted put_at put c.siblings)) where
    once-there : count n document.nodes ≤ 1
    once-there = let one = once.at n in let sum = occurs-labels (λ m. m == n) document.nodes in omega arith

    there-once : 1 ≤ count n document.nodes
    there-once = let all = ap (count n) at.whole ∙ stands-filled (λ m. m == n) at.around old.children in omega arith

    is-below : n < first
    is-below = by (nat_lt n first) refl
      where
        by : (b : Bool) → nat_lt n first ≡ b → n < first
        by true e = ltb-true n first e
        by false e = absurd (
            let none = low.at n (ltb-false n first e) in
            let sum = occurs-labels (λ m. m == n) document.nodes in
            let some = there-once in
            omega arith
            )

    no-root : (n == document.root) ≡ false
    no-root =
        unlike n document.root (λ e. absurd (
        let own : one_if (document.root == n) ≡ 1 = ap one_if (eq-eqb document.root n (sym e)) in
        let one = once.at n in
        let sum = occurs-labels (λ m. m == n) document.nodes in
        let some = there-once in
        omega arith
        ))

    abbrev WholePut : Type 0
    WholePut = (keeps ≡ true) × (put ≡ tree at)

    whole-put : WholePut
    whole-put = put-whole n first keeps beside at.label at.content at.children is-below some_put

    parts : count n document.nodes
        ≡ stands_around (λ m. m == n) at.around + count n at.before + count n (tree at) + count n at.after
    parts =
        let all = ap (count n) (at.whole ∙ ap (filled at.around) at.siblings)
        ∙ stands-filled (λ m. m == n) at.around (followed at.before (Node at.label at.content at.children at.after)) in
        let siblings = stands-followed (λ m. m == n) at.before (Node at.label at.content at.children at.after) in
        omega arith

    in-tree : 1 ≤ count n (tree at)
    in-tree = let is = ap (count n) whole-put.1 in omega (arith, some_put)

    none-left : stands_around (λ m. m == n) c.into + count n c.siblings ≡ 0
    none-left =
        let is = sym (stands-filled (λ m. m == n) at.around (met at.before at.after)) ∙ ap (count n) c.left
        ∙ stands-filled (λ m. m == n) c.into c.siblings in
        let most = stands-met (λ m. m == n) at.before at.after in
        let all = parts in
        let one = once-there in
        let own = in-tree in
        omega arith

    abbrev front : Forest ℕ
    front = first_siblings put_at c.siblings

    abbrev rear : Forest ℕ
    rear = later_siblings put_at c.siblings

    none-beside : count n front + count n rear ≡ 0
    none-beside =
        let all = sym (stands-followed (λ m. m == n) front rear) ∙ ap (count n) (first-later put_at c.siblings) in
        let none = none-left in
        omega arith

    b : Before at.label at.content at.children rear
    b = before-others at.label at.content at.children rear

    whole-is : inserted put_at put c.siblings ≡ met front (Node at.label b.content at.children b.rest)
    whole-is = ap (λ f. met front (met f rear)) whole-put.1 ∙ ap (met front) b.is

    new-is : after.nodes ≡ filled c.into (met front (Node at.label b.content at.children b.rest))
    new-is = c.carried_is put ∙ ap (filled c.into) whole-is

    scope-same : scope_of root_scope (above_in [] at.around) ≡ scope_of root_scope (above_in [] c.into)
    scope-same = sym (ap (scope_of root_scope) at.above) ∙ same whole-put.0 ∙ ap (scope_of root_scope) c.above

    module _ (left : Change) (children : left.before ≡ sibling_labels old.children) where
      by-front : {whole : Forest ℕ} → Behind front at.label b.content at.children b.rest whole → after.nodes ≡ filled c.into whole
          → 1 ≤ count n whole → StaysIn left n document after
      by-front (is_joined most) is some =
          absurd (let all = most n in let none = none-beside in let fewer = b.fewer n in omega arith)
      by-front (stands_behind e) is some =
          let all = parts in
          let one = once-there in
          let own = in-tree in
          let gone = none-left in
          let beside = none-beside in
          let fewer = b.fewer n in
          record {
            above = above_in [] at.around;
            over = above_in [] c.into;
            label = at.label;
            content = at.content;
            other = b.content;
            children = at.children;
            scope = scope-same;
            sort = b.sort;
            was = holds-in n document at.around at.before at.label at.content at.children at.after
                (at.whole ∙ ap (filled at.around) at.siblings) no-root (omega arith) (omega arith) (omega arith);
            is = holds-in n after c.into front at.label b.content at.children b.rest (is ∙ ap (filled c.into) e) no-root
                (omega arith) (omega arith) (omega arith);
            child = ap (λ ns. is_among (ns ++ left.after) at.label) (children ∙ ap sibling_labels at.siblings)
                ∙ among-followed at.before at.label at.content at.children at.after left.after;
          }

      stays-there : StaysIn left n document after
      stays-there =
          by-front (behind front at.label b.content at.children b.rest) new-is (let is = ap (count n) whole-is in omega (arith, some_new))

  -- ---- What goes with the one change and comes with the other

  abbrev less : Forest ℕ
  less = deleted (origin.position - 1) old.children

  abbrev more : Forest ℕ
  more = inserted put_at put c.siblings

  less-is : less ≡ met at.before at.after
  less-is =
      let positive = at.from in
      let next_position : origin.position - 1 + 1 ≡ origin.position = omega arith in
      ap (λ n. met (first_siblings (origin.position - 1) old.children) (later_siblings n old.children)) next_position
      ∙ (λ i. met (at.first i) (at.later i))

  module _ (n : ℕ) where
    fewer-left : count n less ≤ count n old.children
    fewer-left =
        let is = ap (count n) less-is in
        let most = stands-met (λ m. m == n) at.before at.after in
        let all = ap (count n) at.siblings ∙ stands-followed (λ m. m == n) at.before (Node at.label at.content at.children at.after) in
        omega arith

    -- it was a child or below one, and is not left there
    record Went : Type 0 where
      there_then : 1 ≤ count n old.children
      not_left : count n less ≡ 0

    went : (is_among (without (labels less) (labels old.children)) n || is_among (without (labels old.children) (labels less)) n) ≡ true → Went
    went h = by (is_among (without (labels less) (labels old.children)) n) refl
      where
        olds : occurs (λ m. m == n) (labels old.children) ≡ count n old.children
        olds = occurs-labels (λ m. m == n) old.children

        news : occurs (λ m. m == n) (labels less) ≡ count n less
        news = occurs-labels (λ m. m == n) less

        by : (b : Bool) → is_among (without (labels less) (labels old.children)) n ≡ b → Went
        by true e =
            let t = told-without n (labels less) (labels old.children) e in
            let some = t.0 in
            let none = none-occurs n (labels less) t.1 in
            record { there_then = (let was = olds in omega arith); not_left = (let is = news in omega arith) }
        by false e =
            let t = told-without n (labels old.children) (labels less)
            (or-second (is_among (without (labels less) (labels old.children)) n) (is_among (without (labels old.children) (labels less)) n) e h) in
            let some = t.0 in
            let none = none-occurs n (labels old.children) t.1 in
            let was = olds in
            let is = news in
            let fewer = fewer-left in
            absurd (omega arith)

    -- what is not left is not among the new siblings, so it is put in
    record Came : Type 0 where
      not_there : count n c.siblings ≡ 0
      there_now : 1 ≤ count n more

    came : Went → (is_among (without (labels more) (labels c.siblings)) n || is_among (without (labels c.siblings) (labels more)) n) ≡ true → Came
    came w h = by (is_among (without (labels more) (labels c.siblings)) n) refl
      where
        none : count n c.siblings ≡ 0
        none =
            let was = ap (count n) at.whole ∙ stands-filled (λ m. m == n) at.around old.children in
            let left = sym (stands-filled (λ m. m == n) at.around (met at.before at.after)) ∙ ap (count n) c.left
            ∙ stands-filled (λ m. m == n) c.into c.siblings in
            let is = ap (count n) less-is in
            let one = once.at n in
            let sum = occurs-labels (λ m. m == n) document.nodes in
            let some = w.there_then in
            let gone = w.not_left in
            omega arith

        by : (b : Bool) → is_among (without (labels more) (labels c.siblings)) n ≡ b → Came
        by true e = absurd (
            let t = told-without n (labels more) (labels c.siblings) e in
            let some = t.0 in
            let sum = occurs-labels (λ m. m == n) c.siblings in
            let nothing = none in
            omega arith
            )
        by false e =
            let t = told-without n (labels c.siblings) (labels more)
            (or-second (is_among (without (labels more) (labels c.siblings)) n) (is_among (without (labels c.siblings) (labels more)) n) e h) in
            let some = t.0 in
            let sum = occurs-labels (λ m. m == n) more in
            record { not_there = none; there_now = omega arith }

    pub stays-in : (left : Change) → left.before ≡ sibling_labels old.children
        → (is_among (without (labels less) (labels old.children)) n || is_among (without (labels old.children) (labels less)) n) ≡ true
        → (is_among (without (labels more) (labels c.siblings)) n || is_among (without (labels c.siblings) (labels more)) n) ≡ true
        → StaysIn left n document after
    stays-in left children h g =
        let w = went h in
        let k = came w g in
        let front = first_siblings put_at c.siblings in
        let rear = later_siblings put_at c.siblings in
        let parts = sym (stands-followed (λ m. m == n) front rear) ∙ ap (count n) (first-later put_at c.siblings) in
        let behind_all = stands-met (λ m. m == n) put rear in
        let all = stands-met (λ m. m == n) front (met put rear) in
        let none = k.not_there in
        let some = k.there_now in
        stays-there n w.there_then (omega arith) k.there_now left children
