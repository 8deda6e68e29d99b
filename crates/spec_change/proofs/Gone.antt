-- The numbers that a change takes away and brings, by what stands between the siblings that stay.
use Rattle.std.proofs.Common.{◌≡◌, ◌≤◌, ◌<◌, arith, ℕ, zero, suc, ◌+◌, ◌==◌, Bool, true, false, not, cond, List, [], ◌∷◌, ◌++◌, Some}
use Rattle.std.proofs.Common.{refl, sym, ap, ◌∙◌, eq-eqb}
use Rattle.std.specs.Prelude.{Ok, ◌&&◌, nat_le, nat_lt}
use Rattle.std.specs.List.{filter, list_all}
use Rattle.std.specs.Option.{option_map, option_and_then}
use Rattle.std.proofs.lemmas.Bool.{leb-false, ltb-false, ltb-true}
use Rattle.std.proofs.lemmas.List.{append-nil}
use Rattle.std.proofs.lemmas.List.Elements.{filter-append}
use Rattle.spec_document.specs.Forest.{Forest, Document, labels}
use Rattle.spec_document.specs.Place.{root_of, node_at}
use Rattle.spec_edit.specs.Edit.{Edit, Edited, edited_nodes}
use Rattle.spec_change.specs.Change.{SaysWhatIsGone, changes_attributes, changed_path, passed, sibling_labels, is_among, without}
use Rattle.spec_change.specs.Change.{change_between, change_at, change_of}
use Rattle.spec_edit.proofs.Numbers.{one_if, occurs, occurs-append, occurs-labels, among-none, none-among, AreOnce, AreBelow}
use Rattle.spec_change.proofs.Branches.{Branch, branches, flat, flat-branches, flat-append}
use Rattle.spec_change.proofs.Changing.{IsChanged, changes}

-- ---- Numbers among others

here-once : (n : ℕ) → one_if (n == n) ≡ 1
here-once n = ap one_if (eq-eqb n n refl)

pub some-among : (n : ℕ) (ns : List ℕ) → 1 ≤ occurs (λ m. m == n) ns → is_among ns n ≡ true
some-among n ns h = by (is_among ns n) refl
  where
    by : (b : Bool) → is_among ns n ≡ b → is_among ns n ≡ true
    by true e = e
    by false e = absurd (let none = among-none n ns e in omega arith)

among-some : (n : ℕ) (ns : List ℕ) → is_among ns n ≡ true → 1 ≤ occurs (λ m. m == n) ns
among-some n ns h = by (occurs (λ m. m == n) ns) refl
  where
    by : (k : ℕ) → occurs (λ m. m == n) ns ≡ k → 1 ≤ k
    by zero e = absurd (let none : true ≡ false = sym h ∙ none-among n ns e in cc)
    by (suc k) e = omega arith

filter-all : (test : ℕ → Bool) (ns : List ℕ) → ((n : ℕ) → 1 ≤ occurs (λ m. m == n) ns → test n ≡ true) → filter test ns ≡ ns
filter-all test [] h = refl
filter-all test (n ∷ ns) h =
    let own = here-once n in
    (λ i. cond (h n (omega arith) i) (n ∷ filter test ns) (filter test ns))
    ∙ ap (λ ks. n ∷ ks) (filter-all test ns (λ k some. h k (omega arith)))

filter-none : (test : ℕ → Bool) (ns : List ℕ) → ((n : ℕ) → 1 ≤ occurs (λ m. m == n) ns → test n ≡ false) → filter test ns ≡ []
filter-none test [] h = refl
filter-none test (n ∷ ns) h =
    let own = here-once n in
    (λ i. cond (h n (omega arith) i) (n ∷ filter test ns) (filter test ns)) ∙ filter-none test ns (λ k some. h k (omega arith))

-- of a list in three parts those that pass, where these are the middle
middle : (test : ℕ → Bool) (f g s : List ℕ) → filter test f ≡ [] → filter test g ≡ g → filter test s ≡ [] → filter test (f ++ (g ++ s)) ≡ g
middle test f g s none all last =
    filter-append test f (g ++ s) ∙ ap (λ ks. filter test f ++ ks) (filter-append test g s)
    ∙ (λ i. none i ++ (all i ++ last i)) ∙ append-nil g

module _ (first : ℕ) (f g b s : List ℕ)
    (once : (n : ℕ) → occurs (λ m. m == n) (f ++ (g ++ s)) ≤ 1)
    (low : (n : ℕ) → first ≤ n → occurs (λ m. m == n) (f ++ (g ++ s)) ≡ 0)
    (fresh : (n : ℕ) → n < first → occurs (λ m. m == n) b ≡ 0) where
  sum : (n : ℕ) (xs ys zs : List ℕ) → occurs (λ m. m == n) (xs ++ (ys ++ zs)) ≡ occurs (λ m. m == n) xs + (occurs (λ m. m == n) ys + occurs (λ m. m == n) zs)
  sum n xs ys zs = let outer = occurs-append (λ m. m == n) xs (ys ++ zs) in let inner = occurs-append (λ m. m == n) ys zs in omega arith

  earlier : (n : ℕ) → 1 ≤ occurs (λ m. m == n) (f ++ (g ++ s)) → n < first
  earlier n some = by (nat_lt n first) refl
    where
      by : (c : Bool) → nat_lt n first ≡ c → n < first
      by true e = ltb-true n first e
      by false e = absurd (let none = low n (ltb-false n first e) in omega arith)

  later : (n : ℕ) → 1 ≤ occurs (λ m. m == n) b → first ≤ n
  later n some = by (nat_lt n first) refl
    where
      by : (c : Bool) → nat_lt n first ≡ c → first ≤ n
      by true e = absurd (let none = fresh n (ltb-true n first e) in omega arith)
      by false e = ltb-false n first e

  are-gone : without (f ++ (b ++ s)) (f ++ (g ++ s)) ≡ g
  are-gone =
      middle (λ n. not (is_among (f ++ (b ++ s)) n)) f g s
      (filter-none _ f (λ n some. (
      let new = sum n f b s in ap not (some-among n (f ++ (b ++ s)) (omega arith))
      )))
      (filter-all _ g (λ n some. (
      let old = sum n f g s in
      let new = sum n f b s in
      let most = once n in
      let none = fresh n (earlier n (omega arith)) in
      ap not (none-among n (f ++ (b ++ s)) (omega arith))
      )))
      (filter-none _ s (λ n some. (
      let new = sum n f b s in ap not (some-among n (f ++ (b ++ s)) (omega arith))
      )))

  are-brought : without (f ++ (g ++ s)) (f ++ (b ++ s)) ≡ b
  are-brought =
      middle (λ n. not (is_among (f ++ (g ++ s)) n)) f b s
      (filter-none _ f (λ n some. (
      let old = sum n f g s in ap not (some-among n (f ++ (g ++ s)) (omega arith))
      )))
      (filter-all _ b (λ n some. ap not (none-among n (f ++ (g ++ s)) (low n (later n some)))))
      (filter-none _ s (λ n some. (
      let old = sum n f g s in ap not (some-among n (f ++ (g ++ s)) (omega arith))
      )))

from_first : (first : ℕ) (ns : List ℕ) → ((n : ℕ) → n < first → occurs (λ m. m == n) ns ≡ 0) → list_all (λ n. nat_le first n) ns ≡ true
from_first first [] h = refl
from_first first (n ∷ ns) h = by (nat_le first n) refl (from_first first ns (λ k low. let none = h k low in omega arith))
  where
    by : (b : Bool) → nat_le first n ≡ b → list_all (λ m. nat_le first m) ns ≡ true → (nat_le first n && list_all (λ m. nat_le first m) ns) ≡ true
    by true e rest = (λ i. e i && list_all (λ m. nat_le first m) ns) ∙ rest
    by false e rest = absurd (let none = h n (leb-false first n e) in let own = here-once n in omega arith)

-- ---- The change of an edit

abbrev pub after_edit : Document ℕ → Edited ℕ → Document ℕ
after_edit document new = record { root = document.root; nodes = new.nodes }

-- the change that an edit makes, where what is gone and brought stands between siblings that stay
pub record Told (first : ℕ) (edit : Edit) (document : Document ℕ) (new : Edited ℕ) : Type 0 where
  pub path : List ℕ
  pub path_is : changed_path edit ≡ Some path
  pub changed : IsChanged first path document new
  -- the numbers below the node were distinct, and below the first
  pub once : (n : ℕ) → occurs (λ m. m == n) (labels changed.was.children) ≤ 1
  pub low : (n : ℕ) → first ≤ n → occurs (λ m. m == n) (labels changed.was.children) ≡ 0
  pub change_is : change_of edit document (after_edit document new) ≡ Some (record {
    of_attributes = changes_attributes edit;
    node = changed.was.label;
    above = passed path (root_of document);
    before = sibling_labels changed.was.children;
    after = sibling_labels changed.now.children;
    gone = flat changed.parted.gone;
    brought = flat changed.parted.brought;
  })

three : (f g s : List Branch) → flat (f ++ (g ++ s)) ≡ flat f ++ (flat g ++ flat s)
three f g s = flat-append f (g ++ s) ∙ ap (λ ns. flat f ++ ns) (flat-append g s)

labels-three : (children : Forest ℕ) (f g s : List Branch) → branches children ≡ f ++ (g ++ s) → labels children ≡ flat f ++ (flat g ++ flat s)
labels-three children f g s e = sym (flat-branches children) ∙ ap flat e ∙ three f g s

module _ (first : ℕ) (edit : Edit) (document : Document ℕ) (new : Edited ℕ) (e : edited_nodes first edit document ≡ Ok new)
    (once : AreOnce (document.root ∷ labels document.nodes)) (low : AreBelow first (document.root ∷ labels document.nodes)) where
  pub told : Told first edit document new
  told =
      let c = changes first edit document new e in
      let d = c.changed in
      let p = d.parted in
      let old : labels d.was.children ≡ flat p.front ++ (flat p.gone ++ flat p.behind) = labels-three d.was.children p.front p.gone p.behind p.old_is in
      let now : labels d.now.children ≡ flat p.front ++ (flat p.brought ++ flat p.behind) = labels-three d.now.children p.front p.brought p.behind p.new_is in
      let below_once : (n : ℕ) → occurs (λ m. m == n) (labels d.was.children) ≤ 1 = λ n. (
      let most = once.at n in
      let whole = occurs-labels (λ m. m == n) document.nodes in
      let inside = occurs-labels (λ m. m == n) d.was.children in
      let parts = d.was_stands (λ m. m == n) in
      omega arith
      ) in
      let below_low : (n : ℕ) → first ≤ n → occurs (λ m. m == n) (labels d.was.children) ≡ 0 = λ n h. (
      let none = low.at n h in
      let whole = occurs-labels (λ m. m == n) document.nodes in
      let inside = occurs-labels (λ m. m == n) d.was.children in
      let parts = d.was_stands (λ m. m == n) in
      omega arith
      ) in
      let all_once : (n : ℕ) → occurs (λ m. m == n) (flat p.front ++ (flat p.gone ++ flat p.behind)) ≤ 1 = λ n. (
      let same = ap (occurs (λ m. m == n)) old in let most = below_once n in omega arith
      ) in
      let all_low : (n : ℕ) → first ≤ n → occurs (λ m. m == n) (flat p.front ++ (flat p.gone ++ flat p.behind)) ≡ 0 = λ n h. (
      let same = ap (occurs (λ m. m == n)) old in let none = below_low n h in omega arith
      ) in
      let gone : without (labels d.now.children) (labels d.was.children) ≡ flat p.gone =
      (λ i. without (now i) (old i)) ∙ are-gone first (flat p.front) (flat p.gone) (flat p.brought) (flat p.behind) all_once all_low p.fresh in
      let brought : without (labels d.was.children) (labels d.now.children) ≡ flat p.brought =
      (λ i. without (old i) (now i)) ∙ are-brought first (flat p.front) (flat p.gone) (flat p.brought) (flat p.behind) all_once all_low p.fresh in
      let later = after_edit document new in
      let of_attributes = changes_attributes edit in
      let above = passed c.path (root_of document) in
      record {
        path = c.path;
        path_is = c.path_is;
        changed = d;
        once = below_once;
        low = below_low;
        change_is = ap (option_and_then (change_at of_attributes document later)) c.path_is
            ∙ ap (option_and_then (λ was. option_map (change_between of_attributes above was) (node_at later c.path))) d.was_at
            ∙ ap (option_map (change_between of_attributes above d.was)) d.now_at
            ∙ (λ i. Some (record {
              of_attributes = of_attributes;
              node = d.was.label;
              above = above;
              before = sibling_labels d.was.children;
              after = sibling_labels d.now.children;
              gone = gone i;
              brought = brought i;
            }));
      }

  -- what is told is all: each number of the old document is gone or stays, and what is new is brought
  pub says : (t : Told first edit document new) → SaysWhatIsGone first document (after_edit document new) (record {
    of_attributes = changes_attributes edit;
    node = t.changed.was.label;
    above = passed t.path (root_of document);
    before = sibling_labels t.changed.was.children;
    after = sibling_labels t.changed.now.children;
    gone = flat t.changed.parted.gone;
    brought = flat t.changed.parted.brought;
  })
  says t =
      record {
        stays = λ n some. stays n (among-some n (document.root ∷ labels document.nodes) some) (is_among gone n) refl;
        comes = λ n some. comes n (among-some n (document.root ∷ labels new.nodes) some) (is_among brought n) refl;
        fresh = from_first first (flat t.changed.parted.brought) t.changed.parted.fresh;
      }
    where
      gone : List ℕ
      gone = flat t.changed.parted.gone

      brought : List ℕ
      brought = flat t.changed.parted.brought

      old_count : (n : ℕ) → occurs (λ m. m == n) (document.root ∷ labels document.nodes)
          ≡ one_if (document.root == n) + t.changed.outside (λ m. m == n)
          + (occurs (λ m. m == n) (flat t.changed.parted.front) + (occurs (λ m. m == n) gone + occurs (λ m. m == n) (flat t.changed.parted.behind)))
      old_count n =
          let p = t.changed.parted in
          let whole = occurs-labels (λ m. m == n) document.nodes in
          let inside = occurs-labels (λ m. m == n) t.changed.was.children in
          let parts = t.changed.was_stands (λ m. m == n) in
          let same = ap (occurs (λ m. m == n)) (labels-three t.changed.was.children p.front p.gone p.behind p.old_is) in
          let outer = occurs-append (λ m. m == n) (flat p.front) (flat p.gone ++ flat p.behind) in
          let inner = occurs-append (λ m. m == n) (flat p.gone) (flat p.behind) in
          omega arith

      new_count : (n : ℕ) → occurs (λ m. m == n) (document.root ∷ labels new.nodes)
          ≡ one_if (document.root == n) + t.changed.outside (λ m. m == n)
          + (occurs (λ m. m == n) (flat t.changed.parted.front) + (occurs (λ m. m == n) brought + occurs (λ m. m == n) (flat t.changed.parted.behind)))
      new_count n =
          let p = t.changed.parted in
          let whole = occurs-labels (λ m. m == n) new.nodes in
          let inside = occurs-labels (λ m. m == n) t.changed.now.children in
          let parts = t.changed.now_stands (λ m. m == n) in
          let same = ap (occurs (λ m. m == n)) (labels-three t.changed.now.children p.front p.brought p.behind p.new_is) in
          let outer = occurs-append (λ m. m == n) (flat p.front) (flat p.brought ++ flat p.behind) in
          let inner = occurs-append (λ m. m == n) (flat p.brought) (flat p.behind) in
          omega arith

      -- what is of the old document is below the first, and not brought
      old_kept : (n : ℕ) → 1 ≤ occurs (λ m. m == n) (document.root ∷ labels document.nodes) → occurs (λ m. m == n) brought ≡ 0
      old_kept n some = by (nat_lt n first) refl
        where
          by : (c : Bool) → nat_lt n first ≡ c → occurs (λ m. m == n) (flat t.changed.parted.brought) ≡ 0
          by true e = t.changed.parted.fresh n (ltb-true n first e)
          by false e = absurd (let none = low.at n (ltb-false n first e) in omega arith)

      stays : (n : ℕ) → 1 ≤ occurs (λ m. m == n) (document.root ∷ labels document.nodes) → (b : Bool) → is_among gone n ≡ b
          → is_among (document.root ∷ labels new.nodes) n ≡ not (is_among gone n)
      stays n some true e =
          let went = among-some n gone e in
          let was = old_count n in
          let is = new_count n in
          let most = once.at n in
          let none = old_kept n some in
          none-among n (document.root ∷ labels new.nodes) (omega arith) ∙ ap not (sym e)
      stays n some false e =
          let went = among-none n gone e in
          let was = old_count n in
          let is = new_count n in
          some-among n (document.root ∷ labels new.nodes) (omega arith) ∙ ap not (sym e)

      comes : (n : ℕ) → 1 ≤ occurs (λ m. m == n) (document.root ∷ labels new.nodes) → (b : Bool) → is_among brought n ≡ b
          → is_among (document.root ∷ labels document.nodes) n ≡ not (is_among brought n)
      comes n some true e =
          let old = document.root ∷ labels document.nodes in none-among n old (none (occurs (λ m. m == n) old) refl) ∙ ap not (sym e)
        where
          none : (k : ℕ) → occurs (λ m. m == n) (document.root ∷ labels document.nodes) ≡ k
              → occurs (λ m. m == n) (document.root ∷ labels document.nodes) ≡ 0
          none zero f = f
          none (suc k) f = absurd (let no = old_kept n (omega arith) in let yes = among-some n (flat t.changed.parted.brought) e in omega arith)
      comes n some false e =
          let none = among-none n brought e in
          let was = old_count n in
          let is = new_count n in
          some-among n (document.root ∷ labels document.nodes) (omega arith) ∙ ap not (sym e)
