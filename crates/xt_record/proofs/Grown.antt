-- The trees in a list of records, as more records are added and as a tree is taken over.
use Rattle.std.proofs.Common.{◌≡◌, ℕ, zero, suc, ◌+◌, ◌-◌, ◌<◌, ◌≤◌, inl, inr, List, [], ◌∷◌, ◌++◌, take, drop, length, slice_get, Option, Some, refl, sym, ap, subst, ◌∙◌, append_assoc, append-nil, length-append, arith}
use Rattle.std.proofs.lemmas.List.{map-append}
use Rattle.std.specs.Prelude.{IfSome}
use Rattle.std.specs.declared.rc.Rc.{Rc}
use Rattle.std.specs.declared.alloc.Global.{Global}
use Rattle.spec_meaning.specs.Question.{Question, Answer}
use Rattle.spec_reuse.specs.Among.{IsIn}
use Rattle.spec_node.specs.declared.node_ref.NodeRef.{NodeRef}
use Rattle.xt_record.specs.View.{kept_in, AsksHold}
use Rattle.xt_record.specs.Grown.{value_in, values_of, part_of, AreTrees, IsTreeAt}
use Rattle.xt_record.specs.Sure.{AllHold}
use Rattle.xt_record.specs.Listed.{Listed, records_in, trees_in}
use Rattle.xt_record.specs.Taken.{AllWithin, IsPartOf, IsTaken}
use Rattle.xt_record.specs.declared.entry.Entry.{Entry}
use Rattle.xt_record.specs.declared.record.Record.{Record}
use Rattle.xt_record.specs.declared.tree.Summary.{Summary}
use Rattle.xt_record.specs.declared.tree.Tree.{Tree}
use Rattle.xt_record.proofs.Chaining.{from_more, none_some, some_is}
use Rattle.xt_record.proofs.Pieced.{map_part, part_begins, parts_join}

-- ---- Lists

module _ {A : Type 0} where
  pub drop_front : (xs ys : List A) → drop (length xs) (xs ++ ys) ≡ ys
  drop_front [] ys = refl
  drop_front (x ∷ xs) ys = drop_front xs ys

  pub take_front : (xs ys : List A) → take (length xs) (xs ++ ys) ≡ xs
  take_front [] ys = refl
  take_front (x ∷ xs) ys = ap (λ (zs : List A). x ∷ zs) (take_front xs ys)

  pub get_front : (xs ys : List A) (y : A) → slice_get (xs ++ y ∷ ys) (length xs) ≡ Some y
  get_front [] ys y = refl
  get_front (x ∷ xs) ys y = get_front xs ys y

  pub same_front : (xs ys us vs : List A) → length xs ≡ length us → xs ++ ys ≡ us ++ vs → ys ≡ vs
  same_front xs ys us vs n e =
      sym (drop_front xs ys) ∙ ap (λ m. drop m (xs ++ ys)) n ∙ ap (λ (zs : List A). drop (length us) zs) e ∙ drop_front us vs

  pub own_at : (vs before below after : List A) (own : A) (turn : ℕ) → vs ≡ (before ++ below) ++ own ∷ after → length before + length below ≡ turn
      → slice_get vs turn ≡ Some own
  own_at vs before below after own turn whole is =
      ap (λ (xs : List A). slice_get xs turn) whole
      ∙ ap (λ n. slice_get ((before ++ below) ++ own ∷ after) n) (sym (length-append before below ∙ is)) ∙ get_front (before ++ below) after own

  -- a list parted at a place
  pub record Parts (xs : List A) (n : ℕ) : Type 0 where
    pub front : List A
    pub rest : List A
    pub are : xs ≡ front ++ rest
    pub many : length front ≡ n

  pub parted : (xs : List A) (n : ℕ) → n ≤ length xs → Parts xs n
  parted xs zero h = record { front = []; rest = xs; are = refl; many = refl }
  parted [] (suc n) h = absurd (omega arith)
  parted (x ∷ xs) (suc n) h =
      let p = parted xs n (omega (arith, h)) in
      record { front = x ∷ p.front; rest = p.rest; are = ap (λ (zs : List A). x ∷ zs) p.are; many = omega (arith, p.many) }

  pub in_front : (x : A) (xs ys : List A) → IsIn x xs → IsIn x (xs ++ ys)
  in_front x [] ys h = absurd h
  in_front x (y ∷ xs) ys (inl e) = inl e
  in_front x (y ∷ xs) ys (inr h) = inr (in_front x xs ys h)

  pub in_rest : (x : A) (xs ys : List A) → IsIn x ys → IsIn x (xs ++ ys)
  in_rest x [] ys h = h
  in_rest x (y ∷ xs) ys h = inr (in_rest x xs ys h)

-- ---- Records whose questions have their answers

module _ (ask : Question NodeRef → Answer NodeRef) where
  abbrev pub HoldAll : List Record → Type 0
  HoldAll [] = Unit {0}
  HoldAll (v ∷ vs) = AsksHold ask (kept_in v).trace × HoldAll vs

  pub hold_values : (rs : List (Rc Record Global)) → AllHold ask rs → HoldAll (values_of rs)
  hold_values [] h = tt
  hold_values (r ∷ rs) h = (h.0, hold_values rs h.1)

  pub hold_handles : (rs : List (Rc Record Global)) → HoldAll (values_of rs) → AllHold ask rs
  hold_handles [] h = tt
  hold_handles (r ∷ rs) h = (h.0, hold_handles rs h.1)

  pub hold_both : (xs ys : List Record) → HoldAll xs → HoldAll ys → HoldAll (xs ++ ys)
  hold_both [] ys h k = k
  hold_both (x ∷ xs) ys h k = (h.0, hold_both xs ys h.1 k)

-- ---- One more

pub values_more : (rs : List (Rc Record Global)) (r : Rc Record Global) → values_of (rs ++ r ∷ []) ≡ values_of rs ++ r.value ∷ []
values_more rs r = map-append value_in rs (r ∷ [])

pub values_count : (rs : List (Rc Record Global)) → length (values_of rs) ≡ length rs
values_count [] = refl
values_count (r ∷ rs) = omega (arith, values_count rs)

pub values_at : (rs : List (Rc Record Global)) (n : ℕ) (r : Rc Record Global) → slice_get rs n ≡ Some r → slice_get (values_of rs) n ≡ Some r.value
values_at [] n r at = absurd (none_some at)
values_at (x ∷ rs) zero r at = ap (λ (y : Rc Record Global). Some y.value) (some_is at)
values_at (x ∷ rs) (suc n) r at = values_at rs n r at

tree_more : (vs more : List Record) (turn size : ℕ) (w : Summary) → IsTreeAt vs turn size w → IsTreeAt (vs ++ more) turn size w
tree_more vs more turn size w h = record {
  before = h.before;
  below = h.below;
  after = h.after ++ more;
  own = h.own;
  parts = ap (λ (xs : List Record). xs ++ more) h.parts ∙ append_assoc h.before (h.below ++ h.own ∷ h.after) more
      ∙ ap (λ (xs : List Record). h.before ++ xs) (append_assoc h.below (h.own ∷ h.after) more);
  turn_is = h.turn_is;
  size_is = h.size_is;
  whole = h.whole;
}

-- a tree is added for the record that is
pub trees_more : (vs all : List Record) (v : Record) (ts now : List Tree) (t : Tree) → all ≡ vs ++ v ∷ [] → now ≡ ts ++ t ∷ []
    → ((w : Rc Summary Global) → t.whole ≡ Some w → IsTreeAt (vs ++ v ∷ []) (length ts) t.size w.value) → AreTrees vs ts → AreTrees all now
trees_more vs all v ts now t more_records more_trees new h =
    let Both : List Record → List Tree → Type 0 = λ xs ys. AreTrees xs ys in
    let added : AreTrees (vs ++ v ∷ []) (ts ++ t ∷ []) = λ turn x w here whole.
    from_more ts t x turn here (λ was. tree_more vs (v ∷ []) turn x.size w.value (h turn x w was whole))
    (λ e is.
    let T : Tree → Type 0 = λ y. IsTreeAt (vs ++ v ∷ []) (length ts) y.size w.value in
    let so = subst T is (new w (ap (λ (y : Tree). y.whole) is ∙ whole)) in
    subst (λ n. IsTreeAt (vs ++ v ∷ []) n x.size w.value) (sym e) so) in
    subst (λ (xs : List Record). Both xs now) (sym more_records) (subst (λ (ys : List Tree). Both (vs ++ v ∷ []) ys) (sym more_trees) added)

-- ---- A tree is taken over

-- what stands from one place up to another
part_between : (front middle rest : List Record) → part_of (length front) (length middle) (front ++ (middle ++ rest)) ≡ middle
part_between front middle rest = ap (λ (xs : List Record). take (length middle) xs) (drop_front front (middle ++ rest)) ∙ take_front middle rest

pub part_next : (vs : List Record) (first count n : ℕ) (v : Record) → n ≡ first + count → slice_get vs n ≡ Some v
    → part_of first (suc count) vs ≡ part_of first count vs ++ v ∷ []
part_next [] first count n v e at = absurd (none_some at)
part_next (x ∷ vs) zero zero zero v e at = ap (λ (y : Record). y ∷ []) (some_is at)
part_next (x ∷ vs) zero zero (suc n) v e at = absurd (omega (arith, e))
part_next (x ∷ vs) zero (suc count) zero v e at = absurd (omega (arith, e))
part_next (x ∷ vs) zero (suc count) (suc n) v e at = ap (λ (ys : List Record). x ∷ ys) (part_next vs zero count n v (omega (arith, e)) at)
part_next (x ∷ vs) (suc first) count zero v e at = absurd (omega (arith, e))
part_next (x ∷ vs) (suc first) count (suc n) v e at = part_next vs first count n v (omega (arith, e)) at

module _ (others : List Record) where
  -- the records of a tree
  pub part_tree : (turn size : ℕ) (w : Summary) (h : IsTreeAt others turn size w)
      → part_of (suc turn - size) (suc turn - (suc turn - size)) others ≡ h.below ++ h.own ∷ []
  part_tree turn size w h =
      let tree = h.below ++ h.own ∷ [] in
      let first : suc turn - size ≡ length h.before = omega (arith, h.turn_is, h.size_is) in
      let many : suc turn - (suc turn - size) ≡ length tree =
      omega (arith, h.turn_is, h.size_is, length-append h.below (h.own ∷ [])) in
      let all : others ≡ h.before ++ (tree ++ h.after) =
      h.parts ∙ ap (λ (xs : List Record). h.before ++ xs) (sym (append_assoc h.below (h.own ∷ []) h.after)) in
      ap (λ n. part_of n (suc turn - (suc turn - size)) others) first ∙ ap (λ n. part_of (length h.before) n others) many
      ∙ ap (λ (xs : List Record). part_of (length h.before) (length tree) xs) all ∙ part_between h.before tree h.after

  -- a tree that begins no sooner than what is taken over stands there too
  pub tree_taken : (first at size : ℕ) (w : Summary) (v : Record) (old vs : List Record) → first ≤ at → size ≤ suc (at - first)
      → vs ≡ old ++ part_of first (at - first) others → slice_get others at ≡ Some v → IsTreeAt others at size w
      → IsTreeAt (vs ++ v ∷ []) (length vs) size w
  tree_taken first at size w v old vs le inside so here h =
      let p = parted h.before first (omega (arith, h.turn_is, h.size_is, inside, le)) in
      let middle = p.rest ++ h.below in
      let all : others ≡ p.front ++ (middle ++ h.own ∷ h.after) =
      h.parts ∙ ap (λ (xs : List Record). xs ++ (h.below ++ h.own ∷ h.after)) p.are ∙ append_assoc p.front p.rest (h.below ++ h.own ∷ h.after)
      ∙ ap (λ (xs : List Record). p.front ++ xs) (sym (append_assoc p.rest h.below (h.own ∷ h.after))) in
      let before_is : length h.before ≡ first + length p.rest =
      ap (λ (xs : List Record). length xs) p.are ∙ length-append p.front p.rest ∙ ap (λ n. n + length p.rest) p.many in
      let many : at - first ≡ length middle = omega (arith, before_is, h.turn_is, length-append p.rest h.below) in
      let part : part_of first (at - first) others ≡ middle =
      ap (λ n. part_of n (at - first) others) (sym p.many) ∙ ap (λ n. part_of (length p.front) n others) many
      ∙ ap (λ (xs : List Record). part_of (length p.front) (length middle) xs) all ∙ part_between p.front middle (h.own ∷ h.after) in
      let is : vs ≡ (old ++ p.rest) ++ h.below = so ∙ ap (λ (xs : List Record). old ++ xs) part ∙ sym (append_assoc old p.rest h.below) in
      let whole : others ≡ (h.before ++ h.below) ++ h.own ∷ h.after = h.parts ∙ sym (append_assoc h.before h.below (h.own ∷ h.after)) in
      let own_here : slice_get others at ≡ Some h.own = own_at others h.before h.below h.after h.own at whole h.turn_is in
      let own : h.own ≡ v = some_is (sym own_here ∙ here) in
      record {
        before = old ++ p.rest;
        below = h.below;
        after = [];
        own = h.own;
        parts = ap (λ (y : Record). vs ++ y ∷ []) (sym own) ∙ ap (λ (xs : List Record). xs ++ h.own ∷ []) is
            ∙ append_assoc (old ++ p.rest) h.below (h.own ∷ []);
        turn_is = sym (length-append (old ++ p.rest) h.below) ∙ ap (λ (xs : List Record). length xs) (sym is);
        size_is = h.size_is;
        whole = h.whole;
      }

  -- the next is added
  pub trees_taken : (given : List Tree) (first at : ℕ) (t : Tree) (v : Record) (old vs all : List Record) (ts now : List Tree) → first ≤ at
      → vs ≡ old ++ part_of first (at - first) others → slice_get others at ≡ Some v → slice_get given at ≡ Some t
      → length ts ≡ length vs → all ≡ vs ++ v ∷ [] → IsTaken first at t ts now → AreTrees others given → AreTrees vs ts → AreTrees all now
  trees_taken given first at t v old vs all ts now le so here tree paired more_records taken there h =
      trees_more vs all v ts now taken.tree more_records taken.added
      (λ w whole.
      let shared = taken.whole w whole in
      let was : IsTreeAt others at t.size shared.0.value = there at t shared.0 tree shared.1 in
      let here_too : IsTreeAt others at taken.tree.size w.value =
      subst (λ n. IsTreeAt others at n w.value) (sym taken.size) (subst (λ (x : Summary). IsTreeAt others at t.size x) shared.2 was) in
      subst (λ n. IsTreeAt (vs ++ v ∷ []) n taken.tree.size w.value) (sym paired)
      (tree_taken first at taken.tree.size w.value v old vs le (taken.inside w whole) so here here_too)) h

-- ---- One step of it

pub record Stands {A : Type 0} (xs : List A) (n : ℕ) : Type 0 where
  pub item : A
  pub here : slice_get xs n ≡ Some item

pub there : {A : Type 0} (xs : List A) (n : ℕ) → n < length xs → Stands xs n
there [] n lt = absurd (omega (arith, lt))
there (x ∷ xs) zero lt = record { item = x; here = refl }
there (x ∷ xs) (suc n) lt = let h = there xs n (omega (arith, lt)) in record { item = h.item; here = h.here }

pub at_item : {A : Type 0} (P : A → Type 0) (o : Option A) (x : A) → o ≡ Some x → IfSome o P → P x
at_item {A = A} P o x e h = let Q : Option A → Type 0 = λ y. IfSome y P in subst Q e h

-- what one step of taking over leaves, from a turn up to an end
pub record IsStep (others : List Record) (given : List Tree) (first at end : ℕ) (mid now : List Record) (ts now_trees : List Tree) : Type 0 where
  pub records : now ≡ mid ++ part_of at (end - at) others
  pub trees : (old : List Record) → mid ≡ old ++ part_of first (at - first) others → AreTrees others given → AreTrees mid ts → AreTrees now now_trees

pub one_step : (others : List (Rc Record Global)) (given : List Tree) (first at end : ℕ) (mid now : List (Rc Record Global)) (ts now_trees : List Tree)
    → first ≤ at → at < length others → end ≡ suc at → length given ≡ length others → length ts ≡ length mid
    → IfSome (slice_get others at) (λ r. values_of now ≡ values_of mid ++ r.value ∷ [])
    → IfSome (slice_get given at) (λ t. IsTaken first at t ts now_trees)
    → IsStep (values_of others) given first at end (values_of mid) (values_of now) ts now_trees
one_step others given first at end mid now ts now_trees le lt next even paired more taken =
    let r = there others at lt in
    let t = there given at (omega (arith, lt, even)) in
    let v = r.item.value in
    let here = values_at others at r.item r.here in
    let more_records : values_of now ≡ values_of mid ++ v ∷ [] =
    at_item (λ (x : Rc Record Global). values_of now ≡ values_of mid ++ x.value ∷ []) (slice_get others at) r.item r.here more in
    let took : IsTaken first at t.item ts now_trees =
    at_item (λ (x : Tree). IsTaken first at x ts now_trees) (slice_get given at) t.item t.here taken in
    let one : part_of at (end - at) (values_of others) ≡ v ∷ [] =
    ap (λ n. part_of at n (values_of others)) (count at end next) ∙ part_next (values_of others) at 0 at v (omega arith) here in
    record {
      records = more_records ∙ ap (λ (xs : List Record). values_of mid ++ xs) (sym one);
      trees = λ old so. trees_taken (values_of others) given first at t.item v old (values_of mid) (values_of now) ts now_trees le so here t.here
          (paired ∙ sym (values_count mid)) more_records took;
    }
  where
    count : (m n : ℕ) → n ≡ suc m → n - m ≡ suc 0
    count m n e = omega (arith, e)

-- those that are shared are added one after another
pieces_taken : (others : List Record) (given : List Tree) (first : ℕ) (old : List Record) → AreTrees others given
    → (q : List Entry) (at : ℕ) (vs : List Record) (ts : List Tree) → first ≤ at → vs ≡ old ++ part_of first (at - first) others
    → length ts ≡ length vs → take (length q) (drop at others) ≡ values_of (records_in q) → take (length q) (drop at given) ≡ trees_in q
    → AllWithin (at - first) q → AreTrees vs ts → AreTrees (vs ++ values_of (records_in q)) (ts ++ trees_in q)
pieces_taken others given first old all [] at vs ts le so paired records trees inside h =
    let Both : List Record → List Tree → Type 0 = λ xs ys. AreTrees xs ys in
    subst (λ (xs : List Record). Both xs (ts ++ [])) (sym (append-nil vs)) (subst (λ (ys : List Tree). Both vs ys) (sym (append-nil ts)) h)
pieces_taken others given first old all (e ∷ q) at vs ts le so paired records trees inside h =
    let v = e.record.value in
    let t = e.tree in
    let rest = values_of (records_in q) in
    let below = trees_in q in
    let record_here = part_begins others at (length q) v rest records in
    let tree_here = part_begins given at (length q) t below trees in
    let taken : IsTaken first at t ts (ts ++ t ∷ []) = record {
      tree = t;
      added = refl;
      size = refl;
      whole = λ w is. (w, is, refl);
      inside = λ w is. let few = inside 0 e w refl is in omega (arith, few);
    } in
    let one = trees_taken others given first at t v old vs (vs ++ v ∷ []) ts (ts ++ t ∷ []) le so record_here.0 tree_here.0 paired refl taken all h in
    let so_far : vs ++ v ∷ [] ≡ old ++ part_of first (suc at - first) others =
    ap (λ (xs : List Record). xs ++ v ∷ []) so ∙ append_assoc old (part_of first (at - first) others) (v ∷ [])
    ∙ ap (λ (xs : List Record). old ++ xs) (sym (part_next others first (at - first) at v (omega (arith, le)) record_here.0))
    ∙ ap (λ n. old ++ part_of first n others) (count le) in
    let even : length (ts ++ t ∷ []) ≡ length (vs ++ v ∷ []) = omega (arith, paired, length-append ts (t ∷ []), length-append vs (v ∷ [])) in
    let all_here = pieces_taken others given first old all q (suc at) (vs ++ v ∷ []) (ts ++ t ∷ []) (omega (arith, le)) so_far even record_here.1
    tree_here.1 (λ n x w here is. let few = inside (suc n) x w here is in omega (arith, few, le)) one in
    let Both : List Record → List Tree → Type 0 = λ xs ys. AreTrees xs ys in
    subst (λ (xs : List Record). Both xs (ts ++ t ∷ below)) (append_assoc vs (v ∷ []) rest)
    (subst (λ (ys : List Tree). Both ((vs ++ v ∷ []) ++ rest) ys) (append_assoc ts (t ∷ []) below) all_here)
  where
    count : first ≤ at → suc (at - first) ≡ suc at - first
    count few = omega (arith, few)

pub piece_step : (pool : Listed) (first at end bound : ℕ) (q : List Entry) (mid now : List (Rc Record Global)) (ts now_trees : List Tree)
    → first ≤ at → end ≡ at + length q → length ts ≡ length mid → IsPartOf first at bound pool q → now ≡ mid ++ records_in q
    → now_trees ≡ ts ++ trees_in q
    → IsStep (values_of pool.records.items) pool.trees.items first at end (values_of mid) (values_of now) ts now_trees
piece_step pool first at end bound q mid now ts now_trees le next paired part more more_trees =
    let others = values_of pool.records.items in
    let given = pool.trees.items in
    let n = length q in
    let added : values_of now ≡ values_of mid ++ values_of (records_in q) =
    ap (λ (rs : List (Rc Record Global)). values_of rs) more ∙ map-append value_in mid (records_in q) in
    let shared : values_of (records_in q) ≡ part_of at n others =
    ap (λ (rs : List (Rc Record Global)). values_of rs) part.records ∙ map_part value_in pool.records.items at n in
    let Both : List Record → List Tree → Type 0 = λ xs ys. AreTrees xs ys in
    record {
      records = added ∙ ap (λ (xs : List Record). values_of mid ++ xs) (shared ∙ ap (λ m. part_of at m others) (count at n end next));
      trees = λ old so all h.
          let taken = pieces_taken others given first old all q at (values_of mid) ts le so (paired ∙ sym (values_count mid)) (sym shared)
          (sym part.trees) part.inside h in
          subst (λ (xs : List Record). Both xs now_trees) (sym added)
          (subst (λ (ys : List Tree). Both (values_of mid ++ values_of (records_in q)) ys) (sym more_trees) taken);
    }
  where
    count : (m k e : ℕ) → e ≡ m + k → k ≡ e - m
    count m k e is = omega (arith, is)

-- steps that follow each other
pub taken_on : (others old mid now : List Record) (first at end : ℕ) → first ≤ at → at ≤ end → mid ≡ old ++ part_of first (at - first) others
    → now ≡ mid ++ part_of at (end - at) others → now ≡ old ++ part_of first (end - first) others
taken_on others old mid now first at end le up_to so step =
    step ∙ ap (λ (xs : List Record). xs ++ part_of at (end - at) others) so
    ∙ append_assoc old (part_of first (at - first) others) (part_of at (end - at) others)
    ∙ ap (λ (xs : List Record). old ++ xs) (parts_join others first at end le up_to)
