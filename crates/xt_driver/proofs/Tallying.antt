-- What is counted of one part and then of the next, and of a call.
use Rattle.std.proofs.Common.{◌≡◌, inl, inr, ℕ, suc, ◌+◌, List, [], ◌∷◌, ◌++◌, length, map, Bool, true, false, cond, Option, Some, None, refl, sym}
use Rattle.std.proofs.Common.{ap, subst, ◌∙◌, arith, append_assoc}
use Rattle.std.specs.Prelude.{Box}
use Rattle.std.proofs.lemmas.List.{append-nil, length-append, map-append}
use Rattle.std.specs.declared.alloc.Global.{Global as Allocator}
use Rattle.std.specs.declared.rc.Rc.{Rc}
use Rattle.spec_document.specs.Name.{Expanded}
use Rattle.spec_stylesheet.specs.Place.{Place}
use Rattle.spec_meaning.specs.Context.{Bound}
use Rattle.spec_run.specs.Hold.{GoesOn}
use Rattle.spec_run.specs.Trail.{Kept}
use Rattle.spec_run.specs.Plan.{Call}
use Rattle.spec_run.specs.Meaning.{Setting, Past}
use Rattle.spec_reuse.specs.Among.{IsIn}
use Rattle.spec_reuse.specs.Instantiation.{Instantiation, own_of, kept_of, for_reference, entered, instantiations}
use Rattle.spec_reuse.specs.Serving.{Serves}
use Rattle.spec_reuse.specs.Cost.{Repeats}
use Rattle.spec_reuse.specs.Ledger.{nested_in, nested_but, AllFound, AreOfRun, Enters, EntersFront, HasLike, IsFound}
use Rattle.spec_reuse.proofs.Again.{agrees_self, serves}
use Rattle.spec_reuse.proofs.Counting.{served_asks, one_after_another, some_gone_over, front_then_all, front_then_front, nothing_entered}
use Rattle.spec_reuse.proofs.Counting.{call_counted, record_kept, nested_some}
use Rattle.spec_reuse.proofs.Within.{in_left, in_right, nested_of_run}
use Rattle.spec_node.specs.declared.node_ref.NodeRef.{NodeRef}
use Rattle.xt_engine.specs.declared.event.Ran.{Ran}
use Rattle.xt_record.specs.Grown.{values_of}
use Rattle.xt_record.specs.Search.{next_of, StandOn}
use Rattle.xt_record.specs.View.{kept_in}
use Rattle.xt_record.specs.declared.record.Record.{Record}
use Rattle.xt_record.specs.declared.reuse.Reuse.{Reuse}
use Rattle.xt_record.proofs.Standing.{stand_on}
use Rattle.xt_driver.specs.declared.lost.Lost.{Lost}
use Rattle.xt_driver.specs.declared.lost.Lost.TheVariants as lost
use Rattle.xt_driver.specs.declared.drive.Served.TheVariants as served
use Rattle.xt_driver.specs.Lost.{is_lost}
use Rattle.xt_driver.specs.Remembered.{Entry}
use Rattle.xt_driver.specs.Counted.{Hand, kept_at, kept_by, records_of, KeepsAll, IsMadeToo, IsMadeOf, IsRecorded, AreRecorded, IsReady, IsCounted, Counted}
use Rattle.xt_driver.specs.Counted.{CountedFront, CountsFor, CountsOver, IsWithin, KeepsNext, KeepsOn, KeepsSame, KeepsToo, StaysLikeRun}
use Rattle.xt_driver.specs.Counted.{known_by, CountsServed, CountedRun}
use Rattle.xt_driver.proofs.Completing.{kept_more, keeps_same, keeps_more, within_same, within_more, found_at_hand}
use Rattle.xt_driver.proofs.Completing.{keeps_both, keeps_found, keeps_on, keeps_one, likes_same, likes_more, likes_one}

-- ---- What is remembered

one_later : (s : Setting NodeRef) (values : List (Bound NodeRef)) (before after : List (Kept NodeRef)) (o : Option NodeRef)
    → ((k : Kept NodeRef) → IsIn k before → IsIn k after) → IsRecorded s values before o → IsRecorded s values after o
one_later s values before after None f h = tt
one_later s values before after (Some element) f h = record {
  evaluation = h.evaluation;
  place = h.place;
  more = h.more;
  call = h.call;
  of_run = h.of_run;
  since = h.since;
  ends = h.ends;
  found = λ i m. let k = h.found i m in (k.0, f k.0 k.1, k.2, k.3);
}

pub recorded_later : (s : Setting NodeRef) (values : List (Bound NodeRef)) (before after : List (Kept NodeRef)) (es : List (Entry NodeRef))
    → ((k : Kept NodeRef) → IsIn k before → IsIn k after) → AreRecorded s values before es → AreRecorded s values after es
recorded_later s values before after [] f h = tt
recorded_later s values before after (e ∷ es) f h = (one_later s values before after e.element f h.0, recorded_later s values before after es f h.1)

pub recorded_both : (s : Setting NodeRef) (values : List (Bound NodeRef)) (records : List (Kept NodeRef)) (es others : List (Entry NodeRef))
    → AreRecorded s values records es → AreRecorded s values records others → AreRecorded s values records (es ++ others)
recorded_both s values records [] others h k = k
recorded_both s values records (e ∷ es) others h k = (h.0, recorded_both s values records es others h.1 k)

-- where what was kept stays kept, and is at hand
pub ready_on : (s : Setting NodeRef) (values : List (Bound NodeRef)) (b : Hand) (after : Reuse) → KeepsOn b.reuse after → IsWithin after
    → IsReady s values b → IsReady s values (record { reuse = after; entries = b.entries })
ready_on s values b after on within h = record {
  recorded = recorded_later s values (kept_by b.reuse) (kept_by after) b.entries on h.recorded;
  within = within;
}

-- ---- The records

pub records_more : (before after : Reuse) (more : List (Rc Record Allocator)) → after.last ≡ before.last
    → after.kept.records.items ≡ before.kept.records.items ++ more → records_of after ≡ records_of before ++ map kept_at more
records_more before after more last kept =
    ap (λ l. map kept_at l.now.records.items ++ map kept_at after.kept.records.items) last
    ∙ ap (λ rs. map kept_at before.last.now.records.items ++ map kept_at rs) kept
    ∙ ap (λ ks. map kept_at before.last.now.records.items ++ ks) (map-append kept_at before.kept.records.items more)
    ∙ sym (append_assoc (map kept_at before.last.now.records.items) (map kept_at before.kept.records.items) (map kept_at more))

pub records_same : (before after : Reuse) → after.last ≡ before.last → after.kept.records.items ≡ before.kept.records.items
    → records_of after ≡ records_of before
records_same before after last kept =
    ap (λ l. map kept_at l.now.records.items ++ map kept_at after.kept.records.items) last
    ∙ ap (λ rs. map kept_at before.last.now.records.items ++ map kept_at rs) kept

pub stand_same : (before after : Reuse) → after.last ≡ before.last → after.kept.records.items ≡ before.kept.records.items → StandOn before after
stand_same before after last kept = stand_on before after [] last (kept ∙ sym (append-nil before.kept.records.items))

-- ---- Numbers

pub more_counted : (a b c : Hand) (m n l : ℕ) → l ≡ m + n → IsCounted m a b → IsCounted n b c → IsCounted l a c
more_counted a b c m n l e f g = λ low.
    let first = f low in
    let second = g (omega (arith, first)) in
    omega (arith, first, second, e)

pub none_counted : (a b : Hand) → b.reuse.steps.ran ≡ a.reuse.steps.ran → IsCounted 0 a b
none_counted a b e = λ low. omega (arith, e, low)

-- ---- One part after another

pub counted_then : (s : Setting NodeRef) (values : List (Bound NodeRef)) (is js : List (Instantiation NodeRef)) (a b c : Hand)
    → AreOfRun s (is ++ js) → Counted s values is a b → Counted s values js b c → Counted s values (is ++ js) a c
counted_then s values is js a b c of_run x y = record {
  list = x.list ++ y.list;
  enters = one_after_another s (records_of a.reuse) (records_of b.reuse) (records_of c.reuse) x.list y.list is js of_run x.enters y.enters;
  ran = more_counted a b c (length x.list) (length y.list) (length (x.list ++ y.list)) (length-append x.list y.list) x.ran y.ran;
  stands = λ at r h. y.stands at r (x.stands at r h);
  more = λ k h. y.more k (x.more k h);
  only = λ h. y.only (x.only h);
  keeps = keeps_both s is js b.reuse c.reuse y.more x.keeps y.keeps;
  ready = y.ready;
}

pub front_then : (s : Setting NodeRef) (values : List (Bound NodeRef)) (is : List (Instantiation NodeRef)) (a b c : Hand)
    → AreOfRun s is → CountedFront s values is a b → Counted s values is b c → Counted s values is a c
front_then s values is a b c of_run x y = record {
  list = x.list ++ y.list;
  enters = front_then_all s (records_of a.reuse) (records_of b.reuse) (records_of c.reuse) x.list y.list is of_run x.enters y.enters;
  ran = more_counted a b c (length x.list) (length y.list) (length (x.list ++ y.list)) (length-append x.list y.list) x.ran y.ran;
  stands = λ at r h. y.stands at r (x.stands at r h);
  more = λ k h. y.more k (x.more k h);
  only = λ h. y.only (x.only h);
  keeps = y.keeps;
  ready = y.ready;
}

pub fronts : (s : Setting NodeRef) (values : List (Bound NodeRef)) (is : List (Instantiation NodeRef)) (a b c : Hand)
    → AreOfRun s is → CountedFront s values is a b → CountedFront s values is b c → CountedFront s values is a c
fronts s values is a b c of_run x y = record {
  list = x.list ++ y.list;
  enters = front_then_front s (records_of a.reuse) (records_of b.reuse) (records_of c.reuse) x.list y.list is of_run x.enters y.enters;
  ran = more_counted a b c (length x.list) (length y.list) (length (x.list ++ y.list)) (length-append x.list y.list) x.ran y.ran;
  stands = λ at r h. y.stands at r (x.stands at r h);
  more = λ k h. y.more k (x.more k h);
  only = λ h. y.only (x.only h);
  ready = y.ready;
}

-- nothing more, where records of all are kept for the next run
pub counted_none : (s : Setting NodeRef) (values : List (Bound NodeRef)) (is : List (Instantiation NodeRef)) (reuse : Reuse)
    (old new : List (Entry NodeRef)) → AllFound s (kept_by reuse) is → IsReady s values (record { reuse = reuse; entries = new })
    → Counted s values is (record { reuse = reuse; entries = old }) (record { reuse = reuse; entries = new })
counted_none s values is reuse old new found ready = record {
  list = [];
  enters = nothing_entered s (records_of reuse) is (found_at_hand s reuse is ready.within found);
  ran = none_counted (record { reuse = reuse; entries = old }) (record { reuse = reuse; entries = new }) refl;
  stands = λ at r h. h;
  more = λ k h. h;
  only = λ h. h;
  keeps = keeps_found s is reuse found;
  ready = ready;
}

-- and of a front of nothing
pub front_none : (s : Setting NodeRef) (values : List (Bound NodeRef)) (is : List (Instantiation NodeRef)) (a : Hand) → IsReady s values a
    → CountedFront s values is a a
front_none s values is a ready = record {
  list = [];
  enters = record {
    front = [];
    rest = is;
    parts = refl;
    ended = λ i h. absurd h;
    enters = nothing_entered s (records_of a.reuse) [] (λ i h. absurd h);
  };
  ran = none_counted a a refl;
  stands = λ at r h. h;
  more = λ k h. h;
  only = λ h. h;
  ready = ready;
}

-- ---- A record is kept that was at hand

-- what is kept then is at hand where what was kept is
within_one : (before after : Reuse) (r : Rc Record Allocator) → ((k : Kept NodeRef) → IsIn k (records_of before) → IsIn k (records_of after))
    → IsIn (kept_at r) (records_of before) → next_of after ≡ next_of before ++ r.value ∷ [] → IsWithin before → IsWithin after
within_one before after r on at_hand next within = within_more before after (r.value ∷ []) on new next within
  where
    new : (k : Kept NodeRef) → IsIn k (kept_at r ∷ []) → IsIn k (records_of after)
    new k (inl same) = let P : Kept NodeRef → Type 0 = λ x. IsIn x (records_of after) in subst P (sym same) (on (kept_at r) at_hand)
    new k (inr none) = absurd none

pub kept_on : (s : Setting NodeRef) (values : List (Bound NodeRef)) (is : List (Instantiation NodeRef)) (a b : Hand) (after : Reuse)
    (r : Rc Record Allocator) → Counted s values is a b → IsIn (kept_at r) (records_of b.reuse) → HasLike (instantiations s) (kept_at r).call
    → after.last ≡ b.reuse.last → KeepsToo b.reuse after r → after.steps ≡ b.reuse.steps
    → Counted s values is a (record { reuse = after; entries = b.entries })
kept_on s values is a b after r x at_hand like last too steps =
    let same = records_more b.reuse after (r ∷ []) last too.kept in
    let E : List (Kept NodeRef) → Type 0 = λ ks. Enters s (records_of a.reuse) x.list is ks in
    let on = stand_on b.reuse after (r ∷ []) last too.kept in
    let more = keeps_more b.reuse after (r.value ∷ []) too.next in
    let P : Kept NodeRef → List (Kept NodeRef) → Type 0 = λ k ks. IsIn k ks in
    let still : (k : Kept NodeRef) → IsIn k (records_of b.reuse) → IsIn k (records_of after)
    = λ k m. subst (P k) (sym same) (in_left k (records_of b.reuse) (kept_at r ∷ []) m) in
    record {
      list = x.list;
      enters = subst E (sym same) (record_kept s (records_of a.reuse) (records_of b.reuse) x.list is (kept_at r) x.enters at_hand);
      ran = λ low. let l = x.ran low in ap (λ t. t.ran) steps ∙ l;
      stands = λ at y h. on at y (x.stands at y h);
      more = λ k h. more k (x.more k h);
      only = λ h. likes_one s b.reuse after r.value too.next like (x.only h);
      keeps = keeps_on s is b.reuse after more x.keeps;
      ready = ready_on s values b after more (within_one b.reuse after r still at_hand too.next x.ready.within) x.ready;
    }

-- for the next run alone
pub next_on : (s : Setting NodeRef) (values : List (Bound NodeRef)) (is : List (Instantiation NodeRef)) (a b : Hand) (after : Reuse)
    (r : Rc Record Allocator) → Counted s values is a b → IsIn (kept_at r) (records_of b.reuse) → HasLike (instantiations s) (kept_at r).call
    → after.last ≡ b.reuse.last → KeepsNext b.reuse after r → after.steps ≡ b.reuse.steps
    → Counted s values is a (record { reuse = after; entries = b.entries })
next_on s values is a b after r x at_hand like last too steps =
    let same = records_same b.reuse after last too.kept in
    let E : List (Kept NodeRef) → Type 0 = λ ks. Enters s (records_of a.reuse) x.list is ks in
    let on = stand_same b.reuse after last too.kept in
    let more = keeps_more b.reuse after (r.value ∷ []) too.next in
    let P : Kept NodeRef → List (Kept NodeRef) → Type 0 = λ k ks. IsIn k ks in
    let still : (k : Kept NodeRef) → IsIn k (records_of b.reuse) → IsIn k (records_of after) = λ k m. subst (P k) (sym same) m in
    record {
      list = x.list;
      enters = subst E (sym same) x.enters;
      ran = λ low. let l = x.ran low in ap (λ t. t.ran) steps ∙ l;
      stands = λ at y h. on at y (x.stands at y h);
      more = λ k h. more k (x.more k h);
      only = λ h. likes_one s b.reuse after r.value too.next like (x.only h);
      keeps = keeps_on s is b.reuse after more x.keeps;
      ready = ready_on s values b after more (within_one b.reuse after r still at_hand too.next x.ready.within) x.ready;
    }

-- where nothing is kept, and records may be judged
pub same_on : (s : Setting NodeRef) (values : List (Bound NodeRef)) (is : List (Instantiation NodeRef)) (a b : Hand) (after : Reuse)
    → Counted s values is a b → after.last ≡ b.reuse.last → KeepsSame b.reuse after → after.steps.ran ≡ b.reuse.steps.ran
    → Counted s values is a (record { reuse = after; entries = b.entries })
same_on s values is a b after x last none steps =
    let same = records_same b.reuse after last none.kept in
    let E : List (Kept NodeRef) → Type 0 = λ ks. Enters s (records_of a.reuse) x.list is ks in
    let on = stand_same b.reuse after last none.kept in
    let more = keeps_same b.reuse after none.next in
    record {
      list = x.list;
      enters = subst E (sym same) x.enters;
      ran = λ low. steps ∙ x.ran low;
      stands = λ at y h. on at y (x.stands at y h);
      more = λ k h. more k (x.more k h);
      only = λ h. likes_same s b.reuse after none.next (x.only h);
      keeps = keeps_on s is b.reuse after more x.keeps;
      ready = ready_on s values b after more (within_same b.reuse after same none.next x.ready.within) x.ready;
    }

pub front_on : (s : Setting NodeRef) (values : List (Bound NodeRef)) (is : List (Instantiation NodeRef)) (a b : Hand) (after : Reuse)
    → CountedFront s values is a b → after.last ≡ b.reuse.last → KeepsSame b.reuse after → after.steps.ran ≡ b.reuse.steps.ran
    → CountedFront s values is a (record { reuse = after; entries = b.entries })
front_on s values is a b after x last none steps =
    let same = records_same b.reuse after last none.kept in
    let E : List (Kept NodeRef) → Type 0 = λ ks. EntersFront s (records_of a.reuse) x.list is ks in
    let on = stand_same b.reuse after last none.kept in
    let more = keeps_same b.reuse after none.next in
    record {
      list = x.list;
      enters = subst E (sym same) x.enters;
      ran = λ low. steps ∙ x.ran low;
      stands = λ at y h. on at y (x.stands at y h);
      more = λ k h. more k (x.more k h);
      only = λ h. likes_same s b.reuse after none.next (x.only h);
      ready = ready_on s values b after more (within_same b.reuse after same none.next x.ready.within) x.ready;
    }

-- ---- A call that is run

-- what it does in all, after what was gone along before it
run_whole : (s : Setting NodeRef) (i : Instantiation NodeRef) (l : Lost) (a b c : Hand) → IsIn i (instantiations s)
    → CountsServed (served.Not l) s i a b → CountedRun s i l b c
    → (list : List (Instantiation NodeRef)) × Enters s (records_of a.reuse) list (nested_in s i) (records_of c.reuse)
    × IsCounted (suc (length list)) a c × StandOn a.reuse c.reuse × (¬ (IsFound s (records_of a.reuse) i)) × KeepsAll s (nested_in s i) c.reuse
    × StaysLikeRun s a.reuse c.reuse × KeepsOn a.reuse c.reuse
run_whole s i lost.Nothing a b c h x y =
    let first = x.0.list in (
      first ++ y.list,
      front_then_all s (records_of a.reuse) (records_of b.reuse) (records_of c.reuse) first y.list (nested_in s i)
          (nested_of_run s i h) x.0.enters y.enters,
      more_counted a b c (length first) (suc (length y.list)) (suc (length (first ++ y.list)))
          (let m = length-append first y.list in omega (arith, m)) x.0.ran y.ran,
      λ at r k. y.stands at r (x.0.stands at r k),
      x.1,
      y.keeps,
      λ m. y.only (x.0.only m),
      λ k m. y.more k (x.0.more k m),
    )
run_whole s i (lost.Reference l) a b c h x y =
    let first = x.counted.list in (
      first ++ y.list,
      some_gone_over s (records_of a.reuse) (records_of b.reuse) (records_of c.reuse) first y.list (nested_in s i)
          (nested_but s i (known_by (lost.Reference l) i.below) (own_of s i).going.trace) (nested_of_run s i h)
          (nested_some s i (known_by (lost.Reference l) i.below) (own_of s i).going.trace) x.ends x.counted.enters y.enters,
      more_counted a b c (length first) (suc (length y.list)) (suc (length (first ++ y.list)))
          (let m = length-append first y.list in omega (arith, m)) x.counted.ran y.ran,
      λ at r k. y.stands at r (x.counted.stands at r k),
      λ k. x.none k.0 k.2,
      keeps_on s (nested_in s i) b.reuse c.reuse y.more x.counted.keeps,
      λ m. y.only (x.counted.only m),
      λ k m. y.more k (x.counted.more k m),
    )

-- the records of handles
pub kept_values : (rs : List (Rc Record Allocator)) → map kept_in (values_of rs) ≡ map kept_at rs
kept_values [] = refl
kept_values (r ∷ rs) = ap (λ ks. kept_at r ∷ ks) (kept_values rs)

-- what was made of it serves it
made_serves : (s : Setting NodeRef) (i : Instantiation NodeRef) (k : Kept NodeRef) → k ≡ kept_of s i → GoesOn (own_of s i).ending
    → IsFound s (k ∷ []) i
made_serves s i k same on =
    let r : Repeats s i i = record { target = refl; node = refl; parameters = refl; position = refl; size = refl; ruling = refl; one_ends = on; other_ends = on } in
    let own = serves s i i (inl (agrees_self s i.past.values)) r in
    let S : Kept NodeRef → Type 0 = λ x. Serves s i x in
    let there = subst S (sym same) own in
    (k, inl refl, there, served_asks s i k there on)

pub run_counted : (s : Setting NodeRef) (i : Instantiation NodeRef) (l : Lost) (a b c : Hand) (after : Reuse) (ran : Option (Box Ran Allocator))
    → IsIn i (instantiations s) → CountsServed (served.Not l) s i a b → CountedRun s i l b c → IsMadeOf s i ran
    → IsMadeToo c.reuse after i.call ran → after.last ≡ c.reuse.last → after.steps ≡ c.reuse.steps
    → Counted s i.past.values (nested_in s i ++ i ∷ []) a (record { reuse = after; entries = c.entries })
run_counted s i l a b c after ran h x y of made last steps = go ran of made
  where
    went : (list : List (Instantiation NodeRef)) × Enters s (records_of a.reuse) list (nested_in s i) (records_of c.reuse)
        × IsCounted (suc (length list)) a c × StandOn a.reuse c.reuse × (¬ (IsFound s (records_of a.reuse) i)) × KeepsAll s (nested_in s i) c.reuse
        × StaysLikeRun s a.reuse c.reuse × KeepsOn a.reuse c.reuse
    went = run_whole s i l a b c h x y

    by : (more : List (Rc Record Allocator)) → after.kept.records.items ≡ c.reuse.kept.records.items ++ more
        → next_of after ≡ next_of c.reuse ++ values_of more → (GoesOn (own_of s i).ending → IsFound s (map kept_at more) i)
        → ((k : Kept NodeRef) → IsIn k (map kept_at more) → (k.call.target ≡ i.call.target) × (k.call.node ≡ i.call.node))
        → Counted s i.past.values (nested_in s i ++ i ∷ []) a (record { reuse = after; entries = c.entries })
    by more kept next found like =
        let same = records_more c.reuse after more last kept in
        let E : List (Kept NodeRef) → Type 0 = λ ks. Enters s (records_of a.reuse) (went.0 ++ i ∷ []) (nested_in s i ++ i ∷ []) ks in
        let F : List (Kept NodeRef) → Type 0 = λ ks. IsFound s ks i in
        let P : Kept NodeRef → List (Kept NodeRef) → Type 0 = λ k ks. IsIn k ks in
        let on = stand_on c.reuse after more last kept in
        let here = keeps_more c.reuse after (values_of more) next in
        let still : (k : Kept NodeRef) → IsIn k (records_of c.reuse) → IsIn k (records_of after)
        = λ k m. subst (P k) (sym same) (in_left k (records_of c.reuse) (map kept_at more) m) in
        let new : (k : Kept NodeRef) → IsIn k (map kept_in (values_of more)) → IsIn k (records_of after)
        = λ k m. subst (P k) (sym same) (in_right k (records_of c.reuse) (map kept_at more) (subst (P k) (kept_values more) m)) in
        let within = within_more c.reuse after (values_of more) still new next y.ready.within in
        let one = keeps_one s i after (λ ends.
        let m = subst F (sym (kept_values more)) (found ends) in
        subst F (sym (kept_more c.reuse after (values_of more) next))
        (m.0, in_right m.0 (kept_by c.reuse) (map kept_in (values_of more)) m.1, m.2, m.3)) in
        record {
          list = went.0 ++ i ∷ [];
          enters = subst E (sym same) (call_counted s (records_of a.reuse) (records_of c.reuse) (map kept_at more) went.0 i went.1 went.4 found like);
          ran = λ low.
              let n = went.2 low in
              let m = length-append went.0 (i ∷ []) in
              let e = ap (λ t. t.ran) steps in
              omega (arith, n, m, e);
          stands = λ at r k. on at r (went.3 at r k);
          more = λ k m. here k (went.7 k m);
          only = λ k. likes_more s c.reuse after (values_of more) next (λ y m.
              let same = like y (subst (P y) (kept_values more) m) in
              (i, h, sym same.0, sym same.1)) (went.6 k);
          keeps = keeps_both s (nested_in s i) (i ∷ []) c.reuse after here went.5 one;
          ready = ready_on s i.past.values c after here within y.ready;
        }

    go : (o : Option (Box Ran Allocator)) → IsMadeOf s i o → IsMadeToo c.reuse after i.call o
        → Counted s i.past.values (nested_in s i ++ i ∷ []) a (record { reuse = after; entries = c.entries })
    go None never same =
        by [] (same.kept ∙ sym (append-nil c.reuse.kept.records.items)) (same.next ∙ sym (append-nil (next_of c.reuse))) (λ on. absurd (never on))
        (λ k m. absurd m)
    go (Some r) is new =
        let same : kept_at new.0 ≡ kept_of s i = new.2 ∙ is in
        by (new.0 ∷ []) new.1.kept new.1.next (λ on. made_serves s i (kept_at new.0) same on) (λ k m. like k m same)
      where
        like : (k : Kept NodeRef) → IsIn k (kept_at new.0 ∷ []) → kept_at new.0 ≡ kept_of s i
            → (k.call.target ≡ i.call.target) × (k.call.node ≡ i.call.node)
        like k (inl e) same =
            let all : k ≡ kept_of s i = e ∙ same in
            (ap (λ (z : Kept NodeRef). z.call.target) all, ap (λ (z : Kept NodeRef). z.call.node) all)
        like k (inr e) same = absurd e

-- ---- A call, with the levels for it

pub means_served : (s : Setting NodeRef) (i : Instantiation NodeRef) (levels : ℕ) (a b : Hand) → suc i.below ≡ levels
    → (IsIn i (instantiations s) → IsReady s i.past.values a → Counted s i.past.values (nested_in s i ++ i ∷ []) a b)
    → CountsOver s i.past.values (entered s levels i.past 0 i.call) a b
means_served s i levels a b room h =
    let C : ℕ → Type 0 = λ n. CountsOver s i.past.values (entered s n i.past 0 i.call) a b in
    subst C room (λ of_run ready. h (of_run i (in_right i (nested_in s i) (i ∷ []) (inl refl))) ready)

pub means_none : (s : Setting NodeRef) (past : Past NodeRef) (c : Call NodeRef) (levels : ℕ) (a : Hand) → levels ≡ 0
    → CountsOver s past.values (entered s levels past 0 c) a a
means_none s past c levels a none =
    let C : ℕ → Type 0 = λ n. CountsOver s past.values (entered s n past 0 c) a a in
    subst C (sym none) (λ of_run ready. counted_none s past.values [] a.reuse a.entries a.entries (λ i h. absurd h) ready)

-- there are records then of all that is remembered
pub served_ready : (s : Setting NodeRef) (i : Instantiation NodeRef) (l : Lost) (a b : Hand) → CountsServed (served.Not l) s i a b
    → IsReady s i.past.values b
served_ready s i lost.Nothing a b h = h.0.ready
served_ready s i (lost.Reference l) a b h = h.counted.ready

-- ---- A reference, of which it may be known what it gives

pub need_known : (s : Setting NodeRef) (past : Past NodeRef) (l : Lost) (name : Expanded) (levels : ℕ) (place : Place) (a : Hand)
    → is_lost l name levels place ≡ true → CountsFor s past l name levels place a a
need_known s past l name levels place a known =
    let C : Bool → Type 0 = λ t. CountsOver s past.values (cond t [] (for_reference s (entered s levels) past name 0 place)) a a in
    subst C (sym known) (λ of_run ready. counted_none s past.values [] a.reuse a.entries a.entries (λ i h. absurd h) ready)

pub need_other : (s : Setting NodeRef) (past : Past NodeRef) (l : Lost) (name : Expanded) (levels : ℕ) (place : Place) (a b : Hand)
    → is_lost l name levels place ≡ false → CountsOver s past.values (for_reference s (entered s levels) past name 0 place) a b
    → CountsFor s past l name levels place a b
need_other s past l name levels place a b other over =
    let C : Bool → Type 0 = λ t. CountsOver s past.values (cond t [] (for_reference s (entered s levels) past name 0 place)) a b in
    subst C (sym other) over
