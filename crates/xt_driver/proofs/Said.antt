-- What a call means of which a tree says all, and that nothing more is counted.
use Rattle.std.proofs.Common.{◌≡◌, inl, inr, ℕ, suc, ◌+◌, ◌-◌, ◌≤◌, Bool, List, [], ◌∷◌, ◌++◌, length, map, min, Option, None, Some, refl, sym}
use Rattle.std.proofs.Common.{ap, subst, ◌∙◌, arith}
use Rattle.std.proofs.lemmas.List.{map-append}
use Rattle.std.specs.Prelude.{IfNone, IfSome}
use Rattle.std.specs.declared.rc.Rc.{Rc}
use Rattle.std.specs.declared.alloc.Global.{Global as Allocator}
use Rattle.spec_meaning.specs.Context.{Bound}
use Rattle.spec_meaning.specs.Question.{Question, Answer}
use Rattle.spec_meaning.specs.Related.{Each}
use Rattle.spec_meaning.specs.Related as each
use Rattle.spec_run.specs.Plan.{Call}
use Rattle.spec_run.specs.Direct.{Outcome}
use Rattle.spec_run.specs.Hold.{GoesOn}
use Rattle.spec_run.specs.Trail.{Kept, IsTrue}
use Rattle.spec_run.specs.Meaning.{Setting, Past, meaning}
use Rattle.spec_reuse.specs.Among.{IsIn}
use Rattle.spec_reuse.specs.Instantiation.{Instantiation, entered, instantiations}
use Rattle.spec_reuse.specs.Ledger.{AllFound, AreOfRun, Enters, HasLike}
use Rattle.spec_reuse.specs.Record.{Runs, none, ran, records_in, outcome_of, IsRecordOf}
use Rattle.spec_reuse.proofs.Counting.{nothing_entered}
use Rattle.spec_reuse.proofs.Entering.{runs_are_entered}
use Rattle.spec_reuse.proofs.Within.{in_left, in_right}
use Rattle.spec_trees.specs.Tree.{AllAsksHold, AreAtHand, IsAtHand, Says}
use Rattle.spec_trees.proofs.Whole.{said_found, said_meant}
use Rattle.spec_node.specs.declared.node_ref.NodeRef.{NodeRef}
use Rattle.spec_node.specs.Naming.{same_ref}
use Rattle.xt_engine.specs.Advances.{ending_of}
use Rattle.xt_tree.specs.StreamView.{stream_of}
use Rattle.xt_tree.specs.declared.value.Value.{Value}
use Rattle.xt_record.specs.View.{kept_in}
use Rattle.xt_record.specs.Asked.{LooksAt}
use Rattle.xt_record.specs.Grown.{values_of, IsSaid, IsTakenOver}
use Rattle.xt_record.specs.Search.{next_of}
use Rattle.xt_record.specs.declared.record.Record.{Record}
use Rattle.xt_record.specs.declared.index.Index.{Index}
use Rattle.xt_record.specs.declared.reuse.Reuse.{Reuse}
use Rattle.xt_record.specs.declared.reuse.Said.{Said}
use Rattle.xt_record.specs.declared.tree.Summary.{Summary}
use Rattle.xt_record.proofs.Saying.{lasts}
use Rattle.xt_driver.specs.Counted.{kept_at, kept_by, most_counted, records_of, AreLikeRun, CountsOver, Hand, IsWithin}
use Rattle.xt_driver.specs.Followed.{instance_of}
use Rattle.xt_driver.specs.Remembered.{Entry, Lasts}
use Rattle.xt_driver.proofs.Completing.{kept_more, keeps_same, keeps_more, within_same, within_more, found_at_hand, keeps_found, likes_same, likes_more}
use Rattle.xt_driver.proofs.Tallying.{none_counted, ready_on, records_same, stand_same}

-- ---- Lists

in_map : (vs : List Record) (r : Record) → IsIn r vs → IsIn (kept_in r) (map kept_in vs)
in_map [] r h = absurd h
in_map (x ∷ vs) r (inl e) = inl (ap kept_in e)
in_map (x ∷ vs) r (inr h) = inr (in_map vs r h)

map_in : (vs : List Record) (k : Kept NodeRef) → IsIn k (map kept_in vs) → (r : Record) × IsIn r vs × (k ≡ kept_in r)
map_in [] k h = absurd h
map_in (x ∷ vs) k (inl e) = (x, inl refl, e)
map_in (x ∷ vs) k (inr h) = let m = map_in vs k h in (m.0, inr m.1, m.2)

-- records of what the run has are of its units and nodes
likes_each : (s : Setting NodeRef) (is : List (Instantiation NodeRef)) (ks : List (Kept NodeRef)) → AreOfRun s is → Each (IsRecordOf s) is ks
    → AreLikeRun s ks
likes_each s [] [] of_run x j m = absurd m
likes_each s [] (k ∷ ks) of_run x j m = elim x [ ]
likes_each s (i ∷ is) [] of_run x j m = absurd m
likes_each s (i ∷ is) (k ∷ ks) of_run (each.more r rs) j (inl e) =
    let P : Kept NodeRef → Type 0 = λ x. HasLike (instantiations s) x.call in
    subst P (sym e) (i, of_run i (inl refl), sym r.of_call.target, sym r.of_call.node)
likes_each s (i ∷ is) (k ∷ ks) of_run (each.more r rs) j (inr m) = likes_each s is ks (λ x at. of_run x (inr at)) rs j m

-- ---- What a tree says

module _ (s : Setting NodeRef) (last : List Record) (call : Call NodeRef) (levels : ℕ) (w : Summary) (v : Record) (same : s.same ≡ same_ref)
    (said : IsSaid s.ask last call levels w v) where
  abbrev k : Kept NodeRef
  k = kept_in v

  abbrev runs : Runs NodeRef
  runs = said.whole.runs

  -- all of its records
  all : records_in (ran k runs none) ≡ map kept_in (said.below ++ v ∷ [])
  all = ap (λ (ks : List (Kept NodeRef)). ks ++ k ∷ []) said.whole.records ∙ sym (map-append kept_in said.below (v ∷ []))

  says_at : (room : ℕ) (past : Past NodeRef) → w.levels ≤ room → Says s (instance_of call room past) k runs
  says_at room past enough =
      let Hold : List (Kept NodeRef) → Type 0 = λ ks. AllAsksHold s.ask ks in
      said.whole.says.says s (instance_of call room past) same said.of_call enough (subst Hold (sym all) said.hold)

  -- with as many levels, or more
  pub meant_so : (room : ℕ) (past : Past NodeRef) → w.levels ≤ room → meaning s (suc room) past 0 call ≡ outcome_of k runs
  meant_so room past enough = said_meant s (instance_of call room past) k runs (says_at room past enough)

  pub means_said : (past : Past NodeRef) (o : Outcome NodeRef) → o ≡ outcome_of k runs → o ≡ meaning s levels past 0 call
  means_said past o is =
      let room : suc (levels - 1) ≡ levels = omega (arith, said.room) in
      is ∙ sym (meant_so (levels - 1) past (omega (arith, said.room))) ∙ ap (λ n. meaning s n past 0 call) room

  pub lasts_said : (past : Past NodeRef) (all_entries : List (Entry NodeRef)) (least : ℕ) (o : Outcome NodeRef) → suc w.levels ≤ least
      → o ≡ outcome_of k runs → Lasts s past least all_entries call o
  lasts_said past all_entries least o enough is = record {
    so = λ goes r other le suits.
        let room : suc (r - 1) ≡ r = omega (arith, le, enough) in
        ap (λ n. meaning s n other 0 call) (sym room) ∙ meant_so (r - 1) other (omega (arith, le, enough)) ∙ sym is;
  }

  -- what comes of it
  pub outcome_said : (o : Outcome NodeRef) → o ≡ record { content = stream_of w.content.value; ending = ending_of v.ran.value } → o ≡ outcome_of k runs
  outcome_said o is = is ∙ (λ i. record { content = said.whole.content i; ending = k.ending })

  -- ---- Nothing more is counted

  module _ (reuse after : Reuse) (there : last ≡ values_of reuse.last.now.records.items) (looks : LooksAt reuse after)
      (next : next_of after ≡ next_of reuse ++ (said.below ++ v ∷ [])) where
    abbrev tree : List Record
    tree = said.below ++ v ∷ []

    in_hand : (rs : List (Rc Record Allocator)) (r : Record) → IsIn r (values_of rs) → IsIn (kept_in r) (map kept_at rs)
    in_hand [] r h = absurd h
    in_hand (x ∷ rs) r (inl e) = inl (ap kept_in e)
    in_hand (x ∷ rs) r (inr h) = inr (in_hand rs r h)

    ends_so : (r : Record) → GoesOn (kept_in r).ending
    ends_so r = go r.ran.value
      where
        go : (o : Option Value) → GoesOn (ending_of o)
        go None = tt
        go (Some x) = tt

    -- each is kept for the next run
    kept_now : (r : Record) → IsIn r tree → IsIn (kept_in r) (kept_by after)
    kept_now r h =
        let P : List (Kept NodeRef) → Type 0 = λ ks. IsIn (kept_in r) ks in
        subst P (sym (kept_more reuse after tree next)) (in_right (kept_in r) (kept_by reuse) (map kept_in tree) (in_map tree r h))

    at_hand : (vs : List Record) → ((r : Record) → IsIn r vs → IsIn r tree) → AllAsksHold s.ask (map kept_in vs) → AreAtHand s (kept_by after) (map kept_in vs)
    at_hand [] among hold = tt
    at_hand (x ∷ vs) among hold =
        let one : IsAtHand s (kept_by after) (kept_in x) = record {
          among = kept_now x (among x (inl refl));
          lasting = subst (λ (f : NodeRef → NodeRef → Bool). IsTrue f (kept_in x)) (sym same) (lasts x);
          ends = ends_so x;
          asks = hold.0;
        } in
        (one, at_hand vs (λ r h. among r (inr h)) hold.1)

    records_stay : records_of after ≡ records_of reuse
    records_stay = λ i. map kept_at (looks.last i).now.records.items ++ map kept_at (looks.kept i).records.items

    -- and is at hand, as one of the last run
    new_at_hand : (x : Kept NodeRef) → IsIn x (map kept_in tree) → IsIn x (records_of after)
    new_at_hand x h =
        let m = map_in tree x h in
        let In : List Record → Type 0 = λ rs. IsIn m.0 rs in
        let P : List (Kept NodeRef) → Type 0 = λ ks. IsIn x ks in
        let Q : Kept NodeRef → Type 0 = λ y. IsIn y (map kept_at reuse.last.now.records.items) in
        let among = subst Q (sym m.2) (in_hand reuse.last.now.records.items m.0 (subst In there (said.among m.0 m.1))) in
        subst P (sym records_stay) (in_left x (map kept_at reuse.last.now.records.items) (map kept_at reuse.kept.records.items) among)

    within : IsWithin reuse → IsWithin after
    within h =
        let P : Kept NodeRef → List (Kept NodeRef) → Type 0 = λ x ks. IsIn x ks in
        within_more reuse after tree (λ x m. subst (P x) (sym records_stay) m) new_at_hand next h

    module _ (past : Past NodeRef) where
      abbrev i : Instantiation NodeRef
      i = instance_of call (levels - 1) past

      enough : w.levels ≤ levels - 1
      enough = let room = said.room in omega (arith, room)

      found_so : AreOfRun s (entered s (suc (levels - 1)) past 0 call) → AllFound s (kept_by after) (entered s (suc (levels - 1)) past 0 call)
      found_so of_run =
          let AtHand : List (Kept NodeRef) → Type 0 = λ ks. AreAtHand s (kept_by after) ks in
          said_found s i k runs (kept_by after) (says_at (levels - 1) past enough) of_run (subst AtHand (sym all) (at_hand tree (λ r h. h) said.hold))

      -- each is of the unit and the node of what the call enters
      likes_so : AreOfRun s (entered s (suc (levels - 1)) past 0 call) → AreLikeRun s (map kept_in tree)
      likes_so of_run =
          let says = says_at (levels - 1) past enough in
          let Like : List (Kept NodeRef) → Type 0 = λ ks. AreLikeRun s ks in
          subst Like all (likes_each s (entered s (suc (levels - 1)) past 0 call) (records_in (ran k runs none)) of_run
          (runs_are_entered s i k runs says.is_run says.stays))

      pub counts_said : (entries : List (Entry NodeRef))
          → CountsOver s past.values (entered s levels past 0 call) (record { reuse = reuse; entries = entries }) (record { reuse = after; entries = entries })
      counts_said entries =
          let C : ℕ → Type 0 = λ n. CountsOver s past.values (entered s n past 0 call) (record { reuse = reuse; entries = entries })
          (record { reuse = after; entries = entries }) in
          let room : suc (levels - 1) ≡ levels = (let low = said.room in omega (arith, low)) in
          subst C room (λ of_run ready.
          let is = entered s (suc (levels - 1)) past 0 call in
          let found = found_so of_run in
          let more = keeps_more reuse after tree next in
          let ready_after = ready_on s past.values (record { reuse = reuse; entries = entries }) after more (within ready.within) ready in
          let E : List (Kept NodeRef) → Type 0 = λ ks. Enters s ks [] is (records_of after) in
          record {
            list = [];
            enters = subst E records_stay (nothing_entered s (records_of after) is (found_at_hand s after is (within ready.within) found));
            ran = none_counted (record { reuse = reuse; entries = entries }) (record { reuse = after; entries = entries }) looks.ran;
            stands = stand_same reuse after looks.last (ap (λ (x : Index). x.records.items) looks.kept);
            more = more;
            only = likes_more s reuse after tree next (likes_so of_run);
            keeps = keeps_found s is after found;
            ready = ready_after;
          })

-- where nothing is said, nothing of what is counted changes before it
pub counts_from : (s : Setting NodeRef) (values : List (Bound NodeRef)) (is : List (Instantiation NodeRef)) (reuse mid : Reuse)
    (entries : List (Entry NodeRef)) (after : Hand) → LooksAt reuse mid → next_of mid ≡ next_of reuse
    → CountsOver s values is (record { reuse = mid; entries = entries }) after → CountsOver s values is (record { reuse = reuse; entries = entries }) after
counts_from s values is reuse mid entries after looks next h of_run ready =
    let kept = ap (λ (x : Index). x.records.items) looks.kept in
    let records = records_same reuse mid looks.last kept in
    let more = keeps_same reuse mid next in
    let c = h of_run (ready_on s values (record { reuse = reuse; entries = entries }) mid more (within_same reuse mid records next ready.within) ready) in
    let E : List (Kept NodeRef) → Type 0 = λ ks. Enters s ks c.list is (records_of after.reuse) in
    let R : ℕ → Type 0 = λ n. n ≤ most_counted → after.reuse.steps.ran ≡ min (n + length c.list) most_counted in
    let on = stand_same reuse mid looks.last kept in
    record {
      list = c.list;
      enters = subst E records c.enters;
      ran = subst R looks.ran c.ran;
      stands = λ at r here. c.stands at r (on at r here);
      more = λ k m. c.more k (more k m);
      only = λ m. c.only (likes_same s reuse mid next m);
      keeps = c.keeps;
      ready = c.ready;
    }

-- what is taken over is what was found
pub said_in : (ask : Question NodeRef → Answer NodeRef) (reuse after : Reuse) (call : Call NodeRef) (levels : ℕ) (o : Option Said) (x : Said) → o ≡ Some x
    → IfSome o (λ y. IsTakenOver ask (values_of reuse.last.now.records.items) (next_of reuse) (next_of after) call levels y.whole.value y.record.value)
    → IsTakenOver ask (values_of reuse.last.now.records.items) (next_of reuse) (next_of after) call levels x.whole.value x.record.value
said_in ask reuse after call levels o x e h =
    let P : Option Said → Type 0 = λ p. IfSome p (λ y. IsTakenOver ask (values_of reuse.last.now.records.items) (next_of reuse) (next_of after) call levels y.whole.value
    y.record.value) in
    subst P e h

-- and where nothing was found, nothing is
pub unsaid_in : (reuse after : Reuse) (o : Option Said) → o ≡ None → IfNone o (next_of after ≡ next_of reuse) → next_of after ≡ next_of reuse
unsaid_in reuse after o e h = let P : Option Said → Type 0 = λ p. IfNone p (next_of after ≡ next_of reuse) in subst P e h
