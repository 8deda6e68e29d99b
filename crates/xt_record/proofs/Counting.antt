-- How many marked questions there are among what was done, and how many are left.
use Rattle.std.proofs.Common.{◌≡◌, ℕ, zero, suc, ◌+◌, ◌<◌, ◌≤◌, Bool, true, false, List, [], ◌∷◌, map, take, length, get_or, set, replicate, refl, sym, ap, ◌∙◌, arith}
use Rattle.std.specs.declared.rc.Rc.{Rc}
use Rattle.std.specs.declared.alloc.Global.{Global}
use Rattle.spec_run.specs.Going.{Event, Asked, Saw, Entered, Held}
use Rattle.spec_node.specs.declared.node_ref.NodeRef.{NodeRef}
use Rattle.spec_touch.specs.Marks.{WorldChange}
use Rattle.xt_engine.specs.View.{event_of}
use Rattle.xt_engine.specs.declared.event.Event.{Event as CodeEvent}
use Rattle.xt_record.specs.Asked.{marked_in, marked_among, marked_left, Asks}
use Rattle.xt_record.specs.Sure.{verdict_of}
use Rattle.xt_record.specs.View.{kept_in}
use Rattle.xt_record.specs.declared.record.Record.{Record}
use Rattle.xt_record.specs.declared.reuse.Steps.{Steps}
use Rattle.xt_record.specs.declared.reuse.Verdict.{Verdict}
use Rattle.xt_record.specs.declared.reuse.Verdict.TheVariants.{Unasked, Holds, Fails}

-- what was judged was asked
pub holds_asked : Holds ≡ Unasked → ⊥
holds_asked e = absurd (cc)

pub fails_asked : Fails ≡ Unasked → ⊥
fails_asked e = absurd (cc)

module _ (changes : List WorldChange) where
  marked_first : (e : Event NodeRef) (es : List (Event NodeRef)) → marked_in changes (e ∷ es) ≡ marked_in changes (e ∷ []) + marked_in changes es
  marked_first (Asked q a) es = omega arith
  marked_first (Saw w d l x) es = omega arith
  marked_first (Entered c d) es = omega arith
  marked_first (Held j xs) es = omega arith

  -- ---- Among what was done, from the first on

  marked_next : (es : List CodeEvent) (i : ℕ) (e : CodeEvent) → i < length es → e ≡ get_or es i e
      → marked_in changes (map event_of (take (suc i) es)) ≡ marked_in changes (map event_of (take i es)) + marked_in changes (event_of e ∷ [])
  marked_next [] i e lt at = absurd (omega arith)
  marked_next (x ∷ es) zero e lt at = omega (arith, ap (λ y. marked_in changes (event_of y ∷ [])) (sym at))
  marked_next (x ∷ es) (suc i) e lt at =
      omega (
        arith,
        marked_first (event_of x) (map event_of (take (suc i) es)),
        marked_first (event_of x) (map event_of (take i es)),
        marked_next es i e (omega arith) at,
      )

  marked_before : (es : List CodeEvent) (i : ℕ) → marked_in changes (map event_of (take i es)) ≤ marked_in changes (map event_of es)
  marked_before [] zero = omega arith
  marked_before [] (suc i) = omega arith
  marked_before (x ∷ es) zero = omega arith
  marked_before (x ∷ es) (suc i) =
      omega (arith, marked_first (event_of x) (map event_of (take i es)), marked_first (event_of x) (map event_of es), marked_before es i)

  -- one is marked among all where it is by itself
  pub one_marked : (es : List CodeEvent) (i : ℕ) (e : CodeEvent) → i < length es → e ≡ get_or es i e → 0 < marked_in changes (event_of e ∷ [])
      → 0 < marked_in changes (map event_of es)
  one_marked es i e lt at h = omega (arith, h, marked_next es i e lt at, marked_before es (suc i))

  -- what was asked of those before one, and then of this one
  pub asks_next : {before between after : Steps} (es : List CodeEvent) (i : ℕ) (e : CodeEvent) → i < length es → e ≡ get_or es i e
      → Asks changes (map event_of (take i es)) before between → Asks changes (event_of e ∷ []) between after
      → Asks changes (map event_of (take (suc i) es)) before after
  asks_next es i e lt at h k = record {
    ran = k.ran ∙ h.ran;
    asked = omega (arith, h.asked, k.asked);
    most = omega (arith, h.most, k.most, marked_next es i e lt at);
  }

  pub asks_up_to : {before between after : Steps} (es : List CodeEvent) (i : ℕ) (e : CodeEvent) → i < length es → e ≡ get_or es i e
      → Asks changes (map event_of (take i es)) before between → Asks changes (event_of e ∷ []) between after
      → Asks changes (map event_of es) before after
  asks_up_to es i e lt at h k =
      let n = asks_next es i e lt at h k in
      record { ran = n.ran; asked = n.asked; most = omega (arith, n.most, marked_before es (suc i)) }

  -- ---- Of records

  pub unasked_left : (n : ℕ) (rs : List (Rc Record Global)) → 0 + marked_left changes (replicate n Unasked) rs ≤ marked_among changes rs
  unasked_left zero rs = omega arith
  unasked_left (suc n) [] = omega arith
  unasked_left (suc n) (r ∷ rs) = omega (arith, unasked_left n rs)

  left_judged : (holds : Bool) (v : Verdict) (vs : List Verdict) (r : Rc Record Global) (rs : List (Rc Record Global)) → v ≡ verdict_of holds
      → marked_left changes (v ∷ vs) (r ∷ rs) ≡ marked_left changes vs rs
  left_judged true Unasked vs r rs is = absurd (cc)
  left_judged false Unasked vs r rs is = absurd (cc)
  left_judged holds Holds vs r rs is = refl
  left_judged holds Fails vs r rs is = refl

  left_was : (v : Verdict) (vs : List Verdict) (r : Rc Record Global) (rs : List (Rc Record Global)) → (v ≡ Unasked → ⊥)
      → marked_left changes (v ∷ vs) (r ∷ rs) ≡ marked_left changes vs rs
  left_was Unasked vs r rs was = absurd (was refl)
  left_was Holds vs r rs was = refl
  left_was Fails vs r rs was = refl

  left_first : (v : Verdict) (vs : List Verdict) (r : Rc Record Global) (rs : List (Rc Record Global)) → v ≡ Unasked
      → marked_left changes (v ∷ vs) (r ∷ rs) ≡ marked_in changes (kept_in r.value).trace + marked_left changes vs rs
  left_first Unasked vs r rs is = refl
  left_first Holds vs r rs is = absurd (cc)
  left_first Fails vs r rs is = absurd (cc)

  left_others : (v : Verdict) (vs ws : List Verdict) (r : Rc Record Global) (rs : List (Rc Record Global)) (n : ℕ)
      → marked_left changes vs rs + n ≡ marked_left changes ws rs → marked_left changes (v ∷ vs) (r ∷ rs) + n ≡ marked_left changes (v ∷ ws) (r ∷ rs)
  left_others Unasked vs ws r rs n h = omega (arith, h)
  left_others Holds vs ws r rs n h = h
  left_others Fails vs ws r rs n h = h

  -- no more is left than there is
  pub left_most : (vs : List Verdict) (rs : List (Rc Record Global)) → marked_left changes vs rs ≤ marked_among changes rs
  left_most [] rs = omega arith
  left_most (v ∷ vs) [] = omega arith
  left_most (Unasked ∷ vs) (r ∷ rs) = omega (arith, left_most vs rs)
  left_most (Holds ∷ vs) (r ∷ rs) = omega (arith, left_most vs rs)
  left_most (Fails ∷ vs) (r ∷ rs) = omega (arith, left_most vs rs)

  left_more : (v : Verdict) (vs : List Verdict) (r : Rc Record Global) (rs : List (Rc Record Global)) (n : ℕ)
      → marked_left changes vs rs + n ≤ marked_among changes rs → marked_left changes (v ∷ vs) (r ∷ rs) + n ≤ marked_among changes (r ∷ rs)
  left_more Unasked vs r rs n h = omega (arith, h)
  left_more Holds vs r rs n h = omega (arith, h)
  left_more Fails vs r rs n h = omega (arith, h)

  -- a record that was judged has none left
  pub left_at : (vs : List Verdict) (rs : List (Rc Record Global)) (i : ℕ) (v : Verdict) (r : Rc Record Global) → i < length vs → i < length rs
      → v ≡ get_or vs i v → (v ≡ Unasked → ⊥) → r.value ≡ (get_or rs i r).value
      → marked_left changes vs rs + marked_in changes (kept_in r.value).trace ≤ marked_among changes rs
  left_at [] rs i v r lv lr vat was at = absurd (omega arith)
  left_at (x ∷ vs) [] i v r lv lr vat was at = absurd (omega arith)
  left_at (x ∷ vs) (y ∷ rs) zero v r lv lr vat was at =
      omega (arith, left_was x vs y rs (λ e. was (vat ∙ e)), left_most vs rs, ap (λ z. marked_in changes (kept_in z).trace) at)
  left_at (x ∷ vs) (y ∷ rs) (suc i) v r lv lr vat was at =
      left_more x vs y rs (marked_in changes (kept_in r.value).trace) (left_at vs rs i v r (omega arith) (omega arith) vat was at)

  -- a record that is judged has none left
  pub left_now : (holds : Bool) (w : Verdict) (vs : List Verdict) (rs : List (Rc Record Global)) (i : ℕ) (v : Verdict) (r : Rc Record Global)
      → w ≡ verdict_of holds → i < length vs → v ≡ get_or vs i v → v ≡ Unasked → i < length rs → r.value ≡ (get_or rs i r).value
      → marked_left changes (set vs i w) rs + marked_in changes (kept_in r.value).trace ≡ marked_left changes vs rs
  left_now holds w [] rs i v r to lv vat is lr at = absurd (omega arith)
  left_now holds w (x ∷ vs) [] i v r to lv vat is lr at = absurd (omega arith)
  left_now holds w (x ∷ vs) (y ∷ rs) zero v r to lv vat is lr at =
      omega (arith, left_judged holds w vs y rs to, left_first x vs y rs (sym vat ∙ is), ap (λ z. marked_in changes (kept_in z).trace) at)
  left_now holds w (x ∷ vs) (y ∷ rs) (suc i) v r to lv vat is lr at =
      left_others x (set vs i w) vs y rs (marked_in changes (kept_in r.value).trace) (left_now holds w vs rs i v r to (omega arith) vat is (omega arith) at)

  pub counted_now : (before after most : ℕ) (holds : Bool) (w : Verdict) (vs : List Verdict) (rs : List (Rc Record Global)) (i : ℕ) (v : Verdict) (r : Rc Record Global)
      (trace : List (Event NodeRef)) → w ≡ verdict_of holds → i < length vs → v ≡ get_or vs i v → v ≡ Unasked → i < length rs → r.value ≡ (get_or rs i r).value
      → marked_in changes trace ≡ marked_in changes (kept_in r.value).trace → after ≤ before + marked_in changes trace → before + marked_left changes vs rs ≤ most
      → after + marked_left changes (set vs i w) rs ≤ most
  counted_now before after most holds w vs rs i v r trace to lv vat is lr at same asked counted =
      omega (arith, left_now holds w vs rs i v r to lv vat is lr at, same, asked, counted)
