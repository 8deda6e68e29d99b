-- What is counted while records are tried for a call.
use Rattle.std.proofs.Common.{◌≡◌, ◌⊎◌, inl, inr, ℕ, zero, suc, ◌<◌, ◌≤◌, List, [], ◌∷◌, ◌++◌, length, map, Some, None, Result, Ok, Err, refl, sym}
use Rattle.std.proofs.Common.{ap, subst, arith}
use Rattle.std.specs.Prelude.{Box, IfOk}
use Rattle.std.specs.declared.alloc.Global.{Global as Allocator}
use Rattle.spec_meaning.specs.Question.{Question, Answer}
use Rattle.spec_run.specs.Going.{Event, Asked, Saw, Entered, Held}
use Rattle.spec_run.specs.Trail.{Kept}
use Rattle.spec_run.specs.Meaning.{Setting}
use Rattle.spec_reuse.specs.Among.{IsIn}
use Rattle.spec_reuse.specs.Instantiation.{Instantiation, instantiations}
use Rattle.spec_reuse.specs.Serving.{Serves}
use Rattle.spec_reuse.specs.Ledger.{nested_in, IsFound}
use Rattle.spec_reuse.specs.Ledger as ledger
use Rattle.spec_reuse.proofs.Again.{in_append}
use Rattle.spec_reuse.proofs.Counting.{call_served}
use Rattle.spec_reuse.proofs.Within.{in_left, in_right, nested_of_run}
use Rattle.spec_node.specs.declared.node_ref.NodeRef.{NodeRef}
use Rattle.xt_record.specs.Asked.{Judges}
use Rattle.xt_record.specs.Grown.{values_of}
use Rattle.xt_record.specs.Search.{most, next_of, PassedOver, Stands, InKept, InLast}
use Rattle.xt_record.specs.View.{kept_in, AsksHold, MayServe}
use Rattle.xt_record.specs.declared.index.Index.{Index}
use Rattle.xt_record.specs.declared.pool.Pool.{Pool}
use Rattle.xt_record.specs.declared.record.Record.{Record}
use Rattle.xt_record.specs.declared.reuse.Found.{Found}
use Rattle.xt_record.specs.declared.reuse.Reuse.{Reuse}
use Rattle.xt_record.proofs.Standing.{judged_on}
use Rattle.xt_driver.proofs.Places.{stands_above, stands_once}
use Rattle.xt_text.specs.declared.memory.Memory.{Memory}
use Rattle.xt_driver.specs.declared.drive.Served.{Served}
use Rattle.xt_driver.specs.declared.drive.Served.TheVariants as served
use Rattle.xt_driver.specs.declared.lost.Lost.TheVariants as lost
use Rattle.xt_driver.specs.declared.lost.LostReference.{LostReference}
use Rattle.xt_driver.specs.declared.came.Outcome.{Outcome as Came}
use Rattle.xt_driver.specs.Counted.{Hand, kept_at, kept_by, records_of, IsKept, kept_before, kept_now, IsKeptToo, IsUnserved, IsAnswer, IsReady, Counted}
use Rattle.xt_driver.specs.Counted.{CountedFront, CountedLost, CountsLost, CountsFollowed, CountsServed, KeepsSame}
use Rattle.xt_driver.proofs.Completing.{is_at, in_some, kept_more, keeps_both, keeps_one}
use Rattle.xt_driver.proofs.Tallying.{fronts, front_then, front_none, front_on, same_on, kept_on, next_on}

-- ---- Records and their places

pub asks_there : (ask : Question NodeRef → Answer NodeRef) (es : List (Event NodeRef)) → AsksHold ask es → ledger.AsksHold ask es
asks_there ask [] h = tt
asks_there ask (Asked question answer ∷ es) h = (h.0, asks_there ask es h.1)
asks_there ask (Saw wanted depth place supplied ∷ es) h = asks_there ask es h
asks_there ask (Entered call depth ∷ es) h = asks_there ask es h
asks_there ask (Held first contents ∷ es) h = asks_there ask es h

asks_here : (ask : Question NodeRef → Answer NodeRef) (es : List (Event NodeRef)) → ledger.AsksHold ask es → AsksHold ask es
asks_here ask [] h = tt
asks_here ask (Asked question answer ∷ es) h = (h.0, asks_here ask es h.1)
asks_here ask (Saw wanted depth place supplied ∷ es) h = asks_here ask es h
asks_here ask (Entered call depth ∷ es) h = asks_here ask es h
asks_here ask (Held first contents ∷ es) h = asks_here ask es h

may_serve : (s : Setting NodeRef) (i : Instantiation NodeRef) (k : Kept NodeRef) → Serves s i k → ledger.AsksHold s.ask k.trace
    → MayServe s.ask i.call i.below k
may_serve s i k h asks = record { of_call = h.fits.of_call; levels = h.fits.levels; asks = asks_here s.ask k.trace asks }

-- a record that stands somewhere is at hand
pub stands_in : (reuse : Reuse) (at : ℕ) (r : Record) → Stands reuse at r → IsIn (kept_in r) (records_of reuse)
stands_in reuse at r (InKept h) =
    in_right (kept_in r) (map kept_at reuse.last.now.records.items) (map kept_at reuse.kept.records.items)
    (is_at reuse.kept.records.items h.turn r h.here)
stands_in reuse at r (InLast h) =
    in_left (kept_in r) (map kept_at reuse.last.now.records.items) (map kept_at reuse.kept.records.items)
    (is_at reuse.last.now.records.items h.turn r h.here)

-- and what is at hand stands somewhere
record StandsAs (reuse : Reuse) (k : Kept NodeRef) : Type 0 where
  at : ℕ
  r : Record
  stands : Stands reuse at r
  is : k ≡ kept_in r

in_stands : (reuse : Reuse) (k : Kept NodeRef) → IsIn k (records_of reuse) → StandsAs reuse k
in_stands reuse k h = go (in_append k (map kept_at reuse.last.now.records.items) (map kept_at reuse.kept.records.items) h)
  where
    go : IsIn k (map kept_at reuse.last.now.records.items) ⊎ IsIn k (map kept_at reuse.kept.records.items) → StandsAs reuse k
    go (inl m) = let x = in_some reuse.last.now.records.items k m in record {
      at = _;
      r = x.handle.value;
      stands = InLast (record { turn = x.turn; here = record { handle = x.handle; here = x.here; is = refl }; stands = refl });
      is = x.is;
    }
    go (inr m) = let x = in_some reuse.kept.records.items k m in record {
      at = _;
      r = x.handle.value;
      stands = InKept (record { turn = x.turn; here = record { handle = x.handle; here = x.here; is = refl }; stands = refl });
      is = x.is;
    }

-- ---- So far

-- those that stand up to here do not serve
pub record Tried (s : Setting NodeRef) (i : Instantiation NodeRef) (a b : Hand) (from : ℕ) : Type 0 where
  pub counted : CountedFront s i.past.values (nested_in s i) a b
  pub passed : (at : ℕ) (r : Record) → Stands a.reuse at r → at ≤ from → Serves s i (kept_in r) → ledger.AsksHold s.ask (kept_in r).trace → ⊥

pub tried_begun : (s : Setting NodeRef) (i : Instantiation NodeRef) (a : Hand) → length a.reuse.last.now.records.items ≤ most
    → IsReady s i.past.values a → Tried s i a a 0
tried_begun s i a few ready = record {
  counted = front_none s i.past.values (nested_in s i) a ready;
  passed = λ at r h low. absurd (let above = stands_above a.reuse few at r h in omega (arith, above, low));
}

split : (m n : ℕ) → (m ≤ n) ⊎ (n < m)
split zero n = inl (omega arith)
split (suc m) zero = inr (omega arith)
split (suc m) (suc n) = go (split m n)
  where
    go : (m ≤ n) ⊎ (n < m) → (suc m ≤ suc n) ⊎ (suc n < suc m)
    go (inl h) = inl (omega (arith, h))
    go (inr h) = inr (omega (arith, h))

-- with these records judged
abbrev judged_hand : Reuse → Hand → Hand
judged_hand reuse b = record { reuse = reuse; entries = b.entries }

judges_same : (before after : Reuse) → Judges before after → KeepsSame before after
judges_same before after j = record { kept = ap (λ (x : Index). x.records.items) j.kept; next = ap (λ (p : Pool). values_of p.records.items) j.next }

pub front_judged : (s : Setting NodeRef) (i : Instantiation NodeRef) (a b : Hand) (reuse : Reuse) (from : ℕ) → Judges b.reuse reuse
    → Tried s i a b from → CountedFront s i.past.values (nested_in s i) a (record { reuse = reuse; entries = b.entries })
front_judged s i a b reuse from j t =
    front_on s i.past.values (nested_in s i) a b reuse t.counted j.last (judges_same b.reuse reuse j) j.ran

pub tried_next : (s : Setting NodeRef) (i : Instantiation NodeRef) (a b after : Hand) (reuse : Reuse) (from : ℕ) (f : Found)
    → length b.reuse.last.now.records.items ≤ most → Judges b.reuse reuse → PassedOver s.ask i.call i.below b.reuse from (Some f) → Stands b.reuse f.next f.record.value
    → IsIn i (instantiations s) → Tried s i a b from
    → CountsLost s i (kept_in f.record.value) lost.Nothing (record { reuse = reuse; entries = b.entries }) after → Tried s i a after f.next
tried_next s i a b after reuse from f few j passed stands h t x = record {
  counted = fronts s i.past.values (nested_in s i) a (judged_hand reuse b) after (nested_of_run s i h) (front_judged s i a b reuse from j t) x.0;
  passed = λ at r st low serves asks. none at r st low serves asks (split at from) (split f.next at);
}
  where
    none : (at : ℕ) (r : Record) → Stands a.reuse at r → at ≤ f.next → Serves s i (kept_in r) → ledger.AsksHold s.ask (kept_in r).trace
        → (at ≤ from) ⊎ (from < at) → (f.next ≤ at) ⊎ (at < f.next) → ⊥
    none at r st low serves asks (inl e) k = t.passed at r st e serves asks
    none at r st low serves asks (inr e) (inr k) =
        passed at r (t.counted.stands at r st) e k (may_serve s i (kept_in r) serves asks)
    none at r st low serves asks (inr e) (inl k) =
        let same : f.next ≡ at = omega (arith, low, k) in
        let S : ℕ → Type 0 = λ n. Stands b.reuse n f.record.value in
        let one = stands_once b.reuse few at r f.record.value (t.counted.stands at r st) (subst S same stands) in
        let P : Record → Type 0 = λ y. Serves s i (kept_in y) in
        x.1 (subst P one serves)

-- no more records may serve
pub tried_all : (s : Setting NodeRef) (i : Instantiation NodeRef) (a b : Hand) (from : ℕ) → PassedOver s.ask i.call i.below b.reuse from None
    → Tried s i a b from → ¬ (IsFound s (records_of a.reuse) i)
tried_all s i a b from passed t = λ m.
    let x = in_stands a.reuse m.0 m.1 in
    let S : Kept NodeRef → Type 0 = λ k. Serves s i k in
    let A : Kept NodeRef → Type 0 = λ k. ledger.AsksHold s.ask k.trace in
    none x (subst S x.is m.2) (subst A x.is m.3) (split x.at from)
  where
    none : {k : Kept NodeRef} (x : StandsAs a.reuse k) → Serves s i (kept_in x.r) → ledger.AsksHold s.ask (kept_in x.r).trace
        → (x.at ≤ from) ⊎ (from < x.at) → ⊥
    none x serves asks (inl e) = t.passed x.at x.r x.stands e serves asks
    none x serves asks (inr e) = passed x.at x.r (t.counted.stands x.at x.r x.stands) e tt (may_serve s i (kept_in x.r) serves asks)

-- what serves it is of its unit and its node
like_served : (s : Setting NodeRef) (i : Instantiation NodeRef) (k : Kept NodeRef) → IsIn i (instantiations s) → Serves s i k
    → ledger.HasLike (instantiations s) k.call
like_served s i k h serves = (i, h, sym serves.fits.of_call.target, sym serves.fits.of_call.node)

-- with the call itself, which one of these records serves
with_served : (s : Setting NodeRef) (i : Instantiation NodeRef) (a b : Hand) (k : Kept NodeRef) → Counted s i.past.values (nested_in s i) a b
    → IsIn k (kept_by b.reuse) → Serves s i k → ledger.AsksHold s.ask k.trace → Counted s i.past.values (nested_in s i ++ i ∷ []) a b
with_served s i a b k x there serves asks = record {
  list = x.list;
  enters = call_served s (records_of a.reuse) (records_of b.reuse) x.list i k x.enters (x.ready.within k there) serves asks;
  ran = x.ran;
  stands = x.stands;
  more = x.more;
  only = x.only;
  keeps = keeps_both s (nested_in s i) (i ∷ []) b.reuse b.reuse (λ k m. m) x.keeps (keeps_one s i b.reuse (λ ends. (k, there, serves, asks)));
  ready = x.ready;
}

-- one serves, and is kept
pub tried_served : (s : Setting NodeRef) (i : Instantiation NodeRef) (a b after : Hand) (reuse last : Reuse) (from : ℕ) (f : Found)
    (o : Box Came Allocator) → Judges b.reuse reuse → Stands b.reuse f.next f.record.value → IsIn i (instantiations s) → Tried s i a b from
    → Counted s i.past.values (nested_in s i) (record { reuse = reuse; entries = b.entries }) after × Serves s i (kept_in f.record.value)
    → AsksHold s.ask (kept_in f.record.value).trace
    → IsKeptToo (Ok (served.As o)) after.reuse last f → last.last ≡ after.reuse.last → last.steps ≡ after.reuse.steps
    → Counted s i.past.values (nested_in s i ++ i ∷ []) a (record { reuse = last; entries = after.entries })
tried_served s i a b after reuse last from f o j stands h t x asks kept same steps = go kept
  where
    all : Counted s i.past.values (nested_in s i) a after
    all = front_then s i.past.values (nested_in s i) a (judged_hand reuse b) after (nested_of_run s i h) (front_judged s i a b reuse from j t) x.0

    there : IsIn (kept_at f.record) (records_of after.reuse)
    there = x.0.enters.stays (kept_at f.record) (stands_in reuse f.next f.record.value (judged_on b.reuse reuse j f.next f.record.value stands))

    with_one : next_of last ≡ next_of after.reuse ++ f.record.value ∷ []
        → Counted s i.past.values (nested_in s i) a (record { reuse = last; entries = after.entries })
        → Counted s i.past.values (nested_in s i ++ i ∷ []) a (record { reuse = last; entries = after.entries })
    with_one e counted =
        let K : List (Kept NodeRef) → Type 0 = λ ks. IsIn (kept_at f.record) ks in
        with_served s i a (record { reuse = last; entries = after.entries }) (kept_at f.record) counted
        (subst K (sym (kept_more after.reuse last (f.record.value ∷ []) e))
        (in_right (kept_at f.record) (kept_by after.reuse) (kept_at f.record ∷ []) (inl refl)))
        x.1 (asks_there s.ask (kept_in f.record.value).trace asks)

    go : IsKept after.reuse last f → Counted s i.past.values (nested_in s i ++ i ∷ []) a (record { reuse = last; entries = after.entries })
    go (kept_before low e) =
        with_one e.next
        (next_on s i.past.values (nested_in s i) a after last f.record all there (like_served s i (kept_at f.record) h x.1) same e steps)
    go (kept_now e) =
        with_one e.next
        (kept_on s i.past.values (nested_in s i) a after last f.record all there (like_served s i (kept_at f.record) h x.1) same e steps)

-- a global was refused
pub tried_lost : (s : Setting NodeRef) (i : Instantiation NodeRef) (a b after : Hand) (reuse last : Reuse) (from : ℕ) (k : Kept NodeRef)
    (l : Box LostReference Allocator) → Judges b.reuse reuse → IsIn i (instantiations s) → Tried s i a b from
    → CountsLost s i k (lost.Reference l) (record { reuse = reuse; entries = b.entries }) after
    → KeepsSame after.reuse last → last.last ≡ after.reuse.last → last.steps ≡ after.reuse.steps
    → CountedLost s i (lost.Reference l) a (record { reuse = last; entries = after.entries })
tried_lost s i a b after reuse last from k l j h t x kept same steps = record {
  counted = same_on s i.past.values (nested_in s i) a after last (front_then s i.past.values (nested_in s i) a (judged_hand reuse b) after
      (nested_of_run s i h) (front_judged s i a b reuse from j t) x.counted) same kept (ap (λ y. y.ran) steps);
  none = x.none;
  ends = x.ends;
}

-- ---- In a world with the same truth

abbrev Ask : Type 0
Ask = Question NodeRef → Answer NodeRef

pub unserved : (P : Served → Type 0) (r : Result Served Memory) → IsUnserved r → IfOk r P → P (served.Not lost.Nothing)
unserved P (Ok (served.As o)) is h = absurd is
unserved P (Ok (served.Not lost.Nothing)) is h = h
unserved P (Ok (served.Not (lost.Reference l))) is h = absurd is
unserved P (Err m) is h = absurd is

pub kept_none : (r : Result Served Memory) (before after : Reuse) (f : Found) → IsUnserved r → IsKeptToo r before after f → KeepsSame before after
kept_none (Ok (served.As o)) before after f is h = absurd is
kept_none (Ok (served.Not l)) before after f is h = h
kept_none (Err m) before after f is h = absurd is

-- what is tried further, where nothing is kept
pub tried_still : (s : Setting NodeRef) (i : Instantiation NodeRef) (a b : Hand) (last : Reuse) (from : ℕ) → Tried s i a b from
    → last.last ≡ b.reuse.last → KeepsSame b.reuse last → last.steps ≡ b.reuse.steps
    → Tried s i a (record { reuse = last; entries = b.entries }) from
tried_still s i a b last from t same kept steps = record {
  counted = front_on s i.past.values (nested_in s i) a b last t.counted same kept (ap (λ y. y.ran) steps);
  passed = t.passed;
}

-- an answer is taken on
pub answered : (s : Setting NodeRef) (i : Instantiation NodeRef) (a b after : Hand) (reuse last : Reuse) (from : ℕ) (f : Found) (v : Served)
    → Judges b.reuse reuse → Stands b.reuse f.next f.record.value → IsIn i (instantiations s) → Tried s i a b from
    → CountsFollowed v s i (kept_in f.record.value) (record { reuse = reuse; entries = b.entries }) after
    → AsksHold s.ask (kept_in f.record.value).trace → IsAnswer v
    → IsKeptToo (Ok v) after.reuse last f → last.last ≡ after.reuse.last → last.steps ≡ after.reuse.steps → CountsServed v s i a (record { reuse = last; entries = after.entries })
answered s i a b after reuse last from f (served.As o) j stands h t x asks answer kept same steps =
    tried_served s i a b after reuse last from f o j stands h t x asks kept same steps
answered s i a b after reuse last from f (served.Not lost.Nothing) j stands h t x asks answer kept same steps = absurd answer
answered s i a b after reuse last from f (served.Not (lost.Reference l)) j stands h t x asks answer kept same steps =
    tried_lost s i a b after reuse last from (kept_in f.record.value) l j h t x kept same steps
