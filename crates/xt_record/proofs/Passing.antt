-- What a search passes over.
use Rattle.std.proofs.Common.{◌≡◌, ℕ, ◌<◌, ◌≤◌, List, [], ◌∷◌, zero, suc, length, slice_get, Option, None, Some, sym, ap, subst, ◌∙◌, arith}
use Rattle.std.proofs.Math.Logic.{∥∥₁_elim}
use Rattle.std.specs.Prelude.{IfSome, IsSomeAnd}
use Rattle.std.specs.declared.rc.Rc.{Rc}
use Rattle.std.specs.declared.alloc.Global.{Global}
use Rattle.std.specs.declared.vec.Vec.{Vec}
use Rattle.spec_meaning.specs.Question.{Question, Answer}
use Rattle.spec_run.specs.Plan.{Call}
use Rattle.spec_reuse.specs.Serving.{IsOf}
use Rattle.spec_node.specs.declared.node_ref.NodeRef.{NodeRef}
use Rattle.xt_record.specs.View.{kept_in, DoesNotServe, DoesNotSuit, IsAt, MayServe}
use Rattle.xt_record.specs.Chain.{key_in, key_of, keys_in, part_number, unit_number, IsLatest}
use Rattle.xt_record.specs.Search.{kept_place, last_place, most, PassedAmong, PassedOver, InKept, InLast}
use Rattle.xt_record.specs.declared.record.Record.{Record}
use Rattle.xt_record.specs.declared.reuse.Found.{Found}
use Rattle.xt_record.specs.declared.reuse.Reuse.{Reuse}
use Rattle.xt_record.proofs.Chaining.{none_some, some_is, split, within}

-- ---- Records of a call have its key

key_so : (call : Call NodeRef) (r : Record) → IsOf call (kept_in r) → key_in r ≡ key_of call
key_so call r h = λ i. record {
  unit = unit_number (h.target i);
  node = (h.node i).node.number;
  part = part_number (h.node i).part;
}

pub keyed : (rs : List (Rc Record Global)) (t : ℕ) (r : Rc Record Global) → slice_get rs t ≡ Some r → slice_get (keys_in rs) t ≡ Some (key_in r.value)
keyed [] t r at = absurd (none_some at)
keyed (x ∷ rs) zero r at = ap (λ (y : Rc Record Global). Some (key_in y.value)) (some_is at)
keyed (x ∷ rs) (suc t) r at = keyed rs t r at

pub fits : (rs : List (Rc Record Global)) (t : ℕ) → t < length (keys_in rs) → t < length rs
fits [] t lt = absurd (omega arith)
fits (r ∷ rs) zero lt = omega arith
fits (r ∷ rs) (suc t) lt = omega (arith, fits rs t (omega arith))

-- ---- Along the turns

module _ (ask : Question NodeRef → Answer NodeRef) (call : Call NodeRef) (below : ℕ) where
  pub does_not_serve : (rs : List (Rc Record Global)) (turn : ℕ) → DoesNotSuit call below rs turn → DoesNotServe ask call below rs turn
  does_not_serve rs turn h r at may = h r at may.of_call may.levels

  -- none from this turn on, as far as they stand at later places than the first, may serve
  abbrev pub PassedFrom : (ℕ → ℕ) → List (Rc Record Global) → ℕ → ℕ → Type 0
  PassedFrom place rs from end = (turn : ℕ) → end ≤ turn → from < place turn → DoesNotServe ask call below rs turn

  module _ (place : ℕ → ℕ) (rs : List (Rc Record Global)) (from end : ℕ) where
    abbrev Latest : Option ℕ → Type 0
    Latest found = IsLatest (keys_in rs) (key_of call) end found

    not_later : {o : Option ℕ} → Latest o → (t : ℕ) → t < end → (r : Rc Record Global) → slice_get rs t ≡ Some r → MayServe ask call below (kept_in r.value)
        → IsSomeAnd o (λ f. t ≤ f)
    not_later h t lt r at may = h.last t lt (keyed rs t r at ∙ ap Some (key_so call r.value may.of_call))

    pub pass_all : ∥ Latest None ∥₁ → PassedFrom place rs from end → (t : ℕ) → from < place t → DoesNotServe ask call below rs t
    pass_all latest passed t after r at may = ∥∥₁_elim latest (λ x y. absurd x) (λ h.
        split t end (λ lt. not_later h t lt r at may) (λ le. passed t le after r at may))

    pub pass_later : (turn : ℕ) → ∥ Latest (Some turn) ∥₁ → PassedFrom place rs from end → (t : ℕ) → turn < t → from < place t
        → DoesNotServe ask call below rs t
    pass_later turn latest passed t later after r at may = ∥∥₁_elim latest (λ x y. absurd x) (λ h.
        split t end
        (λ lt. let le : t ≤ turn = not_later h t lt r at may in absurd (omega arith))
        (λ le. passed t le after r at may))

    pub pass_turn : (turn : ℕ) → ∥ Latest (Some turn) ∥₁ → DoesNotServe ask call below rs turn → PassedFrom place rs from end
        → PassedFrom place rs from turn
    pass_turn turn latest here passed t le after r at may =
        split turn t
        (λ later. pass_later turn latest passed t later after r at may)
        (λ back. let is : t ≡ turn = omega arith in here r (subst (λ n. slice_get rs n ≡ Some r) is at) may)

-- ---- In both lists

pub at_most : {A : Type 0} (v : Vec A Global) → length v.items ≤ most
at_most v = omega (arith, v.ok.0, v.ok.1, v.small)

module _ (ask : Question NodeRef → Answer NodeRef) (call : Call NodeRef) (below : ℕ) (reuse : Reuse) (from : ℕ) where
  kept_so : (o : Option Found) → PassedAmong ask call below kept_place reuse.kept.records.items from o → (at : ℕ) (r : Record) (turn : ℕ)
      → IsAt reuse.kept.records.items turn r → at ≡ kept_place turn → from < at → IfSome o (λ f. at < f.next) → MayServe ask call below (kept_in r) → ⊥
  kept_so o passed at r turn here is after before may =
      passed turn (subst (λ n. from < n) is after) (subst (λ n. IfSome o (λ f. n < f.next)) is before) here.handle here.here
      (subst (λ x. MayServe ask call below (kept_in x)) (sym here.is) may)

  last_so : (o : Option Found) → PassedAmong ask call below last_place reuse.last.now.records.items from o → (at : ℕ) (r : Record) (turn : ℕ)
      → IsAt reuse.last.now.records.items turn r → at ≡ last_place turn → from < at → IfSome o (λ f. at < f.next) → MayServe ask call below (kept_in r) → ⊥
  last_so o passed at r turn here is after before may =
      passed turn (subst (λ n. from < n) is after) (subst (λ n. IfSome o (λ f. n < f.next)) is before) here.handle here.here
      (subst (λ x. MayServe ask call below (kept_in x)) (sym here.is) may)

  -- one that this run kept comes before all of the last run
  pub over_kept : (f : Found) → length reuse.last.now.records.items ≤ most → f.next ≤ most → PassedAmong ask call below kept_place reuse.kept.records.items from (Some f)
      → PassedOver ask call below reuse from (Some f)
  over_kept f few le passed at r (InKept s) after before may = kept_so (Some f) passed at r s.turn s.here s.stands after before may
  over_kept f few le passed at r (InLast s) after before may =
      let lt = within reuse.last.now.records.items s.turn s.here.handle s.here.here in
      absurd (omega (arith, lt, few, s.stands, before, le))

  pub over_last : (o : Option Found) → PassedAmong ask call below kept_place reuse.kept.records.items from None
      → PassedAmong ask call below last_place reuse.last.now.records.items from o → PassedOver ask call below reuse from o
  over_last o kept passed at r (InKept s) after before may = kept_so None kept at r s.turn s.here s.stands after tt may
  over_last o kept passed at r (InLast s) after before may = last_so o passed at r s.turn s.here s.stands after before may
