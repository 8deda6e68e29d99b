-- Which unit is asked for.
use Rattle.std.proofs.Common.{◌≡◌, ℕ, zero, suc, ◌<◌, inl, inr, true, false, List, [], ◌∷◌, map, take, drop, length, get_or, slice_get, Option, None, Some}
use Rattle.std.proofs.Common.{sym, subst, arith}
use Rattle.std.specs.Prelude.{IfNone, IfSome, is_some}
use Rattle.std.specs.declared.rc.Rc.{Rc}
use Rattle.std.specs.declared.alloc.Global.{Global}
use Rattle.spec_run.specs.Going.{Event, Asked, Saw, Entered, Held}
use Rattle.spec_node.specs.declared.node_ref.NodeRef.{NodeRef}
use Rattle.xt_engine.specs.View.{event_of}
use Rattle.xt_engine.specs.declared.event.Event.{Event as CodeEvent}
use Rattle.xt_record.specs.Asked.{AsksUnit, NoUnitIsAsked, UnitIsAsked}
use Rattle.xt_record.specs.View.{kept_in}
use Rattle.xt_record.specs.declared.record.Record.{Record}

-- ---- What was found

pub found : {X : Type 0} {P Q : X → Type 0} (o : Option X) → is_some o ≡ true → ((x : X) → P x → Q x) → IfSome o P → IfSome o Q
found None is more h = absurd (cc)
found (Some x) is more h = more x h

pub found_some : {X : Type 0} (P : Type 0) (o : Option X) → is_some o ≡ true → IfNone o P
found_some P None is = absurd (cc)
found_some P (Some x) is = tt

pub found_none : {X P : Type 0} (o : Option X) → is_some o ≡ false → IfNone o P → P
found_none None is h = h
found_none (Some x) is h = absurd (cc)

-- ---- Among what was done

abbrev pub AsksNoUnit : List (Event NodeRef) → Type 0
AsksNoUnit es = (element : NodeRef) → AsksUnit element es → ⊥

module _ (element : NodeRef) where
  here : (e : Event NodeRef) (es : List (Event NodeRef)) → AsksUnit element (e ∷ []) → AsksUnit element (e ∷ es)
  here (Asked q a) es (inl is) = inl is
  here (Asked q a) es (inr none) = absurd none
  here (Saw w d l x) es h = absurd h
  here (Entered c d) es h = absurd h
  here (Held j xs) es h = absurd h

  behind : (e : Event NodeRef) (es : List (Event NodeRef)) → AsksUnit element es → AsksUnit element (e ∷ es)
  behind (Asked q a) es h = inr h
  behind (Saw w d l x) es h = h
  behind (Entered c d) es h = h
  behind (Held j xs) es h = h

  either : {P : Type 0} (e : Event NodeRef) (es : List (Event NodeRef)) → AsksUnit element (e ∷ es) → (AsksUnit element (e ∷ []) → P)
      → (AsksUnit element es → P) → P
  either (Asked q a) es (inl is) f g = f (inl is)
  either (Asked q a) es (inr h) f g = g h
  either (Saw w d l x) es h f g = g h
  either (Entered c d) es h f g = g h
  either (Held j xs) es h f g = g h

  pub asked_by_one : (es : List CodeEvent) (i : ℕ) (e : CodeEvent) → i < length es → e ≡ get_or es i e → AsksUnit element (event_of e ∷ [])
      → AsksUnit element (map event_of es)
  asked_by_one [] i e lt at h = absurd (omega arith)
  asked_by_one (x ∷ es) zero e lt at h =
      let P : CodeEvent → Type 0 = λ y. AsksUnit element (event_of y ∷ []) in here (event_of x) (map event_of es) (subst P at h)
  asked_by_one (x ∷ es) (suc i) e lt at h = behind (event_of x) (map event_of es) (asked_by_one es i e (omega arith) at h)

pub none_more : (es : List CodeEvent) (i : ℕ) (e : CodeEvent) → i < length es → e ≡ get_or es i e → AsksNoUnit (event_of e ∷ [])
    → AsksNoUnit (map event_of (take i es)) → AsksNoUnit (map event_of (take (suc i) es))
none_more [] i e lt at none h = absurd (omega arith)
none_more (x ∷ es) zero e lt at none h =
    let P : CodeEvent → Type 0 = λ y. AsksNoUnit (event_of y ∷ []) in subst P at none
none_more (x ∷ es) (suc i) e lt at none h = λ element asks.
    either element (event_of x) (map event_of (take (suc i) es)) asks
    (λ first. h element (here element (event_of x) (map event_of (take i es)) first))
    (none_more es i e (omega arith) at none (λ other more. h other (behind other (event_of x) (map event_of (take i es)) more)) element)

-- ---- Of records

pub asked_by_record : (element : NodeRef) (rs : List (Rc Record Global)) (i : ℕ) (r : Rc Record Global) → slice_get rs i ≡ Some r
    → AsksUnit element (kept_in r.value).trace → UnitIsAsked element rs
asked_by_record element [] i r at h = absurd (cc)
asked_by_record element (x ∷ rs) zero r at h =
    inl (subst (λ (o : Option (Rc Record Global)). IfSome o (λ y. AsksUnit element (kept_in y.value).trace)) (sym at) h)
asked_by_record element (x ∷ rs) (suc i) r at h = inr (asked_by_record element rs i r at h)

pub none_behind : (rs : List (Rc Record Global)) (n : ℕ) → n ≡ length rs → NoUnitIsAsked (drop n rs)
none_behind [] zero e = λ element h. h
none_behind [] (suc n) e = absurd (omega (arith, e))
none_behind (x ∷ rs) zero e = absurd (omega (arith, e))
none_behind (x ∷ rs) (suc n) e = none_behind rs n (omega (arith, e))

pub none_from : (rs : List (Rc Record Global)) (i : ℕ) (r : Rc Record Global) → slice_get rs i ≡ Some r → AsksNoUnit (kept_in r.value).trace
    → NoUnitIsAsked (drop (suc i) rs) → NoUnitIsAsked (drop i rs)
none_from [] i r at none h = absurd (cc)
none_from (x ∷ rs) zero r at none h = λ element asks. by element asks
  where
    here_none : AsksNoUnit (kept_in x.value).trace
    here_none = subst (λ (o : Option (Rc Record Global)). IfSome o (λ y. AsksNoUnit (kept_in y.value).trace)) (sym at) none

    by : (element : NodeRef) → UnitIsAsked element (x ∷ rs) → ⊥
    by element (inl asks) = here_none element asks
    by element (inr asks) = h element asks
none_from (x ∷ rs) (suc i) r at none h = none_from rs i r at none h
