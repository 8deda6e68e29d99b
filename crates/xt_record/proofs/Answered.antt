-- What is asked, one question after the other.
use Rattle.std.proofs.Common.{◌≡◌, ℕ, zero, suc, ◌<◌, List, [], ◌∷◌, map, take, length, get_or, sym, subst, arith}
use Rattle.spec_meaning.specs.Question.{Question, Answer}
use Rattle.spec_run.specs.Going.{Event, Asked, Saw, Entered, Held}
use Rattle.spec_node.specs.declared.node_ref.NodeRef.{NodeRef}
use Rattle.xt_engine.specs.View.{event_of}
use Rattle.xt_engine.specs.declared.event.Event.{Event as CodeEvent}
use Rattle.xt_record.specs.View.{AsksHold}
use Rattle.xt_record.specs.Sure.{AsksSpared}
use Rattle.xt_spared.specs.declared.spared.Spared.{Spared}

module _ (ask : Question NodeRef → Answer NodeRef) where
  first_answered : (e : Event NodeRef) (es : List (Event NodeRef)) → AsksHold ask (e ∷ es) → AsksHold ask (e ∷ [])
  first_answered (Asked q a) es h = (h.0, tt)
  first_answered (Saw w d l x) es h = tt
  first_answered (Entered c d) es h = tt
  first_answered (Held j xs) es h = tt

  others_answered : (e : Event NodeRef) (es : List (Event NodeRef)) → AsksHold ask (e ∷ es) → AsksHold ask es
  others_answered (Asked q a) es h = h.1
  others_answered (Saw w d l x) es h = h
  others_answered (Entered c d) es h = h
  others_answered (Held j xs) es h = h

  both_answered : (e : Event NodeRef) (es : List (Event NodeRef)) → AsksHold ask (e ∷ []) → AsksHold ask es → AsksHold ask (e ∷ es)
  both_answered (Asked q a) es k h = (k.0, h)
  both_answered (Saw w d l x) es k h = h
  both_answered (Entered c d) es k h = h
  both_answered (Held j xs) es k h = h

  pub answered_more : (es : List CodeEvent) (i : ℕ) (e : CodeEvent) → i < length es → e ≡ get_or es i e → AsksHold ask (event_of e ∷ [])
      → AsksHold ask (map event_of (take i es)) → AsksHold ask (map event_of (take (suc i) es))
  answered_more [] i e lt at k h = absurd (omega arith)
  answered_more (x ∷ es) zero e lt at k h =
      let P : CodeEvent → Type 0 = λ y. AsksHold ask (event_of y ∷ []) in subst P at k
  answered_more (x ∷ es) (suc i) e lt at k h =
      let before = map event_of (take i es) in
      both_answered (event_of x) (map event_of (take (suc i) es)) (first_answered (event_of x) before h)
      (answered_more es i e (omega arith) at k (others_answered (event_of x) before h))

  pub answered_at : (es : List CodeEvent) (i : ℕ) (e : CodeEvent) → i < length es → e ≡ get_or es i e → AsksHold ask (map event_of es)
      → AsksHold ask (event_of e ∷ [])
  answered_at [] i e lt at h = absurd (omega arith)
  answered_at (x ∷ es) zero e lt at h =
      let P : CodeEvent → Type 0 = λ y. AsksHold ask (event_of y ∷ []) in subst P (sym at) (first_answered (event_of x) (map event_of es) h)
  answered_at (x ∷ es) (suc i) e lt at h = answered_at es i e (omega arith) at (others_answered (event_of x) (map event_of es) h)

-- what is spared among all, at each place
module _ (ask : Question NodeRef → Answer NodeRef) (spared : Spared) where
  pub first_spared : (e : Event NodeRef) (es : List (Event NodeRef)) → AsksSpared ask spared (e ∷ es) → AsksSpared ask spared (e ∷ [])
  first_spared (Asked q a) es h = (h.0, tt)
  first_spared (Saw w d l x) es h = tt
  first_spared (Entered c d) es h = tt
  first_spared (Held j xs) es h = tt

  pub others_spared : (e : Event NodeRef) (es : List (Event NodeRef)) → AsksSpared ask spared (e ∷ es) → AsksSpared ask spared es
  others_spared (Asked q a) es h = h.1
  others_spared (Saw w d l x) es h = h
  others_spared (Entered c d) es h = h
  others_spared (Held j xs) es h = h

  pub spared_at : (es : List CodeEvent) (i : ℕ) (e : CodeEvent) → i < length es → e ≡ get_or es i e → AsksSpared ask spared (map event_of es)
      → AsksSpared ask spared (event_of e ∷ [])
  spared_at [] i e lt at h = absurd (omega arith)
  spared_at (x ∷ es) zero e lt at h =
      let P : CodeEvent → Type 0 = λ y. AsksSpared ask spared (event_of y ∷ []) in subst P (sym at) (first_spared (event_of x) (map event_of es) h)
  spared_at (x ∷ es) (suc i) e lt at h = spared_at es i e (omega arith) at (others_spared (event_of x) (map event_of es) h)
