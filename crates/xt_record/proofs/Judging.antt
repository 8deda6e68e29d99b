-- What is sure of records that are added, and of those that are judged.
use Rattle.std.proofs.Common.{◌≡◌, ℕ, zero, suc, ◌<◌, Bool, true, false, List, [], ◌∷◌, ◌++◌, length, get_or, set, replicate, slice_get, Some, Decides, true≢false, refl, sym, ap, subst, ◌∙◌, arith}
use Rattle.std.proofs.lemmas.Option.{get_or_from_slice_get, slice_get-get_or}
use Rattle.std.specs.declared.rc.Rc.{Rc}
use Rattle.std.specs.declared.alloc.Global.{Global}
use Rattle.spec_meaning.specs.Question.{Question, Answer}
use Rattle.spec_node.specs.declared.node_ref.NodeRef.{NodeRef}
use Rattle.xt_record.specs.View.{kept_in, AsksHold, IsAt}
use Rattle.xt_spared.specs.declared.spared.Spared.{Spared}
use Rattle.xt_record.specs.Sure.{AllHold, AllJudged, AllSpared, AsksSpared, IsTrueOf, verdict_of}
use Rattle.xt_record.specs.declared.record.Record.{Record}
use Rattle.xt_record.specs.declared.reuse.Verdict.{Verdict}
use Rattle.xt_record.specs.declared.reuse.Verdict.TheVariants.{Unasked}

module _ (ask : Question NodeRef → Answer NodeRef) where
  abbrev HoldsIn : Record → Type 0
  HoldsIn r = AsksHold ask (kept_in r).trace

  pub all_more : (rs : List (Rc Record Global)) (r : Rc Record Global) → AllHold ask rs → HoldsIn r.value → AllHold ask (rs ++ r ∷ [])
  all_more [] r h k = (k, tt)
  all_more (x ∷ rs) r h k = (h.0, all_more rs r h.1 k)

  pub all_at : (rs : List (Rc Record Global)) (i : ℕ) (r : Rc Record Global) → i < length rs → r.value ≡ (get_or rs i r).value → AllHold ask rs → HoldsIn r.value
  all_at [] i r lt at h = absurd (omega arith)
  all_at (x ∷ rs) zero r lt at h = subst HoldsIn (sym at) h.0
  all_at (x ∷ rs) (suc i) r lt at h = all_at rs i r (omega arith) at h.1

  pub unasked : (n : ℕ) (rs : List (Rc Record Global)) → n ≡ length rs → AllJudged ask (replicate n Unasked) rs
  unasked zero [] e = tt
  unasked zero (r ∷ rs) e = absurd (omega arith)
  unasked (suc n) [] e = absurd (omega arith)
  unasked (suc n) (r ∷ rs) e = (tt, unasked n rs (omega arith))

  pub as_many_judged : (vs : List Verdict) (rs : List (Rc Record Global)) → AllJudged ask vs rs → length vs ≡ length rs
  as_many_judged [] [] h = refl
  as_many_judged [] (r ∷ rs) h = absurd h
  as_many_judged (v ∷ vs) [] h = absurd h
  as_many_judged (v ∷ vs) (r ∷ rs) h = omega (arith, as_many_judged vs rs h.1)

  pub judged_at : (vs : List Verdict) (rs : List (Rc Record Global)) (i : ℕ) (v : Verdict) (r : Rc Record Global) → v ≡ get_or vs i v
      → i < length rs → r.value ≡ (get_or rs i r).value → AllJudged ask vs rs → IsTrueOf ask v r.value
  judged_at vs [] i v r vat lr at h = absurd (omega arith)
  judged_at [] (x ∷ rs) i v r vat lr at h = absurd h
  judged_at (w ∷ vs) (x ∷ rs) zero v r vat lr at h =
      subst (λ y. IsTrueOf ask v y) (sym at) (subst (λ u. IsTrueOf ask u x.value) (sym vat) h.0)
  judged_at (w ∷ vs) (x ∷ rs) (suc i) v r vat lr at h = judged_at vs rs i v r vat (omega arith) at h.1

  pub judged_now : (vs : List Verdict) (rs : List (Rc Record Global)) (i : ℕ) (v : Verdict) (r : Rc Record Global) → i < length rs
      → r.value ≡ (get_or rs i r).value → IsTrueOf ask v r.value → AllJudged ask vs rs → AllJudged ask (set vs i v) rs
  judged_now vs [] i v r lr at k h = absurd (omega arith)
  judged_now [] (x ∷ rs) i v r lr at k h = absurd h
  judged_now (w ∷ vs) (x ∷ rs) zero v r lr at k h = (subst (λ y. IsTrueOf ask v y) at k, h.1)
  judged_now (w ∷ vs) (x ∷ rs) (suc i) v r lr at k h = (h.0, judged_now vs rs i v r (omega arith) at k h.1)

  pub judged_so : (holds : Bool) (v : Verdict) (r : Record) → v ≡ verdict_of holds → Decides holds (HoldsIn r) → IsTrueOf ask v r
  judged_so true v r is d = subst (λ u. IsTrueOf ask u r) (sym is) (d.0 refl)
  judged_so false v r is d = subst (λ u. IsTrueOf ask u r) (sym is) (λ h. true≢false (sym (d.1 h)))

-- what is read there is another handle of the same record
pub read_at : (rs : List (Rc Record Global)) (i : ℕ) (r s : Rc Record Global) → i < length rs → r ≡ get_or rs i r → r.value ≡ s.value
    → s.value ≡ (get_or rs i s).value
read_at [] i r s lt at e = absurd (omega arith)
read_at (x ∷ rs) zero r s lt at e = sym e ∙ ap (λ (y : Rc Record Global). y.value) at
read_at (x ∷ rs) (suc i) r s lt at e = read_at rs i r s (omega arith) at e

pub is_at : (rs : List (Rc Record Global)) (i : ℕ) (r : Rc Record Global) → i < length rs → r.value ≡ (get_or rs i r).value → IsAt rs i r.value
is_at rs i r lt at = record { handle = get_or rs i r; here = slice_get-get_or rs i r lt; is = sym at }

pub reads : (rs : List (Rc Record Global)) (i : ℕ) (x r : Rc Record Global) → x ≡ get_or rs i x → slice_get rs i ≡ Some r → x ≡ r
reads rs i x r at here = at ∙ get_or_from_slice_get rs i r x here

-- what is spared of a record among others
module _ (ask : Question NodeRef → Answer NodeRef) (spared : Spared) where
  abbrev SparedIn : Record → Type 0
  SparedIn r = AsksSpared ask spared (kept_in r).trace

  pub all_spared_at : (rs : List (Rc Record Global)) (i : ℕ) (r : Rc Record Global) → i < length rs → r.value ≡ (get_or rs i r).value → AllSpared ask spared rs
      → SparedIn r.value
  all_spared_at [] i r lt at h = absurd (omega arith)
  all_spared_at (x ∷ rs) zero r lt at h = subst SparedIn (sym at) h.0
  all_spared_at (x ∷ rs) (suc i) r lt at h = all_spared_at rs i r (omega arith) at h.1
