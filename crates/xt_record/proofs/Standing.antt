-- Where records stand in a search, and that they stay there.
use Rattle.std.proofs.Common.{length, ◌^◌, ◌+◌, ◌≤◌, ◌≡◌, ℕ, zero, suc, ◌<◌, List, [], ◌∷◌, ◌++◌, slice_get, Some, Bor, sym, ap, subst, ◌∙◌, arith}
use Rattle.std.specs.declared.rc.Rc.{Rc}
use Rattle.std.specs.declared.alloc.Global.{Global}
use Rattle.xt_record.specs.View.{IsAt}
use Rattle.xt_record.specs.Asked.{Judges, StaysSo}
use Rattle.xt_record.specs.Search.{kept_place, last_place, most, StandOn, Stands, InKept, InLast, StandsAmong}
use Rattle.xt_record.specs.declared.index.Index.{Index}
use Rattle.xt_record.specs.declared.pool.Pool.{Pool}
use Rattle.xt_record.specs.declared.record.Record.{Record}
use Rattle.xt_record.specs.declared.reuse.Reuse.{Reuse}
use Rattle.xt_record.specs.declared.reuse.Steps.{Steps}
use Rattle.xt_record.proofs.Chaining.{none_some, some_is, within}
use Rattle.xt_record.proofs.Passing.{at_most}

-- ---- One at a place

one_at : (rs : List (Rc Record Global)) (t u : ℕ) (one other : Record) → IsAt rs t one → IsAt rs u other → t ≡ u → one ≡ other
one_at rs t u one other h k e =
    let same = some_is (sym h.here ∙ ap (λ n. slice_get rs n) e ∙ k.here) in
    sym h.is ∙ ap (λ (x : Rc Record Global). x.value) same ∙ k.is

module _ (reuse : Reuse) (few : length reuse.last.now.records.items ≤ 2 ^ 62 + 64) where
  kept_below : (t : ℕ) (r : Record) → IsAt reuse.kept.records.items t r → t < most
  kept_below t r h = omega (arith, within reuse.kept.records.items t h.handle h.here, at_most reuse.kept.records)

  last_below : (t : ℕ) (r : Record) → IsAt reuse.last.now.records.items t r → t < most
  last_below t r h = omega (arith, within reuse.last.now.records.items t h.handle h.here, few)

  pub stands_above : (at : ℕ) (r : Record) → Stands reuse at r → 0 < at
  stands_above at r (InKept s) = omega (arith, kept_below s.turn r s.here, s.stands)
  stands_above at r (InLast s) = omega (arith, last_below s.turn r s.here, s.stands)

  pub stands_once : (at : ℕ) (one other : Record) → Stands reuse at one → Stands reuse at other → one ≡ other
  stands_once at one other (InKept s) (InKept t) =
      one_at reuse.kept.records.items s.turn t.turn one other s.here t.here
      (omega (arith, kept_below s.turn one s.here, kept_below t.turn other t.here, s.stands, t.stands))
  stands_once at one other (InKept s) (InLast t) =
      absurd (omega (arith, kept_below s.turn one s.here, last_below t.turn other t.here, s.stands, t.stands))
  stands_once at one other (InLast s) (InKept t) =
      absurd (omega (arith, last_below s.turn one s.here, kept_below t.turn other t.here, s.stands, t.stands))
  stands_once at one other (InLast s) (InLast t) =
      one_at reuse.last.now.records.items s.turn t.turn one other s.here t.here
      (omega (arith, last_below s.turn one s.here, last_below t.turn other t.here, s.stands, t.stands))

-- ---- It stays

at_front : (rs more : List (Rc Record Global)) (t : ℕ) (r : Rc Record Global) → slice_get rs t ≡ Some r → slice_get (rs ++ more) t ≡ Some r
at_front [] more t r at = absurd (none_some at)
at_front (x ∷ rs) more zero r at = at
at_front (x ∷ rs) more (suc t) r at = at_front rs more t r at

pub stand_on : (before after : Reuse) (more : List (Rc Record Global)) → after.last ≡ before.last
    → after.kept.records.items ≡ before.kept.records.items ++ more → StandOn before after
stand_on before after more last kept at r (InKept s) =
    let rs = before.kept.records.items in
    let Here : List (Rc Record Global) → Type 0 = λ x. IsAt x s.turn r in
    let front : IsAt (rs ++ more) s.turn r = record {
      handle = s.here.handle;
      here = at_front rs more s.turn s.here.handle s.here.here;
      is = s.here.is;
    } in
    InKept (record { turn = s.turn; here = subst Here (sym kept) front; stands = s.stands })
stand_on before after more last kept at r (InLast s) =
    let Among : Bor Pool → Type 0 = λ x. StandsAmong last_place x.now.records.items at r in
    InLast (subst Among (sym last) s)

pub judged_on : (before after : Reuse) → Judges before after → StandOn before after
judged_on before after h at r (InKept s) =
    let Among : Index → Type 0 = λ x. StandsAmong kept_place x.records.items at r in
    InKept (subst Among (sym h.kept) s)
judged_on before after h at r (InLast s) =
    let Among : Bor Pool → Type 0 = λ x. StandsAmong last_place x.now.records.items at r in
    InLast (subst Among (sym h.last) s)

-- ---- Judged in several steps

pub judges_more : {before between after : Reuse} → Judges before between → Judges between after → Judges before after
judges_more h k = record {
  last = k.last ∙ h.last;
  spared = k.spared ∙ h.spared;
  kept = k.kept ∙ h.kept;
  next = k.next ∙ h.next;
  ran = k.ran ∙ h.ran;
  asked = omega (arith, h.asked, k.asked);
}

pub judges_so : {before between after : Reuse} → Judges before between → StaysSo between after → after.next ≡ between.next → Judges before after
judges_so {between = between} {after = after} h k next =
    let judged : Judges between after = record {
      last = k.last;
      spared = k.spared;
      kept = k.kept;
      next = next;
      ran = ap (λ (s : Steps). s.ran) k.steps;
      asked = omega (arith, ap (λ (s : Steps). s.asked) k.steps);
    } in
    judges_more h judged
