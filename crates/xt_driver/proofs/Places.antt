-- No two records stand at one place of what a run may reuse, and none at the first: no list is so long.
use Rattle.std.proofs.Common.{◌≡◌, ◌<◌, ◌≤◌, ℕ, List, length, slice_get, sym, ap, ◌∙◌, arith}
use Rattle.std.specs.declared.rc.Rc.{Rc}
use Rattle.std.specs.declared.alloc.Global.{Global}
use Rattle.spec_meaning.specs.Question.{Question, Answer}
use Rattle.spec_node.specs.declared.node_ref.NodeRef.{NodeRef}
use Rattle.xt_record.specs.Search.{InKept, InLast, Stands, most}
use Rattle.xt_record.specs.Sure.{IsSure}
use Rattle.xt_record.specs.View.{IsAt}
use Rattle.xt_record.specs.declared.record.Record.{Record}
use Rattle.xt_record.specs.declared.reuse.Reuse.{Reuse}
use Rattle.xt_record.proofs.Chaining.{some_is, within}
use Rattle.xt_record.proofs.Judging.{as_many_judged}
use Rattle.xt_record.proofs.Passing.{at_most}

-- there are as many verdicts as records of the last run
pub few_of : (ask : Question NodeRef → Answer NodeRef) (reuse : Reuse) → IsSure ask reuse → length reuse.last.now.records.items ≤ most
few_of ask reuse sure =
    omega (arith, as_many_judged ask reuse.verdicts.items reuse.last.now.records.items sure.judged, at_most reuse.verdicts)

one_at : (rs : List (Rc Record Global)) (t u : ℕ) (one other : Record) → IsAt rs t one → IsAt rs u other → t ≡ u → one ≡ other
one_at rs t u one other h k e =
    let same = some_is (sym h.here ∙ ap (λ n. slice_get rs n) e ∙ k.here) in
    sym h.is ∙ ap (λ (x : Rc Record Global). x.value) same ∙ k.is

module _ (reuse : Reuse) (few : length reuse.last.now.records.items ≤ most) where
  kept_below : (t : ℕ) (r : Record) → IsAt reuse.kept.records.items t r → t < most
  kept_below t r h = omega (arith, within reuse.kept.records.items t h.handle h.here, at_most reuse.kept.records)

  last_below : (t : ℕ) (r : Record) → IsAt reuse.last.now.records.items t r → t < most
  last_below t r h = omega (arith, within reuse.last.now.records.items t h.handle h.here, few)

  pub stands_above : (at : ℕ) (r : Record) → Stands reuse at r → 0 < at
  stands_above at r (InKept s) = omega (arith, kept_below s.turn r s.here, s.stands)
  stands_above at r (InLast s) = omega (arith, last_below s.turn r s.here, s.stands)

  pub stands_once : (at : ℕ) (one other : Record) → Stands reuse at one → Stands reuse at other → one ≡ other
  stands_once at one other (InKept s) (InKept t) =
      one_at reuse.kept.records.items s.turn t.turn one other s.here t.here
      (omega (arith, kept_below s.turn one s.here, kept_below t.turn other t.here, s.stands, t.stands))
  stands_once at one other (InKept s) (InLast t) =
      absurd (omega (arith, kept_below s.turn one s.here, last_below t.turn other t.here, s.stands, t.stands))
  stands_once at one other (InLast s) (InKept t) =
      absurd (omega (arith, last_below s.turn one s.here, kept_below t.turn other t.here, s.stands, t.stands))
  stands_once at one other (InLast s) (InLast t) =
      one_at reuse.last.now.records.items s.turn t.turn one other s.here t.here
      (omega (arith, last_below s.turn one s.here, last_below t.turn other t.here, s.stands, t.stands))
