use Rattle.std.proofs.Common.{◌≡◌, ◌-◌, ◌∙◌, ℕ, suc, zero, drop, sym, subst, arith}
use Rattle.xt_record.specs.Asked.{NoUnitIsAsked}
use Rattle.xt_record.proofs.LastUnit.{asked_by_record, found, found_none, found_some, none_behind, none_from}
use Rattle.xt_record.proofs.pool.Pool.last_unit.Goals as goal

pub loop-end-init : goal.loop-end-init
loop-end-init c = record {
  within = omega (arith, c.count-end.ensures.records);
  none = none_behind c.args.self.now.records.items c.count-end.result c.count-end.ensures.records;
}

pub loop-end-preserved : goal.loop-end-preserved
loop-end-preserved c =
    let rs = c.args.self.now.records.items in
    let held = c.loop-end.invariant in
    let one : c.loop-end.end ≡ suc (c.loop-end.end - 1) = omega arith in
    record {
      within = omega (arith, held.within);
      none = none_from rs (c.loop-end.end - 1) c.record_at.result.now c.record_at.ensures
          (found_none c.unit_by-unit.result (sym c.is_some.ensures ∙ c.if-is_some.false) c.unit_by-unit.ensures.none)
          (subst (λ (n : ℕ). NoUnitIsAsked (drop n rs)) one held.none);
    }

pub returns-then-is_some-clause-asked : goal.returns-then-is_some-clause-asked
returns-then-is_some-clause-asked c =
    found c.unit_by-unit.result (sym c.is_some.ensures ∙ c.if-is_some.true)
    (λ element. asked_by_record element c.args.self.now.records.items (c.loop-end.end - 1) c.record_at.result.now c.record_at.ensures)
    c.unit_by-unit.ensures.asked

pub returns-then-is_some-clause-none : goal.returns-then-is_some-clause-none
returns-then-is_some-clause-none c = found_some _ c.unit_by-unit.result (sym c.is_some.ensures ∙ c.if-is_some.true)

pub returns-clause-none : goal.returns-clause-none
returns-clause-none c =
    let ended : c.loop-end.end ≡ zero = omega (arith, c.loop-end-test.false) in
    subst (λ (n : ℕ). NoUnitIsAsked (drop n c.args.self.now.records.items)) ended c.loop-end.invariant.none
