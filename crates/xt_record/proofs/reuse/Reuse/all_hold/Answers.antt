use Rattle.std.proofs.Common.{◌≡◌, ◌-◌, ◌∙◌, ℕ, suc, Bor, ap, length, get_or, subst, sym, arith}
use Rattle.std.proofs.lemmas.Option.{get_or_from_slice_get}
use Rattle.spec_meaning.specs.Question.{Question, Answer}
use Rattle.spec_node.specs.declared.node_ref.NodeRef.{NodeRef}
use Rattle.xt_record.specs.View.{kept_in, AsksHold}
use Rattle.xt_record.specs.Sure.{from_to, AllHold, IsSure}
use Rattle.xt_record.specs.declared.pool.Pool.{Pool}
use Rattle.xt_record.proofs.Saying.{hold_from}
use Rattle.xt_record.proofs.Standing.{judges_more}
use Rattle.xt_record.proofs.reuse.Reuse.all_hold.Goals as goal

pub holds-requires : goal.holds-requires
holds-requires g c =
    let held = c.loop-end.invariant in
    let at = c.loop-end.end - 1 in
    let r = c.record_at.result.now in
    let many = ap (λ (last : Bor Pool). length last.now.records.items) held.judges.last in
    let Sure : (Question NodeRef → Answer NodeRef) → Type 0 = λ t. IsSure t c.loop-end.self in
    let At : Bor Pool → Type 0 = λ last. r.value ≡ (get_or last.now.records.items at r).value in
    let here = sym (ap (λ x. x.value) (get_or_from_slice_get c.args.self.now.last.now.records.items at r r c.record_at.ensures)) in
    record {
      sure = subst Sure (sym held.truth) held.sure;
      within = omega (arith, held.up_to, c.requires.within, many);
      at = subst At (sym held.judges.last) here;
    }

pub loop-end-preserved : goal.loop-end-preserved
loop-end-preserved g c =
    let held = c.loop-end.invariant in
    let truth = (g.W.World.state c.args.world.now).truth in
    let rs = c.args.self.now.last.now.records.items in
    let r = c.record_at.result.now in
    let k = c.in_ok-holds.ensures in
    let one : c.loop-end.end ≡ suc (c.loop-end.end - 1) = omega (arith) in
    let Sure : (Question NodeRef → Answer NodeRef) → Type 0 = λ t. IsSure t c.holds.new.self in
    let Hold : (Question NodeRef → Answer NodeRef) → Type 0 = λ t. AsksHold t (kept_in r.value).trace in
    let From : ℕ → Type 0 = λ n. AllHold truth (from_to n (suc c.args.turn) rs) in
    record {
      up_to = omega (arith, held.up_to);
      down_to = λ le. omega (arith, le);
      holds = hold_from truth rs (c.loop-end.end - 1) (suc c.args.turn) r (omega (arith, held.up_to)) c.record_at.ensures
          (subst Hold held.truth (k.holds.0 c.if-not-holds.false)) (subst From one held.holds);
      sure = subst Sure held.truth k.sure;
      judges = judges_more held.judges k.judges;
      truth = k.truth ∙ held.truth;
      name = k.name ∙ held.name;
    }
