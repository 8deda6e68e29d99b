use Rattle.std.proofs.Common.{◌≡◌, ◌-◌, ◌∙◌, ℕ, suc, Bor, ap, drop, length, subst, sym, arith}
use Rattle.spec_meaning.specs.Question.{Question, Answer}
use Rattle.spec_node.specs.declared.node_ref.NodeRef.{NodeRef}
use Rattle.xt_record.specs.Asked.{NoneMarkedAmong}
use Rattle.xt_record.specs.Sure.{IsSure}
use Rattle.xt_record.specs.declared.pool.Pool.{Pool}
use Rattle.xt_spared.specs.declared.spared.Spared.{Spared}
use Rattle.xt_touch.specs.View.{since_of}
use Rattle.xt_record.proofs.Standing.{judges_more}
use Rattle.xt_record.proofs.reuse.Reuse.ask_what_is_left.Goals as goal

pub judge_at-requires : goal.judge_at-requires
judge_at-requires g c =
    let held = c.loop-end.invariant in
    let Sure : (Question NodeRef → Answer NodeRef) → Type 0 = λ t. IsSure t c.loop-end.self in
    let many = ap (λ (last : Bor Pool). length last.now.records.items) held.judges.last in
    record { sure = subst Sure (sym held.truth) held.sure; within = omega (arith, held.within, many) }

pub loop-end-preserved : goal.loop-end-preserved
loop-end-preserved g c =
    let held = c.loop-end.invariant in
    let k = c.in_ok-end.ensures in
    let Sure : (Question NodeRef → Answer NodeRef) → Type 0 = λ w. IsSure w c.judge_at.new.self in
    let None : Bor Spared → Bor Pool → ℕ → Type 0
    = λ spared last n. NoneMarkedAmong (since_of spared.now.since.now) (drop n last.now.records.items) in
    let one : c.loop-end.end ≡ suc (c.loop-end.end - 1) = omega (arith) in
    record {
      within = omega (arith, held.within, k.before);
      quiet = λ none.
          let rest = held.quiet (omega (arith, k.judges.asked, none)) in
          subst (λ (last : Bor Pool). None c.args.self.now.spared last c.in_ok-end.end) held.judges.last
          (subst (λ (spared : Bor Spared). None spared c.loop-end.self.last c.in_ok-end.end) held.judges.spared
          (k.quiet none (subst (λ n. None c.loop-end.self.spared c.loop-end.self.last n) one
          (subst (λ (last : Bor Pool). None c.loop-end.self.spared last c.loop-end.end) (sym held.judges.last)
          (subst (λ (spared : Bor Spared). None spared c.args.self.now.last c.loop-end.end) (sym held.judges.spared) rest)))));
      sure = subst Sure held.truth k.sure;
      judges = judges_more held.judges k.judges;
      truth = k.truth ∙ held.truth;
      name = k.name ∙ held.name;
    }
