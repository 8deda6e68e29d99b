use Rattle.std.proofs.Common.{◌<◌, ◌∙◌, ℕ, refl, sym, None, Option, Some, Bor, arith, subst}
use Rattle.std.specs.Prelude.{IfNone, IfSome}
use Rattle.std.specs.declared.rc.Rc.{Rc}
use Rattle.std.specs.declared.alloc.Global.{Global}
use Rattle.spec_meaning.specs.Question.{Question, Answer}
use Rattle.spec_node.specs.declared.node_ref.NodeRef.{NodeRef}
use Rattle.xt_engine.specs.View.{call_of}
use Rattle.xt_record.specs.Chain.{key_of, keys_in, IsLatest}
use Rattle.xt_record.specs.Search.{last_place}
use Rattle.xt_record.specs.Sure.{IsSure}
use Rattle.xt_record.specs.View.{DoesNotServe, IsAt}
use Rattle.xt_record.specs.declared.pool.Pool.{Pool}
use Rattle.xt_record.specs.declared.record.Record.{Record}
use Rattle.xt_record.proofs.Chaining.{within}
use Rattle.xt_record.proofs.Judging.{as_many_judged}
use Rattle.xt_record.proofs.Passing.{at_most, pass_all, pass_later, pass_turn}
use Rattle.xt_record.proofs.Standing.{judges_more, judges_so}
use Rattle.xt_record.proofs.reuse.Reuse.find_last.Goals as goal

pub loop-turn-init : goal.loop-turn-init
loop-turn-init g c =
    let truth = (g.W.World.state c.args.world.now).truth in
    let self = c.args.self.now in
    let rs = self.last.now.records.items in
    let many = as_many_judged truth self.verdicts.items rs c.requires.sure.judged in
    let few = at_most self.verdicts in
    record {
      before = omega (arith, c.max.ensures, c.saturating_sub-end.ensures);
      passed = λ turn le after r at may.
          absurd (omega (arith, le, after, many, few, within rs turn r at, c.max.ensures, c.saturating_sub-end.ensures));
      sure = c.requires.sure;
      judges = record { last = refl; spared = refl; kept = refl; next = refl; ran = refl; asked = omega arith };
      truth = refl;
      name = refl;
    }

pub of_last-requires : goal.of_last-requires
of_last-requires g c =
    let held = c.loop-turn.invariant in
    let Sure : (Question NodeRef → Answer NodeRef) → Type 0 = λ t. IsSure t c.latest_before.new.self in
    let sure = c.in_ok-turn.ensures.sure (g.W.World.state c.args.world.now).truth held.sure in
    record { sure = subst Sure (sym held.truth) sure }

pub returns-in-Some-2-clause-stands : goal.returns-in-Some-2-clause-stands
returns-in-Some-2-clause-stands g c =
    let turn = c.in-Some.turn in
    let record_here = c.in-Some-2.record in
    let At : Option (Rc Record Global) → Type 0 = λ o. IfSome o (λ r. IsAt c.latest_before.new.self.last.now.records.items turn r.value) in
    let Among : Bor Pool → Type 0 = λ last. IsAt last.now.records.items turn record_here.value in
    let last = c.in_ok-turn.ensures.stays.last ∙ c.loop-turn.invariant.judges.last in
    record { turn = turn; here = subst Among last (subst At c.in-Some-2.is c.in_ok-record.ensures.at); stands = omega arith }

pub returns-in-Some-2-clause-passes : goal.returns-in-Some-2-clause-passes
returns-in-Some-2-clause-passes g c = λ turn after before.
    let truth = (g.W.World.state c.args.world.now).truth in
    let call = call_of c.args.call.now in
    let end = c.loop-turn.end in
    let found = c.in-Some.turn in
    let held = c.loop-turn.invariant in
    let Latest : Option ℕ → Type 0 = λ o. ∥ IsLatest (keys_in c.loop-turn.self.last.now.records.items) (key_of call) end o ∥₁ in
    let Among : Bor Pool → Type 0 = λ last. ∥ IsLatest (keys_in last.now.records.items) (key_of call) end (Some found) ∥₁ in
    let latest = subst Among held.judges.last (subst Latest c.in-Some.is (c.in_ok-turn.ensures.latest truth held.sure)) in
    let later : found < turn = omega (arith, before) in
    pass_later truth call c.args.below last_place c.args.self.now.last.now.records.items c.args.from end found latest held.passed turn later after

pub returns-in-Some-2-clause-judges : goal.returns-in-Some-2-clause-judges
returns-in-Some-2-clause-judges g c =
    judges_more (judges_so c.loop-turn.invariant.judges c.in_ok-turn.ensures.stays c.in_ok-turn.ensures.next) c.in_ok-record.ensures.judges

pub loop-turn-preserved : goal.loop-turn-preserved
loop-turn-preserved g c =
    let truth = (g.W.World.state c.args.world.now).truth in
    let call = call_of c.args.call.now in
    let below = c.args.below in
    let rs = c.args.self.now.last.now.records.items in
    let end = c.loop-turn.end in
    let turn = c.in-Some.turn in
    let held = c.loop-turn.invariant in
    let t = c.in_ok-turn.ensures in
    let k = c.in_ok-record.ensures in
    let asked = (g.W.World.state c.loop-turn.world).truth in
    let Lower : Option ℕ → Type 0 = λ o. IfSome o (λ n. n < end) in
    let Latest : Option ℕ → Type 0 = λ o. ∥ IsLatest (keys_in c.loop-turn.self.last.now.records.items) (key_of call) end o ∥₁ in
    let LatestOf : Bor Pool → Type 0 = λ last. ∥ IsLatest (keys_in last.now.records.items) (key_of call) end (Some turn) ∥₁ in
    let Passes : Option (Rc Record Global) → Type 0 = λ o. IfNone o (DoesNotServe asked call below c.latest_before.new.self.last.now.records.items turn) in
    let Among : Bor Pool → Type 0 = λ last. DoesNotServe asked call below last.now.records.items turn in
    let Truly : (Question NodeRef → Answer NodeRef) → Type 0 = λ w. DoesNotServe w call below rs turn in
    let Sure : (Question NodeRef → Answer NodeRef) → Type 0 = λ w. IsSure w c.of_last.new.self in
    let lower : turn < end = subst Lower c.in-Some.is t.below in
    let latest = subst LatestOf held.judges.last (subst Latest c.in-Some.is (t.latest truth held.sure)) in
    let none = subst Truly held.truth (subst Among (t.stays.last ∙ held.judges.last) (subst Passes c.in_default-2.is k.passes)) in
    record {
      before = omega (arith, lower, held.before);
      passed = pass_turn truth call below last_place rs c.args.from end turn latest none held.passed;
      sure = subst Sure held.truth k.sure;
      judges = judges_more (judges_so held.judges t.stays t.next) k.judges;
      truth = k.truth ∙ held.truth;
      name = k.name ∙ held.name;
    }

pub returns-clause-passes : goal.returns-clause-passes
returns-clause-passes g c = λ turn after _.
    let truth = (g.W.World.state c.args.world.now).truth in
    let call = call_of c.args.call.now in
    let end = c.loop-turn.end in
    let held = c.loop-turn.invariant in
    let Latest : Option ℕ → Type 0 = λ o. ∥ IsLatest (keys_in c.loop-turn.self.last.now.records.items) (key_of call) end o ∥₁ in
    let Among : Bor Pool → Type 0 = λ last. ∥ IsLatest (keys_in last.now.records.items) (key_of call) end None ∥₁ in
    let latest = subst Among held.judges.last (subst Latest c.in_default.is (c.in_ok-turn.ensures.latest truth held.sure)) in
    pass_all truth call c.args.below last_place c.args.self.now.last.now.records.items c.args.from end latest held.passed turn after

pub returns-clause-judges : goal.returns-clause-judges
returns-clause-judges g c = judges_so c.loop-turn.invariant.judges c.in_ok-turn.ensures.stays c.in_ok-turn.ensures.next
