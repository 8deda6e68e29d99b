use Rattle.std.proofs.Common.{◌+◌, ◌≤◌, List, sym, subst}
use Rattle.std.specs.declared.rc.Rc.{Rc}
use Rattle.std.specs.declared.alloc.Global.{Global}
use Rattle.xt_record.specs.Sure.{AllHold, AllJudged}
use Rattle.xt_record.specs.declared.record.Record.{Record}
use Rattle.xt_record.specs.declared.reuse.Verdict.{Verdict}
use Rattle.xt_record.specs.Asked.{marked_among, marked_left}
use Rattle.xt_record.specs.Grown.{values_of, AreTrees}
use Rattle.xt_record.specs.declared.tree.Tree.{Tree}
use Rattle.xt_record.proofs.Chaining.{none_some}
use Rattle.xt_record.proofs.Counting.{unasked_left}
use Rattle.xt_record.proofs.Judging.{unasked}
use Rattle.xt_record.proofs.Sparing.{all_spared}
use Rattle.xt_touch.specs.View.{since_of}
use Rattle.xt_record.proofs.reuse.Reuse.new.Goals as goal

pub returns-clause-sure : goal.returns-clause-sure
returns-clause-sure c = λ was ask answered spares.
    let rs = c.args.last.now.records.items in
    let changes = since_of c.args.spared.now.since.now in
    record {
      kept = subst (λ (kept : List (Rc Record Global)). AllHold ask kept) (sym c.new-2.ensures) tt;
      judged = subst (λ (vs : List Verdict). AllJudged ask vs rs) (sym (c.in_ok-vec.ensures.items_if_clones_equal (λ y e. e))) (unasked ask c.count.result rs c.count.ensures.records);
      spared = all_spared was ask c.args.spared.now spares rs answered.hold;
      counted = subst (λ (vs : List Verdict). 0 + marked_left changes vs rs ≤ marked_among changes rs) (sym (c.in_ok-vec.ensures.items_if_clones_equal (λ y e. e)))
          (unasked_left changes c.count.result rs);
      next = subst (λ (next : List (Rc Record Global)). AllHold ask next) (sym c.new-3.ensures.records) tt;
      grown = subst (λ (ts : List Tree). AreTrees (values_of c.new-3.result.records.items) ts) (sym c.new-3.ensures.trees)
          (λ turn t w here whole. absurd (none_some here));
      trees = answered.trees;
      ordered = tt;
    }
