use Rattle.std.proofs.Common.{◌∙◌, ◌++◌, ◌∷◌, [], List, sym, ap, subst}
use Rattle.std.specs.declared.rc.Rc.{Rc}
use Rattle.std.specs.declared.alloc.Global.{Global}
use Rattle.xt_record.specs.Sure.{AllHold}
use Rattle.xt_record.specs.View.{kept_in, AsksHold}
use Rattle.xt_record.specs.Grown.{values_of}
use Rattle.xt_record.specs.declared.record.Record.{Record}
use Rattle.xt_record.proofs.Ok.{on_ok, on_both}
use Rattle.xt_record.proofs.Grown.{values_more}
use Rattle.xt_record.proofs.Judging.{all_more}
use Rattle.xt_record.proofs.reuse.Reuse.plant.Goals as goal

pub returns-clause-sure : goal.returns-clause-sure
returns-clause-sure c = on_ok c.plant.result (on_both _ _ c.plant.result c.plant.ensures.records c.plant.ensures.trees) (λ both ask sure holds.
    let Holds : Record → Type 0 = λ r. AsksHold ask (kept_in r).trace in
    let copy = c.in_ok-clone.field-0 in
    let before = c.args.self.now.next.records.items in
    record {
      kept = sure.kept;
      judged = sure.judged;
      spared = sure.spared;
      counted = sure.counted;
      next = subst (λ (rs : List (Rc Record Global)). AllHold ask rs) (sym both.0)
          (all_more ask before copy sure.next (subst Holds (sym c.in_ok-clone.ensures.cases) holds));
      grown = both.1 sure.grown;
      trees = sure.trees;
      ordered = sure.ordered;
    })

pub returns-clause-next : goal.returns-clause-next
returns-clause-next c = on_ok c.plant.result c.plant.ensures.records (λ e.
    let before = c.args.self.now.next.records.items in
    ap values_of e ∙ values_more before c.in_ok-clone.field-0 ∙ ap (λ (v : Record). values_of before ++ v ∷ []) c.in_ok-clone.ensures.cases)
