use Rattle.std.proofs.Common.{◌++◌, ◌∷◌, [], ◌∙◌, sym, ap, subst, List}
use Rattle.std.specs.declared.rc.Rc.{Rc}
use Rattle.std.specs.declared.alloc.Global.{Global}
use Rattle.xt_record.specs.Sure.{AllHold}
use Rattle.xt_record.specs.declared.index.Index.{Index}
use Rattle.xt_record.specs.declared.record.Record.{Record}
use Rattle.xt_record.proofs.Ok.{on_ok}
use Rattle.xt_record.proofs.Judging.{all_more}
use Rattle.xt_record.proofs.reuse.Reuse.keep.Goals as goal

pub returns-clause-sure : goal.returns-clause-sure
returns-clause-sure c = on_ok c.add.result c.add.ensures (λ added ask sure holds.
    let s = c.in_ok-plant.ensures.sure ask sure holds in
    let before = c.plant.new.self.kept.records.items in
    record {
      kept = subst (λ (kept : List (Rc Record Global)). AllHold ask kept) (sym added) (all_more ask before c.args.kept s.kept holds);
      judged = s.judged;
      spared = s.spared;
      counted = s.counted;
      next = s.next;
      grown = s.grown;
      trees = s.trees;
      ordered = s.ordered;
    })

pub returns-clause-kept : goal.returns-clause-kept
returns-clause-kept c = on_ok c.add.result c.add.ensures (λ added.
    added ∙ ap (λ (x : Index). x.records.items ++ c.args.kept ∷ []) c.plant.ensures.stays.kept)

pub returns-clause-next : goal.returns-clause-next
returns-clause-next c = on_ok c.add.result c.add.ensures (λ added. c.in_ok-plant.ensures.next)
