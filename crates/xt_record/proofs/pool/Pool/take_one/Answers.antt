use Rattle.std.proofs.Common.{◌≡◌, ◌++◌, ◌∷◌, [], ◌∙◌, Option, sym, ap, subst}
use Rattle.std.specs.Prelude.{IfSome}
use Rattle.std.specs.declared.rc.Rc.{Rc}
use Rattle.std.specs.declared.alloc.Global.{Global}
use Rattle.xt_record.specs.Grown.{values_of}
use Rattle.xt_record.specs.Taken.{IsTaken}
use Rattle.xt_record.specs.declared.record.Record.{Record}
use Rattle.xt_record.specs.declared.tree.Tree.{Tree}
use Rattle.xt_record.proofs.Ok.{on_ok}
use Rattle.xt_record.proofs.Grown.{values_more}
use Rattle.xt_record.proofs.pool.Pool.take_one.Goals as goal

pub returns-clause-records : goal.returns-clause-records
returns-clause-records c = on_ok c.push.result c.push.ensures.records (λ e.
    let old = values_of c.args.self.now.records.items in
    let now = values_of c.push.new.self.records.items in
    let P : Option (Rc Record Global) → Type 0 = λ o. IfSome o (λ r. now ≡ old ++ r.value ∷ []) in
    subst P (sym c.entry_at.ensures.record) (ap values_of e ∙ values_more c.args.self.now.records.items c.in_ok-entry.entry.record
    ∙ ap (λ (x : Record). old ++ x ∷ []) c.in_ok-entry.ensures.record))

pub returns-clause-trees : goal.returns-clause-trees
returns-clause-trees c = on_ok c.push.result c.push.ensures.trees (λ e.
    let P : Option Tree → Type 0 = λ o. IfSome o (λ t. IsTaken c.args.first c.args.turn t c.args.self.now.trees.items c.push.new.self.trees.items) in
    subst P (sym c.entry_at.ensures.tree) (record {
      tree = c.in_ok-entry.entry.tree;
      added = e;
      size = c.in_ok-entry.ensures.size;
      whole = c.in_ok-entry.ensures.shared;
      inside = c.in_ok-entry.ensures.inside;
    }))
