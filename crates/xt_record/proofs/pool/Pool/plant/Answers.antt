use Rattle.std.proofs.Common.{◌≡◌, ℕ, ◌-◌, ◌++◌, ◌∷◌, [], ◌∙◌, suc, Option, length, sym, ap, subst, arith}
use Rattle.std.specs.Prelude.{IfSome}
use Rattle.std.specs.declared.rc.Rc.{Rc}
use Rattle.std.specs.declared.alloc.Global.{Global}
use Rattle.xt_record.specs.Grown.{values_of, IsTreeAt}
use Rattle.xt_record.specs.declared.record.Record.{Record}
use Rattle.xt_record.specs.declared.tree.Summary.{Summary}
use Rattle.xt_record.proofs.Ok.{on_ok, on_both}
use Rattle.xt_record.proofs.Grown.{trees_more, values_more}
use Rattle.xt_record.proofs.pool.Pool.plant.Goals as goal

pub returns-clause-trees : goal.returns-clause-trees
returns-clause-trees c =
    on_ok c.add.result (on_both _ _ c.add.result c.add.ensures.records c.add.ensures.trees) (λ both old.
    let self = c.args.self.now in
    let rs = self.records.items in
    let v = c.args.kept.value in
    let count = length rs in
    let many : length self.trees.items ≡ count = omega (arith, c.count.ensures.records, c.count.ensures.trees) in
    trees_more (values_of rs) (values_of c.add.new.self.records.items) v self.trees.items c.add.new.self.trees.items _
    (ap values_of both.0 ∙ values_more rs c.args.kept) both.1
    (λ w is.
    let At : Option (Rc Summary Global) → Type 0 = λ o. IfSome o (λ x. IsTreeAt (values_of rs ++ c.deref.result.now ∷ []) count (suc (count - c.args.mark)) x.value) in
    let Of : Record → Type 0 = λ r. IsTreeAt (values_of rs ++ r ∷ []) count (suc (count - c.args.mark)) w.value in
    let tree = subst Of c.deref.ensures (subst At is (c.in_ok-whole.ensures old)) in
    let At_turn : ℕ → Type 0 = λ n. IsTreeAt (values_of rs ++ v ∷ []) n (suc (count - c.args.mark)) w.value in
    let At_size : ℕ → Type 0 = λ m. IsTreeAt (values_of rs ++ v ∷ []) (length self.trees.items) m w.value in
    subst At_size (omega (arith, c.count.ensures.records, c.saturating_sub-size.ensures)) (subst At_turn (sym many) tree)) old)
