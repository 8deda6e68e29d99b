use Rattle.std.proofs.Common.{◌≡◌, ◌+◌, ◌++◌, ◌∷◌, [], ◌∙◌, take, slice_get, sym, ap, arith, List}
use Rattle.std.proofs.lemmas.List.{take_more}
use Rattle.xt_record.specs.declared.entry.Entry.{Entry}
use Rattle.xt_record.proofs.Chaining.{from_more, within}
use Rattle.xt_record.proofs.Pieced.{get_taken, part_length}
use Rattle.xt_record.proofs.block.all_within.Goals as goal

pub loop-index-preserved : goal.loop-index-preserved
loop-index-preserved c = λ n e w at is.
    let es = c.args.entries.now in
    let i = c.loop-index.index in
    let x = c.index-entries-index.result in
    let more : take (i + 1) es ≡ take i es ++ x ∷ [] =
    take_more es i x (omega arith) ∙ ap (λ (y : Entry). take i es ++ y ∷ []) (sym c.index-entries-index.is) in
    from_more (take i es) x e n (ap (λ (xs : List Entry). slice_get xs n) (sym more) ∙ at) (λ was. c.loop-index.invariant n e w was is)
    (λ here same.
    let size = c.is_within.ensures (c.if-not-is_within.false) w (ap (λ (y : Entry). y.tree.whole) same ∙ is) in
    omega (arith, size, here, part_length es 0 i (omega arith), ap (λ (y : Entry). y.tree.size) same))

pub returns : goal.returns
returns c = λ so n e w at is.
    let es = c.args.entries.now in
    c.loop-index.invariant n e w (get_taken es n c.loop-index.index e (omega (arith, within es n e at)) at) is
