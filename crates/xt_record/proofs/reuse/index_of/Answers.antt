use Rattle.std.proofs.Common.{◌≡◌, ◌+◌, ◌++◌, ◌∷◌, [], ◌∙◌, List, take, sym, ap, arith}
use Rattle.std.proofs.lemmas.List.{take_more}
use Rattle.std.proofs.lemmas.Option.{get_or_from_slice_get}
use Rattle.std.specs.declared.rc.Rc.{Rc}
use Rattle.std.specs.declared.alloc.Global.{Global}
use Rattle.xt_record.specs.Chain.{key_in, keys_in}
use Rattle.xt_record.specs.declared.key.Key.{Key}
use Rattle.xt_record.specs.declared.record.Record.{Record}
use Rattle.xt_record.proofs.Chaining.{keys_more}
use Rattle.xt_record.proofs.Pieced.{take_all}
use Rattle.xt_record.proofs.reuse.index_of.Goals as goal

pub loop-turn-preserved : goal.loop-turn-preserved
loop-turn-preserved c =
    let rs = c.args.pool.now.records.items in
    let turn = c.loop-turn.turn in
    let before = c.loop-turn.index.records.items in
    let r = c.record_at.result.now in
    let kept = c.in_ok-clone.field-0 in
    let taken : take (turn + 1) rs ≡ take turn rs ++ r ∷ [] =
    take_more rs turn r (omega (arith, c.count-turn-end.ensures.records))
    ∙ ap (λ (x : Rc Record Global). take turn rs ++ x ∷ []) (get_or_from_slice_get rs turn r r c.record_at.ensures) in
    ap (λ (xs : List (Rc Record Global)). keys_in xs) c.in_ok-add.ensures ∙ keys_more before kept
    ∙ ap (λ (ks : List Key). ks ++ key_in kept.value ∷ []) c.loop-turn.invariant
    ∙ ap (λ (v : Record). keys_in (take turn rs) ++ key_in v ∷ []) c.in_ok-clone.ensures.cases ∙ sym (keys_more (take turn rs) r)
    ∙ ap (λ (xs : List (Rc Record Global)). keys_in xs) (sym taken)

pub returns : goal.returns
returns c =
    let rs = c.args.pool.now.records.items in
    c.loop-turn.invariant
    ∙ ap (λ (xs : List (Rc Record Global)). keys_in xs) (take_all rs c.loop-turn.turn (omega (arith, c.count-turn-end.ensures.records)))
