use Rattle.std.proofs.Common.{◌+◌, ◌++◌, ◌∷◌, [], ◌∙◌, List, sym, ap, drop, arith}
use Rattle.std.proofs.lemmas.List.{at_drop_more, append_assoc}
use Rattle.spec_document.specs.Name.{Expanded}
use Rattle.xt_world.proofs.naming.add_all.Goals as goal

pub loop-name-preserved : goal.loop-name-preserved
loop-name-preserved c =
    let list = c.args.list.now in
    let name = c.name-item.result in
    let done = c.loop-name.names.items in
    let rest = drop (c.loop-name.name-index + 1) list in
    let at = at_drop_more (λ (xs : List Expanded). xs) list c.loop-name.name-index name (omega arith) in
    let here = rw (← c.name-item.is) at at in
    ap (λ ns. ns ++ rest) c.in_ok-add_name.ensures ∙ append_assoc done (name ∷ []) rest ∙ ap (λ ns. done ++ ns) (sym here) ∙ c.loop-name.invariant
