use Rattle.std.proofs.Common.{◌≡◌, ◌+◌, ◌∷◌, [], ◌++◌, ◌∙◌, sym, ap, map, arith, append_assoc, drop}
use Rattle.std.proofs.lemmas.List.{at_drop_more, map-append}
use Rattle.xt_names.specs.View.{Entry, entry_of, entries_of}
use Rattle.xt_copy.proofs.naming.copy_all.Goals as goal

pub loop-namespace-preserved : goal.loop-namespace-preserved
loop-namespace-preserved c =
    let list = c.loop-namespace.list.items in
    let done = map entry_of list in
    let at = sym (at_drop_more (λ rest. done ++ entries_of rest) c.args.namespaces.now c.loop-namespace.namespace-index c.namespace-item.result
    (omega arith)) ∙ c.loop-namespace.invariant in
    let here = rw (← c.namespace-item.is) at at in
    let rest = entries_of (drop (c.loop-namespace.namespace-index + 1) c.args.namespaces.now) in
    let copy : entry_of c.in_ok-copy.copy ≡ entry_of c.namespace-item.result.value = c.in_ok-copy.ensures ∙ ap entry_of c.deref.ensures in
    ap (λ xs. map entry_of xs ++ rest) c.in_ok-push.ensures.items
    ∙ ap (λ es. es ++ rest) (map-append entry_of list (c.in_ok-copy.copy ∷ []))
    ∙ append_assoc done (entry_of c.in_ok-copy.copy ∷ []) rest
    ∙ ap (λ (e : Entry). done ++ e ∷ rest) copy ∙ here
