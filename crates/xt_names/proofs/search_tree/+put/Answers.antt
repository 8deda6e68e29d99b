use Rattle.std.proofs.Common.{List, ◌∷◌, ◌++◌, ap, ◌∙◌, arith}
use Rattle.std.specs.declared.cmp.Ordering.TheVariants.{Less, Equal, Greater}
use Rattle.xt_names.specs.View.{Entry, entry_of}
use Rattle.xt_names.specs.SearchTree.{link_entries}
use Rattle.xt_names.proofs.Nodes.{ok_with, compared, shorter_before, shorter_after, ordered_before, ordered_after, put_before, put_at, put_after}
use Rattle.xt_names.proofs.search_tree.+put.Goals as goal

pub put-requires : goal.put-requires
put-requires t c =
    let all = ap link_entries c.in-Some.is ∙ c.in_ok-before.ensures in
    (omega (arith, shorter_before _ _ _ _ all, c.decreases), ordered_before _ _ _ _ all c.requires)

pub put-requires-in-Greater : goal.put-requires-in-Greater
put-requires-in-Greater t c =
    let all = ap link_entries c.in-Some.is ∙ c.in_ok-before.ensures in
    (omega (arith, shorter_after _ _ _ _ all, c.decreases), ordered_after _ _ _ _ all c.requires)

pub returns-in_ok-before-in-Less : goal.returns-in_ok-before-in-Less
returns-in_ok-before-in-Less t c =
    let own = c.in_ok-before.field-0.own.value in
    let all = ap link_entries c.in-Some.is ∙ c.in_ok-before.ensures in
    let tied = compared Less c.args.namespace.value own _ _ _ _ c.deref.ensures c.deref-2.ensures c.as_str.ensures.characters c.as_str-2.ensures.characters
    c.in-Less.ensures in
    ok_with c.balance.result _ _
    (ap (λ (es : List Entry). es ++ entry_of own ∷ link_entries c.in_ok-before.field-0.after) c.in_ok-before-in-Less.ensures
    ∙ put_before _ _ _ _ _ _ all tied)
    c.balance.ensures

pub returns-in-Equal : goal.returns-in-Equal
returns-in-Equal t c =
    let own = c.in_ok-before.field-0.own.value in
    let all = ap link_entries c.in-Some.is ∙ c.in_ok-before.ensures in
    let tied = compared Equal c.args.namespace.value own _ _ _ _ c.deref.ensures c.deref-2.ensures c.as_str.ensures.characters c.as_str-2.ensures.characters
    c.in-Equal.ensures in
    ok_with c.join-in-Equal.result _ _ (put_at _ _ _ _ _ _ all c.requires tied) c.join-in-Equal.ensures

pub returns-in_ok-after-in-Greater : goal.returns-in_ok-after-in-Greater
returns-in_ok-after-in-Greater t c =
    let own = c.in_ok-before.field-0.own.value in
    let all = ap link_entries c.in-Some.is ∙ c.in_ok-before.ensures in
    let tied = compared Greater c.args.namespace.value own _ _ _ _ c.deref.ensures c.deref-2.ensures c.as_str.ensures.characters
    c.as_str-2.ensures.characters c.in-Greater.ensures in
    ok_with c.balance-in-Greater.result _ _
    (ap (λ (fs : List Entry). link_entries c.in_ok-before.field-0.before ++ entry_of own ∷ fs) c.in_ok-after-in-Greater.ensures
    ∙ put_after _ _ _ _ _ _ all c.requires tied)
    c.balance-in-Greater.ensures
