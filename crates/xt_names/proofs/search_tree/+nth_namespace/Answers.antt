use Rattle.std.proofs.Common.{ap, subst, refl, sym, ◌∙◌}
use Rattle.std.specs.List.{filter}
use Rattle.std.specs.Option.{option_map}
use Rattle.spec_document.specs.Declaration.{is_there}
use Rattle.xt_names.specs.Nth.{IsNth}
use Rattle.xt_names.specs.SearchTree.{link_entries}
use Rattle.xt_names.specs.declared.search_tree.Node.{Node, out-Node}
use Rattle.xt_names.specs.View.{entry_of}
use Rattle.xt_names.proofs.Nodes.{opened}
use Rattle.xt_names.proofs.Nth.{stands_before, is_own, stands_after}
use Rattle.xt_names.proofs.search_tree.+nth_namespace.Goals as goal

pub returns-in-Some-nth_namespace : goal.returns-in-Some-nth_namespace
returns-in-Some-nth_namespace t c =
    let all = opened c.args.link.now c.in-Some.node c.deref.result.now (out-Node c.deref.result.now).namespace.value c.in-Some.is c.deref.ensures refl in
    stands_before _ _ _ _ _ _ all c.in-Some-nth_namespace.ensures

pub returns-in-Some-own_nth : goal.returns-in-Some-own_nth
returns-in-Some-own_nth t c =
    let own = c.deref-3.ensures ∙ ap (λ n. (out-Node n).namespace.value) (c.deref-2.ensures ∙ sym c.deref.ensures) in
    let all = opened c.args.link.now c.in-Some.node c.deref.result.now _ c.in-Some.is c.deref.ensures own in
    is_own _ _ _ _ _ _ _ all c.in_default-nth_namespace.ensures c.in-Some-own_nth.ensures

pub returns : goal.returns
returns t c =
    let own = c.deref-3.ensures ∙ ap (λ n. (out-Node n).namespace.value) (c.deref-2.ensures ∙ sym c.deref.ensures) in
    let all = opened c.args.link.now c.in-Some.node c.deref.result.now _ c.in-Some.is c.deref.ensures own in
    let found = option_map (λ n. entry_of n.now) c.nth_namespace-2.result in
    let After : Node → Type 0 = λ n.
    IsNth c.own_nth.new.left c.nth_namespace-2.new.left (filter (λ n. is_there n.1) (link_entries (out-Node n).after)) found in
    let after = subst After (c.deref-4.ensures ∙ sym c.deref.ensures) c.nth_namespace-2.ensures in
    stands_after _ _ _ _ _ _ _ _ _ all c.in_default-nth_namespace.ensures c.in_default-own_nth.ensures after
