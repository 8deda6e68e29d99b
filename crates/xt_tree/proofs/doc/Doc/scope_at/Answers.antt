use Rattle.std.proofs.Common.{◌+◌, ◌∙◌, sym, ap, arith, drop, get_or, Some, None}
use Rattle.std.specs.Option.{option_and_then}
use Rattle.std.proofs.lemmas.List.{at_drop_more, at_drop_all}
use Rattle.spec_document.specs.Declaration.{within}
use Rattle.spec_document.specs.Place.{scope_at}
use Rattle.xt_tree.specs.declared.node.Node.{out-Node}
use Rattle.xt_tree.specs.View.{forest_of, scope_from}
use Rattle.xt_tree.proofs.Views.{view-Node}
use Rattle.xt_tree.proofs.Ways.{scope_down, scope_reached, scope_same, scope_none}
use Rattle.xt_tree.proofs.doc.Doc.scope_at.Goals as goal

pub returns-in-None : goal.returns-in-None
returns-in-None c x e =
    let ps = c.args.path.now in
    let f = forest_of c.loop-position.siblings.now in
    let at = sym (at_drop_more (λ rest. scope_from rest c.loop-position.scope f) ps c.loop-position.position-index 0 (omega arith))
    ∙ c.loop-position.invariant in
    let none = ap (option_and_then
    (λ tree. scope_from (drop (c.loop-position.position-index + 1) ps) (within tree.content c.loop-position.scope) tree.children)) c.in-None.ensures
    ∙ at in
    absurd (scope_none (scope_at x) (scope_reached c.args.self.now c.args.path.now x None none e))

pub loop-position-preserved : goal.loop-position-preserved
loop-position-preserved c =
    let ps = c.args.path.now in
    let f = forest_of c.loop-position.siblings.now in
    let rest = drop (c.loop-position.position-index + 1) ps in
    let at = sym (at_drop_more (λ rest. scope_from rest c.loop-position.scope f) ps c.loop-position.position-index 0 (omega arith))
    ∙ c.loop-position.invariant in
    let down = scope_down (get_or ps c.loop-position.position-index 0) rest c.loop-position.scope f c.in-Some.node.now (sym c.in-Some.ensures) in
    ap (λ xs. scope_from rest c.enter.new.scope (forest_of xs)) c.as_slice-siblings-in-Some.ensures.value
    ∙ ap (λ s. scope_from rest s (forest_of (out-Node c.in-Some.node.now).children.items)) (c.in_ok-enter-in-Some.ensures
    ∙ ap (λ x. within x c.loop-position.scope) (c.content.ensures ∙ ap (λ t. t.content) (view-Node c.in-Some.node.now))) ∙ sym down ∙ at

pub returns : goal.returns
returns c x e =
    let ps = c.args.path.now in
    let f = forest_of c.loop-position.siblings.now in
    let at = sym (at_drop_all (λ rest. scope_from rest c.loop-position.scope f) ps c.loop-position.position-index (omega arith))
    ∙ c.loop-position.invariant in
    scope_same c.loop-position.scope (scope_at x) (scope_reached c.args.self.now c.args.path.now x (Some c.loop-position.scope) at e)
