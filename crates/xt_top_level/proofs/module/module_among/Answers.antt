use Rattle.std.proofs.Common.{◌∙◌, ◌+◌, drop, sym, arith}
use Rattle.std.proofs.lemmas.List.{at_drop_more}
use Rattle.spec_compile.specs.Unit.{module_of}
use Rattle.xt_tree.specs.View.{forest_of, tree_of}
use Rattle.xt_top_level.proofs.Elements.{at_document_element}
use Rattle.xt_top_level.proofs.Steps.{answers_as}
use Rattle.xt_top_level.proofs.module.module_among.Goals as goal

pub returns-then-is_element : goal.returns-then-is_element
returns-then-is_element c =
    let tree = tree_of c.index-siblings-i.result.value in
    let others = forest_of (drop (c.loop-i.i + 1) c.args.siblings.now) in
    let at = sym (at_drop_more (λ rest. module_of c.args.name.now (c.loop-i.i + 1) (forest_of rest)) c.args.siblings.now c.loop-i.i c.index-siblings-i.result (omega arith)) ∙ c.loop-i.invariant in
    let here = rw (← c.index-siblings-i.is) at at in
    let is = sym c.is_element.ensures ∙ c.if-is_element.true in
    let element = rw (c.content.ensures, c.deref.ensures) at is in
    let answer = rw c.deref-then-is_element.ensures at c.document_element_at.ensures in
    answers_as (at_document_element c.args.name.now (c.loop-i.i + 1) tree.number tree.content tree.children others element ∙ here) answer
