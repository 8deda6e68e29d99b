use Rattle.std.proofs.Common.{◌+◌, ◌++◌, ◌∙◌, None, List, sym, ap, drop, map, arith}
use Rattle.std.proofs.lemmas.List.{at_drop_more, append_assoc}
use Rattle.spec_document.specs.Name.{Expanded}
use Rattle.spec_run.specs.World as definition
use Rattle.xt_questions.specs.View.{template_of}
use Rattle.xt_world.specs.Numbered.{element_called}
use Rattle.xt_world.specs.Turned.{numbers_in, units_of}
use Rattle.xt_world.proofs.resolve.templates_called.Goals as goal

pub loop-name-preserved : goal.loop-name-preserved
loop-name-preserved c =
    let us = units_of c.args.index.now.numbers in
    let numbers = numbers_in c.args.index.now.numbers in
    let names = c.args.names.now in
    let name = c.name-item.result in
    let done = map template_of c.loop-name.templates.items in
    let one = definition.template_by (element_called numbers) name (definition.last_element (definition.is_template name) None us) in
    let rest = definition.templates_called (element_called numbers) us (drop (c.loop-name.name-index + 1) names) in
    let called = λ (xs : List Expanded). definition.templates_called (element_called numbers) us xs in
    let at = at_drop_more called names c.loop-name.name-index name (omega arith) in
    let here = rw (← c.name-item.is) at at in
    ap (λ ts. ts ++ rest) c.in_ok-add_template.ensures ∙ append_assoc done one rest ∙ ap (λ ts. done ++ ts) (sym here) ∙ c.loop-name.invariant
