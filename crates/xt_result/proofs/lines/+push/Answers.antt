use Rattle.std.proofs.Common.{[], ◌+◌, ◌++◌, ◌∙◌, sym, ap, arith, map, drop, Result, Ok, Err, OnOk}
use Rattle.std.proofs.lemmas.List.{at_drop_more}
use Rattle.std.proofs.lemmas.Result.{on_ok_weaker}
use Rattle.xt_names.specs.View.{entry_of}
use Rattle.spec_meaning.specs.Stream.{Stream, all_followed}
use Rattle.spec_result.specs.Recovery.{Standing, standing_before, namespaces_of, attributes_of, all_added, prefix_of}
use Rattle.spec_result.specs.Shape.{prefix_for, opened}
use Rattle.xt_tree.specs.declared.items.Item.{Item-F, fold-roll-Item}
use Rattle.xt_tree.specs.declared.items.Item.TheVariants as code
use Rattle.xt_tree.specs.StreamView.{item_step, items_step, single_of, stream_of}
use Rattle.xt_result.specs.Ahead.{all_lines}
use Rattle.xt_result.specs.View.{opening_of}
use Rattle.xt_result.proofs.Streams.{standing_before-followed}
use Rattle.xt_result.proofs.Shapes.{text_step, element_step, comment_step, instruction_step}
use Rattle.xt_result.proofs.lines.+push.Goals as goal

on_ok_with : {T E P Q R : Type 0} (r : Result T E) → (P → Q → R) → OnOk r P → OnOk r Q → OnOk r R
on_ok_with (Ok value) f p q = f p q
on_ok_with (Err error) f p q = tt

pub push_item-returns-in_ok-push_items-in-Element :
    goal.push_item-returns-in_ok-push_items-in-Element
push_item-returns-in_ok-push_items-in-Element t c =
    let name = c.in-Element.name in
    let uri = c.in-Element.uri in
    let namespaces = c.in-Element.namespaces in
    let content = c.in-Element.content in
    let start = c.in_ok-start-in-Element.start in
    let made = c.in_ok-start-in-Element.ensures {u = tt} in
    let opening = opening_of start.opening in
    let is = ap single_of (c.in-Element.is ∙ sym (code.rolls-Element name uri namespaces content))
    ∙ fold-roll-Item Stream Stream item_step items_step (Item-F.Element name uri namespaces content) in
    let begun = c.push_start.new.lines.items in
    let own = prefix_for (prefix_of name) uri in
    let opened_here = made.opening
    ∙ ap (λ ns. opened c.args.scope.now own uri (map entry_of ns ++ namespaces_of (stream_of c.deref.result.now)) (all_added [] (attributes_of (stream_of c.deref.result.now)))) c.as_slice.ensures.value
    ∙ ap (λ i. opened c.args.scope.now own uri (map entry_of namespaces.items ++ namespaces_of (stream_of i)) (all_added [] (attributes_of (stream_of i)))) c.deref.ensures in
    let within = λ (more : Standing).
    ap (λ i. all_lines begun c.push_start.new.text opening.scope (standing_before (stream_of i) more)) (sym c.deref-in-Element.ensures)
    ∙ c.in_ok-push_items-in-Element.ensures more in
    on_ok_with c.push_end.result
    (λ none end behind. element_step c.args.lines.now.items begun c.push_items.new.lines.items c.push_end.new.lines.items c.args.text.now c.push_start.new.text
    c.push_items.new.text c.push_end.new.text name uri start.name (map entry_of namespaces.items) opening c.args.scope.now (single_of c.args.item.now)
    (stream_of content.value) behind is made.name opened_here
    (c.in_ok-push_start-in-Element.ensures {u = tt}).text (c.in_ok-push_start-in-Element.ensures {u = tt}).lines within none end)
    c.push_end.ensures.text c.push_end.ensures.lines

pub push_item-returns-in-Text : goal.push_item-returns-in-Text
push_item-returns-in-Text t c =
    let text = c.in-Text.more in
    let is = ap single_of (c.in-Text.is ∙ sym (code.rolls-Text text)) ∙ fold-roll-Item Stream Stream item_step items_step (Item-F.Text text) in
    on_ok_weaker c.push_str.result
    (λ longer behind. text_step c.args.lines.now.items c.args.text.now text c.push_str.new.self c.args.scope.now (single_of c.args.item.now) behind is
    (longer ∙ ap (λ more. c.args.text.now ++ more) c.as_str.ensures.characters))
    c.push_str.ensures.ok

pub push_item-returns-in-Comment : goal.push_item-returns-in-Comment
push_item-returns-in-Comment t c =
    let content = c.in-Comment.content in
    let is = ap single_of (c.in-Comment.is ∙ sym (code.rolls-Comment content)) ∙ fold-roll-Item Stream Stream item_step items_step (Item-F.Comment content) in
    on_ok_with c.push_comment.result
    (λ none end behind. comment_step c.args.lines.now.items c.push_comment.new.lines.items c.args.text.now c.push_comment.new.text c.args.scope.now
    (single_of c.args.item.now) (stream_of content.value) behind is none
    (rw (← c.deref-in-Comment.ensures) end))
    c.push_comment.ensures.text c.push_comment.ensures.lines

pub push_item-returns-in-Instruction : goal.push_item-returns-in-Instruction
push_item-returns-in-Instruction t c =
    let target = c.in-Instruction.target in
    let content = c.in-Instruction.content in
    let is = ap single_of (c.in-Instruction.is ∙ sym (code.rolls-Instruction target content))
    ∙ fold-roll-Item Stream Stream item_step items_step (Item-F.Instruction target content) in
    on_ok_with c.push_instruction.result
    (λ none end behind. instruction_step c.args.lines.now.items c.push_instruction.new.lines.items c.args.text.now c.push_instruction.new.text target
    c.args.scope.now (single_of c.args.item.now) (stream_of content.value) behind is none
    (rw (← c.deref-in-Instruction.ensures) end))
    c.push_instruction.ensures.text c.push_instruction.ensures.lines

pub push_items-loop-item-preserved : goal.push_items-loop-item-preserved
push_items-loop-item-preserved t c behind =
    let list = c.list-item-items.result.now in
    let item = c.item-item.result in
    let lines = c.loop-item.lines.items in
    let text = c.loop-item.text in
    let scope = c.args.scope.now in
    let rest = all_followed (map single_of (drop (c.loop-item.item-index + 1) list)) in
    let at = at_drop_more (λ xs. all_followed (map single_of xs)) list c.loop-item.item-index item (omega arith) in
    let here = rw (← c.item-item.is) at at in
    c.loop-item.invariant behind ∙ ap (λ s. all_lines lines text scope (standing_before s behind)) here
    ∙ ap (λ s. all_lines lines text scope s) (standing_before-followed (single_of item) rest behind)
    ∙ c.in_ok-push_item.ensures (standing_before rest behind)
