use Rattle.std.proofs.Common.{◌≡◌, ◌++◌, map, true, Vec, Global, sym, ap, ◌∙◌, arith}
use Rattle.std.proofs.lemmas.List.{append-nil}
use Rattle.spec_document.specs.Name.{same_name}
use Rattle.spec_run.specs.Content.{elements_named}
use Rattle.spec_node.specs.declared.node_ref.NodeRef.{NodeRef}
use Rattle.xt_questions.specs.View.{sets_of}
use Rattle.xt_instructions.proofs.Used.{set_here, no_set}
use Rattle.xt_instructions.proofs.sets.add_elements.Goals as goal

pub returns-then-same : goal.returns-then-same
returns-then-same c =
    let inv = c.loop-set.invariant in
    let all = elements_named (map sets_of c.args.sets.now) c.args.name.now in
    let x = c.set-item.result in
    let yes : same_name x.name c.args.name.now ≡ true = sym c.same.ensures ∙ c.if-same.true in
    let added = c.as_slice.ensures.value ∙ sym (set_here c.args.sets.now c.loop-set.set-index x c.args.name.now all (omega arith) c.set-item.is inv.named yes) in
    c.in_ok-extend_from_slice.ensures.items ∙ ap (λ l. c.loop-set.elements.items ++ l) added ∙ ap (λ (v : Vec NodeRef Global). v.items ++ all) inv.same

pub returns : goal.returns
returns c =
    let inv = c.loop-set.invariant in
    let old = c.args.elements.now in
    let all = elements_named (map sets_of c.args.sets.now) c.args.name.now in
    ap (λ (v : Vec NodeRef Global). v.items) inv.same ∙ sym (append-nil old.items) ∙ ap (λ l. old.items ++ l) (sym (no_set c.args.sets.now c.loop-set.set-index c.args.name.now all (omega arith) inv.named))
