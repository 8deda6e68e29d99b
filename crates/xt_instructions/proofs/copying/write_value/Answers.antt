use Rattle.std.proofs.Common.{suc, length, subst, sym}
use Rattle.spec_run.specs.Plan.{Plan}
use Rattle.spec_node.specs.declared.node_ref.NodeRef.{NodeRef}
use Rattle.xt_frames.specs.View.{after_body}
use Rattle.xt_frames.specs.Left.{left_in, Does}
use Rattle.xt_frames.proofs.Lefts.{if_ok}
use Rattle.xt_instructions.proofs.Named.{copied_number, copied_boolean}
use Rattle.xt_instructions.proofs.copying.write_value.Goals as goal

pub returns-in-Nodes : goal.returns-in-Nodes
returns-in-Nodes c = if_ok c.write_nodes.result c.write_nodes.ensures (λ next h ask. rw c.in-Nodes.is (h ask))

pub returns-in-Fragment : goal.returns-in-Fragment
returns-in-Fragment c = if_ok c.write_plain.result c.write_plain.ensures (λ next h ask. rw c.in-Fragment.is (h ask))

pub returns-in-Text : goal.returns-in-Text
returns-in-Text c = if_ok c.write_text.result c.write_text.ensures (λ next h ask. rw c.in-Text.is (rw c.advanced.ensures at h ask))

pub returns-in-Number : goal.returns-in-Number
returns-in-Number c =
    let r = c.args.run.now in
    let after = after_body c.args.body (left_in r) in
    if_ok c.write_number.result c.write_number.ensures (λ next h ask.
    let P : Plan NodeRef → Type 0 = λ p. Does ask p (suc (length r.frames.items)) r c.write_number.new.run next in
    rw c.in-Number.is (subst P (sym (copied_number c.in-Number.number after)) (h ask)))

pub returns-in-Boolean : goal.returns-in-Boolean
returns-in-Boolean c =
    let r = c.args.run.now in
    let after = after_body c.args.body (left_in r) in
    if_ok c.write_boolean.result c.write_boolean.ensures (λ next h ask.
    let P : Plan NodeRef → Type 0 = λ p. Does ask p (suc (length r.frames.items)) r c.write_boolean.new.run next in
    rw c.in-Boolean.is (subst P (sym (copied_boolean c.in-Boolean.boolean after)) (h ask)))
