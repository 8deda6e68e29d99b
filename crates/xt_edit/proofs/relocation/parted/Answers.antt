use Rattle.std.proofs.Common.{sym, ap, ◌∙◌}
use Rattle.spec_move.specs.Move.{goes_through}
use Rattle.xt_edit.specs.Moving.{moved_within}
use Rattle.xt_edit.proofs.Elements.{edits-so}
use Rattle.xt_edit.proofs.Moves.{another-is, apart-is, within-is}
use Rattle.xt_edit.proofs.relocation.parted.Goals as goal

pub within_parent-requires-clause-apart : goal.within_parent-requires-clause-apart
within_parent-requires-clause-apart c =
    apart-is c.args.document.now c.args.path.now c.args.other.now c.in-Ok.ends c.in-Ok.ensures (sym c.same.ensures ∙ c.if-same.false)
    (sym c.is_same_way.ensures ∙ c.if-is_same_way.true)

pub within_parent-requires-clause-after : goal.within_parent-requires-clause-after
within_parent-requires-clause-after c =
    let ends = c.in-Ok.ends in
    c.requires.permits (record { nodes = (moved_within c.args.document.now ends.site ends.to.spot.position).nodes; made = 0 })
    (within-is c.args.first.number c.args.document.now c.args.path.now c.args.other.now ends c.in-Ok.ensures (sym c.same.ensures ∙ c.if-same.false)
    (sym c.is_same_way.ensures ∙ c.if-is_same_way.true))

pub to_another-requires-clause-permits : goal.to_another-requires-clause-permits
to_another-requires-clause-permits c new e =
    let ends = c.in-Ok.ends in
    let apart = ap (goes_through ends.to.spot.parent.now) (sym c.positions.ensures) ∙ sym c.goes_through.ensures ∙ c.if-goes_through.false in
    c.requires.permits new
    (another-is c.args.first.number c.args.document.now c.args.path.now c.args.other.now ends c.in-Ok.ensures (sym c.same.ensures ∙ c.if-same.false)
    (sym c.is_same_way.ensures ∙ c.if-is_same_way.false) apart ∙ e)

pub returns-else-goes_through : goal.returns-else-goes_through
returns-else-goes_through c =
    let ends = c.in-Ok.ends in
    let apart = ap (goes_through ends.to.spot.parent.now) (sym c.positions.ensures) ∙ sym c.goes_through.ensures ∙ c.if-goes_through.false in
    edits-so c.args.document.now c.args.first.number c.to_another.result _ _
    (another-is c.args.first.number c.args.document.now c.args.path.now c.args.other.now ends c.in-Ok.ensures (sym c.same.ensures ∙ c.if-same.false)
    (sym c.is_same_way.ensures ∙ c.if-is_same_way.false) apart) c.to_another.ensures
