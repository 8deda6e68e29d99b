use Rattle.std.proofs.Common.{sym, ap, subst, ◌∙◌}
use Rattle.spec_document.specs.Document.{elements_beside}
use Rattle.spec_document.specs.Top.{kept}
use Rattle.xt_edit.specs.Finding.{at_no_line}
use Rattle.xt_edit.specs.Moving.{carried_in, new_parent, old_parent, tree_in}
use Rattle.xt_edit.specs.Site.{spot_in}
use Rattle.xt_edit.specs.Standing.{Stands}
use Rattle.xt_edit.proofs.Moves.{parent-at}
use Rattle.xt_edit.proofs.Placed.{has-room, moved-is, moved_to, next-is, nodes-limit}
use Rattle.xt_edit.proofs.relocation.to_another.Goals as goal

pub placed-requires-clause-room : goal.placed-requires-clause-room
placed-requires-clause-room c =
    has-room c.args.first.number c.args.document.now c.args.ends c.in_ok-keeps.keeps (ap at_no_line (sym c.in-None.is) ∙ c.in_ok-code.ensures)

pub next_after-next-requires : goal.next_after-next-requires
next_after-next-requires c =
    nodes-limit c.args.first.number c.args.document.now c.args.ends c.in_ok-keeps.keeps (ap at_no_line (sym c.in-None.is) ∙ c.in_ok-code.ensures) _
    (c.list.ensures ∙ c.in_ok-nodes-in-None.ensures)

pub carry-carried-requires-clause-after : goal.carry-carried-requires-clause-after
carry-carried-requires-clause-after c =
    let document = c.args.document.now in
    let ends = c.args.ends in
    let first = c.args.first.number in
    let keeps = c.in_ok-keeps.keeps in
    let is = moved-is first document ends keeps
    (c.in_ok-keeps.ensures (old_parent document ends) c.requires.stand.from.parent (new_parent document ends)
    (parent-at document (spot_in ends.to.spot) ends.to.parent c.requires.stand.to))
    (ap at_no_line (sym c.in-None.is) ∙ c.in_ok-code.ensures) in
    subst (λ nodes. Stands (carried_in document ends nodes)) (sym (c.list-in-None.ensures ∙ c.in_ok-nodes-in-None.ensures))
    (c.requires.permits (moved_to keeps first document ends) is)

pub returns-in_ok-document-in-None : goal.returns-in_ok-document-in-None
returns-in_ok-document-in-None c =
    let document = c.args.document.now in
    let ends = c.args.ends in
    let first = c.args.first.number in
    let keeps = c.in_ok-keeps.keeps in (
      moved_to keeps first document ends,
      moved-is first document ends keeps
          (c.in_ok-keeps.ensures (old_parent document ends) c.requires.stand.from.parent (new_parent document ends)
          (parent-at document (spot_in ends.to.spot) ends.to.parent c.requires.stand.to))
          (ap at_no_line (sym c.in-None.is) ∙ c.in_ok-code.ensures),
      c.in_ok-document-in-None.ensures ∙ ap (carried_in document ends) (c.list-in-None.ensures ∙ c.in_ok-nodes-in-None.ensures),
      c.next_after-next.ensures
          ∙ next-is keeps first (kept (elements_beside ends.to.parent) (tree_in ends.site.node.now)) _ (c.list.ensures ∙ c.in_ok-nodes-in-None.ensures),
    )
