use Rattle.std.proofs.Common.{◌≡◌, Option, sym, ◌∙◌, subst}
use Rattle.std.specs.Prelude.{IfOk}
use Rattle.std.specs.Option.{option_map}
use Rattle.spec_move.specs.Changed.{MoveChange}
use Rattle.xt_edit.specs.MoveTelling.{AreReorderedAt, move_change_in}
use Rattle.xt_edit.proofs.MoveTold.{are-reordered, are-told, in-order-is, between-is, no-fault}
use Rattle.xt_edit.proofs.move_change.move_change_of.Goals as goal

pub unreachable-requires : goal.unreachable-requires
unreachable-requires c = no-fault c.args.old.now c.args.new.now c.args.path.now c.args.other.now c.in-Err.field-0 c.requires c.in-Err.ensures

pub in_order-requires : goal.in_order-requires
in_order-requires c =
    subst (λ n. AreReorderedAt n c.args.old.now c.args.new.now c.in-Ok.ends.site.spot.parent.now) (sym c.id.ensures)
    (are-reordered c.args.old.now c.args.new.now c.args.path.now c.args.other.now c.in-Ok.ends c.in-Ok.ensures c.requires c.stand.ensures.numbers
    (sym c.is_same_way.ensures ∙ c.if-is_same_way.true))

pub between-requires-clause-told : goal.between-requires-clause-told
between-requires-clause-told c =
    are-told c.args.old.now c.args.new.now c.args.path.now c.args.other.now c.in-Ok.ends c.in-Ok.ensures c.requires c.stand.ensures.numbers
    (sym c.is_same_way.ensures ∙ c.if-is_same_way.false)

pub returns-then-is_same_way : goal.returns-then-is_same_way
returns-then-is_same_way c =
    subst (λ (o : Option MoveChange). IfOk c.in_order.result (λ change. option_map move_change_in change ≡ o))
    (in-order-is c.args.old.now c.args.new.now c.args.path.now c.args.other.now c.in-Ok.ends c.in-Ok.ensures c.requires c.stand.ensures.numbers
    (sym c.is_same_way.ensures ∙ c.if-is_same_way.true)) c.in_order.ensures

pub returns-else-is_same_way : goal.returns-else-is_same_way
returns-else-is_same_way c =
    subst (λ (o : Option MoveChange). IfOk c.between.result (λ change. option_map move_change_in change ≡ o))
    (between-is c.args.old.now c.args.new.now c.args.path.now c.args.other.now c.in-Ok.ends c.in-Ok.ensures c.requires c.stand.ensures.numbers
    (sym c.is_same_way.ensures ∙ c.if-is_same_way.false)) c.between.ensures
