use Rattle.std.proofs.Common.{Some, sym, ap, ◌∙◌}
use Rattle.std.specs.Option.{option_map}
use Rattle.xt_edit.specs.View.{edit_of}
use Rattle.xt_edit.specs.Telling.{change_among, numbers_in, way_in}
use Rattle.xt_edit.proofs.Told.{no_path, no_way, no_children, change_is, finished}
use Rattle.xt_edit.proofs.change.change_of.Goals as goal

pub unreachable-requires-in-None-2 : goal.unreachable-requires-in-None-2
unreachable-requires-in-None-2 c =
    no_way (edit_of c.args.edit.now) c.args.old.now c.args.new.now c.requires c.distinct_numbers.ensures c.in-Some.path.now c.in-Some.ensures
    (ap (option_map way_in) (sym c.in-None-2.is) ∙ c.in_ok-way_to-in-Some.ensures)

pub unreachable-requires-in-None-children_at : goal.unreachable-requires-in-None-children_at
unreachable-requires-in-None-children_at c =
    no_children (edit_of c.args.edit.now) c.args.old.now c.args.new.now c.requires c.distinct_numbers.ensures c.in-Some.path.now c.in-Some.ensures
    c.in-None-children_at.ensures

pub returns : goal.returns
returns c =
    let way = c.in-Some-2.way in
    let old = way.children.now in
    let new = c.in-Some-children_at.after.now in
    let made = change_among c.changes_attributes.result way.node.number (numbers_in way.above.items) old new in
    finished c.change_among.result _ made c.change_among.ensures (
    change_is (edit_of c.args.edit.now) c.args.old.now c.args.new.now c.requires c.distinct_numbers.ensures c.in-Some.path.now c.in-Some.ensures
    way.node.number (numbers_in way.above.items) old new
    (ap (option_map way_in) (sym c.in-Some-2.is) ∙ c.in_ok-way_to-in-Some.ensures) c.in-Some-children_at.ensures
    ∙ ap (λ b. Some (change_among b way.node.number (numbers_in way.above.items) old new)) (sym c.changes_attributes.ensures)
    )

pub unreachable-requires : goal.unreachable-requires
unreachable-requires c =
    no_path (edit_of c.args.edit.now) c.args.old.now c.args.new.now c.requires c.distinct_numbers.ensures c.in-None.ensures
