use Rattle.std.proofs.Common.{Some, sym, ap, ◌∙◌}
use Rattle.std.specs.Option.{option_map}
use Rattle.xt_edit.specs.Telling.{numbers_in, way_in}
use Rattle.xt_edit.proofs.MoveTold.{no-old, no-new, told-is}
use Rattle.xt_edit.proofs.move_change.change_of_children.Goals as goal

pub returns-in-None : goal.returns-in-None
returns-in-None c =
    no-old c.args.old.now c.args.new.now c.args.path.now (ap (option_map way_in) (sym c.in-None.is) ∙ c.in_ok-way_to.ensures)

pub returns-in-None-children_at : goal.returns-in-None-children_at
returns-in-None-children_at c = no-new c.args.old.now c.args.new.now c.args.path.now c.in-None-children_at.ensures

pub returns-in_ok-change-in-Some-children_at : goal.returns-in_ok-change-in-Some-children_at
returns-in_ok-change-in-Some-children_at c =
    let way = c.in-Some.way in
    ap (λ x. Some x) c.in_ok-change-in-Some-children_at.ensures
    ∙ sym (told-is c.args.old.now c.args.new.now c.args.path.now c.requires way.node.number (numbers_in way.above.items) way.children.now
    c.in-Some-children_at.after.now (ap (option_map way_in) (sym c.in-Some.is) ∙ c.in_ok-way_to.ensures) c.in-Some-children_at.ensures)
