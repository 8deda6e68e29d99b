use Rattle.std.proofs.Common.{false, None, Some, refl, sym, ap, ◌∙◌, subst}
use Rattle.std.specs.Option.{option_map}
use Rattle.spec_change.specs.Change.{change_at}
use Rattle.xt_edit.specs.MoveTelling.{AreToldAt}
use Rattle.xt_edit.specs.Telling.{change_in}
use Rattle.xt_edit.proofs.MoveTold.{way-is, enters-by, both-told, none-entered}
use Rattle.xt_edit.proofs.move_change.by_way_of.Goals as goal

pub change_of_children-entered-requires : goal.change_of_children-entered-requires
change_of_children-entered-requires c =
    let old = c.args.old.now in
    let left = c.args.left.now in
    let ends = c.args.ends in
    let way = way-is old left ends c.fewer_by-fewer.result c.as_slice.result.now c.requires.there c.requires.left c.fewer_by-fewer.ensures
    (c.as_slice.ensures.value ∙ c.in_ok-way.ensures) in
    enters-by old left c.args.new.now ends c.as_slice.result.now c.requires.left way c.requires.told.enters

pub change_of_children-requires : goal.change_of_children-requires
change_of_children-requires c =
    subst (λ d. AreToldAt c.args.old.now d c.args.ends.site.spot.parent.now) (sym c.requires.left) c.requires.told.leaves

pub returns-in-None : goal.returns-in-None
returns-in-None c =
    let old = c.args.old.now in
    let left = c.args.left.now in
    let ends = c.args.ends in
    let way = way-is old left ends c.fewer_by-fewer.result c.as_slice.result.now c.requires.there c.requires.left c.fewer_by-fewer.ensures
    (c.as_slice.ensures.value ∙ c.in_ok-way.ensures) in
    let leaving = change_at false old left ends.site.spot.parent.now in
    none-entered leaving
    ∙ both-told old left c.args.new.now ends c.as_slice.result.now c.requires.left way leaving None refl
    (ap (option_map change_in) (sym c.in-None.is) ∙ c.in_ok-entered.ensures)

pub returns-in-None-2 : goal.returns-in-None-2
returns-in-None-2 c =
    let old = c.args.old.now in
    let left = c.args.left.now in
    let ends = c.args.ends in
    let way = way-is old left ends c.fewer_by-fewer.result c.as_slice.result.now c.requires.there c.requires.left c.fewer_by-fewer.ensures
    (c.as_slice.ensures.value ∙ c.in_ok-way.ensures) in
    both-told old left c.args.new.now ends c.as_slice.result.now c.requires.left way None (Some (change_in c.in-Some.entered))
    (ap (option_map change_in) (sym c.in-None-2.is) ∙ c.in_ok-change_of_children-in-Some.ensures)
    (ap (option_map change_in) (sym c.in-Some.is) ∙ c.in_ok-entered.ensures)

pub returns-in-Some-2 : goal.returns-in-Some-2
returns-in-Some-2 c =
    let old = c.args.old.now in
    let left = c.args.left.now in
    let ends = c.args.ends in
    let way = way-is old left ends c.fewer_by-fewer.result c.as_slice.result.now c.requires.there c.requires.left c.fewer_by-fewer.ensures
    (c.as_slice.ensures.value ∙ c.in_ok-way.ensures) in
    both-told old left c.args.new.now ends c.as_slice.result.now c.requires.left way (Some (change_in c.in-Some-2.left)) (Some (change_in c.in-Some.entered))
    (ap (option_map change_in) (sym c.in-Some-2.is) ∙ c.in_ok-change_of_children-in-Some.ensures)
    (ap (option_map change_in) (sym c.in-Some.is) ∙ c.in_ok-entered.ensures)
