use Rattle.std.proofs.Common.{◌≡◌, false, ◌∷◌, ◌++◌, sym, ◌∙◌, subst}
use Rattle.std.specs.List.{list_any}
use Rattle.spec_change.specs.Change.{Change}
use Rattle.xt_edit.specs.Telling.{change_in}
use Rattle.xt_touch.specs.Named.{IsAround, is_within}
use Rattle.xt_touch.proofs.Within.{apart, outside, outside_alone}
use Rattle.xt_touch.proofs.source.SourceMarks.meets_around.Goals as goal

pub returns : goal.returns
returns c = λ held.
    let change = change_in c.self.inside.change in
    let sets = c.self.invariant in
    let beside = c.self.inside.beside in
    let named = c.args.named.now in
    let none_held : list_any (is_within named.inside) (change.node ∷ change.above) ≡ false =
    subst (λ (x : Change). list_any (is_within named.inside) (x.node ∷ x.above) ≡ false) (sym c.self.view_is) (sym c.is_held_within.ensures ∙ held) in
    let is_around : IsAround change named = record {
      moving = apart (change.gone ++ change.brought) c.self.inside.goes named.all sets.within_goes (c.meets.ensures c.if-meets.false);
      node_near = outside_alone change.node named.near (sym c.has.ensures ∙ c.if-has.false);
      children_near = apart (change.before ++ change.after) beside named.near sets.within_beside (c.meets-2.ensures c.if-meets-2.false);
      holding_inside = outside (change.node ∷ change.above) named.inside none_held;
    } in
    subst (λ (x : Change). IsAround x named) c.self.view_is is_around
