use Rattle.std.proofs.Common.{◌++◌, subst}
use Rattle.spec_change.specs.Change.{Change}
use Rattle.xt_edit.specs.Telling.{change_in}
use Rattle.xt_touch.specs.Named.{LieOutside}
use Rattle.xt_touch.proofs.Within.{apart}
use Rattle.xt_touch.proofs.source.SourceMarks.meets.Goals as goal

pub returns : goal.returns
returns c = λ around.
    let change = change_in c.self.inside.change in
    let inside = c.args.named.now.inside in
    let beside = apart (change.before ++ change.after) c.self.inside.beside inside c.self.invariant.within_beside (c.meets.ensures c.if-meets.false) in
    record {
      around = c.meets_around.ensures around;
      loose_inside = subst (λ (x : Change). LieOutside (x.before ++ x.after) inside) c.self.view_is beside;
    }
