use Rattle.std.proofs.Common.{◌≡◌, Option, true, subst}
use Rattle.std.specs.Prelude.{IfSome}
use denote.Ref.{Bor}
use Rattle.std.specs.declared.rc.Rc.{Rc}
use Rattle.std.specs.declared.alloc.Global.{Global}
use Rattle.xt_edit.specs.View.{edit_of}
use Rattle.xt_strip.specs.Along.{IsKept}
use Rattle.xt_strip.specs.Edited.{sets_attribute}
use Rattle.xt_strip.proofs.Places.{others_stand}
use Rattle.xt_strip.proofs.Staying.{kept_stays}
use Rattle.xt_tree.specs.View.{forest_of, tree_of}
use Rattle.xt_tree.specs.declared.node.Node.{Node}
use Rattle.xt_strip.proofs.place.change_at.Goals as goal

pub returns-in-None : goal.returns-in-None
returns-in-None c old new is spot spliced there then_there =
    others_stand c.args.place.path.now c.args.place.from c.args.place.to old new (forest_of c.between.result.now) (forest_of c.args.before.now)
    (forest_of c.args.after.now) spliced there then_there c.between.ensures

pub returns-in-Some : goal.returns-in-Some
returns-in-Some c old new is spot spliced there then_there =
    let edit = edit_of c.args.edit.now in
    let s = forest_of c.args.before.now in
    let t = forest_of c.args.after.now in
    let position = c.args.place.position in
    let sets = subst (λ (o : Option (Bor (Rc Node Global))). IfSome o (λ node. sets_attribute edit ≡ true)) c.in-Some.is c.kept_node.ensures.sets in
    let kept = subst (λ (o : Option (Bor (Rc Node Global))). IfSome o (λ node. IsKept position s t (tree_of node.now.value).content))
    c.in-Some.is c.kept_node.ensures.kept in
    kept_stays edit old new c.args.place.path.now position s t (tree_of c.in-Some.node.now.value).content is sets spot there then_there kept
