use Rattle.std.proofs.lemmas.Result.{IfOk-weaker}
use Rattle.xt_touch.specs.View.{since_of}
use Rattle.xt_world.specs.View.{truth_in}
use Rattle.xt_own.proofs.NodeReading.{unasked_stays}
use Rattle.xt_own.proofs.SideBySide.{both_goes, old_passed}
use Rattle.xt_own.proofs.pass.pass_same.Goals as goal

pub returns-then-is_as_it_was-clause-goes : goal.returns-then-is_as_it_was-clause-goes
returns-then-is_as_it_was-clause-goes c = λ stays rest was parameters answer agrees passed.
    let s = c.args.scene.now.stylesheet.now in
    let ask = truth_in s parameters c.args.scene.now.document.now in
    both_goes s was ask _ answer _ c.args.old.now _ rest _ _ c.in_ok-push.ensures.items c.in_ok-shared.ensures.cases
    (unasked_stays s was ask (since_of c.args.scene.now.since.now) c.args.scene.now.name.now c.args.old.now.value agrees
    (c.is_as_it_was.ensures.name c.if-is_as_it_was.true) (c.is_as_it_was.ensures.reads c.if-is_as_it_was.true)) passed

pub returns-clause-goes : goal.returns-clause-goes
returns-clause-goes c =
    IfOk-weaker c.pass_new.result _ _ (λ stays goes yes rest was parameters answer agrees passed.
    goes yes rest was parameters answer agrees
    (old_passed _ was _ _ answer _ c.add_asked.new.but.items c.args.old.now rest _ c.in_ok-add_asked.ensures.before c.in_ok-add_asked.ensures.values passed))
    c.pass_new.ensures.goes
