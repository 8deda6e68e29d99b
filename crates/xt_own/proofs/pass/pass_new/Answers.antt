use Rattle.std.proofs.Common.{List, ℕ, subst}
use Rattle.xt_own.specs.Keys.{Covers}
use Rattle.xt_own.specs.declared.own_node.OwnNode.{OwnNode}
use Rattle.xt_own.proofs.SideBySide.{new_goes, some_is}
use Rattle.xt_own.proofs.pass.pass_new.Goals as goal

pub returns-in_ok-push-in-Some-clause-goes : goal.returns-in_ok-push-in-Some-clause-goes
returns-in_ok-push-in-Some-clause-goes c = λ stays left was parameters answer agrees passed.
    let after = c.add_values.new.but.items in
    let T : List (List ℕ) → Type 0 = λ texts. Covers texts after in
    let N : OwnNode → Type 0 = λ n. Covers n.texts.items after in
    let values = subst N c.deref.ensures (subst T c.as_slice.ensures.value c.in-Ok.ensures.values) in
    new_goes _ was _ _ answer c.args.but.now.items after c.in-Some.new left _ _ c.in_ok-push-in-Some.ensures.items c.in-Ok.ensures.before values
    (some_is _ c.in-Some.is (c.in_ok-own_node.ensures.known parameters)) passed
