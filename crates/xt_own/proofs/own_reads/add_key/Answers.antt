use Rattle.std.proofs.Common.{List, sym, subst}
use Rattle.xt_world.specs.View.{truth_in}
use Rattle.xt_own.specs.Keys.{AllKeys}
use Rattle.xt_own.specs.declared.own_key.OwnKey.{OwnKey}
use Rattle.xt_own.proofs.Keeping.{all_keys_and}
use Rattle.xt_own.proofs.own_reads.add_key.Goals as goal

pub returns-in_ok-push-in-Some : goal.returns-in_ok-push-in-Some
returns-in_ok-push-in-Some c = λ parameters h.
    let s = c.args.stylesheet.now in
    let ask = truth_in s parameters c.args.document.now in
    let known = rw c.in-Some.is at (c.in_ok-own_key.ensures.key parameters) in
    subst (λ (ks : List OwnKey). AllKeys s ask ks) (sym c.in_ok-push-in-Some.ensures.items) (all_keys_and s ask c.args.keys.now.items c.in-Some.key h known)
