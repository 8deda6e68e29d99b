use Rattle.std.proofs.Common.{◌∙◌, ◌++◌, ap, map}
use Rattle.std.proofs.lemmas.Result.{on_ok_weaker}
use Rattle.xt_tree.specs.StreamView.{stream_of}
use Rattle.xt_driver.specs.declared.globals.Evaluation.{Evaluation}
use Rattle.xt_driver.specs.Referring.{entry_of, entries_of, remembered_as}
use Rattle.xt_driver.proofs.outcome.end_evaluation.Goals as goal

pub returns : goal.returns
returns c =
    let old = entries_of c.args.memo.now in
    let content = stream_of c.args.content.value in
    let parts = c.into_inner-name.ensures in
    let here = ap (λ xs. xs ++ remembered_as c.into_inner-name.result.name c.into_inner-name.result.element c.args.levels content c.args.given.now) c.in_ok-put_back.ensures
    ∙ ap (λ (x : Evaluation). (old ++ map entry_of x.aside.items) ++ remembered_as x.name x.element c.args.levels content c.args.given.now) parts in
    on_ok_weaker c.remember.result (λ h. h ∙ here) c.remember.ensures
