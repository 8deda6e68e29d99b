use Rattle.std.proofs.lemmas.Result.{IfOk-weaker}
use Rattle.xt_touch.specs.View.{since_of}
use Rattle.xt_held.proofs.Marked.{modules_stay}
use Rattle.xt_held.proofs.Told.{style_told}
use Rattle.xt_held.proofs.marking.since_other.Goals as goal

pub returns-clause-spared : goal.returns-clause-spared
returns-clause-spared c = λ rules others method another parameters source see.
    IfOk-weaker c.and.result _ _ (λ next is.
    modules_stay c.what_need_not_be_asked_keeps_its_answers.ensures c.args.old.now c.args.new.now rules others method another parameters source see
    c.in_ok-units.units c.in-Ok.asking c.in_ok-units.ensures.alike c.in-Ok.ensures (since_of c.args.since.now) (since_of next) is) c.and.ensures

pub returns-clause-told : goal.returns-clause-told
returns-clause-told c = λ marks h.
    IfOk-weaker c.and.result _ _ (λ next is.
    style_told c.args.records.now marks c.in_ok-units.units c.in-Ok.asking (since_of c.args.since.now) (since_of next) c.in_ok-units.ensures.left_out is h) c.and.ensures
