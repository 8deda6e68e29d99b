use Rattle.std.proofs.Common.{◌∙◌, sym, ap}
use Rattle.std.specs.declared.rc.Rc.{Rc}
use Rattle.std.specs.declared.alloc.Global.{Global}
use Rattle.xt_record.specs.declared.tree.Summary.{Summary}
use Rattle.xt_record.proofs.Chaining.{some_is}
use Rattle.xt_record.proofs.taking.shared.Goals as goal

pub returns-in_ok-clone-in-Some : goal.returns-in_ok-clone-in-Some
returns-in_ok-clone-in-Some c = λ w is.
    (c.in-Some.whole, c.in-Some.is, sym c.in_ok-clone-in-Some.ensures.cases ∙ ap (λ (x : Rc Summary Global). x.value) (some_is is))
