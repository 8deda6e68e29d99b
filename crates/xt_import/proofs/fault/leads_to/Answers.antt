use Rattle.std.proofs.Common.{◌∙◌, ℕ, List, Bool, sym, ap, subst}
use Rattle.std.specs.Bool.{Decides}
use Rattle.spec_structure.specs.Modules.{AreInReadingOrder, Reaches, is_among}
use Rattle.xt_import.specs.View.{modules_in}
use Rattle.xt_import.proofs.Reaching.{decides}
use Rattle.xt_import.proofs.fault.leads_to.Goals as goal

pub returns : goal.returns
returns c there =
    let modules = modules_in c.args.modules.now.entries in
    let order = subst (λ (n : List ℕ). AreInReadingOrder modules n c.in_ok-reached.reached.items) c.as_str.ensures.characters c.in_ok-reached.ensures in
    subst (λ (b : Bool). Decides b (Reaches modules c.args.from.now c.args.to.now)) (sym (c.is_among.ensures ∙ ap (is_among c.args.to.now) c.as_slice.ensures.value))
    (decides order there)
