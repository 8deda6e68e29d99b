use Rattle.std.proofs.Common.{◌∙◌, ap, subst, ℤ, pos, w64, FitsSigned}
use Rattle.std.proofs.lemmas.Int.{to_z-of_z}
use Rattle.std.proofs.lemmas.Iterator.{YieldsList-from_chars}
use Rattle.std.proofs.lemmas.Iterator.Consumers.{count_from_yields_List}
use Rattle.spec_expression.specs.Number.{whole}
use Rattle.xt_base.specs.Fault.{Gives}
use Rattle.xp_text.proofs.positions.length.Goals as goal

pub returns-in-Ok : goal.returns-in-Ok
returns-in-Ok c =
    let counted = count_from_yields_List _ c.count.result c.count.ensures.ran (YieldsList-from_chars c.args.text.now c.utf8.text cc) in
    let told = c.in-Ok.ensures in
    let fits : FitsSigned w64 c.in-Ok.count = rw told.1 told.0 in
    let same = to_z-of_z w64 c.in-Ok.count fits ∙ told.1 ∙ ap pos counted in
    subst (λ (z : ℤ). Gives c.whole.result (whole z)) same c.whole.ensures
