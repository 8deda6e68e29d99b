use Rattle.std.proofs.Common.{◌∷◌, ap, length, ◌∙◌, arith}
use Rattle.spec_static.specs.TemplateGrammar.{pieces}
use Rattle.xt_avt.proofs.Cutting.{doubled_open}
use Rattle.xt_avt.proofs.braces.opened.Goals as goal

pub returns-in-Some : goal.returns-in-Some
returns-in-Some c =
    let is = c.in-Some.ensures {u = tt} in
    record {
      pieces = ap (λ cs. pieces 0 (0x7B ∷ cs)) is ∙ doubled_open _;
      shorter = omega (arith, ap length is);
    }
