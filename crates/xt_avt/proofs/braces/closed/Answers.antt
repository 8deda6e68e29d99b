use Rattle.std.proofs.Common.{◌∷◌, ap, length, ◌∙◌, arith}
use Rattle.spec_static.specs.TemplateGrammar.{pieces}
use Rattle.xt_avt.proofs.Cutting.{doubled_close, lone_close}
use Rattle.xt_avt.proofs.braces.closed.Goals as goal

pub returns-in-Some : goal.returns-in-Some
returns-in-Some c =
    let is = c.in-Some.ensures {u = tt} in
    record {
      pieces = ap (λ cs. pieces 0 (0x7D ∷ cs)) is ∙ doubled_close _;
      shorter = omega (arith, ap length is);
    }

pub returns-in-None : goal.returns-in-None
returns-in-None c = record { pieces = lone_close _ (c.in-None.ensures {u = tt}); shorter = omega arith }
