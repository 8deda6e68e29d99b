use Rattle.std.proofs.Common.{◌++◌, ◌∷◌, [], ℕ, List, refl, ap, ◌∙◌}
use Rattle.std.specs.Prelude.{codes, decimal}
use Rattle.xt_wire.proofs.Written.{begun}
use Rattle.xt_wire.proofs.write.no_line.Goals as goal

pub returns : goal.returns
returns c =
    c.in_ok-push.ensures.ok ∙ ap (λ (t : List ℕ). t ++ 10 ∷ [])
    (c.in_ok-push_number.ensures ∙ ap (λ (t : List ℕ). t ++ decimal c.from.result) (begun c.in_ok-text.text (codes "no ") refl c.in_ok-text.ensures)
    ∙ ap (λ (n : ℕ). codes "no " ++ decimal n) (c.from.ensures ∙ c.number.ensures))
