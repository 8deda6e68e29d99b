use Rattle.std.proofs.Common.{ℕ, ap, sym, ◌∙◌}
use Rattle.std.specs.Prelude.{◌==◌}
use Rattle.xt_syntax.specs.View.{step_of}
use Rattle.xt_pattern.proofs.Views.{predicates-of, no_lone_test}
use Rattle.xt_pattern.proofs.priorities.step_priority.Goals as goal

pub returns : goal.returns
returns c =
    let s = c.args.step.now in
    let count = ap (λ (n : ℕ). n == 0) s.predicates.ok.0 in
    sym (no_lone_test (step_of s) s.predicates.items (predicates-of s) (sym count ∙ sym c.is_empty.ensures ∙ c.if-is_empty.false))
