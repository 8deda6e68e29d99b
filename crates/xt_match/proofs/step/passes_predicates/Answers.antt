use Rattle.std.proofs.Common.{sym, ap, ◌∙◌, map, List}
use Rattle.spec_expression.specs.Syntax.{exprs}
use Rattle.spec_transform.specs.Position.{read_no_position}
use Rattle.spec_node.specs.Naming.{same_ref}
use Rattle.xt_syntax.specs.View.{expr_of}
use Rattle.xt_syntax.specs.declared.expr.Expr.{Expr}
use Rattle.xt_questions.specs.View.{context_of}
use Rattle.xt_match.proofs.Together.{runs_as}
use Rattle.xt_match.proofs.Views.{asked_alone, asked_among}
use Rattle.xt_match.proofs.step.passes_predicates.Goals as goal

pub returns-then-read_no_position-clause-runs : goal.returns-then-read_no_position-clause-runs
returns-then-read_no_position-clause-runs g c f =
    let alone = ap (λ (es : List Expr). read_no_position (exprs (map expr_of es))) (sym c.as_slice-predicates.ensures.value) ∙ sym c.read_no_position.ensures ∙ c.if-read_no_position.true in
    runs_as (sym (asked_alone same_ref (context_of f c.args.context.now) c.args.step.now c.args.node alone)) (rw c.as_slice-predicates.ensures.value at (c.keep_alone.ensures.runs f))

pub returns-else-read_no_position-clause-runs : goal.returns-else-read_no_position-clause-runs
returns-else-read_no_position-clause-runs g c f =
    let among = ap (λ (es : List Expr). read_no_position (exprs (map expr_of es))) (sym c.as_slice-predicates.ensures.value) ∙ sym c.read_no_position.ensures ∙ c.if-read_no_position.false in
    runs_as (sym (asked_among same_ref (context_of f c.args.context.now) c.args.step.now c.args.node among)) (c.is_given.ensures.runs f)
