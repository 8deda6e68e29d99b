use Rattle.std.proofs.Common.{List, map, refl, arith, rules}
use Rattle.spec_transform.specs.Numbering.{names_in, names_in_all, names_in_links, names_in_steps}
use Rattle.spec_expression.specs.Syntax.{exprs, links, steps}
use Rattle.xt_syntax.specs.View.{expr_of, link_of, step_of}
use Rattle.xt_syntax.specs.declared.expr.Expr.{Expr}
use Rattle.xt_syntax.specs.declared.expr.Link.{Link, fold_out-Link}
use Rattle.xt_syntax.specs.declared.expr.Step.{Step, fold_out-Step}
use Rattle.xt_lift.proofs.Next.{next_added}
use Rattle.xt_lift.proofs.expressions.+add.Goals as goal

pub add_in_all-loop-expr-preserved : goal.add_in_all-loop-expr-preserved
add_in_all-loop-expr-preserved t c =
    next_added (λ (es : List Expr). names_in_all (exprs (map expr_of es))) (λ e. names_in (expr_of e)) c.args.list.now c.loop-expr.expr-index c.expr-item.result
    c.loop-expr.into.items c.add_in.new.into.items (λ left. refl) (omega arith) c.expr-item.is c.in_ok-add_in.ensures c.loop-expr.invariant

pub add_in_links-loop-link-preserved : goal.add_in_links-loop-link-preserved
add_in_links-loop-link-preserved t c =
    next_added (λ (ls : List Link). names_in_links (links (map link_of ls))) (λ l. names_in (link_of l).operand) c.args.list.now c.loop-link.link-index c.link-item.result
    c.loop-link.into.items c.add_in.new.into.items (λ left. refl) (omega arith) c.link-item.is (search (rules, fold_out-Link)) c.loop-link.invariant

pub add_in_steps-loop-step-preserved : goal.add_in_steps-loop-step-preserved
add_in_steps-loop-step-preserved t c =
    next_added (λ (ss : List Step). names_in_steps (steps (map step_of ss))) (λ s. names_in_all (step_of s).predicates) c.args.list.now
    c.loop-step.step-index c.step-item.result c.loop-step.into.items c.add_in_all.new.into.items (λ left. refl) (omega arith) c.step-item.is (search (rules, fold_out-Step)) c.loop-step.invariant
