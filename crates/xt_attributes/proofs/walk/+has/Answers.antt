use Rattle.std.proofs.Common.{◌∙◌, List, map, refl, sym, arith, rules}
use Rattle.spec_compile.specs.Walk.{has, has_one, has_link, has_step}
use Rattle.spec_expression.specs.Syntax.{exprs, links, steps}
use Rattle.xt_syntax.specs.View.{expr_of, link_of, step_of}
use Rattle.xt_syntax.specs.declared.expr.Expr.{Expr}
use Rattle.xt_syntax.specs.declared.expr.Link.{Link, fold_out-Link}
use Rattle.xt_syntax.specs.declared.expr.Step.{Step, fold_out-Step}
use Rattle.xt_attributes.specs.Sought.{sought_in}
use Rattle.xt_attributes.proofs.Searching.{found_sought, next_sought}
use Rattle.xt_attributes.proofs.walk.+has.Goals as goal

pub has_one-loop-expr-preserved : goal.has_one-loop-expr-preserved
has_one-loop-expr-preserved t c =
    next_sought (λ (es : List Expr). has_one (sought_in c.args.sought) (exprs (map expr_of es))) (λ e. has (sought_in c.args.sought) (expr_of e)) c.args.list.now c.loop-expr.expr-index
    c.expr-item.result (λ left. refl) (omega arith) c.expr-item.is (sym c.has.ensures ∙ c.if-has.false) c.loop-expr.invariant

pub has_one-returns-then-has : goal.has_one-returns-then-has
has_one-returns-then-has t c =
    found_sought (λ (es : List Expr). has_one (sought_in c.args.sought) (exprs (map expr_of es))) (λ e. has (sought_in c.args.sought) (expr_of e)) c.args.list.now c.loop-expr.expr-index
    c.expr-item.result (λ left. refl) (omega arith) c.expr-item.is (sym c.has.ensures ∙ c.if-has.true) c.loop-expr.invariant

pub has_link-loop-link-preserved : goal.has_link-loop-link-preserved
has_link-loop-link-preserved t c =
    next_sought (λ (ls : List Link). has_link (sought_in c.args.sought) (links (map link_of ls))) (λ l. has (sought_in c.args.sought) (link_of l).operand) c.args.list.now
    c.loop-link.link-index c.link-item.result (λ left. refl) (omega arith) c.link-item.is (search (rules, fold_out-Link)) c.loop-link.invariant

pub has_link-returns-then-has : goal.has_link-returns-then-has
has_link-returns-then-has t c =
    found_sought (λ (ls : List Link). has_link (sought_in c.args.sought) (links (map link_of ls))) (λ l. has (sought_in c.args.sought) (link_of l).operand) c.args.list.now
    c.loop-link.link-index c.link-item.result (λ left. refl) (omega arith) c.link-item.is (search (rules, fold_out-Link)) c.loop-link.invariant

pub has_step-loop-step-preserved : goal.has_step-loop-step-preserved
has_step-loop-step-preserved t c =
    next_sought (λ (ss : List Step). has_step (sought_in c.args.sought) (steps (map step_of ss))) (λ s. has_one (sought_in c.args.sought) (step_of s).predicates) c.args.list.now
    c.loop-step.step-index c.step-item.result (λ left. refl) (omega arith) c.step-item.is (search (rules, fold_out-Step)) c.loop-step.invariant

pub has_step-returns-then-has_one : goal.has_step-returns-then-has_one
has_step-returns-then-has_one t c =
    found_sought (λ (ss : List Step). has_step (sought_in c.args.sought) (steps (map step_of ss))) (λ s. has_one (sought_in c.args.sought) (step_of s).predicates) c.args.list.now
    c.loop-step.step-index c.step-item.result (λ left. refl) (omega arith) c.step-item.is (search (rules, fold_out-Step)) c.loop-step.invariant
