-- What trees made of one more level stand for.
use Rattle.std.proofs.Common.{◌≡◌, ℕ, List, map, Vec, Global, rules}
use Rattle.spec_document.specs.Name.{Expanded}
use Rattle.spec_document.specs.declared.axis.Axis.{Axis}
use Rattle.spec_expression.specs.declared.Operator.{Operator}
use Rattle.spec_expression.specs.Syntax as tree
use Rattle.xt_syntax.specs.declared.expr.Expr.{Expr, Number, Literal, Variable, Call, Root, Here, the_lemmas}
use Rattle.xt_syntax.specs.declared.expr.Link.{roll-Link}
use Rattle.xt_syntax.specs.declared.expr.Step.{roll-Step}
use Rattle.xt_syntax.specs.declared.expr.Test.{Test}
use Rattle.xt_syntax.specs.View.{expr_of, link_of, step_of, test_of}

pub view-Number : (n : ℕ) → expr_of (Number n) ≡ tree.number n
view-Number n = search (rules, the_lemmas)

pub view-Literal : (t : List ℕ) → expr_of (Literal t) ≡ tree.literal t
view-Literal t = search (rules, the_lemmas)

pub view-Variable : (e : Expanded) → expr_of (Variable e) ≡ tree.variable e
view-Variable e = search (rules, the_lemmas)

pub view-Call : (e : Expanded) (v : Vec Expr Global) → expr_of (Call e v) ≡ tree.call e (tree.exprs (map expr_of v.items))
view-Call e v = search (rules, the_lemmas)

pub view-Root : expr_of Root ≡ tree.root
view-Root = search (rules, the_lemmas)

pub view-Here : expr_of Here ≡ tree.here
view-Here = search (rules, the_lemmas)

pub view-Link : (o : Operator) (e : Expr) → link_of (roll-Link (record { operator = o; operand = e })) ≡ record { operator = o; operand = expr_of e }
view-Link o e = search (rules, the_lemmas)

pub view-Step : (a : Axis) (t : Test) (v : Vec Expr Global)
    → step_of (roll-Step (record { axis = a; test = t; predicates = v })) ≡ record { axis = a; test = test_of t; predicates = tree.exprs (map expr_of v.items) }
view-Step a t v = search (rules, the_lemmas)
