-- Expressions, level by level.
use Rattle.std.proofs.Common.{◌≡◌, ℕ, List, Box, Vec, Global, map, ap, sym, rules}
use Rattle.spec_document.specs.Name.{Expanded}
use Rattle.spec_expression.specs.Syntax as plain
use Rattle.spec_expression.specs.Syntax.{exprs, links, steps}
use Rattle.xt_syntax.specs.declared.expr.Expr.{Expr, Number, Literal, Variable, Call, Chain, Negation, Filter, Root, Here, Path, the_lemmas}
use Rattle.xt_syntax.specs.declared.expr.Link.{Link}
use Rattle.xt_syntax.specs.declared.expr.Step.{Step}
use Rattle.xt_syntax.specs.View.{expr_of, link_of, step_of, test_of}

pub view-Number : (n : ℕ) → expr_of (Number n) ≡ plain.number n
view-Number n = search (rules, the_lemmas)

pub view-Literal : (t : List ℕ) → expr_of (Literal t) ≡ plain.literal t
view-Literal t = search (rules, the_lemmas)

pub view-Variable : (e : Expanded) → expr_of (Variable e) ≡ plain.variable e
view-Variable e = search (rules, the_lemmas)

pub view-Call : (name : Expanded) (es : Vec Expr Global) → expr_of (Call name es) ≡ plain.call name (exprs (map expr_of es.items))
view-Call name es = search (rules, the_lemmas)

pub view-Chain : (e : Box Expr Global) (ls : Vec Link Global) → expr_of (Chain e ls) ≡ plain.chain (expr_of e.value) (links (map link_of ls.items))
view-Chain e ls = search (rules, the_lemmas)

pub view-Negation : (n : ℕ) (e : Box Expr Global) → expr_of (Negation n e) ≡ plain.negation n (expr_of e.value)
view-Negation n e = search (rules, the_lemmas)

pub view-Filter : (e : Box Expr Global) (ps : Vec Expr Global) → expr_of (Filter e ps) ≡ plain.filter (expr_of e.value) (exprs (map expr_of ps.items))
view-Filter e ps = search (rules, the_lemmas)

pub view-Root : expr_of Root ≡ plain.root
view-Root = search (rules, the_lemmas)

pub view-Here : expr_of Here ≡ plain.here
view-Here = search (rules, the_lemmas)

pub view-Path : (e : Box Expr Global) (ss : Vec Step Global) → expr_of (Path e ss) ≡ plain.path (expr_of e.value) (steps (map step_of ss.items))
view-Path e ss = search (rules, the_lemmas)

pub view-Link : (l : Link) → link_of l ≡ record { operator = l.operator; operand = expr_of l.operand }
view-Link l = search (rules, the_lemmas)

pub view-Step : (s : Step) → step_of s ≡ record { axis = s.axis; test = test_of s.test; predicates = exprs (map expr_of s.predicates.items) }
view-Step s = search (rules, the_lemmas)

pub axis-of : (s : Step) → s.axis ≡ (step_of s).axis
axis-of s = ap (λ (t : plain.Step). t.axis) (sym (view-Step s))

pub test-of : (s : Step) → test_of s.test ≡ (step_of s).test
test-of s = ap (λ (t : plain.Step). t.test) (sym (view-Step s))

pub predicates-of : (s : Step) → exprs (map expr_of s.predicates.items) ≡ (step_of s).predicates
predicates-of s = ap (λ (t : plain.Step). t.predicates) (sym (view-Step s))
