-- Turns of the loops: what is left to do begins with the one at hand.
use Rattle.std.proofs.Common.{◌≡◌, Bool, true, List, [], ◌∷◌, ◌++◌, map, length, refl, sym, ap, ◌∙◌}
use Rattle.std.specs.Prelude.{if◌then◌else◌}
use Rattle.spec_expression.specs.Syntax as plain
use Rattle.spec_expression.specs.Syntax.{exprs}
use Rattle.spec_meaning.specs.Context.{Context}
use Rattle.spec_meaning.specs.Question as question
use Rattle.spec_meaning.specs.Question.{Answer, nodes_in}
use Rattle.spec_meaning.specs.Program.{Program, Give, Ask, then}
use Rattle.spec_transform.specs.Match.{all_kept, keep, is_given_below, holds_of_one, when_called}
use Rattle.xt_syntax.specs.declared.expr.Expr.{Expr}
use Rattle.xt_syntax.specs.declared.expr.Step.{Step}
use Rattle.xt_syntax.specs.View.{expr_of, step_of, test_of}
use Rattle.xt_match.proofs.Together.{ask_then}
use Rattle.xt_match.proofs.Views.{view-Step}

-- a predicate that is not the last
pub keep_turn : {N : Type 0} (same : N → N → Bool) (c : Context N) (n : N) (e : Expr) (es : List Expr) (last : Expr) (nodes : List N)
    → keep same c n (exprs (map expr_of (e ∷ es) ++ expr_of last ∷ [])) nodes
    ≡ (then) (all_kept (expr_of e) c (length nodes) 1 [] nodes) (λ ms. keep same c n (exprs (map expr_of es ++ expr_of last ∷ [])) ms)
keep_turn same c n e [] last nodes = refl
keep_turn same c n e (f ∷ es) last nodes = refl

-- a node is asked what it is called, and then the test of it
pub called_turn : {N : Type 0} (test : N → Answer N → Program N Bool) (n : N) (ns : List N)
    → holds_of_one (when_called test) (n ∷ ns)
    ≡ (then) (Ask (question.Name n) (λ a. Give a)) (λ called. (then) (test n called) (λ b. if b then Give true else holds_of_one (when_called test) ns))
unfolding then
called_turn test n ns = refl

-- the nodes that a step gives from a parent are asked for first
pub given_below : {N : Type 0} (same : N → N → Bool) (c : Context N) (s : Step) (n parent : N) {test : plain.Test} → test ≡ test_of s.test
    → (then) (Ask (question.Step parent s.axis test) (λ a. Give (nodes_in a))) (λ ns. keep same c n (exprs (map expr_of s.predicates.items)) ns)
    ≡ is_given_below same c (step_of s) n parent
given_below same c s n parent {test = test} e =
    ask_then (question.Step parent s.axis test) nodes_in (λ ns. keep same c n (exprs (map expr_of s.predicates.items)) ns)
    ∙ ap (λ t. Ask (question.Step parent s.axis t) (λ a. keep same c n (exprs (map expr_of s.predicates.items)) (nodes_in a))) e
    ∙ ap (λ (t : plain.Step). is_given_below same c t n parent) (sym (view-Step s))
