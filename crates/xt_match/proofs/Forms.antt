-- Predicates by their form: how many arguments a call has, what it names, and the last operator of a chain.
use Rattle.std.proofs.Common.{◌≡◌, Bool, List, [], ◌∷◌, ◌++◌, length, map, Option, None, Some, Ok, Err, refl, ap, ◌∙◌, rules, arith}
use Rattle.spec_expression.specs.Syntax.{exprs, links}
use Rattle.spec_expression.specs.declared.code.StaticCode.{StaticCode}
use Rattle.spec_meaning.specs.declared.function.Function.{Function}
use Rattle.spec_transform.specs.Position.{count_of, counts_after, is_arithmetic}
use Rattle.xp_functions.specs.Found.{found_or_refused}
use Rattle.xt_syntax.specs.View.{expr_of, link_of}
use Rattle.xt_syntax.specs.declared.expr.Expr.{Expr}
use Rattle.xt_syntax.specs.declared.expr.Link.{Link, the_lemmas}

pub count_is : (es : List Expr) → length es ≡ count_of (exprs (map expr_of es))
count_is [] = refl
count_is (e ∷ es) = omega (arith, count_is es)

pub function_found : {o : Option Function} {f : Function} → found_or_refused o ≡ Ok f → o ≡ Some f
function_found {o = None} h = absurd (cc)
function_found {o = Some g} h = cc

pub no_function : {o : Option Function} {code : StaticCode} → found_or_refused o ≡ Err code → o ≡ None
no_function {o = None} h = refl
no_function {o = Some g} h = absurd (cc)

operator_is : (l : Link) → (link_of l).operator ≡ l.operator
operator_is l = search (rules, the_lemmas)

last_counts : (before : Bool) (ls : List Link) (last : Link) → counts_after before (links (map link_of (ls ++ last ∷ []))) ≡ is_arithmetic last.operator
last_counts before [] last = ap is_arithmetic (operator_is last)
last_counts before (l ∷ ls) last = last_counts (is_arithmetic (link_of l).operator) ls last

-- what the last link of a chain makes
pub counts_at_last : (before : Bool) (all ls : List Link) (last : Link) → all ≡ ls ++ last ∷ [] → counts_after before (links (map link_of all)) ≡ is_arithmetic last.operator
counts_at_last before all ls last e = ap (λ l. counts_after before (links (map link_of l))) e ∙ last_counts before ls last

pub counts_without : (before : Bool) (all : List Link) → length all ≡ 0 → counts_after before (links (map link_of all)) ≡ before
counts_without before [] h = refl
counts_without before (l ∷ ls) h = absurd (omega (arith, h))
