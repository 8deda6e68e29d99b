-- What some expressions mean on small documents, as computed facts: nodes are named by their places.
use Rattle.std.proofs.Common.{◌≡◌, ℕ, negsuc, true, List, [], Some, None, refl}
use Rattle.std.specs.Prelude.{codes}
use Rattle.spec_document.specs.Character.{is_name_start, is_name_part}
use Rattle.spec_document.specs.Name.{Expanded}
use Rattle.spec_document.specs.Scope.{root_scope}
use Rattle.spec_document.specs.Forest.{Element, Text, Forest, Empty, Node}
use Rattle.spec_document.specs.Place.{Itself, Place}
use Rattle.spec_document.specs.Order.{entries_of, is_same_place}
use Rattle.spec_expression.specs.declared.Operator.TheVariants as operator
use Rattle.spec_expression.specs.declared.code.DynCode.TheVariants as code
use Rattle.spec_expression.specs.Number.{Whole}
use Rattle.spec_expression.specs.Syntax.{Expr, number, literal, call, chain, negation, no_exprs, expr, no_links, link}
use Rattle.spec_meaning.specs.Value as value
use Rattle.spec_meaning.specs.Value.{Value}
use Rattle.spec_meaning.specs.Question.{Here}
use Rattle.spec_meaning.specs.Program.{Said, Gives, Refuses, Supply, outcome_of, then}
use Rattle.spec_meaning.specs.Context.{Context}
use Rattle.spec_meaning.specs.Meaning.{meaning}
use Rattle.spec_meaning.specs.Truth.{answer_by}

abbrev element : List ℕ → Forest ℕ → Forest ℕ → Forest ℕ
element name children siblings = Node 0 (Element name []) children siblings

abbrev text : List ℕ → Forest ℕ
text content = Node 0 (Text content) Empty Empty

-- <a><b>x</b><c/><b>y</b></a>
abbrev letters : Forest ℕ
letters = element (codes "a") (element (codes "b") (text (codes "x")) (element (codes "c") Empty (element (codes "b") (text (codes "y")) Empty))) Empty

abbrev place : List ℕ → Place
place positions = record { positions = positions; ending = Itself }

abbrev at_root : Context Place
at_root = record { node = place []; current = place []; position = Some 1; size = Some 1; bindings = []; scope = root_scope }

abbrev nothing_given : Supply Place
nothing_given wanted = None

abbrev evaluated : Forest ℕ → Expr → Said (Value Place)
evaluated nodes e =
    outcome_of (answer_by (λ entry. entry.place) is_same_place (entries_of (record { root = 0; nodes = nodes }))) nothing_given (meaning e at_root)

abbrev plain : List ℕ → Expanded
plain local = record { uri = []; local = local }

abbrev function : List ℕ → Expr → Expr
function name argument = call (plain name) (expr argument no_exprs)

-- 7 div 2, 1 div 0, -5 mod 2
pub seven_div_two : evaluated letters (chain (number 7) (link operator.Divide (number 2) no_links)) ≡ Refuses (Here code.Fraction)
unfolding then is_name_start is_name_part
seven_div_two = refl

pub one_div_zero : evaluated letters (chain (number 1) (link operator.Divide (number 0) no_links)) ≡ Refuses (Here code.Infinite)
unfolding then is_name_start is_name_part
one_div_zero = refl

pub minus_five_mod_two : evaluated letters (chain (negation 1 (number 5)) (link operator.Modulo (number 2) no_links)) ≡ Gives (value.Number (Whole (negsuc 0)))
unfolding then is_name_start is_name_part
minus_five_mod_two = refl

-- count('x')
pub count_of_a_text : evaluated letters (function (codes "count") (literal (codes "x"))) ≡ Refuses (Here code.NoNodeSet)
unfolding then is_name_start is_name_part
count_of_a_text = refl

-- true() or count('x'): the left operand decides
pub left_alone : evaluated letters (chain (call (plain (codes "true")) no_exprs) (link operator.Or (function (codes "count") (literal (codes "x"))) no_links))
    ≡ Gives (value.Boolean true)
unfolding then is_name_start is_name_part
left_alone = refl

-- '1.5' + (1 div 0): both operands are evaluated before the first is converted
pub evaluated_before_converted : evaluated letters (chain (literal (codes "1.5")) (link operator.Add (chain (number 1) (link operator.Divide (number 0) no_links)) no_links))
    ≡ Refuses (Here code.Infinite)
unfolding then is_name_start is_name_part
evaluated_before_converted = refl
