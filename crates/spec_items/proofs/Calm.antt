-- Programs that ask nothing of units, and need nothing: what is left to do with values that are at hand.
use Rattle.std.proofs.Common.{ℕ, List, [], ◌∷◌, ◌++◌, length, Bool, true, false, cond, Option, None, Some, Result, Ok, Err}
use Rattle.std.specs.Prelude.{◌&&◌, ◌||◌, pos}
use Rattle.std.specs.List.{list_any}
use Rattle.spec_document.specs.declared.axis.Axis.{Axis}
use Rattle.spec_document.specs.declared.axis.Axis.TheVariants as axis
use Rattle.spec_document.specs.Name.{Expanded, QName, qname_of}
use Rattle.spec_document.specs.Scope.{Scope}
use Rattle.spec_document.specs.Declaration.{attribute_name}
use Rattle.spec_expression.specs.declared.Operator.{Operator}
use Rattle.spec_expression.specs.declared.Operator.TheVariants as op
use Rattle.spec_expression.specs.declared.code.DynCode.TheVariants as code
use Rattle.spec_expression.specs.Number.{Number, Fault, whole, number_of, sum_of}
use Rattle.spec_expression.specs.Strings.{length_of}
use Rattle.spec_meaning.specs.declared.function.NodesFunction.{NodesFunction}
use Rattle.spec_meaning.specs.declared.function.NodesFunction.TheVariants as of_some_nodes
use Rattle.spec_meaning.specs.declared.function.TextFunction.{TextFunction}
use Rattle.spec_meaning.specs.declared.function.TextFunction.TheVariants as of_one_text
use Rattle.spec_meaning.specs.declared.function.ValueFunction.{ValueFunction}
use Rattle.spec_meaning.specs.declared.function.ValueFunction.TheVariants as of_one_value
use Rattle.spec_meaning.specs.Value as value
use Rattle.spec_meaning.specs.Value.{Value}
use Rattle.spec_meaning.specs.Question as question
use Rattle.spec_meaning.specs.Question.{Question, Answer, Refusal, nodes_in}
use Rattle.spec_meaning.specs.Program.{Program, Give, Refuse, Ask, then}
use Rattle.spec_meaning.specs.Context.{Context}
use Rattle.spec_meaning.specs.Convert.{given, counted, text_at, first_text, to_text, to_number, to_nodes}
use Rattle.spec_meaning.specs.Compare.{is_equality, Operand, OfNode, OfText, OfNumber, number_in, text_in_operand, operands, is_boolean, beside, searched}
use Rattle.spec_meaning.specs.Compare.{any_left, after_first, some_pair, goes_by_texts, operands_compared, compared, texts_satisfy, numbers_satisfy}
use Rattle.spec_meaning.specs.Operation.{computed, arithmetic, in_order, united, comparison, combined}
use Rattle.spec_meaning.specs.Call.{argument, all_texts, arranged, summed, of_first, of_nodes, language_at, language_of, name_meant, of_text, of_value}
use Rattle.spec_meaning.specs.Call.{length_argument, substring_of, nodes_or_refused, nodes_of_key, nodes_of_keys, keyed, key_of}
use Rattle.spec_items.specs.Fits.{OfNoUnit}

pub data Calm {N A : Type 0} : Program N A → Type 0 where
  gives : {a : A} → Calm (Give a)
  refuses : {why : Refusal} → Calm (Refuse why)
  asks : {q : Question N} {k : Answer N → Program N A} → OfNoUnit q → ((x : Answer N) → Calm (k x)) → Calm (Ask q k)

pub then_calm : {N A B : Type 0} {p : Program N A} {k : A → Program N B} → Calm p → ((a : A) → Calm (k a)) → Calm (then p k)
unfolding then
then_calm gives g = g _
then_calm refuses g = refuses
then_calm (asks h next) g = asks h (λ x. then_calm (next x) g)

pub either_calm : {N A : Type 0} (b : Bool) {p q : Program N A} → Calm p → Calm q → Calm (cond b p q)
either_calm true h g = h
either_calm false h g = g

-- ---- conversions
pub given_calm : {N : Type 0} (r : Result Number Fault) → Calm {N = N} (given r)
given_calm (Ok n) = gives
given_calm (Err fault) = refuses

pub counted_calm : {N : Type 0} (n : ℕ) → Calm {N = N} (counted n)
counted_calm n = then_calm (given_calm (whole (pos n))) (λ m. gives)

pub text_at_calm : {N : Type 0} (n : N) → Calm (text_at n)
text_at_calm n = asks tt (λ x. gives)

first_text_calm : {N : Type 0} (ns : List N) → Calm (first_text ns)
first_text_calm [] = gives
first_text_calm (n ∷ ns) = text_at_calm n

pub to_text_calm : {N : Type 0} (v : Value N) → Calm (to_text v)
to_text_calm (value.Number n) = gives
to_text_calm (value.Text t) = gives
to_text_calm (value.Boolean b) = gives
to_text_calm (value.Nodes ns) = first_text_calm ns
to_text_calm (value.Fragment s) = gives

pub to_number_calm : {N : Type 0} (v : Value N) → Calm (to_number v)
to_number_calm (value.Number n) = gives
to_number_calm (value.Text t) = given_calm _
to_number_calm (value.Boolean b) = gives
to_number_calm (value.Nodes ns) = then_calm (first_text_calm ns) (λ t. given_calm (number_of t))
to_number_calm (value.Fragment s) = given_calm _

pub to_nodes_calm : {N : Type 0} (v : Value N) → Calm (to_nodes v)
to_nodes_calm (value.Number n) = refuses
to_nodes_calm (value.Text t) = refuses
to_nodes_calm (value.Boolean b) = refuses
to_nodes_calm (value.Nodes ns) = gives
to_nodes_calm (value.Fragment s) = refuses

-- ---- comparisons
number_in_calm : {N : Type 0} (a : Operand N) → Calm (number_in a)
number_in_calm (OfNode n) = then_calm (text_at_calm n) (λ t. given_calm (number_of t))
number_in_calm (OfText t) = given_calm _
number_in_calm (OfNumber n) = gives

text_in_calm : {N : Type 0} (a : Operand N) → Calm (text_in_operand a)
text_in_calm (OfNode n) = text_at_calm n
text_in_calm (OfText t) = gives
text_in_calm (OfNumber n) = gives

searched_calm : {N X : Type 0} {read : Operand N → Program N X} → ((a : Operand N) → Calm (read a)) → (test : X → Bool) (done : List X) (rs : List (Operand N))
    → Calm (searched read test done rs)
searched_calm calm test done [] = gives
searched_calm calm test done (r ∷ rs) = then_calm (calm r) (λ y. either_calm (test y) gives (searched_calm calm test (done ++ y ∷ []) rs))

any_left_calm : {N X : Type 0} {read : Operand N → Program N X} → ((a : Operand N) → Calm (read a)) → (test : X → X → Bool) (ys : List X) (ls : List (Operand N))
    → Calm (any_left read test ys ls)
any_left_calm calm test ys [] = gives
any_left_calm calm test ys (l ∷ ls) = then_calm (calm l) (λ x. either_calm (list_any (test x) ys) gives (any_left_calm calm test ys ls))

after_first_calm : {N X : Type 0} {read : Operand N → Program N X} → ((a : Operand N) → Calm (read a)) → (test : X → X → Bool) (ls : List (Operand N))
    (found : Option (List X)) → Calm (after_first read test ls found)
after_first_calm calm test ls None = gives
after_first_calm calm test ls (Some ys) = any_left_calm calm test ys ls

some_pair_calm : {N X : Type 0} {read : Operand N → Program N X} → ((a : Operand N) → Calm (read a)) → (test : X → X → Bool) (ls rs : List (Operand N))
    → Calm (some_pair read test ls rs)
some_pair_calm calm test [] rs = gives
some_pair_calm calm test (l ∷ ls) [] = gives
some_pair_calm calm test (l ∷ ls) (r ∷ rs) =
    then_calm (calm l) (λ x. then_calm (searched_calm calm (test x) [] (r ∷ rs)) (λ found. after_first_calm calm test ls found))

operands_calm : {N : Type 0} (operator : Operator) (by_texts : Bool) (ls rs : List (Operand N)) → Calm (operands_compared operator by_texts ls rs)
operands_calm operator by_texts ls rs =
    either_calm by_texts (some_pair_calm text_in_calm (texts_satisfy operator) ls rs) (some_pair_calm number_in_calm (numbers_satisfy operator) ls rs)

compared_calm : {N : Type 0} (operator : Operator) (v w : Value N) → Calm (compared operator v w)
compared_calm operator v w =
    either_calm (is_equality operator && (is_boolean v || is_boolean w)) gives
    (operands_calm operator (goes_by_texts operator v w) (operands (beside w v)) (operands (beside v w)))

-- ---- operations
arithmetic_calm : {N : Type 0} (operator : Operator) (v w : Value N) → Calm (arithmetic operator v w)
arithmetic_calm operator v w =
    then_calm (to_number_calm v) (λ a. then_calm (to_number_calm w) (λ b. then_calm (given_calm (computed operator a b)) (λ n. gives)))

pub in_order_calm : {N : Type 0} (ns : List N) → Calm (in_order ns)
in_order_calm ns = asks tt (λ x. gives)

united_calm : {N : Type 0} (v w : Value N) → Calm (united v w)
united_calm v w = then_calm (to_nodes_calm v) (λ ms. then_calm (to_nodes_calm w) (λ ns. then_calm (in_order_calm (ms ++ ns)) (λ all. gives)))

comparison_calm : {N : Type 0} (operator : Operator) (v w : Value N) → Calm (comparison operator v w)
comparison_calm operator v w = then_calm (compared_calm operator v w) (λ b. gives)

pub combined_calm : {N : Type 0} (operator : Operator) (v w : Value N) → Calm (combined operator v w)
combined_calm op.Or v w = gives
combined_calm op.And v w = gives
combined_calm op.Union v w = united_calm v w
combined_calm op.Equal v w = comparison_calm op.Equal v w
combined_calm op.NotEqual v w = comparison_calm op.NotEqual v w
combined_calm op.Less v w = comparison_calm op.Less v w
combined_calm op.LessOrEqual v w = comparison_calm op.LessOrEqual v w
combined_calm op.Greater v w = comparison_calm op.Greater v w
combined_calm op.GreaterOrEqual v w = comparison_calm op.GreaterOrEqual v w
combined_calm op.Add v w = arithmetic_calm op.Add v w
combined_calm op.Subtract v w = arithmetic_calm op.Subtract v w
combined_calm op.Multiply v w = arithmetic_calm op.Multiply v w
combined_calm op.Divide v w = arithmetic_calm op.Divide v w
combined_calm op.Modulo v w = arithmetic_calm op.Modulo v w

-- ---- calls
pub all_texts_calm : {N : Type 0} (done : List (List ℕ)) (vs : List (Value N)) → Calm (all_texts done vs)
all_texts_calm done [] = gives
all_texts_calm done (v ∷ vs) = then_calm (to_text_calm v) (λ t. all_texts_calm (done ++ t ∷ []) vs)

pub arranged_calm : {N : Type 0} (ns : List N) (axis : Axis) (found : List N) → Calm (arranged ns axis found)
arranged_calm [] axis found = gives
arranged_calm (n ∷ []) axis found = gives
arranged_calm (n ∷ m ∷ more) axis found = in_order_calm found

summed_calm : {N : Type 0} (total : Number) (ns : List N) → Calm (summed total ns)
summed_calm total [] = gives
summed_calm total (n ∷ ns) =
    then_calm (text_at_calm n) (λ t. then_calm (given_calm (number_of t)) (λ a. then_calm (given_calm (sum_of total a)) (λ s. summed_calm s ns)))

of_first_calm : {N : Type 0} (ask : N → Question N) (part : Answer N → List ℕ) → ((n : N) → OfNoUnit (ask n)) → (ns : List N) → Calm (of_first ask part ns)
of_first_calm ask part h [] = gives
of_first_calm ask part h (n ∷ ns) = asks (h n) (λ x. gives)

pub of_nodes_calm : {N : Type 0} (f : NodesFunction) (ns : List N) → Calm (of_nodes f ns)
of_nodes_calm of_some_nodes.Count ns = counted_calm (length ns)
of_nodes_calm of_some_nodes.Sum ns = summed_calm _ ns
of_nodes_calm of_some_nodes.LocalName ns = of_first_calm _ _ (λ n. tt) ns
of_nodes_calm of_some_nodes.NamespaceUri ns = of_first_calm _ _ (λ n. tt) ns
of_nodes_calm of_some_nodes.Name ns = of_first_calm _ _ (λ n. tt) ns
of_nodes_calm of_some_nodes.GenerateId ns = of_first_calm _ _ (λ n. tt) ns

language_at_calm : {N : Type 0} (wanted : List ℕ) {p : Program N (Value N)} → Calm p → (ns : List N) → Calm (language_at wanted p ns)
language_at_calm wanted h [] = h
language_at_calm wanted h (n ∷ ns) = then_calm (text_at_calm n) (λ t. gives)

language_of_calm : {N : Type 0} (wanted : List ℕ) (ns : List N) → Calm (language_of wanted ns)
language_of_calm wanted [] = gives
language_of_calm wanted (n ∷ ns) = asks tt (λ x. language_at_calm wanted (language_of_calm wanted ns) (nodes_in x))

abbrev by_expanded : {N : Type 0} → Option Expanded → Program N Expanded
by_expanded name = elim name [ None ↦ Refuse (question.Here code.BadName) | Some expanded ↦ Give expanded ]

abbrev by_qname : {N : Type 0} → Scope → Option QName → Program N Expanded
by_qname scope written = elim written [ None ↦ Refuse (question.Here code.BadName) | Some name ↦ by_expanded (attribute_name scope name) ]

by_expanded_calm : {N : Type 0} (name : Option Expanded) → Calm {N = N} (by_expanded name)
by_expanded_calm None = refuses
by_expanded_calm (Some expanded) = gives

by_qname_calm : {N : Type 0} (scope : Scope) (written : Option QName) → Calm {N = N} (by_qname scope written)
by_qname_calm scope None = refuses
by_qname_calm scope (Some name) = by_expanded_calm (attribute_name scope name)

pub name_meant_calm : {N : Type 0} (scope : Scope) (t : List ℕ) → Calm {N = N} (name_meant scope t)
name_meant_calm scope t = by_qname_calm scope (qname_of t)

pub of_value_calm : {N : Type 0} (f : ValueFunction) (v : Value N) → Calm (of_value f v)
of_value_calm of_one_value.String v = then_calm (to_text_calm v) (λ t. gives)
of_value_calm of_one_value.Number v = then_calm (to_number_calm v) (λ n. gives)
of_value_calm of_one_value.Boolean v = gives
of_value_calm of_one_value.Not v = gives
of_value_calm of_one_value.Rounded v = then_calm (to_number_calm v) (λ n. gives)
of_value_calm of_one_value.Id v = gives

length_argument_calm : {N : Type 0} (vs : List (Value N)) → Calm (length_argument vs)
length_argument_calm [] = gives
length_argument_calm (v ∷ []) = gives
length_argument_calm (v ∷ w ∷ []) = gives
length_argument_calm (v ∷ w ∷ x ∷ xs) = then_calm (to_number_calm x) (λ n. gives)

pub substring_calm : {N : Type 0} (vs : List (Value N)) → Calm (substring_of vs)
substring_calm vs =
    then_calm (to_text_calm (argument vs 0)) (λ t. then_calm (to_number_calm (argument vs 1)) (λ start.
    then_calm (length_argument_calm vs) (λ count. gives)))

nodes_or_refused_calm : {N : Type 0} (x : Answer N) → Calm (nodes_or_refused x)
nodes_or_refused_calm question.Gone = gives
nodes_or_refused_calm (question.Refused why) = refuses
nodes_or_refused_calm (question.SomeNodes ns) = gives
nodes_or_refused_calm (question.SomeText t) = gives
nodes_or_refused_calm (question.Named k name written) = gives
nodes_or_refused_calm (question.Chosen rule) = gives
nodes_or_refused_calm (question.Copied s) = gives
nodes_or_refused_calm (question.Resolved u) = gives
nodes_or_refused_calm (question.Passed text) = gives

nodes_of_key_calm : {N : Type 0} (name : Expanded) (t : List ℕ) → Calm {N = N} (nodes_of_key name t)
nodes_of_key_calm name t = asks tt nodes_or_refused_calm

nodes_of_keys_calm : {N : Type 0} (name : Expanded) (found ns : List N) → Calm (nodes_of_keys name found ns)
nodes_of_keys_calm name found [] = gives
nodes_of_keys_calm name found (n ∷ ns) =
    then_calm (text_at_calm n) (λ t. then_calm (nodes_of_key_calm name t) (λ ms. nodes_of_keys_calm name (found ++ ms) ns))

pub keyed_calm : {N : Type 0} (name : Expanded) (v : Value N) → Calm (keyed name v)
keyed_calm name (value.Number n) = then_calm (to_text_calm (value.Number n)) (nodes_of_key_calm name)
keyed_calm name (value.Text t) = then_calm (to_text_calm (value.Text t)) (nodes_of_key_calm name)
keyed_calm name (value.Boolean b) = then_calm (to_text_calm (value.Boolean b)) (nodes_of_key_calm name)
keyed_calm name (value.Nodes ns) = then_calm (nodes_of_keys_calm name [] ns) (λ found. arranged_calm ns axis.Child found)
keyed_calm name (value.Fragment s) = then_calm (to_text_calm (value.Fragment s)) (nodes_of_key_calm name)

-- what looks at the node and the namespaces of a context alone
pub of_text_calm : {N : Type 0} (f : TextFunction) (c : Context N) (t : List ℕ) → Calm (of_text f c t)
of_text_calm of_one_text.StringLength c t = then_calm (given_calm (length_of t)) (λ n. gives)
of_text_calm of_one_text.NormalizeSpace c t = gives
of_text_calm of_one_text.Lang c t = asks tt (λ x. language_of_calm t (nodes_in x))
of_text_calm of_one_text.SystemProperty c t = then_calm (name_meant_calm c.scope t) (λ name. gives)
of_text_calm of_one_text.ElementAvailable c t = then_calm (name_meant_calm c.scope t) (λ name. gives)
of_text_calm of_one_text.FunctionAvailable c t = then_calm (name_meant_calm c.scope t) (λ name. gives)
of_text_calm of_one_text.UnparsedEntityUri c t = gives

pub key_of_calm : {N : Type 0} (vs : List (Value N)) (c : Context N) → Calm (key_of vs c)
key_of_calm vs c =
    then_calm (to_text_calm (argument vs 0)) (λ t. then_calm (name_meant_calm c.scope t) (λ name.
    then_calm (keyed_calm name (argument vs 1)) (λ ns. gives)))
