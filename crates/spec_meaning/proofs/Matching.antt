-- A meaning never looks at the name of a node: related contexts have related meanings, and where related questions are answered alike
-- they end alike.
use Rattle.std.proofs.Common.{◌≡◌, ℕ, suc, ◌+◌, ◌-◌, ◌==◌, List, [], ◌∷◌, ◌++◌, map, length, Bool, true, false, cond, not, Option, None, Some, Result}
use Rattle.std.proofs.Common.{Ok, Err, refl, ap, subst}
use Rattle.std.specs.Prelude.{◌&&◌, ◌||◌, pos, codes}
use mathlib.Core.List.{reverse_aux}
use Rattle.std.specs.List.{list_any}
use Rattle.spec_document.specs.declared.axis.Axis.{Axis}
use Rattle.spec_document.specs.declared.axis.Axis.TheVariants as axis
use Rattle.spec_document.specs.Axis.{is_reverse, in_axis_order}
use Rattle.spec_document.specs.Name.{Expanded, QName, same_name, qname_of}
use Rattle.spec_document.specs.Scope.{Scope}
use Rattle.spec_document.specs.Declaration.{attribute_name}
use Rattle.spec_expression.specs.declared.Operator.{Operator}
use Rattle.spec_expression.specs.declared.Operator.TheVariants as op
use Rattle.spec_expression.specs.declared.code.DynCode.TheVariants as code
use Rattle.spec_expression.specs.Number.{Number, Whole, Fault, whole, number_of, sum_of}
use Rattle.spec_expression.specs.Strings.{length_of}
use Rattle.spec_expression.specs.Syntax as tree
use Rattle.spec_expression.specs.Syntax.{Test, Expr, Exprs, no_exprs, expr, Links, no_links, link, Steps, no_steps, step}
use Rattle.spec_meaning.specs.declared.function.Function.{Function}
use Rattle.spec_meaning.specs.declared.function.Function.TheVariants.{OfContext, OfNodes, OfTexts, OfText, OfValue, Substring, Key}
use Rattle.spec_meaning.specs.declared.function.ContextFunction.{ContextFunction}
use Rattle.spec_meaning.specs.declared.function.ContextFunction.TheVariants as of_a_context
use Rattle.spec_meaning.specs.declared.function.NodesFunction.{NodesFunction}
use Rattle.spec_meaning.specs.declared.function.NodesFunction.TheVariants as of_some_nodes
use Rattle.spec_meaning.specs.declared.function.TextsFunction.{TextsFunction}
use Rattle.spec_meaning.specs.declared.function.TextsFunction.TheVariants as of_some_texts
use Rattle.spec_meaning.specs.declared.function.TextFunction.{TextFunction}
use Rattle.spec_meaning.specs.declared.function.TextFunction.TheVariants as of_one_text
use Rattle.spec_meaning.specs.declared.function.ValueFunction.{ValueFunction}
use Rattle.spec_meaning.specs.declared.function.ValueFunction.TheVariants as of_one_value
use Rattle.spec_meaning.specs.Value as value
use Rattle.spec_meaning.specs.Value.{Value}
use Rattle.spec_meaning.specs.Question as question
use Rattle.spec_meaning.specs.Question.{Question, Answer, nodes_in, text_in, local_in, uri_in, written_in}
use Rattle.spec_meaning.specs.Program.{Program, Give, Refuse, Wanted, Position, Size, Given, Supply, Read, Said, Lacks, Saw, then, if_given}
use Rattle.spec_meaning.specs.Program.{outcome_of, reads_of, count_in, value_in}
use Rattle.spec_meaning.specs.Context.{Context, Bound, binding_of}
use Rattle.spec_meaning.specs.Convert as convert
use Rattle.spec_meaning.specs.Convert.{given, text_at, first_text, to_text, to_number, to_boolean, to_nodes, is_some_node}
use Rattle.spec_meaning.specs.Compare.{is_equality, Operand, OfNode, OfText, OfNumber, number_in, text_in_operand, operands, is_boolean, is_number}
use Rattle.spec_meaning.specs.Compare.{set_as_boolean, searched, any_left, after_first, some_pair, goes_by_texts, operands_compared, compared}
use Rattle.spec_meaning.specs.Compare.{texts_satisfy, numbers_satisfy}
use Rattle.spec_meaning.specs.Operation.{computed, arithmetic, in_order, united, comparison, combined, is_decided, linked}
use Rattle.spec_meaning.specs.Function.{function_of}
use Rattle.spec_meaning.specs.Call.{value_or_node, argument, all_texts, arranged, known_or_needed, of_context, summed, of_first, of_nodes, of_texts}
use Rattle.spec_meaning.specs.Call.{language_at, language_of, name_meant, xslt, system_property, of_text, of_value, length_argument, substring_of}
use Rattle.spec_meaning.specs.Call.{nodes_or_refused, nodes_of_key, nodes_of_keys, keyed, key_of, applied, called}
use Rattle.spec_meaning.specs.Meaning.{bound_or_global, last_of, keeps, kept, stepped, meaning, values_of, chained, kept_by, along}
use Rattle.spec_meaning.specs.Related.{Each, none, more, Both, neither, both, Questions, steps, texts, names, places, orders, keys, Answers, gone}
use Rattle.spec_meaning.specs.Related.{refused, some_nodes, some_text, named, chosen, copied, some_unit, passed, Values, number, text, boolean, nodes}
use Rattle.spec_meaning.specs.Related.{fragment, Givens, counted, ruled, valued, Bindings, bound, Contexts, context, Match, gives, refuses, asks, needs}
use Rattle.spec_meaning.specs.Related.{Outcomes, both_give, both_refuse, both_lack, ReadsAlike, asked_alike, saw_alike, Worlds, SuppliesAlike}

-- ---- programs
pub then_match : {N M A B C D : Type 0} {R : N → M → Type 0} {S : A → B → Type 0} {T : C → D → Type 0} {p : Program N A} {q : Program M B}
    {k : A → Program N C} {l : B → Program M D}
    → Match R S p q → ((a : A) (b : B) → S a b → Match R T (k a) (l b)) → Match R T (then p k) (then q l)
unfolding then
then_match (gives h) g = g _ _ h
then_match refuses g = refuses
then_match (asks h next) g = asks h (λ x y e. then_match (next x y e) g)
then_match (needs next) g = needs (λ x y e. then_match (next x y e) g)

-- a need that is met in both worlds, or in neither
needs_met : {N M A B : Type 0} (R : N → M → Type 0) (S : A → B → Type 0) (w : Wanted) (depth : ℕ)
    (says : Given N → Said A) (tells : Given M → Said B) (reads : Given N → List (Read N)) (also : Given M → List (Read M))
    → ((x : Given N) (y : Given M) → Givens R x y → Outcomes S (says x) (tells y) × Each (ReadsAlike R) (reads x) (also y))
    → (g : Option (Given N)) (h : Option (Given M)) → Both (Givens R) g h
    → Outcomes S (if_given says (Lacks w) g) (if_given tells (Lacks w) h)
    × Each (ReadsAlike R) (if_given (λ x. Saw w depth x ∷ reads x) [] g) (if_given (λ y. Saw w depth y ∷ also y) [] h)
needs_met R S w depth says tells reads also later _ _ neither = (both_lack, none)
needs_met R S w depth says tells reads also later _ _ (both h) = let rest = later _ _ h in (rest.0, more (saw_alike h) rest.1)

-- where related questions are answered alike, programs that match end alike and read alike
pub matching : {N M A B : Type 0} (R : N → M → Type 0) (S : A → B → Type 0) (ask : Question N → Answer N) (other : Question M → Answer M)
    (supply : Supply N) (others : Supply M) (depth : ℕ) → Worlds R ask other → SuppliesAlike R supply others
    → (p : Program N A) (q : Program M B) → Match R S p q
    → Outcomes S (outcome_of ask supply p) (outcome_of other others q) × Each (ReadsAlike R) (reads_of ask supply depth p) (reads_of other others depth q)
matching R S ask other supply others depth w s _ _ (gives h) = (both_give h, none)
matching R S ask other supply others depth w s _ _ refuses = (both_refuse, none)
matching R S ask other supply others depth w s _ _ (asks {q = q} {r = r} h next) =
    let rest = matching R S ask other supply others depth w s _ _ (next (ask q) (other r) (w q r h)) in
    (rest.0, more (asked_alike h (w q r h)) rest.1)
matching R S ask other supply others depth w s _ _ (needs {w = wanted} {k = k} {l = l} next) =
    needs_met R S wanted depth (λ x. outcome_of ask supply (k x)) (λ y. outcome_of other others (l y)) (λ x. reads_of ask supply depth (k x))
    (λ y. reads_of other others depth (l y)) (λ x y e. matching R S ask other supply others depth w s _ _ (next x y e))
    (supply wanted) (others wanted) (s wanted)

-- the relation of what has no nodes in it
abbrev pub Same : {A : Type 0} → A → A → Type 0
Same a b = a ≡ b

-- the rest of a program, after what has no nodes in it
then_same : {N M A C D : Type 0} {R : N → M → Type 0} {T : C → D → Type 0} {p : Program N A} {q : Program M A} {k : A → Program N C} {l : A → Program M D}
    → Match R Same p q → ((a : A) → Match R T (k a) (l a)) → Match R T (then p k) (then q l)
then_same {R = R} {T = T} {k = k} {l = l} h g = then_match h (λ a b e. subst (λ c. Match R T (k a) (l c)) e (g a))

-- a choice that both sides make alike
either_match : {N M A B : Type 0} {R : N → M → Type 0} {S : A → B → Type 0} (b : Bool) {p q : Program N A} {x y : Program M B}
    → Match R S p x → Match R S q y → Match R S (cond b p q) (cond b x y)
either_match true h g = h
either_match false h g = g

-- ---- lists
either_each : {A B : Type 0} {R : A → B → Type 0} (b : Bool) {p q : List A} {x y : List B} → Each R p x → Each R q y → Each R (cond b p q) (cond b x y)
either_each true h g = h
either_each false h g = g

either_value : {N M : Type 0} {R : N → M → Type 0} (b : Bool) {p q : Value N} {x y : Value M} → Values R p x → Values R q y → Values R (cond b p q) (cond b x y)
either_value true h g = h
either_value false h g = g

pub each_append : {A B : Type 0} {R : A → B → Type 0} {xs : List A} {ys : List B} {zs : List A} {ws : List B} → Each R xs ys → Each R zs ws
    → Each R (xs ++ zs) (ys ++ ws)
each_append none g = g
each_append (more h hs) g = more h (each_append hs g)

pub each_length : {A B : Type 0} {R : A → B → Type 0} {xs : List A} {ys : List B} → Each R xs ys → length xs ≡ length ys
each_length none = refl
each_length (more h hs) = ap suc (each_length hs)

-- ---- answers
nodes_match : {N M : Type 0} {R : N → M → Type 0} {x : Answer N} {y : Answer M} → Answers R x y → Each R (nodes_in x) (nodes_in y)
nodes_match gone = none
nodes_match refused = none
nodes_match (some_nodes h) = h
nodes_match some_text = none
nodes_match named = none
nodes_match (chosen h) = none
nodes_match copied = none
nodes_match (some_unit h) = none
nodes_match passed = none

text_match : {N M : Type 0} {R : N → M → Type 0} {x : Answer N} {y : Answer M} → Answers R x y → text_in x ≡ text_in y
text_match gone = refl
text_match refused = refl
text_match (some_nodes h) = refl
text_match some_text = refl
text_match named = refl
text_match (chosen h) = refl
text_match copied = refl
text_match (some_unit h) = refl
text_match passed = refl

local_match : {N M : Type 0} {R : N → M → Type 0} {x : Answer N} {y : Answer M} → Answers R x y → local_in x ≡ local_in y
local_match gone = refl
local_match refused = refl
local_match (some_nodes h) = refl
local_match some_text = refl
local_match named = refl
local_match (chosen h) = refl
local_match copied = refl
local_match (some_unit h) = refl
local_match passed = refl

uri_match : {N M : Type 0} {R : N → M → Type 0} {x : Answer N} {y : Answer M} → Answers R x y → uri_in x ≡ uri_in y
uri_match gone = refl
uri_match refused = refl
uri_match (some_nodes h) = refl
uri_match some_text = refl
uri_match named = refl
uri_match (chosen h) = refl
uri_match copied = refl
uri_match (some_unit h) = refl
uri_match passed = refl

written_match : {N M : Type 0} {R : N → M → Type 0} {x : Answer N} {y : Answer M} → Answers R x y → written_in x ≡ written_in y
written_match gone = refl
written_match refused = refl
written_match (some_nodes h) = refl
written_match some_text = refl
written_match named = refl
written_match (chosen h) = refl
written_match copied = refl
written_match (some_unit h) = refl
written_match passed = refl

count_match : {N M : Type 0} {R : N → M → Type 0} {x : Given N} {y : Given M} → Givens R x y → count_in x ≡ count_in y
count_match counted = refl
count_match ruled = refl
count_match (valued h) = refl

value_match : {N M : Type 0} {R : N → M → Type 0} {x : Given N} {y : Given M} → Givens R x y → Values R (value_in x) (value_in y)
value_match counted = text
value_match ruled = text
value_match (valued h) = h

-- ---- conversions
given_match : {N M : Type 0} {R : N → M → Type 0} (r : Result Number Fault) → Match R Same (given r) (given r)
given_match (Ok n) = gives refl
given_match (Err fault) = refuses

counted_match : {N M : Type 0} {R : N → M → Type 0} (n : ℕ) → Match R (Values R) (convert.counted n) (convert.counted n)
counted_match n = then_same (given_match (whole (pos n))) (λ m. gives number)

counted_alike : {N M : Type 0} {R : N → M → Type 0} {m n : ℕ} → m ≡ n → Match R (Values R) (convert.counted m) (convert.counted n)
counted_alike {R = R} {m = m} e = subst (λ k. Match R (Values R) (convert.counted m) (convert.counted k)) e (counted_match m)

text_at_match : {N M : Type 0} {R : N → M → Type 0} {n : N} {m : M} → R n m → Match R Same (text_at n) (text_at m)
text_at_match h = asks (texts h) (λ x y e. gives (text_match e))

first_text_match : {N M : Type 0} {R : N → M → Type 0} {ns : List N} {ms : List M} → Each R ns ms → Match R Same (first_text ns) (first_text ms)
first_text_match none = gives refl
first_text_match (more h hs) = text_at_match h

to_text_match : {N M : Type 0} {R : N → M → Type 0} {v : Value N} {w : Value M} → Values R v w → Match R Same (to_text v) (to_text w)
to_text_match number = gives refl
to_text_match text = gives refl
to_text_match boolean = gives refl
to_text_match (nodes h) = first_text_match h
to_text_match fragment = gives refl

to_number_match : {N M : Type 0} {R : N → M → Type 0} {v : Value N} {w : Value M} → Values R v w → Match R Same (to_number v) (to_number w)
to_number_match number = gives refl
to_number_match text = given_match _
to_number_match boolean = gives refl
to_number_match (nodes h) = then_same (first_text_match h) (λ t. given_match (number_of t))
to_number_match fragment = given_match _

to_boolean_match : {N M : Type 0} {R : N → M → Type 0} {v : Value N} {w : Value M} → Values R v w → to_boolean v ≡ to_boolean w
to_boolean_match number = refl
to_boolean_match text = refl
to_boolean_match boolean = refl
to_boolean_match (nodes none) = refl
to_boolean_match (nodes (more h hs)) = refl
to_boolean_match fragment = refl

boolean_alike : {N M : Type 0} {R : N → M → Type 0} {a b : Bool} → a ≡ b → Values R (value.Boolean a) (value.Boolean b)
boolean_alike {R = R} {a = a} e = subst (λ b. Values R (value.Boolean a) (value.Boolean b)) e boolean

text_alike : {N M : Type 0} {R : N → M → Type 0} {a b : List ℕ} → a ≡ b → Values R (value.Text a) (value.Text b)
text_alike {R = R} {a = a} e = subst (λ b. Values R (value.Text a) (value.Text b)) e text

to_nodes_match : {N M : Type 0} {R : N → M → Type 0} {v : Value N} {w : Value M} → Values R v w → Match R (Each R) (to_nodes v) (to_nodes w)
to_nodes_match number = refuses
to_nodes_match text = refuses
to_nodes_match boolean = refuses
to_nodes_match (nodes h) = gives h
to_nodes_match fragment = refuses

-- ---- comparisons
data Operands {N M : Type 0} (R : N → M → Type 0) : Operand N → Operand M → Type 0 where
  node_operand : {n : N} {m : M} → R n m → Operands R (OfNode n) (OfNode m)
  text_operand : {t : List ℕ} → Operands R (OfText t) (OfText t)
  number_operand : {n : Number} → Operands R (OfNumber n) (OfNumber n)

number_in_match : {N M : Type 0} {R : N → M → Type 0} (a : Operand N) (b : Operand M) → Operands R a b → Match R Same (number_in a) (number_in b)
number_in_match _ _ (node_operand h) = then_same (text_at_match h) (λ t. given_match (number_of t))
number_in_match _ _ text_operand = given_match _
number_in_match _ _ number_operand = gives refl

text_in_match : {N M : Type 0} {R : N → M → Type 0} (a : Operand N) (b : Operand M) → Operands R a b → Match R Same (text_in_operand a) (text_in_operand b)
text_in_match _ _ (node_operand h) = text_at_match h
text_in_match _ _ text_operand = gives refl
text_in_match _ _ number_operand = gives refl

nodes_as_operands : {N M : Type 0} {R : N → M → Type 0} {ns : List N} {ms : List M} → Each R ns ms → Each (Operands R) (map OfNode ns) (map OfNode ms)
nodes_as_operands none = none
nodes_as_operands (more h hs) = more (node_operand h) (nodes_as_operands hs)

operands_match : {N M : Type 0} {R : N → M → Type 0} {v : Value N} {w : Value M} → Values R v w → Each (Operands R) (operands v) (operands w)
operands_match number = more number_operand none
operands_match text = more text_operand none
operands_match boolean = more number_operand none
operands_match (nodes h) = nodes_as_operands h
operands_match fragment = more text_operand none

is_boolean_match : {N M : Type 0} {R : N → M → Type 0} {v : Value N} {w : Value M} → Values R v w → is_boolean v ≡ is_boolean w
is_boolean_match number = refl
is_boolean_match text = refl
is_boolean_match boolean = refl
is_boolean_match (nodes h) = refl
is_boolean_match fragment = refl

is_number_match : {N M : Type 0} {R : N → M → Type 0} {v : Value N} {w : Value M} → Values R v w → is_number v ≡ is_number w
is_number_match number = refl
is_number_match text = refl
is_number_match boolean = refl
is_number_match (nodes h) = refl
is_number_match fragment = refl

set_as_boolean_match : {N M : Type 0} {R : N → M → Type 0} {v : Value N} {w : Value M} → Values R v w → Values R (set_as_boolean v) (set_as_boolean w)
set_as_boolean_match number = number
set_as_boolean_match text = text
set_as_boolean_match boolean = boolean
set_as_boolean_match (nodes h) = boolean_alike (to_boolean_match (nodes h))
set_as_boolean_match fragment = boolean

besides : {N M : Type 0} {R : N → M → Type 0} (b : Bool) {v : Value N} {w : Value M} → Values R v w
    → Values R (cond b (set_as_boolean v) v) (cond b (set_as_boolean w) w)
besides b h = either_value b (set_as_boolean_match h) h

-- how operands are read in two worlds
abbrev ReadAlike : {N M X : Type 0} → (N → M → Type 0) → (Operand N → Program N X) → (Operand M → Program M X) → Type 0
ReadAlike {N = N} {M = M} R read also = (a : Operand N) (b : Operand M) → Operands R a b → Match R Same (read a) (also b)

searched_match : {N M X : Type 0} {R : N → M → Type 0} {read : Operand N → Program N X} {also : Operand M → Program M X} → ReadAlike R read also
    → (test : X → Bool) (done : List X) {rs : List (Operand N)} {ss : List (Operand M)} → Each (Operands R) rs ss
    → Match R Same (searched read test done rs) (searched also test done ss)
searched_match alike test done none = gives refl
searched_match alike test done (more h hs) =
    then_same (alike _ _ h) (λ y. either_match (test y) (gives refl) (searched_match alike test (done ++ y ∷ []) hs))

any_left_match : {N M X : Type 0} {R : N → M → Type 0} {read : Operand N → Program N X} {also : Operand M → Program M X} → ReadAlike R read also
    → (test : X → X → Bool) (ys : List X) {ls : List (Operand N)} {ms : List (Operand M)} → Each (Operands R) ls ms
    → Match R Same (any_left read test ys ls) (any_left also test ys ms)
any_left_match alike test ys none = gives refl
any_left_match alike test ys (more h hs) =
    then_same (alike _ _ h) (λ x. either_match (list_any (test x) ys) (gives refl) (any_left_match alike test ys hs))

after_first_match : {N M X : Type 0} {R : N → M → Type 0} {read : Operand N → Program N X} {also : Operand M → Program M X} → ReadAlike R read also
    → (test : X → X → Bool) {ls : List (Operand N)} {ms : List (Operand M)} → Each (Operands R) ls ms → (found : Option (List X))
    → Match R Same (after_first read test ls found) (after_first also test ms found)
after_first_match alike test h None = gives refl
after_first_match alike test h (Some ys) = any_left_match alike test ys h

some_pair_match : {N M X : Type 0} {R : N → M → Type 0} {read : Operand N → Program N X} {also : Operand M → Program M X} → ReadAlike R read also
    → (test : X → X → Bool) {ls rs : List (Operand N)} {ms ss : List (Operand M)} → Each (Operands R) ls ms → Each (Operands R) rs ss
    → Match R Same (some_pair read test ls rs) (some_pair also test ms ss)
some_pair_match alike test none g = gives refl
some_pair_match alike test (more h hs) none = gives refl
some_pair_match alike test (more h hs) (more g gs) = then_same (alike _ _ h) (λ x.
    then_same (searched_match alike (test x) [] (more g gs)) (λ found. after_first_match alike test hs found))

operands_compared_match : {N M : Type 0} {R : N → M → Type 0} (operator : Operator) (by_texts : Bool) {ls rs : List (Operand N)} {ms ss : List (Operand M)}
    → Each (Operands R) ls ms → Each (Operands R) rs ss
    → Match R Same (operands_compared operator by_texts ls rs) (operands_compared operator by_texts ms ss)
operands_compared_match operator by_texts h g =
    either_match by_texts (some_pair_match text_in_match (texts_satisfy operator) h g) (some_pair_match number_in_match (numbers_satisfy operator) h g)

compared_match : {N M : Type 0} {R : N → M → Type 0} (operator : Operator) {v x : Value N} {w y : Value M} → Values R v w → Values R x y
    → Match R Same (compared operator v x) (compared operator w y)
compared_match operator {w = w} {y = y} h g =
    rw (is_boolean_match h, is_boolean_match g, to_boolean_match h, to_boolean_match g, is_number_match h, is_number_match g)
    (either_match (is_equality operator && (is_boolean w || is_boolean y)) (gives refl)
    (operands_compared_match operator (goes_by_texts operator w y) (operands_match (besides (is_boolean y) h)) (operands_match (besides (is_boolean w) g))))

-- ---- operations
arithmetic_match : {N M : Type 0} {R : N → M → Type 0} (operator : Operator) {v x : Value N} {w y : Value M} → Values R v w → Values R x y
    → Match R (Values R) (arithmetic operator v x) (arithmetic operator w y)
arithmetic_match operator h g =
    then_same (to_number_match h) (λ a. then_same (to_number_match g) (λ b. then_same (given_match (computed operator a b)) (λ n. gives number)))

in_order_match : {N M : Type 0} {R : N → M → Type 0} {ns : List N} {ms : List M} → Each R ns ms → Match R (Each R) (in_order ns) (in_order ms)
in_order_match h = asks (orders h) (λ x y e. gives (nodes_match e))

united_match : {N M : Type 0} {R : N → M → Type 0} {v x : Value N} {w y : Value M} → Values R v w → Values R x y
    → Match R (Values R) (united v x) (united w y)
united_match h g =
    then_match (to_nodes_match h) (λ ns ms s. then_match (to_nodes_match g) (λ os ps t.
    then_match (in_order_match (each_append s t)) (λ all same k. gives (nodes k))))

comparison_match : {N M : Type 0} {R : N → M → Type 0} (operator : Operator) {v x : Value N} {w y : Value M} → Values R v w → Values R x y
    → Match R (Values R) (comparison operator v x) (comparison operator w y)
comparison_match operator h g = then_same (compared_match operator h g) (λ b. gives boolean)

combined_match : {N M : Type 0} {R : N → M → Type 0} (operator : Operator) {v x : Value N} {w y : Value M} → Values R v w → Values R x y
    → Match R (Values R) (combined operator v x) (combined operator w y)
combined_match op.Or {w = w} {y = y} h g = rw (to_boolean_match h, to_boolean_match g) (gives boolean)
combined_match op.And {w = w} {y = y} h g = rw (to_boolean_match h, to_boolean_match g) (gives boolean)
combined_match op.Union h g = united_match h g
combined_match op.Equal h g = comparison_match op.Equal h g
combined_match op.NotEqual h g = comparison_match op.NotEqual h g
combined_match op.Less h g = comparison_match op.Less h g
combined_match op.LessOrEqual h g = comparison_match op.LessOrEqual h g
combined_match op.Greater h g = comparison_match op.Greater h g
combined_match op.GreaterOrEqual h g = comparison_match op.GreaterOrEqual h g
combined_match op.Add h g = arithmetic_match op.Add h g
combined_match op.Subtract h g = arithmetic_match op.Subtract h g
combined_match op.Multiply h g = arithmetic_match op.Multiply h g
combined_match op.Divide h g = arithmetic_match op.Divide h g
combined_match op.Modulo h g = arithmetic_match op.Modulo h g

is_decided_match : {N M : Type 0} {R : N → M → Type 0} (operator : Operator) {v : Value N} {w : Value M} → Values R v w
    → is_decided operator v ≡ is_decided operator w
is_decided_match op.Or h = to_boolean_match h
is_decided_match op.And h = ap (λ b. cond b false true) (to_boolean_match h)
is_decided_match op.Union h = refl
is_decided_match op.Equal h = refl
is_decided_match op.NotEqual h = refl
is_decided_match op.Less h = refl
is_decided_match op.LessOrEqual h = refl
is_decided_match op.Greater h = refl
is_decided_match op.GreaterOrEqual h = refl
is_decided_match op.Add h = refl
is_decided_match op.Subtract h = refl
is_decided_match op.Multiply h = refl
is_decided_match op.Divide h = refl
is_decided_match op.Modulo h = refl

linked_match : {N M : Type 0} {R : N → M → Type 0} (operator : Operator) {v : Value N} {w : Value M} {p : Program N (Value N)} {q : Program M (Value M)}
    → Values R v w → Match R (Values R) p q → Match R (Values R) (linked operator v p) (linked operator w q)
linked_match operator {w = w} h g =
    rw (is_decided_match operator h)
    (either_match (is_decided operator w) (gives (boolean_alike (to_boolean_match h))) (then_match g (λ x y e. combined_match operator h e)))

-- ---- calls
value_or_node_match : {N M : Type 0} {R : N → M → Type 0} {vs : List (Value N)} {ws : List (Value M)} {c : Context N} {d : Context M}
    → Each (Values R) vs ws → Contexts R c d → Values R (value_or_node vs c) (value_or_node ws d)
value_or_node_match none (context h g bs) = nodes (more h none)
value_or_node_match (more h hs) k = h

argument_match : {N M : Type 0} {R : N → M → Type 0} {vs : List (Value N)} {ws : List (Value M)} → Each (Values R) vs ws → (n : ℕ)
    → Values R (argument vs n) (argument ws n)
argument_match none n = text
argument_match (more h hs) n = either_value (n == 0) h (argument_match hs (n - 1))

all_texts_match : {N M : Type 0} {R : N → M → Type 0} (done : List (List ℕ)) {vs : List (Value N)} {ws : List (Value M)} → Each (Values R) vs ws
    → Match R Same (all_texts done vs) (all_texts done ws)
all_texts_match done none = gives refl
all_texts_match done (more h hs) = then_same (to_text_match h) (λ t. all_texts_match (done ++ t ∷ []) hs)

each_reverse_aux : {A B : Type 0} {R : A → B → Type 0} {xs : List A} {ys : List B} {zs : List A} {ws : List B} → Each R xs ys → Each R zs ws
    → Each R (reverse_aux xs zs) (reverse_aux ys ws)
each_reverse_aux none g = g
each_reverse_aux (more h hs) g = each_reverse_aux hs (more h g)

pub in_axis_order_match : {A B : Type 0} {R : A → B → Type 0} (axis : Axis) {xs : List A} {ys : List B} → Each R xs ys
    → Each R (in_axis_order axis xs) (in_axis_order axis ys)
in_axis_order_match axis h = either_each (is_reverse axis) (each_reverse_aux h none) h

arranged_match : {N M : Type 0} {R : N → M → Type 0} {ns : List N} {ms : List M} (axis : Axis) {xs : List N} {ys : List M} → Each R ns ms → Each R xs ys
    → Match R (Each R) (arranged ns axis xs) (arranged ms axis ys)
arranged_match axis none g = gives g
arranged_match axis (more h none) g = gives (in_axis_order_match axis g)
arranged_match axis (more h (more k hs)) g = in_order_match g

known_or_needed_match : {N M : Type 0} {R : N → M → Type 0} (wanted : Wanted) (known : Option ℕ)
    → Match R (Values R) (known_or_needed wanted known) (known_or_needed wanted known)
known_or_needed_match wanted (Some n) = counted_match n
known_or_needed_match wanted None = needs (λ x y e. counted_alike (count_match e))

of_context_match : {N M : Type 0} {R : N → M → Type 0} (f : ContextFunction) {c : Context N} {d : Context M} → Contexts R c d
    → Match R (Values R) (of_context f c) (of_context f d)
of_context_match of_a_context.Last (context {size = size} h g bs) = known_or_needed_match Size size
of_context_match of_a_context.Position (context {position = position} h g bs) = known_or_needed_match Position position
of_context_match of_a_context.True h = gives boolean
of_context_match of_a_context.False h = gives boolean
of_context_match of_a_context.Current (context h g bs) = gives (nodes (more g none))

summed_match : {N M : Type 0} {R : N → M → Type 0} (total : Number) {ns : List N} {ms : List M} → Each R ns ms
    → Match R (Values R) (summed total ns) (summed total ms)
summed_match total none = gives number
summed_match total (more h hs) = then_same (text_at_match h) (λ t.
    then_same (given_match (number_of t)) (λ a. then_same (given_match (sum_of total a)) (λ s. summed_match s hs)))

of_first_match : {N M : Type 0} {R : N → M → Type 0} {ask : N → Question N} {other : M → Question M} {part : Answer N → List ℕ} {also : Answer M → List ℕ}
    → ((n : N) (m : M) → R n m → Questions R (ask n) (other m)) → ((x : Answer N) (y : Answer M) → Answers R x y → part x ≡ also y)
    → {ns : List N} {ms : List M} → Each R ns ms → Match R (Values R) (of_first ask part ns) (of_first other also ms)
of_first_match alike same none = gives text
of_first_match alike same (more h hs) = asks (alike _ _ h) (λ x y e. gives (text_alike (same x y e)))

of_nodes_match : {N M : Type 0} {R : N → M → Type 0} (f : NodesFunction) {ns : List N} {ms : List M} → Each R ns ms
    → Match R (Values R) (of_nodes f ns) (of_nodes f ms)
of_nodes_match of_some_nodes.Count h = counted_alike (each_length h)
of_nodes_match of_some_nodes.Sum h = summed_match (Whole (pos 0)) h
of_nodes_match of_some_nodes.LocalName h = of_first_match (λ n m k. names k) (λ x y e. local_match e) h
of_nodes_match of_some_nodes.NamespaceUri h = of_first_match (λ n m k. names k) (λ x y e. uri_match e) h
of_nodes_match of_some_nodes.Name h = of_first_match (λ n m k. names k) (λ x y e. written_match e) h
of_nodes_match of_some_nodes.GenerateId h = of_first_match (λ n m k. places k) (λ x y e. text_match e) h

of_texts_match : {N M : Type 0} {R : N → M → Type 0} (f : TextsFunction) (ts : List (List ℕ)) → Values R (of_texts f ts) (of_texts f ts)
of_texts_match of_some_texts.Concat ts = text
of_texts_match of_some_texts.StartsWith ts = boolean
of_texts_match of_some_texts.Contains ts = boolean
of_texts_match of_some_texts.SubstringBefore ts = text
of_texts_match of_some_texts.SubstringAfter ts = text
of_texts_match of_some_texts.Translate ts = text

language_at_match : {N M : Type 0} {R : N → M → Type 0} (wanted : List ℕ) {p : Program N (Value N)} {q : Program M (Value M)} {ns : List N} {ms : List M}
    → Match R (Values R) p q → Each R ns ms → Match R (Values R) (language_at wanted p ns) (language_at wanted q ms)
language_at_match wanted h none = h
language_at_match wanted h (more g gs) = then_same (text_at_match g) (λ t. gives boolean)

language_of_match : {N M : Type 0} {R : N → M → Type 0} (wanted : List ℕ) {ns : List N} {ms : List M} → Each R ns ms
    → Match R (Values R) (language_of wanted ns) (language_of wanted ms)
language_of_match wanted none = gives boolean
language_of_match wanted (more h hs) = asks (steps h) (λ x y e. language_at_match wanted (language_of_match wanted hs) (nodes_match e))

abbrev by_expanded : {N : Type 0} → Option Expanded → Program N Expanded
by_expanded name = elim name [ None ↦ Refuse (question.Here code.BadName) | Some expanded ↦ Give expanded ]

abbrev by_qname : {N : Type 0} → Scope → Option QName → Program N Expanded
by_qname scope written = elim written [ None ↦ Refuse (question.Here code.BadName) | Some name ↦ by_expanded (attribute_name scope name) ]

by_expanded_match : {N M : Type 0} {R : N → M → Type 0} (name : Option Expanded) → Match R Same (by_expanded name) (by_expanded name)
by_expanded_match None = refuses
by_expanded_match (Some expanded) = gives refl

by_qname_match : {N M : Type 0} {R : N → M → Type 0} (scope : Scope) (written : Option QName) → Match R Same (by_qname scope written) (by_qname scope written)
by_qname_match scope None = refuses
by_qname_match scope (Some name) = by_expanded_match (attribute_name scope name)

name_meant_match : {N M : Type 0} {R : N → M → Type 0} (scope : Scope) (t : List ℕ) → Match R Same (name_meant scope t) (name_meant scope t)
name_meant_match scope t = by_qname_match scope (qname_of t)

system_property_match : {N M : Type 0} {R : N → M → Type 0} (name : Expanded) → Values R (system_property name) (system_property name)
system_property_match name =
    either_value (same_name name (xslt (codes "version"))) number
    (either_value (same_name name (xslt (codes "vendor"))) text (either_value (same_name name (xslt (codes "vendor-url"))) text text))

of_text_match : {N M : Type 0} {R : N → M → Type 0} (f : TextFunction) {c : Context N} {d : Context M} → Contexts R c d → (t : List ℕ)
    → Match R (Values R) (of_text f c t) (of_text f d t)
of_text_match of_one_text.StringLength h t = then_same (given_match (length_of t)) (λ n. gives number)
of_text_match of_one_text.NormalizeSpace h t = gives text
of_text_match of_one_text.Lang (context h g bs) t = asks (steps h) (λ x y e. language_of_match t (nodes_match e))
of_text_match of_one_text.SystemProperty (context {scope = scope} h g bs) t = then_same (name_meant_match scope t) (λ name. gives (system_property_match name))
of_text_match of_one_text.ElementAvailable (context {scope = scope} h g bs) t = then_same (name_meant_match scope t) (λ name. gives boolean)
of_text_match of_one_text.FunctionAvailable (context {scope = scope} h g bs) t = then_same (name_meant_match scope t) (λ name. gives boolean)
of_text_match of_one_text.UnparsedEntityUri h t = gives text

of_value_match : {N M : Type 0} {R : N → M → Type 0} (f : ValueFunction) {v : Value N} {w : Value M} → Values R v w
    → Match R (Values R) (of_value f v) (of_value f w)
of_value_match of_one_value.String h = then_same (to_text_match h) (λ t. gives text)
of_value_match of_one_value.Number h = then_same (to_number_match h) (λ n. gives number)
of_value_match of_one_value.Boolean h = gives (boolean_alike (to_boolean_match h))
of_value_match of_one_value.Not h = gives (boolean_alike (ap not (to_boolean_match h)))
of_value_match of_one_value.Rounded h = then_same (to_number_match h) (λ n. gives number)
of_value_match of_one_value.Id h = gives (nodes none)

length_argument_match : {N M : Type 0} {R : N → M → Type 0} {vs : List (Value N)} {ws : List (Value M)} → Each (Values R) vs ws
    → Match R Same (length_argument vs) (length_argument ws)
length_argument_match none = gives refl
length_argument_match (more h none) = gives refl
length_argument_match (more h (more g none)) = gives refl
length_argument_match (more h (more g (more k ks))) = then_same (to_number_match k) (λ n. gives refl)

substring_of_match : {N M : Type 0} {R : N → M → Type 0} {vs : List (Value N)} {ws : List (Value M)} → Each (Values R) vs ws
    → Match R (Values R) (substring_of vs) (substring_of ws)
substring_of_match h = then_same (to_text_match (argument_match h 0)) (λ t.
    then_same (to_number_match (argument_match h 1)) (λ start. then_same (length_argument_match h) (λ count. gives text)))

nodes_or_refused_match : {N M : Type 0} {R : N → M → Type 0} {x : Answer N} {y : Answer M} → Answers R x y
    → Match R (Each R) (nodes_or_refused x) (nodes_or_refused y)
nodes_or_refused_match gone = gives none
nodes_or_refused_match refused = refuses
nodes_or_refused_match (some_nodes h) = gives h
nodes_or_refused_match some_text = gives none
nodes_or_refused_match named = gives none
nodes_or_refused_match (chosen h) = gives none
nodes_or_refused_match copied = gives none
nodes_or_refused_match (some_unit h) = gives none
nodes_or_refused_match passed = gives none

nodes_of_key_match : {N M : Type 0} {R : N → M → Type 0} (name : Expanded) (t : List ℕ) → Match R (Each R) (nodes_of_key name t) (nodes_of_key name t)
nodes_of_key_match name t = asks keys (λ x y e. nodes_or_refused_match e)

nodes_of_keys_match : {N M : Type 0} {R : N → M → Type 0} (name : Expanded) {found ns : List N} {also ms : List M} → Each R found also → Each R ns ms
    → Match R (Each R) (nodes_of_keys name found ns) (nodes_of_keys name also ms)
nodes_of_keys_match name sofar none = gives sofar
nodes_of_keys_match name sofar (more h hs) = then_same (text_at_match h) (λ t.
    then_match (nodes_of_key_match name t) (λ xs ys e. nodes_of_keys_match name (each_append sofar e) hs))

keyed_match : {N M : Type 0} {R : N → M → Type 0} (name : Expanded) {v : Value N} {w : Value M} → Values R v w → Match R (Each R) (keyed name v) (keyed name w)
keyed_match name number = then_same (to_text_match number) (λ t. nodes_of_key_match name t)
keyed_match name text = then_same (to_text_match text) (λ t. nodes_of_key_match name t)
keyed_match name boolean = then_same (to_text_match boolean) (λ t. nodes_of_key_match name t)
keyed_match name (nodes h) = then_match (nodes_of_keys_match name none h) (λ xs ys e. arranged_match axis.Child h e)
keyed_match name (fragment {stream = stream}) = then_same (to_text_match (fragment {stream = stream})) (λ t. nodes_of_key_match name t)

key_of_match : {N M : Type 0} {R : N → M → Type 0} {vs : List (Value N)} {ws : List (Value M)} {c : Context N} {d : Context M}
    → Each (Values R) vs ws → Contexts R c d → Match R (Values R) (key_of vs c) (key_of ws d)
key_of_match h (context {scope = scope} k g bs) = then_same (to_text_match (argument_match h 0)) (λ t.
    then_same (name_meant_match scope t) (λ name. then_match (keyed_match name (argument_match h 1)) (λ xs ys e. gives (nodes e))))

applied_match : {N M : Type 0} {R : N → M → Type 0} (f : Function) {vs : List (Value N)} {ws : List (Value M)} {c : Context N} {d : Context M}
    → Each (Values R) vs ws → Contexts R c d → Match R (Values R) (applied f vs c) (applied f ws d)
applied_match (OfContext f) h k = of_context_match f k
applied_match (OfNodes f) h k = then_match (to_nodes_match (value_or_node_match h k)) (λ xs ys e. of_nodes_match f e)
applied_match (OfTexts f) h k = then_same (all_texts_match [] h) (λ ts. gives (of_texts_match f ts))
applied_match (OfText f) h k = then_same (to_text_match (value_or_node_match h k)) (λ t. of_text_match f k t)
applied_match (OfValue f) h k = of_value_match f (value_or_node_match h k)
applied_match Substring h k = substring_of_match h
applied_match Key h k = key_of_match h k

called_match : {N M : Type 0} {R : N → M → Type 0} (f : Option Function) {vs : List (Value N)} {ws : List (Value M)} {c : Context N} {d : Context M}
    → Each (Values R) vs ws → Contexts R c d → Match R (Values R) (called f vs c) (called f ws d)
called_match None h k = refuses
called_match (Some f) h k = applied_match f h k

called_alike : {N M : Type 0} {R : N → M → Type 0} {f g : Option Function} {vs : List (Value N)} {ws : List (Value M)} {c : Context N} {d : Context M}
    → f ≡ g → Each (Values R) vs ws → Contexts R c d → Match R (Values R) (called f vs c) (called g ws d)
called_alike {R = R} {f = f} {vs = vs} {ws = ws} {c = c} {d = d} e h k =
    subst (λ o. Match R (Values R) (called f vs c) (called o ws d)) e (called_match f h k)

-- ---- expressions
binding_match : {N M : Type 0} {R : N → M → Type 0} (name : Expanded) {bs : List (Bound N)} {ds : List (Bound M)} → Each (Bindings R) bs ds
    → Both (Values R) (binding_of name bs) (binding_of name ds)
binding_match name none = neither
binding_match name (more (bound {name = own} h) hs) = either_both (same_name own name) (both h) (binding_match name hs)
  where
    either_both : {A B : Type 0} {S : A → B → Type 0} (b : Bool) {x y : Option A} {z w : Option B} → Both S x z → Both S y w → Both S (cond b x y) (cond b z w)
    either_both true g k = g
    either_both false g k = k

bound_or_global_match : {N M : Type 0} {R : N → M → Type 0} (name : Expanded) {o : Option (Value N)} {p : Option (Value M)} → Both (Values R) o p
    → Match R (Values R) (bound_or_global name o) (bound_or_global name p)
bound_or_global_match name (both h) = gives h
bound_or_global_match name neither = needs (λ x y e. gives (value_match e))

last_of_match : {N M : Type 0} {R : N → M → Type 0} {ns : List N} {ms : List M} → Each R ns ms → Each R (last_of ns) (last_of ms)
last_of_match none = none
last_of_match (more h none) = more h none
last_of_match (more h (more g gs)) = last_of_match (more g gs)

keeps_match : {N M : Type 0} {R : N → M → Type 0} {v : Value N} {w : Value M} → Values R v w → (position : ℕ) → keeps v position ≡ keeps w position
keeps_match number position = refl
keeps_match text position = refl
keeps_match boolean position = refl
keeps_match (nodes h) position = to_boolean_match (nodes h)
keeps_match fragment position = refl

kept_match : {N M : Type 0} {R : N → M → Type 0} {f : Context N → Program N (Value N)} {g : Context M → Program M (Value M)}
    → ((c : Context N) (d : Context M) → Contexts R c d → Match R (Values R) (f c) (g d)) → {c : Context N} {d : Context M} → Contexts R c d
    → (size position : ℕ) {done ns : List N} {also ms : List M} → Each R done also → Each R ns ms
    → Match R (Each R) (kept f c size position done ns) (kept g d size position also ms)
kept_match alike h size position sofar none = gives sofar
kept_match alike (context {position = place} {size = count} k own bs) size position sofar (more g gs) =
    then_match (alike _ _ (context {position = Some position} {size = Some size} g own bs)) (λ v w e.
    kept_match alike (context {position = place} {size = count} k own bs) size (position + 1)
    (rw (keeps_match e position) (either_each (keeps w position) (each_append sofar (more g none)) sofar)) gs)

stepped_match : {N M : Type 0} {R : N → M → Type 0} {f : List N → Program N (List N)} {g : List M → Program M (List M)}
    → ((xs : List N) (ys : List M) → Each R xs ys → Match R (Each R) (f xs) (g ys)) → (axis : Axis) (test : Test)
    → {done ns : List N} {also ms : List M} → Each R done also → Each R ns ms
    → Match R (Each R) (stepped f axis test done ns) (stepped g axis test also ms)
stepped_match alike axis test sofar none = gives sofar
stepped_match alike axis test sofar (more h hs) =
    asks (steps h) (λ x y e. then_match (alike _ _ (nodes_match e)) (λ vs ws k. stepped_match alike axis test (each_append sofar k) hs))

mutual
  -- an expression means the same, whatever names the nodes
  pub meaning_match : {N M : Type 0} {R : N → M → Type 0} (e : Expr) {c : Context N} {d : Context M} → Contexts R c d
      → Match R (Values R) (meaning e c) (meaning e d)
  meaning_match (tree.number n) h = counted_match n
  meaning_match (tree.literal t) h = gives text
  meaning_match (tree.variable name) (context h g bs) = bound_or_global_match name (binding_match name bs)
  meaning_match (tree.call name arguments) h =
      then_match (values_of_match arguments h none) (λ vs ws k. called_alike (ap (function_of name) (each_length k)) k h)
  meaning_match (tree.chain e links) h = then_match (meaning_match e h) (λ v w k. chained_match links h k)
  meaning_match (tree.negation signs e) h = then_match (meaning_match e h) (λ v w k. then_same (to_number_match k) (λ n. gives number))
  meaning_match (tree.filter e predicates) h =
      then_match (meaning_match e h) (λ v w k. then_match (to_nodes_match k) (λ ns ms g.
      then_match (kept_by_match predicates h g) (λ xs ys s. gives (nodes s))))
  meaning_match tree.root (context h g bs) = asks (steps h) (λ x y e. gives (nodes (last_of_match (nodes_match e))))
  meaning_match tree.here (context h g bs) = gives (nodes (more h none))
  meaning_match (tree.path e ss) h =
      then_match (meaning_match e h) (λ v w k. then_match (to_nodes_match k) (λ ns ms g.
      then_match (along_match ss h g) (λ xs ys s. gives (nodes s))))

  values_of_match : {N M : Type 0} {R : N → M → Type 0} (es : Exprs) {c : Context N} {d : Context M} → Contexts R c d
      → {done : List (Value N)} {also : List (Value M)} → Each (Values R) done also
      → Match R (Each (Values R)) (values_of es c done) (values_of es d also)
  values_of_match no_exprs h sofar = gives sofar
  values_of_match (expr e es) h sofar = then_match (meaning_match e h) (λ v w k. values_of_match es h (each_append sofar (more k none)))

  chained_match : {N M : Type 0} {R : N → M → Type 0} (links : Links) {c : Context N} {d : Context M} → Contexts R c d
      → {v : Value N} {w : Value M} → Values R v w → Match R (Values R) (chained links c v) (chained links d w)
  chained_match no_links h k = gives k
  chained_match (link operator e more_links) h k = then_match (linked_match operator k (meaning_match e h)) (λ x y s. chained_match more_links h s)

  pub kept_by_match : {N M : Type 0} {R : N → M → Type 0} (ps : Exprs) {c : Context N} {d : Context M} → Contexts R c d
      → {ns : List N} {ms : List M} → Each R ns ms → Match R (Each R) (kept_by ps c ns) (kept_by ps d ms)
  kept_by_match no_exprs h g = gives g
  kept_by_match (expr p ps) h {ms = ms} g =
      then_match (rw (each_length g) (kept_match (λ c d k. meaning_match p k) h (length ms) 1 none g)) (λ xs ys s. kept_by_match ps h s)

  pub along_match : {N M : Type 0} {R : N → M → Type 0} (ss : Steps) {c : Context N} {d : Context M} → Contexts R c d
      → {ns : List N} {ms : List M} → Each R ns ms → Match R (Each R) (along ss c ns) (along ss d ms)
  along_match no_steps h g = gives g
  along_match (step axis test predicates more_steps) h g =
      then_match (stepped_match (λ xs ys k. kept_by_match predicates h k) axis test none g)
      (λ xs ys s. then_match (arranged_match axis g s) (λ vs ws k. along_match more_steps h k))
