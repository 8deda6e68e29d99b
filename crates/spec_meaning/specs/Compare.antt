-- Comparisons (XPath 1.0, section 3.4). A node-set compares where one of its nodes does; nodes are gone through in document order, those
-- of the left operand outside, and the search ends at the first two that compare. A fragment acts as a node-set of one node.
use Rattle.std.specs.Prelude.{ℕ, ◌++◌, Bool, true, false, not, ◌&&◌, ◌||◌, List, [], ◌∷◌, map, Option, None, Some, bytes_eq, if◌then◌else◌}
use Rattle.std.specs.List.{list_any}
use Rattle.std.specs.declared.cmp.Ordering.{Ordering}
use Rattle.std.specs.declared.cmp.Ordering.TheVariants as order
use Rattle.spec_expression.specs.declared.Operator.{Operator}
use Rattle.spec_expression.specs.declared.Operator.TheVariants as op
use Rattle.spec_expression.specs.Number.{Number, order_of, number_of}
use Rattle.spec_meaning.specs.Stream.{texts_of}
use Rattle.spec_meaning.specs.Value as value
use Rattle.spec_meaning.specs.Value.{Value}
use Rattle.spec_meaning.specs.Program.{Program, Give, ◌>>=◌}
use Rattle.spec_meaning.specs.Convert.{given, text_at, number_of_boolean, to_boolean}

abbrev pub is_equality : Operator → Bool
is_equality op.Equal = true
is_equality op.NotEqual = true
is_equality _ = false

-- whether two numbers that compare so satisfy the operator; NaN compares with none, so `!=` alone is true of it
abbrev pub is_less : Option Ordering → Bool
is_less (Some order.Less) = true
is_less _ = false

abbrev pub is_equal : Option Ordering → Bool
is_equal (Some order.Equal) = true
is_equal _ = false

abbrev pub is_greater : Option Ordering → Bool
is_greater (Some order.Greater) = true
is_greater _ = false

abbrev pub order_satisfies : Operator → Option Ordering → Bool
order_satisfies op.Equal o = is_equal o
order_satisfies op.NotEqual o = not (is_equal o)
order_satisfies op.Less o = is_less o
order_satisfies op.LessOrEqual o = is_less o || is_equal o
order_satisfies op.Greater o = is_greater o
order_satisfies op.GreaterOrEqual o = is_greater o || is_equal o
order_satisfies _ o = false

abbrev pub numbers_satisfy : Operator → Number → Number → Bool
numbers_satisfy operator a b = order_satisfies operator (order_of a b)

abbrev pub texts_satisfy : Operator → List ℕ → List ℕ → Bool
texts_satisfy op.NotEqual a b = not (bytes_eq a b)
texts_satisfy _ a b = bytes_eq a b

abbrev pub is_same_boolean : Bool → Bool → Bool
is_same_boolean a b = if a then b else not b

abbrev pub booleans_satisfy : Operator → Bool → Bool → Bool
booleans_satisfy op.NotEqual a b = not (is_same_boolean a b)
booleans_satisfy _ a b = is_same_boolean a b

-- what is compared: a node, a text or a number
pub data Operand (N : Type 0) : Type 0 where
  OfNode : (node : N) → Operand N
  OfText : (text : List ℕ) → Operand N
  OfNumber : (number : Number) → Operand N

-- a node compares by its string-value, or by the number of that
abbrev pub number_in : {N : Type 0} → Operand N → Program N Number
number_in (OfNode node) = text_at node >>= λ text. given (number_of text)
number_in (OfText text) = given (number_of text)
number_in (OfNumber number) = Give number

-- (a number is compared by its number alone, so its text is not asked for)
abbrev pub text_in_operand : {N : Type 0} → Operand N → Program N (List ℕ)
text_in_operand (OfNode node) = text_at node
text_in_operand (OfText text) = Give text
text_in_operand (OfNumber number) = Give []

abbrev pub operands : {N : Type 0} → Value N → List (Operand N)
operands (value.Number n) = OfNumber n ∷ []
operands (value.Text text) = OfText text ∷ []
operands (value.Boolean b) = OfNumber (number_of_boolean b) ∷ []
operands (value.Nodes nodes) = map OfNode nodes
operands (value.Fragment stream) = OfText (texts_of stream) ∷ []

abbrev pub is_boolean : {N : Type 0} → Value N → Bool
is_boolean (value.Boolean b) = true
is_boolean _ = false

abbrev pub is_number : {N : Type 0} → Value N → Bool
is_number (value.Number n) = true
is_number _ = false

-- beside a boolean, a node-set or a fragment is its boolean
abbrev pub set_as_boolean : {N : Type 0} → Value N → Value N
set_as_boolean (value.Nodes nodes) = value.Boolean (to_boolean (value.Nodes nodes))
set_as_boolean (value.Fragment stream) = value.Boolean true
set_as_boolean (value.Number n) = value.Number n
set_as_boolean (value.Text text) = value.Text text
set_as_boolean (value.Boolean b) = value.Boolean b

abbrev pub beside : {N : Type 0} → Value N → Value N → Value N
beside other v = if is_boolean other then set_as_boolean v else v

-- the first right operands, as far as one that passes: None where one does, else what they are read as
abbrev pub searched : {N X : Type 0} → (Operand N → Program N X) → (X → Bool) → List X → List (Operand N) → Program N (Option (List X))
searched read test done [] = Give (Some done)
searched read test done (b ∷ rs) = read b >>= λ y. if test y then Give None else searched read test (done ++ y ∷ []) rs

-- the left operands after the first, against what the right ones are read as
abbrev pub any_left : {N X : Type 0} → (Operand N → Program N X) → (X → X → Bool) → List X → List (Operand N) → Program N Bool
any_left read test ys [] = Give false
any_left read test ys (a ∷ ls) = read a >>= λ x. if list_any (test x) ys then Give true else any_left read test ys ls

abbrev pub after_first : {N X : Type 0} → (Operand N → Program N X) → (X → X → Bool) → List (Operand N) → Option (List X) → Program N Bool
after_first read test ls None = Give true
after_first read test ls (Some ys) = any_left read test ys ls

-- whether some left operand and some right one compare. Each is read once, and where one side has none, none is read
abbrev pub some_pair : {N X : Type 0} → (Operand N → Program N X) → (X → X → Bool) → List (Operand N) → List (Operand N) → Program N Bool
some_pair read test [] rs = Give false
some_pair read test (a ∷ ls) [] = Give false
some_pair read test (a ∷ ls) (b ∷ rs) = read a >>= λ x. searched read (test x) [] (b ∷ rs) >>= λ found. after_first read test ls found

-- without a boolean, `=` and `!=` go by numbers where one is a number, else by texts; the others go by numbers
abbrev pub goes_by_texts : {N : Type 0} → Operator → Value N → Value N → Bool
goes_by_texts operator v w = is_equality operator && not (is_number v || is_number w)

abbrev pub operands_compared : {N : Type 0} → Operator → (by_texts : Bool) → List (Operand N) → List (Operand N) → Program N Bool
operands_compared operator by_texts ls rs =
    if by_texts then some_pair text_in_operand (texts_satisfy operator) ls rs else some_pair number_in (numbers_satisfy operator) ls rs

abbrev pub compared : {N : Type 0} → Operator → Value N → Value N → Program N Bool
compared operator v w =
    if is_equality operator && (is_boolean v || is_boolean w) then Give (booleans_satisfy operator (to_boolean v) (to_boolean w))
    else operands_compared operator (goes_by_texts operator v w) (operands (beside w v)) (operands (beside v w))
