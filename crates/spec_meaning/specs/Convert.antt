-- Conversions of values (XPath 1.0, section 4; XSLT 1.0, section 11.1). A node-set is converted by the string-value of its first node
-- in document order, a fragment by that of its root. What XPath has and these numbers have not is refused.
use Rattle.std.specs.Prelude.{ℕ, pos, Bool, true, false, not, List, [], ◌∷◌, Result, Ok, Err, codes, if◌then◌else◌}
use Rattle.spec_expression.specs.declared.code.DynCode.TheVariants.{NoNodeSet}
use Rattle.spec_expression.specs.Code.{fault_code}
use Rattle.spec_expression.specs.Number.{Number, Whole, NaN, Fault, whole, is_zero, number_of, text_of}
use Rattle.spec_meaning.specs.Stream.{texts_of}
use Rattle.spec_meaning.specs.Value as value
use Rattle.spec_meaning.specs.Value.{Value}
use Rattle.spec_meaning.specs.Question.{Here, Text, text_in}
use Rattle.spec_meaning.specs.Program.{Program, Give, Refuse, Ask, ◌>>=◌}

-- a number, or the refusal that stands in its place
abbrev pub given : {N : Type 0} → Result Number Fault → Program N Number
given (Ok n) = Give n
given (Err fault) = Refuse (Here (fault_code fault))

-- the number of a count
abbrev pub counted : {N : Type 0} → ℕ → Program N (Value N)
counted n = given (whole (pos n)) >>= λ m. Give (value.Number m)

-- the string-value of a node, and that of the first of some nodes
abbrev pub text_at : {N : Type 0} → N → Program N (List ℕ)
text_at node = Ask (Text node) (λ a. Give (text_in a))

abbrev pub first_text : {N : Type 0} → List N → Program N (List ℕ)
first_text [] = Give []
first_text (node ∷ nodes) = text_at node

abbrev pub text_of_boolean : Bool → List ℕ
text_of_boolean b = if b then codes "true" else codes "false"

abbrev pub to_text : {N : Type 0} → Value N → Program N (List ℕ)
to_text (value.Number n) = Give (text_of n)
to_text (value.Text text) = Give text
to_text (value.Boolean b) = Give (text_of_boolean b)
to_text (value.Nodes nodes) = first_text nodes
to_text (value.Fragment stream) = Give (texts_of stream)

abbrev pub number_of_boolean : Bool → Number
number_of_boolean b = if b then Whole (pos 1) else Whole (pos 0)

abbrev pub to_number : {N : Type 0} → Value N → Program N Number
to_number (value.Number n) = Give n
to_number (value.Text text) = given (number_of text)
to_number (value.Boolean b) = Give (number_of_boolean b)
to_number (value.Nodes nodes) = first_text nodes >>= λ text. given (number_of text)
to_number (value.Fragment stream) = given (number_of (texts_of stream))

abbrev pub boolean_of_number : Number → Bool
boolean_of_number (Whole z) = not (is_zero z)
boolean_of_number NaN = false

abbrev pub is_some_text : List ℕ → Bool
is_some_text [] = false
is_some_text (c ∷ cs) = true

abbrev pub is_some_node : {N : Type 0} → List N → Bool
is_some_node [] = false
is_some_node (node ∷ nodes) = true

-- a fragment acts as a node-set of one node
abbrev pub to_boolean : {N : Type 0} → Value N → Bool
to_boolean (value.Number n) = boolean_of_number n
to_boolean (value.Text text) = is_some_text text
to_boolean (value.Boolean b) = b
to_boolean (value.Nodes nodes) = is_some_node nodes
to_boolean (value.Fragment stream) = true

-- no other value becomes a node-set
abbrev pub to_nodes : {N : Type 0} → Value N → Program N (List N)
to_nodes (value.Nodes nodes) = Give nodes
to_nodes (value.Number n) = Refuse (Here NoNodeSet)
to_nodes (value.Text text) = Refuse (Here NoNodeSet)
to_nodes (value.Boolean b) = Refuse (Here NoNodeSet)
to_nodes (value.Fragment stream) = Refuse (Here NoNodeSet)
