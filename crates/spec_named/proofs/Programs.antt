-- What expressions give: a fragment only where a variable holds it.
use Rattle.std.proofs.Common.{ℕ, Bool, true, false, cond, List, [], ◌∷◌, ◌++◌, length, Option, None, Some}
use Rattle.std.specs.Prelude.{pos, codes}
use Rattle.spec_document.specs.Name.{Expanded, same_name}
use Rattle.spec_expression.specs.declared.Operator.{Operator}
use Rattle.spec_expression.specs.declared.Operator.TheVariants as op
use Rattle.spec_expression.specs.Number.{Number, Whole, whole, number_of, sum_of}
use Rattle.spec_expression.specs.Strings.{length_of}
use Rattle.spec_expression.specs.Syntax as tree
use Rattle.spec_expression.specs.Syntax.{Expr, Exprs, Links, no_links, link}
use Rattle.spec_meaning.specs.declared.function.Function.{Function}
use Rattle.spec_meaning.specs.declared.function.Function.TheVariants.{OfContext, OfNodes, OfTexts, OfText, OfValue, Substring, Key}
use Rattle.spec_meaning.specs.declared.function.ContextFunction.{ContextFunction}
use Rattle.spec_meaning.specs.declared.function.ContextFunction.TheVariants as of_a_context
use Rattle.spec_meaning.specs.declared.function.NodesFunction.{NodesFunction}
use Rattle.spec_meaning.specs.declared.function.NodesFunction.TheVariants as of_some_nodes
use Rattle.spec_meaning.specs.declared.function.TextsFunction.{TextsFunction}
use Rattle.spec_meaning.specs.declared.function.TextsFunction.TheVariants as of_some_texts
use Rattle.spec_meaning.specs.declared.function.TextFunction.{TextFunction}
use Rattle.spec_meaning.specs.declared.function.TextFunction.TheVariants as of_one_text
use Rattle.spec_meaning.specs.declared.function.ValueFunction.{ValueFunction}
use Rattle.spec_meaning.specs.declared.function.ValueFunction.TheVariants as of_one_value
use Rattle.spec_meaning.specs.Value as value
use Rattle.spec_meaning.specs.Value.{Value}
use Rattle.spec_meaning.specs.Stream.{Stream}
use Rattle.spec_meaning.specs.Question.{Question, Answer, Refusal, nodes_in}
use Rattle.spec_meaning.specs.Program.{Program, Give, Refuse, Ask, Need, CurrentRule, Wanted, Given, Counted, Ruled, Valued, then, value_in}
use Rattle.spec_meaning.specs.Context.{Context, Bound, binding_of}
use Rattle.spec_meaning.specs.Convert as convert
use Rattle.spec_meaning.specs.Convert.{given, text_at, to_text, to_number, to_nodes}
use Rattle.spec_meaning.specs.Compare.{compared}
use Rattle.spec_meaning.specs.Operation.{computed, arithmetic, united, comparison, combined, is_decided, linked, in_order}
use Rattle.spec_meaning.specs.Function.{function_of}
use Rattle.spec_meaning.specs.Call.{value_or_node, argument, all_texts, of_context, known_or_needed, summed, of_first, of_nodes, of_texts}
use Rattle.spec_meaning.specs.Call.{language_at, language_of, name_meant, xslt, system_property, of_text, of_value, length_argument, keyed, called}
use Rattle.spec_meaning.specs.Meaning.{bound_or_global, meaning, values_of, chained, kept_by, along}
use Rattle.spec_named.proofs.Streams.{IsWell}

-- ---- Values and what a run gives

pub data IsWellValue {N : Type 0} : Value N → Type 0 where
  number : {n : Number} → IsWellValue (value.Number n)
  text : {t : List ℕ} → IsWellValue (value.Text t)
  boolean : {b : Bool} → IsWellValue (value.Boolean b)
  nodes : {ns : List N} → IsWellValue (value.Nodes ns)
  fragment : {s : Stream} → IsWell s → IsWellValue (value.Fragment s)

abbrev pub AreWellBound : {N : Type 0} → List (Bound N) → Type 0
AreWellBound [] = Unit {0}
AreWellBound (b ∷ bs) = IsWellValue b.value × AreWellBound bs

pub data IsWellGiven {N : Type 0} : Given N → Type 0 where
  counted : {n : ℕ} → IsWellGiven (Counted n)
  ruled : {rule : Option CurrentRule} → IsWellGiven (Ruled rule)
  valued : {v : Value N} → IsWellValue v → IsWellGiven (Valued v)

pub given_well : {N : Type 0} {g : Given N} → IsWellGiven g → IsWellValue (value_in g)
given_well counted = text
given_well ruled = text
given_well (valued h) = h

-- ---- Programs, whatever a world answers: what they give is such

pub data Gives {N A : Type 0} (P : A → Type 0) : Program N A → Type 0 where
  gives : {v : A} → P v → Gives P (Give v)
  refuses : {why : Refusal} → Gives P (Refuse why)
  asks : {q : Question N} {next : Answer N → Program N A} → ((a : Answer N) → Gives P (next a)) → Gives P (Ask q next)
  needs : {w : Wanted} {next : Given N → Program N A} → ((g : Given N) → IsWellGiven g → Gives P (next g)) → Gives P (Need w next)

pub any : {N A : Type 0} {P : A → Type 0} → ((a : A) → P a) → (p : Program N A) → Gives P p
any h (Give v) = gives (h v)
any h (Refuse w) = refuses
any h (Ask q next) = asks (λ a. any h (next a))
any h (Need w next) = needs (λ g e. any h (next g))

pub then_gives : {N A B : Type 0} {P : A → Type 0} {Q : B → Type 0} {p : Program N A} {k : A → Program N B} → Gives P p → ((a : A) → P a
    → Gives Q (k a))
    → Gives Q (then p k)
unfolding then
then_gives (gives h) g = g _ h
then_gives refuses g = refuses
then_gives (asks h) g = asks (λ a. then_gives (h a) g)
then_gives (needs h) g = needs (λ x e. then_gives (h x e) g)

pub then_any : {N A B : Type 0} {Q : B → Type 0} (p : Program N A) {k : A → Program N B} → ((a : A) → Gives Q (k a)) → Gives Q (then p k)
then_any {A = A} p g = then_gives {P = λ (a : A). Unit {0}} (any (λ a. tt) p) (λ a e. g a)

-- ---- Functions: none gives a fragment

counted_well : {N : Type 0} (n : ℕ) → Gives IsWellValue (convert.counted {N = N} n)
counted_well n = then_any (given (whole (pos n))) (λ m. gives number)

known_well : {N : Type 0} (wanted : Wanted) (o : Option ℕ) → Gives IsWellValue (known_or_needed {N = N} wanted o)
known_well wanted (Some n) = counted_well n
known_well wanted None = needs (λ g e. counted_well _)

context_well : {N : Type 0} (f : ContextFunction) (c : Context N) → Gives IsWellValue (of_context f c)
context_well of_a_context.Last c = known_well _ c.size
context_well of_a_context.Position c = known_well _ c.position
context_well of_a_context.True c = gives boolean
context_well of_a_context.False c = gives boolean
context_well of_a_context.Current c = gives nodes

summed_well : {N : Type 0} (total : Number) (ns : List N) → Gives IsWellValue (summed total ns)
summed_well total [] = gives number
summed_well total (n ∷ ns) = then_any (text_at n) (λ t. then_any (given (number_of t)) (λ a. then_any (given (sum_of total a))
    (λ s. summed_well s ns)))

first_well : {N : Type 0} (ask : N → Question N) (part : Answer N → List ℕ) (ns : List N) → Gives IsWellValue (of_first ask part ns)
first_well ask part [] = gives text
first_well ask part (n ∷ ns) = asks (λ a. gives text)

nodes_well : {N : Type 0} (f : NodesFunction) (ns : List N) → Gives IsWellValue (of_nodes f ns)
nodes_well of_some_nodes.Count ns = counted_well (length ns)
nodes_well of_some_nodes.Sum ns = summed_well (Whole (pos 0)) ns
nodes_well of_some_nodes.LocalName ns = first_well _ _ ns
nodes_well of_some_nodes.NamespaceUri ns = first_well _ _ ns
nodes_well of_some_nodes.Name ns = first_well _ _ ns
nodes_well of_some_nodes.GenerateId ns = first_well _ _ ns

texts_well : {N : Type 0} (f : TextsFunction) (ts : List (List ℕ)) → IsWellValue (of_texts {N = N} f ts)
texts_well of_some_texts.Concat ts = text
texts_well of_some_texts.StartsWith ts = boolean
texts_well of_some_texts.Contains ts = boolean
texts_well of_some_texts.SubstringBefore ts = text
texts_well of_some_texts.SubstringAfter ts = text
texts_well of_some_texts.Translate ts = text

language_at_well : {N : Type 0} (wanted : List ℕ) {else_where : Program N (Value N)} (ns : List N) → Gives IsWellValue else_where
    → Gives IsWellValue (language_at wanted else_where ns)
language_at_well wanted [] rest = rest
language_at_well wanted (n ∷ ns) rest = then_any (text_at n) (λ t. gives boolean)

language_well : {N : Type 0} (wanted : List ℕ) (es : List N) → Gives IsWellValue (language_of wanted es)
language_well wanted [] = gives boolean
language_well wanted (e ∷ es) = asks (λ a. language_at_well wanted (nodes_in a) (language_well wanted es))

either_value : {N : Type 0} (b : Bool) {v w : Value N} → IsWellValue v → IsWellValue w → IsWellValue (cond b v w)
either_value true h g = h
either_value false h g = g

property_well : {N : Type 0} (name : Expanded) → IsWellValue (system_property {N = N} name)
property_well name =
    either_value (same_name name (xslt (codes "version"))) number (either_value (same_name name (xslt (codes "vendor"))) text
    (either_value (same_name name (xslt (codes "vendor-url"))) text text))

text_well : {N : Type 0} (f : TextFunction) (c : Context N) (t : List ℕ) → Gives IsWellValue (of_text f c t)
text_well of_one_text.StringLength c t = then_any (given (length_of t)) (λ n. gives number)
text_well of_one_text.NormalizeSpace c t = gives text
text_well of_one_text.Lang c t = asks (λ a. language_well t (nodes_in a))
text_well of_one_text.SystemProperty c t = then_any (name_meant c.scope t) (λ name. gives (property_well name))
text_well of_one_text.ElementAvailable c t = then_any (name_meant c.scope t) (λ name. gives boolean)
text_well of_one_text.FunctionAvailable c t = then_any (name_meant c.scope t) (λ name. gives boolean)
text_well of_one_text.UnparsedEntityUri c t = gives text

value_well : {N : Type 0} (f : ValueFunction) (v : Value N) → Gives IsWellValue (of_value f v)
value_well of_one_value.String v = then_any (to_text v) (λ t. gives text)
value_well of_one_value.Number v = then_any (to_number v) (λ n. gives number)
value_well of_one_value.Boolean v = gives boolean
value_well of_one_value.Not v = gives boolean
value_well of_one_value.Rounded v = then_any (to_number v) (λ n. gives number)
value_well of_one_value.Id v = gives nodes

called_well : {N : Type 0} (f : Option Function) (vs : List (Value N)) (c : Context N) → Gives IsWellValue (called f vs c)
called_well None vs c = refuses
called_well (Some (OfContext f)) vs c = context_well f c
called_well (Some (OfNodes f)) vs c = then_any (to_nodes (value_or_node vs c)) (λ ns. nodes_well f ns)
called_well (Some (OfTexts f)) vs c = then_any (all_texts [] vs) (λ ts. gives (texts_well f ts))
called_well (Some (OfText f)) vs c = then_any (to_text (value_or_node vs c)) (λ t. text_well f c t)
called_well (Some (OfValue f)) vs c = value_well f (value_or_node vs c)
called_well (Some Substring) vs c =
    then_any (to_text (argument vs 0)) (λ t. then_any (to_number (argument vs 1)) (λ start. then_any (length_argument vs) (λ count. gives text)))
called_well (Some Key) vs c =
    then_any (to_text (argument vs 0)) (λ t. then_any (name_meant c.scope t) (λ name. then_any (keyed name (argument vs 1)) (λ ns. gives nodes)))

-- ---- Operators: nor does one of them

arithmetic_well : {N : Type 0} (operator : Operator) (v w : Value N) → Gives IsWellValue (arithmetic operator v w)
arithmetic_well operator v w =
    then_any (to_number v) (λ a. then_any (to_number w) (λ b. then_any (given (computed operator a b)) (λ n. gives number)))

comparison_well : {N : Type 0} (operator : Operator) (v w : Value N) → Gives IsWellValue (comparison operator v w)
comparison_well operator v w = then_any (compared operator v w) (λ b. gives boolean)

united_well : {N : Type 0} (v w : Value N) → Gives IsWellValue (united v w)
united_well v w = then_any (to_nodes v) (λ ms. then_any (to_nodes w) (λ ns. then_any (in_order (ms ++ ns)) (λ all. gives nodes)))

combined_well : {N : Type 0} (operator : Operator) (v w : Value N) → Gives IsWellValue (combined operator v w)
combined_well op.Or v w = gives boolean
combined_well op.And v w = gives boolean
combined_well op.Union v w = united_well v w
combined_well op.Equal v w = comparison_well op.Equal v w
combined_well op.NotEqual v w = comparison_well op.NotEqual v w
combined_well op.Less v w = comparison_well op.Less v w
combined_well op.LessOrEqual v w = comparison_well op.LessOrEqual v w
combined_well op.Greater v w = comparison_well op.Greater v w
combined_well op.GreaterOrEqual v w = comparison_well op.GreaterOrEqual v w
combined_well op.Add v w = arithmetic_well op.Add v w
combined_well op.Subtract v w = arithmetic_well op.Subtract v w
combined_well op.Multiply v w = arithmetic_well op.Multiply v w
combined_well op.Divide v w = arithmetic_well op.Divide v w
combined_well op.Modulo v w = arithmetic_well op.Modulo v w

pub either_gives : {N A : Type 0} {P : A → Type 0} (b : Bool) {p q : Program N A} → Gives P p → Gives P q → Gives P (cond b p q)
either_gives true h g = h
either_gives false h g = g

linked_well : {N : Type 0} (operator : Operator) (v : Value N) (right : Program N (Value N)) → Gives IsWellValue (linked operator v right)
linked_well operator v right = either_gives (is_decided operator v) (gives boolean) (then_any right (λ w. combined_well operator v w))

-- ---- Expressions

-- a variable that is bound holds such a value
abbrev pub IsWellFound : {N : Type 0} → Option (Value N) → Type 0
IsWellFound None = Unit {0}
IsWellFound (Some v) = IsWellValue v

found_first : {N : Type 0} (b : Bool) (v : Value N) (o : Option (Value N)) → IsWellValue v → IsWellFound o → IsWellFound (cond b (Some v) o)
found_first true v o h g = h
found_first false v o h g = g

pub binding_well : {N : Type 0} (name : Expanded) (bs : List (Bound N)) → AreWellBound bs → IsWellFound (binding_of name bs)
binding_well name [] h = tt
binding_well name (b ∷ bs) h = found_first (same_name b.name name) b.value (binding_of name bs) h.0 (binding_well name bs h.1)

variable_well : {N : Type 0} (name : Expanded) (o : Option (Value N)) → IsWellFound o → Gives IsWellValue (bound_or_global name o)
variable_well name (Some v) h = gives h
variable_well name None h = needs (λ g e. gives (given_well e))

mutual
  pub meaning_well : {N : Type 0} (e : Expr) (c : Context N) → AreWellBound c.bindings → Gives IsWellValue (meaning e c)
  meaning_well (tree.number n) c h = counted_well n
  meaning_well (tree.literal t) c h = gives text
  meaning_well (tree.variable name) c h = variable_well name (binding_of name c.bindings) (binding_well name c.bindings h)
  meaning_well (tree.call name arguments) c h = then_any (values_of arguments c []) (λ vs. called_well (function_of name (length vs)) vs c)
  meaning_well (tree.chain e more) c h = then_gives (meaning_well e c h) (λ v w. chained_well more c v h w)
  meaning_well (tree.negation signs e) c h = then_any (meaning e c) (λ v. then_any (to_number v) (λ n. gives number))
  meaning_well (tree.filter e predicates) c h =
      then_any (meaning e c) (λ v. then_any (to_nodes v) (λ ns. then_any (kept_by predicates c ns) (λ ms. gives nodes)))
  meaning_well tree.root c h = asks (λ a. gives nodes)
  meaning_well tree.here c h = gives nodes
  meaning_well (tree.path e steps) c h =
      then_any (meaning e c) (λ v. then_any (to_nodes v) (λ ns. then_any (along steps c ns) (λ ms. gives nodes)))

  chained_well : {N : Type 0} (more : Links) (c : Context N) (v : Value N) → AreWellBound c.bindings → IsWellValue v
      → Gives IsWellValue (chained more c v)
  chained_well no_links c v h w = gives w
  chained_well (link operator e more) c v h w = then_gives (linked_well operator v (meaning e c)) (λ x k. chained_well more c x h k)
