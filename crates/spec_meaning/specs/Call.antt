-- What calls of functions mean (XPath 1.0, section 4; XSLT 1.0, sections 12.2, 12.4 and 15). All arguments were evaluated; they are
-- converted from left to right, each as its function needs it.
use Rattle.std.specs.Prelude.{ℕ, ◌-◌, ◌==◌, pos, ◌++◌, true, false, not, List, [], ◌∷◌, length, Option, None, Some, codes, if◌then◌else◌}
use Rattle.spec_document.specs.declared.axis.Axis.{Axis}
use Rattle.spec_document.specs.declared.axis.Axis.TheVariants as axis
use Rattle.spec_document.specs.Axis.{in_axis_order}
use Rattle.spec_document.specs.Name.{Expanded, same_name, qname_of}
use Rattle.spec_document.specs.Scope.{Scope, xml_uri, xslt_uri}
use Rattle.spec_document.specs.Declaration.{attribute_name}
use Rattle.spec_expression.specs.declared.code.DynCode.TheVariants as code
use Rattle.spec_expression.specs.Syntax.{Named, AnyName}
use Rattle.spec_expression.specs.Number.{Number, Whole, sum_of, number_of}
use Rattle.spec_expression.specs.Strings.{begins_with, is_within, text_before, text_after, translated, length_of, normalized, substring, is_language}
use Rattle.spec_meaning.specs.declared.function.Function.{Function}
use Rattle.spec_meaning.specs.declared.function.Function.TheVariants.{OfContext, OfNodes, OfTexts, OfText, OfValue, Substring, Key}
use Rattle.spec_meaning.specs.declared.function.ContextFunction.{ContextFunction}
use Rattle.spec_meaning.specs.declared.function.ContextFunction.TheVariants as context
use Rattle.spec_meaning.specs.declared.function.NodesFunction.{NodesFunction}
use Rattle.spec_meaning.specs.declared.function.NodesFunction.TheVariants as nodes
use Rattle.spec_meaning.specs.declared.function.TextsFunction.{TextsFunction}
use Rattle.spec_meaning.specs.declared.function.TextsFunction.TheVariants as texts
use Rattle.spec_meaning.specs.declared.function.TextFunction.{TextFunction}
use Rattle.spec_meaning.specs.declared.function.TextFunction.TheVariants as text
use Rattle.spec_meaning.specs.declared.function.ValueFunction.{ValueFunction}
use Rattle.spec_meaning.specs.declared.function.ValueFunction.TheVariants as one
use Rattle.spec_meaning.specs.Value as value
use Rattle.spec_meaning.specs.Value.{Value}
use Rattle.spec_meaning.specs.Question as question
use Rattle.spec_meaning.specs.Question.{Answer, Refusal, Here, Refused, Step, nodes_in, text_in, local_in, uri_in, written_in}
use Rattle.spec_meaning.specs.Program.{Wanted, Position, Size, count_in, Program, Give, Refuse, Ask, Need, ◌>>=◌}
use Rattle.spec_meaning.specs.Context.{Context}
use Rattle.spec_meaning.specs.Convert.{given, counted, text_at, to_text, to_number, to_boolean, to_nodes}
use Rattle.spec_meaning.specs.Operation.{in_order}
use Rattle.spec_meaning.specs.Function.{is_function, is_instruction}

-- ---- arguments
-- the first argument, or the context node
abbrev pub value_or_node : {N : Type 0} → List (Value N) → Context N → Value N
value_or_node [] c = value.Nodes (c.node ∷ [])
value_or_node (v ∷ vs) c = v

-- the argument of this number, from 0
abbrev pub argument : {N : Type 0} → List (Value N) → ℕ → Value N
argument [] n = value.Text []
argument (v ∷ vs) n = if n == 0 then v else argument vs (n - 1)

abbrev pub text_of_argument : List (List ℕ) → ℕ → List ℕ
text_of_argument [] n = []
text_of_argument (t ∷ ts) n = if n == 0 then t else text_of_argument ts (n - 1)

-- all arguments as texts, after those that were converted
abbrev pub all_texts : {N : Type 0} → List (List ℕ) → List (Value N) → Program N (List (List ℕ))
all_texts done [] = Give done
all_texts done (v ∷ vs) = to_text v >>= λ t. all_texts (done ++ t ∷ []) vs

-- ---- nodes of several nodes
-- what was found from some nodes along an axis, in document order: from one node it stands in the order of the axis
abbrev pub arranged : {N : Type 0} → (from : List N) → Axis → List N → Program N (List N)
arranged [] axis found = Give found
arranged (n ∷ []) axis found = Give (in_axis_order axis found)
arranged (n ∷ m ∷ more) axis found = in_order found

-- ---- functions without arguments
abbrev pub known_or_needed : {N : Type 0} → Wanted → Option ℕ → Program N (Value N)
known_or_needed wanted (Some n) = counted n
known_or_needed wanted None = Need wanted (λ g. counted (count_in g))

abbrev pub of_context : {N : Type 0} → ContextFunction → Context N → Program N (Value N)
of_context context.Last c = known_or_needed Size c.size
of_context context.Position c = known_or_needed Position c.position
of_context context.True c = Give (value.Boolean true)
of_context context.False c = Give (value.Boolean false)
of_context context.Current c = Give (value.Nodes (c.current ∷ []))

-- ---- functions of a node-set
-- the numbers of string-values, each added before the next is read
abbrev pub summed : {N : Type 0} → Number → List N → Program N (Value N)
summed total [] = Give (value.Number total)
summed total (n ∷ ns) = text_at n >>= λ t. given (number_of t) >>= λ a. given (sum_of total a) >>= λ s. summed s ns

-- what an answer tells of the first node, and nothing where there is none
abbrev pub of_first : {N : Type 0} → (N → question.Question N) → (Answer N → List ℕ) → List N → Program N (Value N)
of_first ask part [] = Give (value.Text [])
of_first ask part (n ∷ ns) = Ask (ask n) (λ a. Give (value.Text (part a)))

abbrev pub of_nodes : {N : Type 0} → NodesFunction → List N → Program N (Value N)
of_nodes nodes.Count ns = counted (length ns)
of_nodes nodes.Sum ns = summed (Whole (pos 0)) ns
of_nodes nodes.LocalName ns = of_first question.Name local_in ns
of_nodes nodes.NamespaceUri ns = of_first question.Name uri_in ns
of_nodes nodes.Name ns = of_first question.Name written_in ns
of_nodes nodes.GenerateId ns = of_first question.Place text_in ns

-- ---- functions of texts
abbrev pub concatenated : List (List ℕ) → List ℕ
concatenated [] = []
concatenated (t ∷ ts) = t ++ concatenated ts

abbrev pub of_texts : {N : Type 0} → TextsFunction → List (List ℕ) → Value N
of_texts texts.Concat ts = value.Text (concatenated ts)
of_texts texts.StartsWith ts = value.Boolean (begins_with (text_of_argument ts 0) (text_of_argument ts 1))
of_texts texts.Contains ts = value.Boolean (is_within (text_of_argument ts 1) (text_of_argument ts 0))
of_texts texts.SubstringBefore ts = value.Text (text_before (text_of_argument ts 0) (text_of_argument ts 1))
of_texts texts.SubstringAfter ts = value.Text (text_after (text_of_argument ts 0) (text_of_argument ts 1))
of_texts texts.Translate ts = value.Text (translated (text_of_argument ts 0) (text_of_argument ts 1) (text_of_argument ts 2))

-- ---- functions of one text
-- the language of a node is that of the nearest xml:lang
abbrev pub xml_lang : Expanded
xml_lang = record { uri = xml_uri; local = codes "lang" }

abbrev pub language_at : {N : Type 0} → List ℕ → Program N (Value N) → List N → Program N (Value N)
language_at wanted else_where [] = else_where
language_at wanted else_where (n ∷ ns) = text_at n >>= λ t. Give (value.Boolean (is_language t wanted))

abbrev pub language_of : {N : Type 0} → List ℕ → List N → Program N (Value N)
language_of wanted [] = Give (value.Boolean false)
language_of wanted (e ∷ es) = Ask (Step e axis.Attribute (Named xml_lang)) (λ a. language_at wanted (language_of wanted es) (nodes_in a))

-- a name that stands in a text: without a prefix it is in no namespace
abbrev pub name_meant : {N : Type 0} → Scope → List ℕ → Program N Expanded
name_meant scope t = elim (qname_of t) [
  | None ↦ Refuse (Here code.BadName)
  | Some name ↦ elim (attribute_name scope name) [ None ↦ Refuse (Here code.BadName) | Some expanded ↦ Give expanded ]
]

abbrev pub xslt : List ℕ → Expanded
xslt local = record { uri = xslt_uri; local = local }

abbrev pub system_property : {N : Type 0} → Expanded → Value N
system_property name =
    if same_name name (xslt (codes "version")) then value.Number (Whole (pos 1))
    else (if same_name name (xslt (codes "vendor")) then value.Text (codes "xt")
    else (if same_name name (xslt (codes "vendor-url")) then value.Text (codes "http://xt.invalid/")
    else value.Text []))

abbrev pub of_text : {N : Type 0} → TextFunction → Context N → List ℕ → Program N (Value N)
of_text text.StringLength c t = given (length_of t) >>= λ n. Give (value.Number n)
of_text text.NormalizeSpace c t = Give (value.Text (normalized t))
of_text text.Lang c t = Ask (Step c.node axis.AncestorOrSelf AnyName) (λ a. language_of t (nodes_in a))
of_text text.SystemProperty c t = name_meant c.scope t >>= λ name. Give (system_property name)
of_text text.ElementAvailable c t = name_meant c.scope t >>= λ name. Give (value.Boolean (is_instruction name))
of_text text.FunctionAvailable c t = name_meant c.scope t >>= λ name. Give (value.Boolean (is_function name))
of_text text.UnparsedEntityUri c t = Give (value.Text [])

-- ---- functions of one value
abbrev pub of_value : {N : Type 0} → ValueFunction → Value N → Program N (Value N)
of_value one.String v = to_text v >>= λ t. Give (value.Text t)
of_value one.Number v = to_number v >>= λ n. Give (value.Number n)
of_value one.Boolean v = Give (value.Boolean (to_boolean v))
of_value one.Not v = Give (value.Boolean (not (to_boolean v)))
of_value one.Rounded v = to_number v >>= λ n. Give (value.Number n)
of_value one.Id v = Give (value.Nodes [])

-- ---- substring
abbrev pub length_argument : {N : Type 0} → List (Value N) → Program N (Option Number)
length_argument (t ∷ start ∷ v ∷ vs) = to_number v >>= λ n. Give (Some n)
length_argument _ = Give None

abbrev pub substring_of : {N : Type 0} → List (Value N) → Program N (Value N)
substring_of vs =
    to_text (argument vs 0) >>= λ t. to_number (argument vs 1) >>= λ start. length_argument vs >>= λ count. Give (value.Text (substring t start count))

-- ---- key
abbrev pub nodes_or_refused : {N : Type 0} → Answer N → Program N (List N)
nodes_or_refused (Refused why) = Refuse why
nodes_or_refused answer = Give (nodes_in answer)

abbrev pub nodes_of_key : {N : Type 0} → Expanded → List ℕ → Program N (List N)
nodes_of_key name t = Ask (question.Key name t) nodes_or_refused

-- of each node, by its string-value, after what was found so far
abbrev pub nodes_of_keys : {N : Type 0} → Expanded → List N → List N → Program N (List N)
nodes_of_keys name found [] = Give found
nodes_of_keys name found (n ∷ ns) = text_at n >>= λ t. nodes_of_key name t >>= λ ms. nodes_of_keys name (found ++ ms) ns

abbrev pub keyed : {N : Type 0} → Expanded → Value N → Program N (List N)
keyed name (value.Nodes ns) = nodes_of_keys name [] ns >>= λ found. arranged ns axis.Child found
keyed name v = to_text v >>= λ t. nodes_of_key name t

abbrev pub key_of : {N : Type 0} → List (Value N) → Context N → Program N (Value N)
key_of vs c = to_text (argument vs 0) >>= λ t. name_meant c.scope t >>= λ name. keyed name (argument vs 1) >>= λ ns. Give (value.Nodes ns)

-- ---- all of them
abbrev pub applied : {N : Type 0} → Function → List (Value N) → Context N → Program N (Value N)
applied (OfContext f) vs c = of_context f c
applied (OfNodes f) vs c = to_nodes (value_or_node vs c) >>= λ ns. of_nodes f ns
applied (OfTexts f) vs c = all_texts [] vs >>= λ ts. Give (of_texts f ts)
applied (OfText f) vs c = to_text (value_or_node vs c) >>= λ t. of_text f c t
applied (OfValue f) vs c = of_value f (value_or_node vs c)
applied Substring vs c = substring_of vs
applied Key vs c = key_of vs c

-- a call that no function takes has no value; a stylesheet that has one is refused before it runs
abbrev pub called : {N : Type 0} → Option Function → List (Value N) → Context N → Program N (Value N)
called None vs c = Refuse (Here code.BadName)
called (Some f) vs c = applied f vs c
