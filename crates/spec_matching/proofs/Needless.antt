-- Predicates without variables need nothing of the run: a predicate has a position and a size of its own, and nothing else of an expression but a
-- global is needed.
use Rattle.std.proofs.Common.{◌≡◌, ℕ, ◌+◌, Bool, true, false, cond, List, [], ◌∷◌, ◌++◌, length, Option, None, Some, Result, Ok, Err, refl}
use Rattle.std.specs.Prelude.{pos, ◌&&◌, ◌||◌}
use Rattle.std.specs.List.{list_any, list_all}
use Rattle.spec_document.specs.declared.axis.Axis.{Axis}
use Rattle.spec_document.specs.declared.axis.Axis.TheVariants as axis
use Rattle.spec_document.specs.Name.{Expanded, QName, qname_of}
use Rattle.spec_document.specs.Scope.{Scope}
use Rattle.spec_document.specs.Declaration.{attribute_name}
use Rattle.spec_expression.specs.declared.Operator.{Operator}
use Rattle.spec_expression.specs.declared.Operator.TheVariants as op
use Rattle.spec_expression.specs.declared.code.DynCode.TheVariants as code
use Rattle.spec_expression.specs.Number.{Number, Whole, Fault, number_of, sum_of}
use Rattle.spec_expression.specs.Strings.{length_of}
use Rattle.spec_expression.specs.Syntax as tree
use Rattle.spec_expression.specs.Syntax.{Test, Expr, Exprs, no_exprs, expr, Links, no_links, link, Steps, no_steps, step}
use Rattle.spec_stylesheet.specs.Pattern.{PatternStep, Alternative, Pattern}
use Rattle.spec_static.specs.PatternGrammar.{is_pattern_axis}
use Rattle.spec_compile.specs.Walk.{has, has_one, has_link, has_step, variables, has_in_alternative, has_in_pattern}
use Rattle.spec_meaning.specs.declared.function.Function.{Function}
use Rattle.spec_meaning.specs.declared.function.Function.TheVariants.{OfContext, OfNodes, OfTexts, OfText, OfValue, Substring, Key}
use Rattle.spec_meaning.specs.declared.function.ContextFunction.{ContextFunction}
use Rattle.spec_meaning.specs.declared.function.ContextFunction.TheVariants as of_a_context
use Rattle.spec_meaning.specs.declared.function.NodesFunction.{NodesFunction}
use Rattle.spec_meaning.specs.declared.function.NodesFunction.TheVariants as of_some_nodes
use Rattle.spec_meaning.specs.declared.function.TextFunction.{TextFunction}
use Rattle.spec_meaning.specs.declared.function.TextFunction.TheVariants as of_one_text
use Rattle.spec_meaning.specs.declared.function.ValueFunction.{ValueFunction}
use Rattle.spec_meaning.specs.declared.function.ValueFunction.TheVariants as of_one_value
use Rattle.spec_meaning.specs.Value as value
use Rattle.spec_meaning.specs.Value.{Value}
use Rattle.spec_meaning.specs.Question as question
use Rattle.spec_meaning.specs.Question.{Question, Answer, Refusal, nodes_in}
use Rattle.spec_meaning.specs.Program.{Program, Give, Refuse, Ask, Supply, then}
use Rattle.spec_meaning.specs.Context.{Context, at_node}
use Rattle.spec_meaning.specs.Convert.{given, counted, text_at, first_text, to_text, to_number, to_nodes}
use Rattle.spec_meaning.specs.Compare.{Operand, OfNode, OfText, OfNumber, number_in, text_in_operand, searched, any_left, after_first, some_pair, is_equality, is_boolean, goes_by_texts, operands, beside, operands_compared, compared}
use Rattle.spec_meaning.specs.Operation.{arithmetic, comparison, combined, is_decided, linked}
use Rattle.spec_meaning.specs.Function.{function_of}
use Rattle.spec_meaning.specs.Call.{all_texts, arranged, of_context, summed, of_first, of_nodes, language_at, language_of, name_meant, of_text, of_value, length_argument, substring_of, nodes_or_refused, nodes_of_key, nodes_of_keys, keyed, key_of, called}
use Rattle.spec_meaning.specs.Meaning.{keeps, kept, stepped, meaning, values_of, chained, kept_by, along}
use Rattle.spec_transform.specs.Match.{caught}
use Rattle.spec_matching.specs.Asked.{IsAnswered, AreAnswered}
use Rattle.spec_matching.specs.Given.{AreSteps, AreAlternatives, is_along, are_along}

data NeedsNothing {N A : Type 0} : Program N A → Type 0 where
  gives : {a : A} → NeedsNothing (Give a)
  refuses : {why : Refusal} → NeedsNothing (Refuse why)
  asks : {q : Question N} {k : Answer N → Program N A} → ((a : Answer N) → NeedsNothing (k a)) → NeedsNothing (Ask q k)

and_then : {N A B : Type 0} {p : Program N A} {k : A → Program N B} → NeedsNothing p → ((a : A) → NeedsNothing (k a)) → NeedsNothing (then p k)
unfolding then
and_then gives g = g _
and_then refuses g = refuses
and_then (asks next) g = asks (λ a. and_then (next a) g)

either : {N A : Type 0} (b : Bool) {p q : Program N A} → NeedsNothing p → NeedsNothing q → NeedsNothing (cond b p q)
either true h g = h
either false h g = g

neither : (a b : Bool) → (a || b) ≡ false → (a ≡ false) × (b ≡ false)
neither false b h = (refl, h)
neither true b h = absurd (cc)

-- ---- Conversions

of_given : {N : Type 0} (r : Result Number Fault) → NeedsNothing {N = N} (given r)
of_given (Ok n) = gives
of_given (Err fault) = refuses

of_counted : {N : Type 0} (n : ℕ) → NeedsNothing {N = N} (counted n)
of_counted n = and_then (of_given _) (λ m. gives)

of_text_at : {N : Type 0} (n : N) → NeedsNothing (text_at n)
of_text_at n = asks (λ a. gives)

of_first_text : {N : Type 0} (ns : List N) → NeedsNothing (first_text ns)
of_first_text [] = gives
of_first_text (n ∷ ns) = of_text_at n

of_to_text : {N : Type 0} (v : Value N) → NeedsNothing (to_text v)
of_to_text (value.Number n) = gives
of_to_text (value.Text t) = gives
of_to_text (value.Boolean b) = gives
of_to_text (value.Nodes ns) = of_first_text ns
of_to_text (value.Fragment s) = gives

of_to_number : {N : Type 0} (v : Value N) → NeedsNothing (to_number v)
of_to_number (value.Number n) = gives
of_to_number (value.Text t) = of_given (number_of t)
of_to_number (value.Boolean b) = gives
of_to_number (value.Nodes ns) = and_then (of_first_text ns) (λ t. of_given (number_of t))
of_to_number (value.Fragment s) = of_given _

of_to_nodes : {N : Type 0} (v : Value N) → NeedsNothing (to_nodes v)
of_to_nodes (value.Number n) = refuses
of_to_nodes (value.Text t) = refuses
of_to_nodes (value.Boolean b) = refuses
of_to_nodes (value.Nodes ns) = gives
of_to_nodes (value.Fragment s) = refuses

-- ---- Comparisons

of_number_in : {N : Type 0} (o : Operand N) → NeedsNothing (number_in o)
of_number_in (OfNode n) = and_then (of_text_at n) (λ t. of_given (number_of t))
of_number_in (OfText t) = of_given (number_of t)
of_number_in (OfNumber n) = gives

of_text_in : {N : Type 0} (o : Operand N) → NeedsNothing (text_in_operand o)
of_text_in (OfNode n) = of_text_at n
of_text_in (OfText t) = gives
of_text_in (OfNumber n) = gives

of_searched : {N X : Type 0} (read : Operand N → Program N X) → ((o : Operand N) → NeedsNothing (read o)) → (test : X → Bool) (done : List X)
    (rs : List (Operand N)) → NeedsNothing (searched read test done rs)
of_searched read h test done [] = gives
of_searched read h test done (b ∷ rs) = and_then (h b) (λ y. either (test y) gives (of_searched read h test (done ++ y ∷ []) rs))

of_any_left : {N X : Type 0} (read : Operand N → Program N X) → ((o : Operand N) → NeedsNothing (read o)) → (test : X → X → Bool) (ys : List X)
    (ls : List (Operand N)) → NeedsNothing (any_left read test ys ls)
of_any_left read h test ys [] = gives
of_any_left read h test ys (a ∷ ls) = and_then (h a) (λ x. either (list_any (test x) ys) gives (of_any_left read h test ys ls))

of_after_first : {N X : Type 0} (read : Operand N → Program N X) → ((o : Operand N) → NeedsNothing (read o)) → (test : X → X → Bool)
    (ls : List (Operand N)) (found : Option (List X)) → NeedsNothing (after_first read test ls found)
of_after_first read h test ls None = gives
of_after_first read h test ls (Some ys) = of_any_left read h test ys ls

of_some_pair : {N X : Type 0} (read : Operand N → Program N X) → ((o : Operand N) → NeedsNothing (read o)) → (test : X → X → Bool)
    (ls rs : List (Operand N)) → NeedsNothing (some_pair read test ls rs)
of_some_pair read h test [] rs = gives
of_some_pair read h test (a ∷ ls) [] = gives
of_some_pair read h test (a ∷ ls) (b ∷ rs) =
    and_then (h a) (λ x. and_then (of_searched read h (test x) [] (b ∷ rs)) (λ found. of_after_first read h test ls found))

of_operands : {N : Type 0} (operator : Operator) (by_texts : Bool) (ls rs : List (Operand N)) → NeedsNothing (operands_compared operator by_texts ls rs)
of_operands operator true ls rs = of_some_pair text_in_operand of_text_in _ ls rs
of_operands operator false ls rs = of_some_pair number_in of_number_in _ ls rs

of_compared : {N : Type 0} (operator : Operator) (v w : Value N) → NeedsNothing (compared operator v w)
of_compared operator v w =
    either (is_equality operator && (is_boolean v || is_boolean w)) gives
    (of_operands operator (goes_by_texts operator v w) (operands (beside w v)) (operands (beside v w)))

-- ---- Operators

of_arithmetic : {N : Type 0} (operator : Operator) (v w : Value N) → NeedsNothing (arithmetic operator v w)
of_arithmetic operator v w = and_then (of_to_number v) (λ a. and_then (of_to_number w) (λ b. and_then (of_given _) (λ n. gives)))

of_comparison : {N : Type 0} (operator : Operator) (v w : Value N) → NeedsNothing (comparison operator v w)
of_comparison operator v w = and_then (of_compared operator v w) (λ b. gives)

of_combined : {N : Type 0} (operator : Operator) (v w : Value N) → NeedsNothing (combined operator v w)
of_combined op.Or v w = gives
of_combined op.And v w = gives
of_combined op.Union v w = and_then (of_to_nodes v) (λ ms. and_then (of_to_nodes w) (λ ns. and_then (asks (λ a. gives)) (λ all. gives)))
of_combined op.Equal v w = of_comparison op.Equal v w
of_combined op.NotEqual v w = of_comparison op.NotEqual v w
of_combined op.Less v w = of_comparison op.Less v w
of_combined op.LessOrEqual v w = of_comparison op.LessOrEqual v w
of_combined op.Greater v w = of_comparison op.Greater v w
of_combined op.GreaterOrEqual v w = of_comparison op.GreaterOrEqual v w
of_combined op.Add v w = of_arithmetic op.Add v w
of_combined op.Subtract v w = of_arithmetic op.Subtract v w
of_combined op.Multiply v w = of_arithmetic op.Multiply v w
of_combined op.Divide v w = of_arithmetic op.Divide v w
of_combined op.Modulo v w = of_arithmetic op.Modulo v w

of_linked : {N : Type 0} (operator : Operator) (v : Value N) {right : Program N (Value N)} → NeedsNothing right → NeedsNothing (linked operator v right)
of_linked operator v h = either (is_decided operator v) gives (and_then h (λ w. of_combined operator v w))

-- ---- Calls

of_arranged : {N : Type 0} (from : List N) (x : Axis) (found : List N) → NeedsNothing (arranged from x found)
of_arranged [] x found = gives
of_arranged (n ∷ []) x found = gives
of_arranged (n ∷ m ∷ more) x found = asks (λ a. gives)

of_all_texts : {N : Type 0} (done : List (List ℕ)) (vs : List (Value N)) → NeedsNothing (all_texts done vs)
of_all_texts done [] = gives
of_all_texts done (v ∷ vs) = and_then (of_to_text v) (λ t. of_all_texts (done ++ t ∷ []) vs)

of_summed : {N : Type 0} (total : Number) (ns : List N) → NeedsNothing (summed total ns)
of_summed total [] = gives
of_summed total (n ∷ ns) =
    and_then (of_text_at n) (λ t. and_then (of_given (number_of t)) (λ a. and_then (of_given (sum_of total a)) (λ s. of_summed s ns)))

of_of_first : {N : Type 0} (ask : N → Question N) (part : Answer N → List ℕ) (ns : List N) → NeedsNothing (of_first ask part ns)
of_of_first ask part [] = gives
of_of_first ask part (n ∷ ns) = asks (λ a. gives)

of_of_nodes : {N : Type 0} (f : NodesFunction) (ns : List N) → NeedsNothing (of_nodes f ns)
of_of_nodes of_some_nodes.Count ns = of_counted (length ns)
of_of_nodes of_some_nodes.Sum ns = of_summed (Whole (pos 0)) ns
of_of_nodes of_some_nodes.LocalName ns = of_of_first _ _ ns
of_of_nodes of_some_nodes.NamespaceUri ns = of_of_first _ _ ns
of_of_nodes of_some_nodes.Name ns = of_of_first _ _ ns
of_of_nodes of_some_nodes.GenerateId ns = of_of_first _ _ ns

of_language_at : {N : Type 0} (wanted : List ℕ) {p : Program N (Value N)} (ns : List N) → NeedsNothing p → NeedsNothing (language_at wanted p ns)
of_language_at wanted [] h = h
of_language_at wanted (n ∷ ns) h = and_then (of_text_at n) (λ t. gives)

of_language_of : {N : Type 0} (wanted : List ℕ) (ns : List N) → NeedsNothing (language_of wanted ns)
of_language_of wanted [] = gives
of_language_of wanted (n ∷ ns) = asks (λ a. of_language_at wanted (nodes_in a) (of_language_of wanted ns))

abbrev by_expanded : {N : Type 0} → Option Expanded → Program N Expanded
by_expanded name = elim name [ None ↦ Refuse (question.Here code.BadName) | Some expanded ↦ Give expanded ]

abbrev by_qname : {N : Type 0} → Scope → Option QName → Program N Expanded
by_qname scope written = elim written [ None ↦ Refuse (question.Here code.BadName) | Some name ↦ by_expanded (attribute_name scope name) ]

of_expanded : {N : Type 0} (name : Option Expanded) → NeedsNothing {N = N} (by_expanded name)
of_expanded None = refuses
of_expanded (Some name) = gives

of_qname : {N : Type 0} (scope : Scope) (written : Option QName) → NeedsNothing {N = N} (by_qname scope written)
of_qname scope None = refuses
of_qname scope (Some name) = of_expanded (attribute_name scope name)

of_name_meant : {N : Type 0} (scope : Scope) (t : List ℕ) → NeedsNothing {N = N} (name_meant scope t)
of_name_meant scope t = of_qname scope (qname_of t)

of_of_text : {N : Type 0} (f : TextFunction) (c : Context N) (t : List ℕ) → NeedsNothing (of_text f c t)
of_of_text of_one_text.StringLength c t = and_then (of_given (length_of t)) (λ n. gives)
of_of_text of_one_text.NormalizeSpace c t = gives
of_of_text of_one_text.Lang c t = asks (λ a. of_language_of t (nodes_in a))
of_of_text of_one_text.SystemProperty c t = and_then (of_name_meant c.scope t) (λ name. gives)
of_of_text of_one_text.ElementAvailable c t = and_then (of_name_meant c.scope t) (λ name. gives)
of_of_text of_one_text.FunctionAvailable c t = and_then (of_name_meant c.scope t) (λ name. gives)
of_of_text of_one_text.UnparsedEntityUri c t = gives

of_of_value : {N : Type 0} (f : ValueFunction) (v : Value N) → NeedsNothing (of_value f v)
of_of_value of_one_value.String v = and_then (of_to_text v) (λ t. gives)
of_of_value of_one_value.Number v = and_then (of_to_number v) (λ n. gives)
of_of_value of_one_value.Boolean v = gives
of_of_value of_one_value.Not v = gives
of_of_value of_one_value.Rounded v = and_then (of_to_number v) (λ n. gives)
of_of_value of_one_value.Id v = gives

of_length : {N : Type 0} (vs : List (Value N)) → NeedsNothing (length_argument vs)
of_length [] = gives
of_length (t ∷ []) = gives
of_length (t ∷ start ∷ []) = gives
of_length (t ∷ start ∷ v ∷ vs) = and_then (of_to_number v) (λ n. gives)

of_substring : {N : Type 0} (vs : List (Value N)) → NeedsNothing (substring_of vs)
of_substring vs = and_then (of_to_text _) (λ t. and_then (of_to_number _) (λ start. and_then (of_length vs) (λ count. gives)))

of_nodes_or_refused : {N : Type 0} (a : Answer N) → NeedsNothing (nodes_or_refused a)
of_nodes_or_refused (question.Refused why) = refuses
of_nodes_or_refused question.Gone = gives
of_nodes_or_refused (question.SomeNodes nodes) = gives
of_nodes_or_refused (question.SomeText text) = gives
of_nodes_or_refused (question.Named kind name written) = gives
of_nodes_or_refused (question.Chosen rule) = gives
of_nodes_or_refused (question.Copied stream) = gives
of_nodes_or_refused (question.Resolved unit) = gives
of_nodes_or_refused (question.Passed text) = gives

of_nodes_of_key : {N : Type 0} (name : Expanded) (t : List ℕ) → NeedsNothing {N = N} (nodes_of_key name t)
of_nodes_of_key name t = asks (λ a. of_nodes_or_refused a)

of_nodes_of_keys : {N : Type 0} (name : Expanded) (found ns : List N) → NeedsNothing (nodes_of_keys name found ns)
of_nodes_of_keys name found [] = gives
of_nodes_of_keys name found (n ∷ ns) =
    and_then (of_text_at n) (λ t. and_then (of_nodes_of_key name t) (λ ms. of_nodes_of_keys name (found ++ ms) ns))

of_keyed : {N : Type 0} (name : Expanded) (v : Value N) → NeedsNothing (keyed name v)
of_keyed name (value.Nodes ns) = and_then (of_nodes_of_keys name [] ns) (λ found. of_arranged ns axis.Child found)
of_keyed name (value.Number n) = and_then (of_to_text (value.Number n)) (λ t. of_nodes_of_key name t)
of_keyed name (value.Text x) = and_then (of_to_text (value.Text x)) (λ t. of_nodes_of_key name t)
of_keyed name (value.Boolean b) = and_then (of_to_text (value.Boolean b)) (λ t. of_nodes_of_key name t)
of_keyed name (value.Fragment s) = and_then (of_to_text (value.Fragment s)) (λ t. of_nodes_of_key name t)

of_key_of : {N : Type 0} (vs : List (Value N)) (c : Context N) → NeedsNothing (key_of vs c)
of_key_of vs c = and_then (of_to_text _) (λ t. and_then (of_name_meant c.scope t) (λ name. and_then (of_keyed name _) (λ ns. gives)))

of_of_context : {N : Type 0} (f : ContextFunction) (c : Context N) (n : N) (position size : ℕ) → NeedsNothing (of_context f (at_node c n position size))
of_of_context of_a_context.Last c n position size = of_counted size
of_of_context of_a_context.Position c n position size = of_counted position
of_of_context of_a_context.True c n position size = gives
of_of_context of_a_context.False c n position size = gives
of_of_context of_a_context.Current c n position size = gives

of_called : {N : Type 0} (f : Option Function) (vs : List (Value N)) (c : Context N) (n : N) (position size : ℕ)
    → NeedsNothing (called f vs (at_node c n position size))
of_called None vs c n position size = refuses
of_called (Some (OfContext f)) vs c n position size = of_of_context f c n position size
of_called (Some (OfNodes f)) vs c n position size = and_then (of_to_nodes _) (λ ns. of_of_nodes f ns)
of_called (Some (OfTexts f)) vs c n position size = and_then (of_all_texts [] vs) (λ ts. gives)
of_called (Some (OfText f)) vs c n position size = and_then (of_to_text _) (λ t. of_of_text f (at_node c n position size) t)
of_called (Some (OfValue f)) vs c n position size = of_of_value f _
of_called (Some Substring) vs c n position size = of_substring vs
of_called (Some Key) vs c n position size = of_key_of vs (at_node c n position size)

-- ---- Expressions

of_kept : {N : Type 0} (f : Context N → Program N (Value N)) (c : Context N) (n : N) (position size : ℕ)
    → ((m : N) (here count : ℕ) → NeedsNothing (f (at_node c m here count))) → (count here : ℕ) (done ns : List N)
    → NeedsNothing (kept f (at_node c n position size) count here done ns)
of_kept f c n position size h count here done [] = gives
of_kept f c n position size h count here done (m ∷ ms) =
    and_then (h m here count) (λ v. of_kept f c n position size h count (here + 1) (cond (keeps v here) (done ++ m ∷ []) done) ms)

of_stepped : {N : Type 0} (f : List N → Program N (List N)) → ((ns : List N) → NeedsNothing (f ns)) → (x : Axis) (test : Test) (done ns : List N)
    → NeedsNothing (stepped f x test done ns)
of_stepped f h x test done [] = gives
of_stepped f h x test done (n ∷ ns) = asks (λ a. and_then (h (nodes_in a)) (λ ms. of_stepped f h x test (done ++ ms) ns))

mutual
  of_meaning : {N : Type 0} (e : Expr) (c : Context N) (n : N) (position size : ℕ) → has variables e ≡ false
      → NeedsNothing (meaning e (at_node c n position size))
  of_meaning (tree.number k) c n position size h = of_counted k
  of_meaning (tree.literal t) c n position size h = gives
  of_meaning (tree.variable name) c n position size h = absurd (cc)
  of_meaning (tree.call name arguments) c n position size h =
      and_then (of_values arguments c n position size [] h) (λ vs. of_called (function_of name (length vs)) vs c n position size)
  of_meaning (tree.chain e ls) c n position size h =
      let parts = neither (has variables e) (has_link variables ls) h in
      and_then (of_meaning e c n position size parts.0) (λ v. of_chained ls c n position size v parts.1)
  of_meaning (tree.negation signs e) c n position size h =
      and_then (of_meaning e c n position size h) (λ v. and_then (of_to_number v) (λ m. gives))
  of_meaning (tree.filter e ps) c n position size h =
      let parts = neither (has variables e) (has_one variables ps) h in
      and_then (of_meaning e c n position size parts.0) (λ v. and_then (of_to_nodes v) (λ ns.
      and_then (of_kept_by ps c n position size ns parts.1) (λ ms. gives)))
  of_meaning tree.root c n position size h = asks (λ a. gives)
  of_meaning tree.here c n position size h = gives
  of_meaning (tree.path e ss) c n position size h =
      let parts = neither (has variables e) (has_step variables ss) h in
      and_then (of_meaning e c n position size parts.0) (λ v. and_then (of_to_nodes v) (λ ns.
      and_then (of_along ss c n position size ns parts.1) (λ ms. gives)))

  of_values : {N : Type 0} (es : Exprs) (c : Context N) (n : N) (position size : ℕ) (done : List (Value N)) → has_one variables es ≡ false
      → NeedsNothing (values_of es (at_node c n position size) done)
  of_values no_exprs c n position size done h = gives
  of_values (expr e es) c n position size done h =
      let parts = neither (has variables e) (has_one variables es) h in
      and_then (of_meaning e c n position size parts.0) (λ v. of_values es c n position size (done ++ v ∷ []) parts.1)

  of_chained : {N : Type 0} (ls : Links) (c : Context N) (n : N) (position size : ℕ) (v : Value N) → has_link variables ls ≡ false
      → NeedsNothing (chained ls (at_node c n position size) v)
  of_chained no_links c n position size v h = gives
  of_chained (link operator e more) c n position size v h =
      let parts = neither (has variables e) (has_link variables more) h in
      and_then (of_linked operator v (of_meaning e c n position size parts.0)) (λ w. of_chained more c n position size w parts.1)

  of_kept_by : {N : Type 0} (ps : Exprs) (c : Context N) (n : N) (position size : ℕ) (ns : List N) → has_one variables ps ≡ false
      → NeedsNothing (kept_by ps (at_node c n position size) ns)
  of_kept_by no_exprs c n position size ns h = gives
  of_kept_by (expr p ps) c n position size ns h =
      let parts = neither (has variables p) (has_one variables ps) h in
      and_then (of_kept (meaning p) c n position size (λ m here count. of_meaning p c m here count parts.0) (length ns) 1 [] ns)
      (λ ms. of_kept_by ps c n position size ms parts.1)

  of_along : {N : Type 0} (ss : Steps) (c : Context N) (n : N) (position size : ℕ) (ns : List N) → has_step variables ss ≡ false
      → NeedsNothing (along ss (at_node c n position size) ns)
  of_along no_steps c n position size ns h = gives
  of_along (step x test ps more) c n position size ns h =
      let parts = neither (has_one variables ps) (has_step variables more) h in
      and_then (of_stepped (kept_by ps (at_node c n position size)) (λ xs. of_kept_by ps c n position size xs parts.0) x test [] ns)
      (λ found. and_then (of_arranged ns x found) (λ ms. of_along more c n position size ms parts.1))

-- ---- Predicates

caught_says : {N : Type 0} (ask : Question N → Answer N) (supply : Supply N) (p : Program N Bool) → NeedsNothing p → IsAnswered ask supply (caught p)
unfolding caught
caught_says ask supply _ (gives {a = b}) = (b, refl)
caught_says ask supply _ refuses = (false, refl)
caught_says ask supply _ (asks {q = q} {k = k} next) = caught_says ask supply (k (ask q)) (next (ask q))

predicates_answered : {N : Type 0} (ask : Question N → Answer N) (supply : Supply N) (c : Context N) (ps : Exprs) → has_one variables ps ≡ false
    → AreAnswered ask supply c ps
predicates_answered ask supply c no_exprs h = tt
predicates_answered ask supply c (expr p ps) h =
    let parts = neither (has variables p) (has_one variables ps) h in (
      (λ n size position. caught_says ask supply (then (meaning p (at_node c n position size)) (λ v. Give (keeps v position)))
          (and_then (of_meaning p c n position size parts.0) (λ v. gives))),
      predicates_answered ask supply c ps parts.1,
    )

both_true : (a b : Bool) → (a && b) ≡ true → (a ≡ true) × (b ≡ true)
both_true true b h = (refl, h)
both_true false b h = absurd (cc)

steps_are : {N : Type 0} (ask : Question N → Answer N) (supply : Supply N) (c : Context N) (ss : List PatternStep)
    → list_all (λ s. is_pattern_axis s.step.axis) ss ≡ true → list_any (λ s. has_one variables s.step.predicates) ss ≡ false → AreSteps ask supply c ss
steps_are ask supply c [] g h = tt
steps_are ask supply c (s ∷ ss) g h =
    let along_parts = both_true (is_pattern_axis s.step.axis) (list_all (λ t. is_pattern_axis t.step.axis) ss) g in
    let parts = neither (has_one variables s.step.predicates) (list_any (λ t. has_one variables t.step.predicates) ss) h in
    (record { along = along_parts.0; answered = predicates_answered ask supply c s.step.predicates parts.0 }, steps_are ask supply c ss along_parts.1 parts.1)

alternatives_are : {N : Type 0} (ask : Question N → Answer N) (supply : Supply N) (c : Context N) (alts : List Alternative)
    → list_all is_along alts ≡ true → list_any (has_in_alternative variables) alts ≡ false → AreAlternatives ask supply c alts
alternatives_are ask supply c [] g h = tt
alternatives_are ask supply c (a ∷ alts) g h =
    let along_parts = both_true (is_along a) (list_all is_along alts) g in
    let parts = neither (has_in_alternative variables a) (list_any (has_in_alternative variables) alts) h in
    (steps_are ask supply c a.steps along_parts.0 parts.0, alternatives_are ask supply c alts along_parts.1 parts.1)

pub need_nothing : {N : Type 0} (ask : Question N → Answer N) (supply : Supply N) (c : Context N) (pattern : Pattern)
    → are_along pattern ≡ true → has_in_pattern variables pattern ≡ false → AreAlternatives ask supply c pattern.alternatives
need_nothing ask supply c pattern g h = alternatives_are ask supply c pattern.alternatives g h
