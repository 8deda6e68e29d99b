-- Whatever an expression means, a node-set that it gives is in order.
use Rattle.std.proofs.Common.{ℕ, ◌+◌, List, [], ◌∷◌, ◌++◌, length, Bool, true, false, cond, Option, None, Some, sym, subst}
use Rattle.std.proofs.Common.{append_assoc}
use Rattle.std.proofs.lemmas.List.{append-nil}
use Rattle.std.specs.Prelude.{pos, codes}
use Rattle.spec_document.specs.declared.axis.Axis.{Axis}
use Rattle.spec_document.specs.declared.axis.Axis.TheVariants as axis
use Rattle.spec_document.specs.Name.{Expanded, same_name}
use Rattle.spec_expression.specs.declared.Operator.{Operator}
use Rattle.spec_expression.specs.declared.Operator.TheVariants as op
use Rattle.spec_expression.specs.Number.{Number, Whole}
use Rattle.spec_expression.specs.Syntax as tree
use Rattle.spec_expression.specs.Syntax.{Test, Expr, Exprs, no_exprs, expr, Links, no_links, link, Steps, no_steps, step}
use Rattle.spec_meaning.specs.declared.function.Function.{Function}
use Rattle.spec_meaning.specs.declared.function.Function.TheVariants.{OfContext, OfNodes, OfTexts, OfText, OfValue, Substring, Key}
use Rattle.spec_meaning.specs.declared.function.ContextFunction.{ContextFunction}
use Rattle.spec_meaning.specs.declared.function.ContextFunction.TheVariants as of_a_context
use Rattle.spec_meaning.specs.declared.function.NodesFunction.{NodesFunction}
use Rattle.spec_meaning.specs.declared.function.NodesFunction.TheVariants as of_some_nodes
use Rattle.spec_meaning.specs.declared.function.TextsFunction.{TextsFunction}
use Rattle.spec_meaning.specs.declared.function.TextsFunction.TheVariants as of_some_texts
use Rattle.spec_meaning.specs.declared.function.TextFunction.{TextFunction}
use Rattle.spec_meaning.specs.declared.function.TextFunction.TheVariants as of_one_text
use Rattle.spec_meaning.specs.declared.function.ValueFunction.{ValueFunction}
use Rattle.spec_meaning.specs.declared.function.ValueFunction.TheVariants as of_one_value
use Rattle.spec_meaning.specs.Value as value
use Rattle.spec_meaning.specs.Value.{Value}
use Rattle.spec_meaning.specs.Question as question
use Rattle.spec_meaning.specs.Question.{Question, Answer, nodes_in}
use Rattle.spec_meaning.specs.Program.{Program, Wanted, Position, Size}
use Rattle.spec_meaning.specs.Context.{Context, Bound, binding_of}
use Rattle.spec_meaning.specs.Convert.{counted, to_nodes}
use Rattle.spec_meaning.specs.Operation.{arithmetic, in_order, united, comparison, combined, is_decided, linked}
use Rattle.spec_meaning.specs.Function.{function_of}
use Rattle.spec_meaning.specs.Call.{arranged, known_or_needed, of_context, summed, of_first, of_nodes, of_texts, language_at, language_of, xslt}
use Rattle.spec_meaning.specs.Call.{system_property, of_text, of_value, substring_of, nodes_or_refused, nodes_of_key, nodes_of_keys, keyed}
use Rattle.spec_meaning.specs.Call.{key_of, applied, called}
use Rattle.spec_meaning.specs.Meaning.{bound_or_global, last_of, keeps, kept, stepped, meaning, chained, kept_by, along}
use Rattle.spec_order.specs.NodeSet.{AreInOrder, IsInOrder, VariablesAreInOrder}
use Rattle.spec_order.proofs.Lists.{without, along_axis, in_axis, out_of_axis}
use Rattle.spec_order.proofs.Ends.{Ends, gives, refuses, asks, needs, then_ends, all_end, after_any, either_ends}

-- a program of a value, whose node-sets are in order
abbrev pub EndsInOrder : {N : Type 0} → (N → N → Bool) → Program N (Value N) → Type 0
EndsInOrder before p = Ends before (IsInOrder before) p

-- a program of nodes in this order
abbrev pub EndsBy : {N : Type 0} → (N → N → Bool) → (N → N → Bool) → Program N (List N) → Type 0
EndsBy before by p = Ends before (AreInOrder by) p

-- ---- operations
counted_ends : {N : Type 0} {before : N → N → Bool} (n : ℕ) → EndsInOrder before (counted n)
counted_ends n = after_any _ (λ m. gives tt)

in_order_ends : {N : Type 0} {before : N → N → Bool} (ns : List N) → EndsBy before before (in_order ns)
in_order_ends ns = asks (λ a h. gives h)

arithmetic_ends : {N : Type 0} {before : N → N → Bool} (operator : Operator) (v w : Value N) → EndsInOrder before (arithmetic operator v w)
arithmetic_ends operator v w = after_any _ (λ a. after_any _ (λ b. after_any _ (λ n. gives tt)))

comparison_ends : {N : Type 0} {before : N → N → Bool} (operator : Operator) (v w : Value N) → EndsInOrder before (comparison operator v w)
comparison_ends operator v w = after_any _ (λ b. gives tt)

united_ends : {N : Type 0} {before : N → N → Bool} (v w : Value N) → EndsInOrder before (united v w)
united_ends v w = after_any _ (λ ms. after_any _ (λ ns. then_ends (in_order_ends (ms ++ ns)) (λ all h. gives h)))

combined_ends : {N : Type 0} {before : N → N → Bool} (operator : Operator) (v w : Value N) → EndsInOrder before (combined operator v w)
combined_ends op.Or v w = gives tt
combined_ends op.And v w = gives tt
combined_ends op.Union v w = united_ends v w
combined_ends op.Equal v w = comparison_ends op.Equal v w
combined_ends op.NotEqual v w = comparison_ends op.NotEqual v w
combined_ends op.Less v w = comparison_ends op.Less v w
combined_ends op.LessOrEqual v w = comparison_ends op.LessOrEqual v w
combined_ends op.Greater v w = comparison_ends op.Greater v w
combined_ends op.GreaterOrEqual v w = comparison_ends op.GreaterOrEqual v w
combined_ends op.Add v w = arithmetic_ends op.Add v w
combined_ends op.Subtract v w = arithmetic_ends op.Subtract v w
combined_ends op.Multiply v w = arithmetic_ends op.Multiply v w
combined_ends op.Divide v w = arithmetic_ends op.Divide v w
combined_ends op.Modulo v w = arithmetic_ends op.Modulo v w

linked_ends : {N : Type 0} {before : N → N → Bool} (operator : Operator) (v : Value N) (right : Program N (Value N))
    → EndsInOrder before (linked operator v right)
linked_ends operator v right = either_ends (is_decided operator v) (gives tt) (after_any _ (λ w. combined_ends operator v w))

-- ---- calls
known_or_needed_ends : {N : Type 0} {before : N → N → Bool} (wanted : Wanted) (known : Option ℕ) → EndsInOrder before (known_or_needed wanted known)
known_or_needed_ends wanted (Some n) = counted_ends n
known_or_needed_ends wanted None = needs (λ g h. counted_ends _)

of_context_ends : {N : Type 0} {before : N → N → Bool} (f : ContextFunction) (c : Context N) → EndsInOrder before (of_context f c)
of_context_ends of_a_context.Last c = known_or_needed_ends Size c.size
of_context_ends of_a_context.Position c = known_or_needed_ends Position c.position
of_context_ends of_a_context.True c = gives tt
of_context_ends of_a_context.False c = gives tt
of_context_ends of_a_context.Current c = gives (tt, tt)

summed_ends : {N : Type 0} {before : N → N → Bool} (total : Number) (ns : List N) → EndsInOrder before (summed total ns)
summed_ends total [] = gives tt
summed_ends total (n ∷ ns) = after_any _ (λ t. after_any _ (λ a. after_any _ (λ s. summed_ends s ns)))

of_first_ends : {N : Type 0} {before : N → N → Bool} (ask : N → Question N) (part : Answer N → List ℕ) (ns : List N)
    → EndsInOrder before (of_first ask part ns)
of_first_ends ask part [] = gives tt
of_first_ends ask part (n ∷ ns) = asks (λ a h. gives tt)

of_nodes_ends : {N : Type 0} {before : N → N → Bool} (f : NodesFunction) (ns : List N) → EndsInOrder before (of_nodes f ns)
of_nodes_ends of_some_nodes.Count ns = counted_ends (length ns)
of_nodes_ends of_some_nodes.Sum ns = summed_ends (Whole (pos 0)) ns
of_nodes_ends of_some_nodes.LocalName ns = of_first_ends _ _ ns
of_nodes_ends of_some_nodes.NamespaceUri ns = of_first_ends _ _ ns
of_nodes_ends of_some_nodes.Name ns = of_first_ends _ _ ns
of_nodes_ends of_some_nodes.GenerateId ns = of_first_ends _ _ ns

of_texts_in_order : {N : Type 0} (before : N → N → Bool) (f : TextsFunction) (ts : List (List ℕ)) → IsInOrder before (of_texts f ts)
of_texts_in_order before of_some_texts.Concat ts = tt
of_texts_in_order before of_some_texts.StartsWith ts = tt
of_texts_in_order before of_some_texts.Contains ts = tt
of_texts_in_order before of_some_texts.SubstringBefore ts = tt
of_texts_in_order before of_some_texts.SubstringAfter ts = tt
of_texts_in_order before of_some_texts.Translate ts = tt

language_at_ends : {N : Type 0} {before : N → N → Bool} (wanted : List ℕ) {p : Program N (Value N)} (ns : List N) → EndsInOrder before p
    → EndsInOrder before (language_at wanted p ns)
language_at_ends wanted [] h = h
language_at_ends wanted (n ∷ ns) h = after_any _ (λ t. gives tt)

language_of_ends : {N : Type 0} {before : N → N → Bool} (wanted : List ℕ) (ns : List N) → EndsInOrder before (language_of wanted ns)
language_of_ends wanted [] = gives tt
language_of_ends wanted (n ∷ ns) = asks (λ a h. language_at_ends wanted (nodes_in a) (language_of_ends wanted ns))

either_in_order : {N : Type 0} (before : N → N → Bool) (b : Bool) (v w : Value N) → IsInOrder before v → IsInOrder before w
    → IsInOrder before (cond b v w)
either_in_order before true v w h g = h
either_in_order before false v w h g = g

system_property_in_order : {N : Type 0} (before : N → N → Bool) (name : Expanded) → IsInOrder before (system_property name)
system_property_in_order before name =
    either_in_order before (same_name name (xslt (codes "version"))) _ _ tt
    (either_in_order before (same_name name (xslt (codes "vendor"))) _ _ tt
    (either_in_order before (same_name name (xslt (codes "vendor-url"))) _ _ tt tt))

of_text_ends : {N : Type 0} {before : N → N → Bool} (f : TextFunction) (c : Context N) (t : List ℕ) → EndsInOrder before (of_text f c t)
of_text_ends of_one_text.StringLength c t = after_any _ (λ n. gives tt)
of_text_ends of_one_text.NormalizeSpace c t = gives tt
of_text_ends of_one_text.Lang c t = asks (λ a h. language_of_ends t (nodes_in a))
of_text_ends {before = before} of_one_text.SystemProperty c t = after_any _ (λ name. gives (system_property_in_order before name))
of_text_ends of_one_text.ElementAvailable c t = after_any _ (λ name. gives tt)
of_text_ends of_one_text.FunctionAvailable c t = after_any _ (λ name. gives tt)
of_text_ends of_one_text.UnparsedEntityUri c t = gives tt

of_value_ends : {N : Type 0} {before : N → N → Bool} (f : ValueFunction) (v : Value N) → EndsInOrder before (of_value f v)
of_value_ends of_one_value.String v = after_any _ (λ t. gives tt)
of_value_ends of_one_value.Number v = after_any _ (λ n. gives tt)
of_value_ends of_one_value.Boolean v = gives tt
of_value_ends of_one_value.Not v = gives tt
of_value_ends of_one_value.Rounded v = after_any _ (λ n. gives tt)
of_value_ends of_one_value.Id v = gives tt

substring_of_ends : {N : Type 0} {before : N → N → Bool} (vs : List (Value N)) → EndsInOrder before (substring_of vs)
substring_of_ends vs = after_any _ (λ t. after_any _ (λ start. after_any _ (λ count. gives tt)))

-- ---- keys
nodes_or_refused_ends : {N : Type 0} {before : N → N → Bool} (a : Answer N) → AreInOrder before (nodes_in a)
    → EndsBy before before (nodes_or_refused a)
nodes_or_refused_ends (question.Refused why) h = refuses
nodes_or_refused_ends question.Gone h = gives h
nodes_or_refused_ends (question.SomeNodes nodes) h = gives h
nodes_or_refused_ends (question.SomeText text) h = gives h
nodes_or_refused_ends (question.Named kind name written) h = gives h
nodes_or_refused_ends (question.Chosen rule) h = gives h
nodes_or_refused_ends (question.Copied stream) h = gives h
nodes_or_refused_ends (question.Resolved unit) h = gives h
nodes_or_refused_ends (question.Passed text) h = gives h

nodes_of_key_ends : {N : Type 0} {before : N → N → Bool} (name : Expanded) (t : List ℕ) → EndsBy before before (nodes_of_key name t)
nodes_of_key_ends name t = asks (λ a h. nodes_or_refused_ends a h)

-- of one node what is found needs no order more, and of several it is put in order
keys_found : {N : Type 0} {before : N → N → Bool} (name : Expanded) (ns : List N)
    → Ends before (λ found. EndsBy before before (arranged ns axis.Child found)) (nodes_of_keys name [] ns)
keys_found name [] = gives (gives tt)
keys_found name (n ∷ []) = after_any _ (λ t. then_ends (nodes_of_key_ends name t) (λ ms h. gives (gives h)))
keys_found name (n ∷ m ∷ more) = all_end (λ found. in_order_ends found) _

keyed_ends : {N : Type 0} {before : N → N → Bool} (name : Expanded) (v : Value N) → EndsBy before before (keyed name v)
keyed_ends name (value.Nodes ns) = then_ends (keys_found name ns) (λ found h. h)
keyed_ends name (value.Number n) = after_any _ (λ t. nodes_of_key_ends name t)
keyed_ends name (value.Text t) = after_any _ (λ t. nodes_of_key_ends name t)
keyed_ends name (value.Boolean b) = after_any _ (λ t. nodes_of_key_ends name t)
keyed_ends name (value.Fragment s) = after_any _ (λ t. nodes_of_key_ends name t)

key_of_ends : {N : Type 0} {before : N → N → Bool} (vs : List (Value N)) (c : Context N) → EndsInOrder before (key_of vs c)
key_of_ends vs c = after_any _ (λ t. after_any _ (λ name. then_ends (keyed_ends name _) (λ ns h. gives h)))

applied_ends : {N : Type 0} {before : N → N → Bool} (f : Function) (vs : List (Value N)) (c : Context N) → EndsInOrder before (applied f vs c)
applied_ends (OfContext f) vs c = of_context_ends f c
applied_ends (OfNodes f) vs c = after_any _ (λ ns. of_nodes_ends f ns)
applied_ends {before = before} (OfTexts f) vs c = after_any _ (λ ts. gives (of_texts_in_order before f ts))
applied_ends (OfText f) vs c = after_any _ (λ t. of_text_ends f c t)
applied_ends (OfValue f) vs c = of_value_ends f _
applied_ends Substring vs c = substring_of_ends vs
applied_ends Key vs c = key_of_ends vs c

called_ends : {N : Type 0} {before : N → N → Bool} (f : Option Function) (vs : List (Value N)) (c : Context N) → EndsInOrder before (called f vs c)
called_ends None vs c = refuses
called_ends (Some f) vs c = applied_ends f vs c

-- ---- expressions
bound_ends : {N : Type 0} {before : N → N → Bool} (name : Expanded) (bs : List (Bound N)) → VariablesAreInOrder before bs
    → EndsInOrder before (bound_or_global name (binding_of name bs))
bound_ends name [] h = needs (λ g e. gives e)
bound_ends {N} {before = before} name (b ∷ bs) h = go (same_name b.name name) (bound_ends name bs h.1)
  where
    go : (is_it : Bool) → EndsInOrder before (bound_or_global name (binding_of name bs))
        → EndsInOrder before (bound_or_global name (cond is_it (Some b.value) (binding_of name bs)))
    go true rest = gives h.0
    go false rest = rest

last_in_order : {N : Type 0} (before : N → N → Bool) (ns : List N) → AreInOrder before (last_of ns)
last_in_order before [] = tt
last_in_order before (n ∷ []) = (tt, tt)
last_in_order before (n ∷ m ∷ more) = last_in_order before (m ∷ more)

to_nodes_ends : {N : Type 0} {before : N → N → Bool} (v : Value N) → IsInOrder before v → EndsBy before before (to_nodes v)
to_nodes_ends (value.Nodes ns) h = gives h
to_nodes_ends (value.Number n) h = refuses
to_nodes_ends (value.Text t) h = refuses
to_nodes_ends (value.Boolean b) h = refuses
to_nodes_ends (value.Fragment s) h = refuses

one_kept : {N : Type 0} (by : N → N → Bool) (keeps_it : Bool) (done : List N) (n : N) (ns : List N) → AreInOrder by (done ++ n ∷ ns)
    → AreInOrder by (cond keeps_it (done ++ n ∷ []) done ++ ns)
one_kept by true done n ns h = subst (AreInOrder by) (sym (append_assoc done (n ∷ []) ns)) h
one_kept by false done n ns h = without by done n ns h

-- a predicate keeps nodes in whatever order they stand
kept_ends : {N : Type 0} {before : N → N → Bool} (by : N → N → Bool) (predicate : Context N → Program N (Value N)) (c : Context N) (size position : ℕ)
    (done ns : List N) → AreInOrder by (done ++ ns) → EndsBy before by (kept predicate c size position done ns)
kept_ends by predicate c size position done [] h = gives (subst (AreInOrder by) (append-nil done) h)
kept_ends by predicate c size position done (n ∷ ns) h =
    after_any _ (λ v. kept_ends by predicate c size (position + 1) _ ns (one_kept by (keeps v position) done n ns h))

kept_by_ends : {N : Type 0} {before : N → N → Bool} (by : N → N → Bool) (ps : Exprs) (c : Context N) (ns : List N) → AreInOrder by ns
    → EndsBy before by (kept_by ps c ns)
kept_by_ends by no_exprs c ns h = gives h
kept_by_ends by (expr p ps) c ns h = then_ends (kept_ends by (meaning p) c (length ns) 1 [] ns h) (λ ms g. kept_by_ends by ps c ms g)

-- from one node a step finds nodes in the order of its axis; those from several are put in order
found_ends : {N : Type 0} {before : N → N → Bool} (axis : Axis) (test : Test) (ps : Exprs) (c : Context N) (ns : List N)
    → Ends before (λ found. EndsBy before before (arranged ns axis found)) (stepped (kept_by ps c) axis test [] ns)
found_ends axis test ps c [] = gives (gives tt)
found_ends {before = before} axis test ps c (n ∷ []) =
    asks (λ a h. then_ends
    (kept_by_ends (along_axis axis before) ps c (nodes_in a)
    (subst (AreInOrder (along_axis axis before)) (sym h.1) (in_axis axis before h.0 h.2)))
    (λ ms g. gives (gives (out_of_axis axis before ms g))))
found_ends axis test ps c (n ∷ m ∷ more) = all_end (λ found. in_order_ends found) _

along_ends : {N : Type 0} {before : N → N → Bool} (ss : Steps) (c : Context N) (ns : List N) → AreInOrder before ns
    → EndsBy before before (along ss c ns)
along_ends no_steps c ns h = gives h
along_ends (step axis test ps more) c ns h =
    then_ends (found_ends axis test ps c ns) (λ found g. then_ends g (λ ms k. along_ends more c ms k))

chained_ends : {N : Type 0} {before : N → N → Bool} (ls : Links) (c : Context N) (v : Value N) → IsInOrder before v
    → EndsInOrder before (chained ls c v)
chained_ends no_links c v h = gives h
chained_ends (link operator e more) c v h = then_ends (linked_ends operator v (meaning e c)) (λ w g. chained_ends more c w g)

pub meaning_ends : {N : Type 0} {before : N → N → Bool} (e : Expr) (c : Context N) → VariablesAreInOrder before c.bindings
    → EndsInOrder before (meaning e c)
meaning_ends (tree.number n) c h = counted_ends n
meaning_ends (tree.literal t) c h = gives tt
meaning_ends (tree.variable name) c h = bound_ends name c.bindings h
meaning_ends (tree.call name arguments) c h = after_any _ (λ vs. called_ends (function_of name (length vs)) vs c)
meaning_ends (tree.chain e ls) c h = then_ends (meaning_ends e c h) (λ v g. chained_ends ls c v g)
meaning_ends (tree.negation signs e) c h = after_any _ (λ v. after_any _ (λ n. gives tt))
meaning_ends {before = before} (tree.filter e ps) c h =
    then_ends (meaning_ends e c h) (λ v g. then_ends (to_nodes_ends v g) (λ ns k. then_ends (kept_by_ends before ps c ns k) (λ ms m. gives m)))
meaning_ends {before = before} tree.root c h = asks (λ a e. gives (last_in_order before (nodes_in a)))
meaning_ends tree.here c h = gives (tt, tt)
meaning_ends (tree.path e ss) c h =
    then_ends (meaning_ends e c h) (λ v g. then_ends (to_nodes_ends v g) (λ ns k. then_ends (along_ends ss c ns k) (λ ms m. gives m)))
