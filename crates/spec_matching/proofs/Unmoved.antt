-- What calls neither position() nor last() means the same at each position among any number of nodes; and what cannot give a number keeps a node
-- at each position alike.
use Rattle.std.proofs.Common.{◌≡◌, ℕ, ◌+◌, Bool, true, false, cond, List, [], ◌∷◌, ◌++◌, length, Option, None, Some, refl, ap, subst, ◌∙◌, arith}
use Rattle.std.specs.Prelude.{not, ◌&&◌, ◌||◌}
use Rattle.std.proofs.lemmas.List.{length-append}
use Rattle.spec_expression.specs.declared.Operator.{Operator}
use Rattle.spec_expression.specs.declared.Operator.TheVariants as op
use Rattle.spec_expression.specs.Syntax as tree
use Rattle.spec_expression.specs.Syntax.{Expr, Exprs, no_exprs, expr, Links, no_links, link, Steps, no_steps, step}
use Rattle.spec_meaning.specs.declared.function.Function.{Function}
use Rattle.spec_meaning.specs.declared.function.Function.TheVariants.{OfContext, OfNodes, OfTexts, OfText, OfValue, Substring, Key}
use Rattle.spec_meaning.specs.declared.function.ContextFunction.TheVariants as of_a_context
use Rattle.spec_meaning.specs.declared.function.NodesFunction.TheVariants as of_some_nodes
use Rattle.spec_meaning.specs.declared.function.TextsFunction.{TextsFunction}
use Rattle.spec_meaning.specs.declared.function.TextsFunction.TheVariants as of_some_texts
use Rattle.spec_meaning.specs.declared.function.TextFunction.{TextFunction}
use Rattle.spec_meaning.specs.declared.function.TextFunction.TheVariants as of_one_text
use Rattle.spec_meaning.specs.declared.function.ValueFunction.TheVariants as of_one_value
use Rattle.spec_meaning.specs.Value as value
use Rattle.spec_meaning.specs.Value.{Value}
use Rattle.spec_meaning.specs.Question.{Question, Answer, Refusal, nodes_in}
use Rattle.spec_meaning.specs.Program.{Wanted, Given, Program, Give, Refuse, Ask, Need, then}
use Rattle.spec_meaning.specs.Context.{Context, at_node}
use Rattle.spec_meaning.specs.Convert.{to_number, to_text, to_nodes}
use Rattle.spec_meaning.specs.Operation.{combined, is_decided, linked}
use Rattle.spec_meaning.specs.Function.{function_of}
use Rattle.spec_meaning.specs.Call.{value_or_node, of_first, of_nodes, language_at, language_of, of_text, of_texts, of_value, called, arranged}
use Rattle.spec_meaning.specs.Meaning.{signed, keeps, kept, stepped, meaning, values_of, chained, kept_by, along}
use Rattle.spec_transform.specs.Match.{caught, is_kept}
use Rattle.spec_transform.specs.Position.{count_of, is_positional, seeks, one_seeks, operand_seeks, may_give_number, is_arithmetic, counts_after, may_count, reads_no_position}

-- ---- What holds of each value that a program may end with

data Ends {N A : Type 0} (P : A → Type 0) : Program N A → Type 0 where
  gives : {a : A} → P a → Ends P (Give a)
  refuses : {why : Refusal} → Ends P (Refuse why)
  asks : {q : Question N} {k : Answer N → Program N A} → ((a : Answer N) → Ends P (k a)) → Ends P (Ask q k)
  needs : {w : Wanted} {k : Given N → Program N A} → ((g : Given N) → Ends P (k g)) → Ends P (Need w k)

then_ends : {N A B : Type 0} {P : A → Type 0} {Q : B → Type 0} {p : Program N A} {k : A → Program N B}
    → Ends P p → ((a : A) → P a → Ends Q (k a)) → Ends Q (then p k)
unfolding then
then_ends (gives h) g = g _ h
then_ends refuses g = refuses
then_ends (asks next) g = asks (λ a. then_ends (next a) g)
then_ends (needs next) g = needs (λ x. then_ends (next x) g)

all_end : {N A : Type 0} {P : A → Type 0} → ((a : A) → P a) → (p : Program N A) → Ends P p
all_end h (Give a) = gives (h a)
all_end h (Refuse why) = refuses
all_end h (Ask q next) = asks (λ a. all_end h (next a))
all_end h (Need w next) = needs (λ g. all_end h (next g))

abbrev Anything : {A : Type 0} → A → Type 0
Anything a = Unit {0}

after_any : {N A B : Type 0} {Q : B → Type 0} (p : Program N A) {k : A → Program N B} → ((a : A) → Ends Q (k a)) → Ends Q (then p k)
after_any p g = then_ends (all_end {P = Anything} (λ a. tt) p) (λ a h. g a)

either_ends : {N A : Type 0} {P : A → Type 0} (b : Bool) {p q : Program N A} → Ends P p → Ends P q → Ends P (cond b p q)
either_ends true h g = h
either_ends false h g = g

-- two that go on alike after each value that it may end with
same_after : {N A B : Type 0} {P : A → Type 0} {p : Program N A} (k h : A → Program N B) → Ends P p → ((a : A) → P a → k a ≡ h a)
    → then p k ≡ then p h
unfolding then
same_after k h (gives g) e = e _ g
same_after k h refuses e = refl
same_after k h (asks {q = q} next) e = λ i. Ask q (λ a. same_after k h (next a) e i)
same_after k h (needs {w = w} next) e = λ i. Need w (λ g. same_after k h (next g) e i)

-- ---- Tests

neither : (a b : Bool) → (a || b) ≡ false → (a ≡ false) × (b ≡ false)
neither false b h = (refl, h)
neither true b h = absurd (cc)

neither_of : (a b : Bool) → (not a && not b) ≡ true → (a ≡ false) × (b ≡ false)
neither_of false false h = (refl, refl)
neither_of false true h = absurd (cc)
neither_of true b h = absurd (cc)

-- ---- Arguments are as many as are written

ends_so : {N A : Type 0} {P Q : A → Type 0} {p : Program N A} → Ends P p → ((a : A) → P a → Q a) → Ends Q p
ends_so (gives h) so = gives (so _ h)
ends_so refuses so = refuses
ends_so (asks next) so = asks (λ a. ends_so (next a) so)
ends_so (needs next) so = needs (λ g. ends_so (next g) so)

one_more : {N : Type 0} (vs done : List (Value N)) (v : Value N) (k : ℕ) → length vs ≡ length (done ++ v ∷ []) + k → length vs ≡ length done + (k + 1)
one_more vs done v k h = let long = length-append done (v ∷ []) in omega (arith, h, long)

counted_values : {N : Type 0} (es : Exprs) (c : Context N) (done : List (Value N)) → Ends (λ vs. length vs ≡ length done + count_of es) (values_of es c done)
counted_values no_exprs c done = gives (omega arith)
counted_values (expr e es) c done =
    after_any (meaning e c) (λ v. ends_so (counted_values es c (done ++ v ∷ [])) (λ vs h. one_more vs done v (count_of es) h))

-- all the arguments of a call
counted_arguments : {N : Type 0} (es : Exprs) (c : Context N) → Ends (λ vs. length vs ≡ count_of es) (values_of es c [])
counted_arguments es c = ends_so (counted_values es c []) (λ vs h. from_none vs (count_of es) h)
  where
    from_none : {N : Type 0} (vs : List (Value N)) (k : ℕ) → length vs ≡ 0 + k → length vs ≡ k
    from_none vs k h = omega (arith, h)

-- ---- At another position

-- a predicate within has positions of its own
kept_same : {N : Type 0} (f : Context N → Program N (Value N)) (c : Context N) (n : N) (here count there number size position : ℕ) (done ns : List N)
    → kept f (at_node c n here count) size position done ns ≡ kept f (at_node c n there number) size position done ns
kept_same f c n here count there number size position done [] = refl
kept_same f c n here count there number size position done (m ∷ ms) =
    λ i. then (f (at_node c m position size))
    (λ v. kept_same f c n here count there number size (position + 1) (cond (keeps v position) (done ++ m ∷ []) done) ms i)

kept_by_same : {N : Type 0} (ps : Exprs) (c : Context N) (n : N) (here count there number : ℕ) (ns : List N)
    → kept_by ps (at_node c n here count) ns ≡ kept_by ps (at_node c n there number) ns
kept_by_same no_exprs c n here count there number ns = refl
kept_by_same (expr p ps) c n here count there number ns =
    λ i. then (kept_same (meaning p) c n here count there number (length ns) 1 [] ns i) (λ ms. kept_by_same ps c n here count there number ms i)

along_same : {N : Type 0} (ss : Steps) (c : Context N) (n : N) (here count there number : ℕ) (ns : List N)
    → along ss (at_node c n here count) ns ≡ along ss (at_node c n there number) ns
along_same no_steps c n here count there number ns = refl
along_same (step axis test ps more) c n here count there number ns =
    λ i. then (stepped (λ xs. kept_by_same ps c n here count there number xs i) axis test [] ns)
    (λ found. then (arranged ns axis found) (λ ms. along_same more c n here count there number ms i))

value_same : {N : Type 0} (vs : List (Value N)) (c : Context N) (n : N) (here count there number : ℕ)
    → value_or_node vs (at_node c n here count) ≡ value_or_node vs (at_node c n there number)
value_same [] c n here count there number = refl
value_same (v ∷ vs) c n here count there number = refl

of_text_same : {N : Type 0} (f : TextFunction) (t : List ℕ) (c : Context N) (n : N) (here count there number : ℕ)
    → of_text f (at_node c n here count) t ≡ of_text f (at_node c n there number) t
of_text_same of_one_text.StringLength t c n here count there number = refl
of_text_same of_one_text.NormalizeSpace t c n here count there number = refl
of_text_same of_one_text.Lang t c n here count there number = refl
of_text_same of_one_text.SystemProperty t c n here count there number = refl
of_text_same of_one_text.ElementAvailable t c n here count there number = refl
of_text_same of_one_text.FunctionAvailable t c n here count there number = refl
of_text_same of_one_text.UnparsedEntityUri t c n here count there number = refl

called_same : {N : Type 0} (f : Option Function) (vs : List (Value N)) (c : Context N) (n : N) (here count there number : ℕ) → is_positional f ≡ false
    → called f vs (at_node c n here count) ≡ called f vs (at_node c n there number)
called_same None vs c n here count there number h = refl
called_same (Some (OfContext of_a_context.Last)) vs c n here count there number h = absurd (cc)
called_same (Some (OfContext of_a_context.Position)) vs c n here count there number h = absurd (cc)
called_same (Some (OfContext of_a_context.True)) vs c n here count there number h = refl
called_same (Some (OfContext of_a_context.False)) vs c n here count there number h = refl
called_same (Some (OfContext of_a_context.Current)) vs c n here count there number h = refl
called_same (Some (OfNodes f)) vs c n here count there number h =
    λ i. then (to_nodes (value_same vs c n here count there number i)) (λ ns. of_nodes f ns)
called_same (Some (OfTexts f)) vs c n here count there number h = refl
called_same (Some (OfText f)) vs c n here count there number h =
    λ i. then (to_text (value_same vs c n here count there number i)) (λ t. of_text_same f t c n here count there number i)
called_same (Some (OfValue f)) vs c n here count there number h = λ i. of_value f (value_same vs c n here count there number i)
called_same (Some Substring) vs c n here count there number h = refl
called_same (Some Key) vs c n here count there number h = refl

mutual
  unmoved : {N : Type 0} (e : Expr) (c : Context N) (n : N) (here count there number : ℕ) → seeks e ≡ false
      → meaning e (at_node c n here count) ≡ meaning e (at_node c n there number)
  unmoved (tree.number k) c n here count there number h = refl
  unmoved (tree.literal t) c n here count there number h = refl
  unmoved (tree.variable name) c n here count there number h = refl
  unmoved (tree.call name arguments) c n here count there number h =
      let parts = neither (is_positional (function_of name (count_of arguments))) (one_seeks arguments) h in
      (λ i. then (values_unmoved arguments c n here count there number [] parts.1 i)
      (λ vs. called (function_of name (length vs)) vs (at_node c n here count)))
      ∙ same_after (λ vs. called (function_of name (length vs)) vs (at_node c n here count))
      (λ vs. called (function_of name (length vs)) vs (at_node c n there number)) (counted_arguments arguments (at_node c n there number))
      (λ vs e. called_same (function_of name (length vs)) vs c n here count there number
      (ap (λ k. is_positional (function_of name k)) e ∙ parts.0))
  unmoved (tree.chain e more) c n here count there number h =
      let parts = neither (seeks e) (operand_seeks more) h in
      λ i. then (unmoved e c n here count there number parts.0 i) (λ v. chained_unmoved more c n here count there number v parts.1 i)
  unmoved (tree.negation signs e) c n here count there number h =
      λ i. then (unmoved e c n here count there number h i) (λ v. then (to_number v) (λ m. Give (value.Number (signed signs m))))
  unmoved (tree.filter e ps) c n here count there number h =
      let parts = neither (seeks e) (one_seeks ps) h in
      λ i. then (unmoved e c n here count there number parts.0 i) (λ v. then (to_nodes v)
      (λ ns. then (kept_by_same ps c n here count there number ns i) (λ ms. Give (value.Nodes ms))))
  unmoved tree.root c n here count there number h = refl
  unmoved tree.here c n here count there number h = refl
  unmoved (tree.path e ss) c n here count there number h =
      let parts = neither (seeks e) _ h in
      λ i. then (unmoved e c n here count there number parts.0 i) (λ v. then (to_nodes v)
      (λ ns. then (along_same ss c n here count there number ns i) (λ ms. Give (value.Nodes ms))))

  values_unmoved : {N : Type 0} (es : Exprs) (c : Context N) (n : N) (here count there number : ℕ) (done : List (Value N)) → one_seeks es ≡ false
      → values_of es (at_node c n here count) done ≡ values_of es (at_node c n there number) done
  values_unmoved no_exprs c n here count there number done h = refl
  values_unmoved (expr e es) c n here count there number done h =
      let parts = neither (seeks e) (one_seeks es) h in
      λ i. then (unmoved e c n here count there number parts.0 i) (λ v. values_unmoved es c n here count there number (done ++ v ∷ []) parts.1 i)

  chained_unmoved : {N : Type 0} (ls : Links) (c : Context N) (n : N) (here count there number : ℕ) (v : Value N) → operand_seeks ls ≡ false
      → chained ls (at_node c n here count) v ≡ chained ls (at_node c n there number) v
  chained_unmoved no_links c n here count there number v h = refl
  chained_unmoved (link operator e more) c n here count there number v h =
      let parts = neither (seeks e) (operand_seeks more) h in
      λ i. then (linked operator v (unmoved e c n here count there number parts.0 i))
      (λ w. chained_unmoved more c n here count there number w parts.1 i)

-- ---- What cannot be a number

abbrev IsNoNumber : {N : Type 0} → Value N → Type 0
IsNoNumber (value.Number n) = ⊥
IsNoNumber (value.Text t) = Unit {0}
IsNoNumber (value.Boolean b) = Unit {0}
IsNoNumber (value.Nodes ns) = Unit {0}
IsNoNumber (value.Fragment s) = Unit {0}

-- a value that may be a number only where this says so
abbrev NumberOnlyWhere : {N : Type 0} → Bool → Value N → Type 0
NumberOnlyWhere may v = may ≡ false → IsNoNumber v

where_it_may : {N : Type 0} (p : Program N (Value N)) → Ends (NumberOnlyWhere true) p
where_it_may p = all_end (λ v e. absurd (cc)) p

combined_ends : {N : Type 0} (operator : Operator) (v w : Value N) → Ends (NumberOnlyWhere (is_arithmetic operator)) (combined operator v w)
combined_ends op.Or v w = gives (λ e. tt)
combined_ends op.And v w = gives (λ e. tt)
combined_ends op.Union v w = after_any _ (λ ms. after_any _ (λ ns. after_any _ (λ all. gives (λ e. tt))))
combined_ends op.Equal v w = after_any _ (λ b. gives (λ e. tt))
combined_ends op.NotEqual v w = after_any _ (λ b. gives (λ e. tt))
combined_ends op.Less v w = after_any _ (λ b. gives (λ e. tt))
combined_ends op.LessOrEqual v w = after_any _ (λ b. gives (λ e. tt))
combined_ends op.Greater v w = after_any _ (λ b. gives (λ e. tt))
combined_ends op.GreaterOrEqual v w = after_any _ (λ b. gives (λ e. tt))
combined_ends op.Add v w = where_it_may _
combined_ends op.Subtract v w = where_it_may _
combined_ends op.Multiply v w = where_it_may _
combined_ends op.Divide v w = where_it_may _
combined_ends op.Modulo v w = where_it_may _

linked_ends : {N : Type 0} (operator : Operator) (v : Value N) (right : Program N (Value N))
    → Ends (NumberOnlyWhere (is_arithmetic operator)) (linked operator v right)
linked_ends operator v right = either_ends (is_decided operator v) (gives (λ e. tt)) (after_any right (λ w. combined_ends operator v w))

chained_ends : {N : Type 0} (ls : Links) (c : Context N) (v : Value N) (before : Bool) → NumberOnlyWhere before v
    → Ends (NumberOnlyWhere (counts_after before ls)) (chained ls c v)
chained_ends no_links c v before h = gives h
chained_ends (link operator e more) c v before h =
    then_ends (linked_ends operator v (meaning e c)) (λ w g. chained_ends more c w (is_arithmetic operator) g)

of_first_ends : {N : Type 0} (ask : N → Question N) (part : Answer N → List ℕ) (ns : List N) → Ends (NumberOnlyWhere false) (of_first ask part ns)
of_first_ends ask part [] = gives (λ e. tt)
of_first_ends ask part (n ∷ ns) = asks (λ a. gives (λ e. tt))

of_texts_no_number : (N : Type 0) (f : TextsFunction) (ts : List (List ℕ)) → IsNoNumber {N = N} (of_texts f ts)
of_texts_no_number N of_some_texts.Concat ts = tt
of_texts_no_number N of_some_texts.StartsWith ts = tt
of_texts_no_number N of_some_texts.Contains ts = tt
of_texts_no_number N of_some_texts.SubstringBefore ts = tt
of_texts_no_number N of_some_texts.SubstringAfter ts = tt
of_texts_no_number N of_some_texts.Translate ts = tt

language_at_ends : {N : Type 0} (wanted : List ℕ) {p : Program N (Value N)} (ns : List N) → Ends (NumberOnlyWhere false) p
    → Ends (NumberOnlyWhere false) (language_at wanted p ns)
language_at_ends wanted [] h = h
language_at_ends wanted (n ∷ ns) h = after_any _ (λ t. gives (λ e. tt))

language_of_ends : {N : Type 0} (wanted : List ℕ) (ns : List N) → Ends (NumberOnlyWhere false) (language_of wanted ns)
language_of_ends wanted [] = gives (λ e. tt)
language_of_ends wanted (n ∷ ns) = asks (λ a. language_at_ends wanted (nodes_in a) (language_of_ends wanted ns))

called_ends : {N : Type 0} (f : Option Function) (vs : List (Value N)) (c : Context N) → Ends (NumberOnlyWhere (may_give_number f)) (called f vs c)
called_ends None vs c = refuses
called_ends (Some (OfContext of_a_context.Last)) vs c = where_it_may _
called_ends (Some (OfContext of_a_context.Position)) vs c = where_it_may _
called_ends (Some (OfContext of_a_context.True)) vs c = gives (λ e. tt)
called_ends (Some (OfContext of_a_context.False)) vs c = gives (λ e. tt)
called_ends (Some (OfContext of_a_context.Current)) vs c = gives (λ e. tt)
called_ends (Some (OfNodes of_some_nodes.Count)) vs c = where_it_may _
called_ends (Some (OfNodes of_some_nodes.Sum)) vs c = where_it_may _
called_ends (Some (OfNodes of_some_nodes.LocalName)) vs c = after_any _ (λ ns. of_first_ends _ _ ns)
called_ends (Some (OfNodes of_some_nodes.NamespaceUri)) vs c = after_any _ (λ ns. of_first_ends _ _ ns)
called_ends (Some (OfNodes of_some_nodes.Name)) vs c = after_any _ (λ ns. of_first_ends _ _ ns)
called_ends (Some (OfNodes of_some_nodes.GenerateId)) vs c = after_any _ (λ ns. of_first_ends _ _ ns)
called_ends (Some (OfTexts f)) vs c = after_any _ (λ ts. gives (λ e. of_texts_no_number _ f ts))
called_ends (Some (OfText of_one_text.StringLength)) vs c = where_it_may _
called_ends (Some (OfText of_one_text.SystemProperty)) vs c = where_it_may _
called_ends (Some (OfText of_one_text.NormalizeSpace)) vs c = after_any _ (λ t. gives (λ e. tt))
called_ends (Some (OfText of_one_text.Lang)) vs c = after_any _ (λ t. asks (λ a. language_of_ends t (nodes_in a)))
called_ends (Some (OfText of_one_text.ElementAvailable)) vs c = after_any _ (λ t. after_any _ (λ name. gives (λ e. tt)))
called_ends (Some (OfText of_one_text.FunctionAvailable)) vs c = after_any _ (λ t. after_any _ (λ name. gives (λ e. tt)))
called_ends (Some (OfText of_one_text.UnparsedEntityUri)) vs c = after_any _ (λ t. gives (λ e. tt))
called_ends (Some (OfValue of_one_value.String)) vs c = after_any _ (λ t. gives (λ e. tt))
called_ends (Some (OfValue of_one_value.Number)) vs c = where_it_may _
called_ends (Some (OfValue of_one_value.Boolean)) vs c = gives (λ e. tt)
called_ends (Some (OfValue of_one_value.Not)) vs c = gives (λ e. tt)
called_ends (Some (OfValue of_one_value.Rounded)) vs c = where_it_may _
called_ends (Some (OfValue of_one_value.Id)) vs c = gives (λ e. tt)
called_ends (Some Substring) vs c = after_any _ (λ t. after_any _ (λ start. after_any _ (λ size. gives (λ e. tt))))
called_ends (Some Key) vs c = after_any _ (λ t. after_any _ (λ name. after_any _ (λ ns. gives (λ e. tt))))

meaning_ends : {N : Type 0} (e : Expr) (c : Context N) → Ends (NumberOnlyWhere (may_count e)) (meaning e c)
meaning_ends (tree.number k) c = where_it_may _
meaning_ends (tree.literal t) c = gives (λ e. tt)
meaning_ends (tree.variable name) c = where_it_may _
meaning_ends {N} (tree.call name arguments) c =
    then_ends (counted_arguments arguments c) (λ vs e.
    subst (λ (k : ℕ). Ends (NumberOnlyWhere (may_give_number (function_of name k))) (called {N = N} (function_of name (length vs)) vs c)) e
    (called_ends (function_of name (length vs)) vs c))
meaning_ends (tree.chain e more) c = then_ends (meaning_ends e c) (λ v h. chained_ends more c v (may_count e) h)
meaning_ends (tree.negation signs e) c = where_it_may _
meaning_ends (tree.filter e ps) c = after_any _ (λ v. after_any _ (λ ns. after_any _ (λ ms. gives (λ e. tt))))
meaning_ends tree.root c = asks (λ a. gives (λ e. tt))
meaning_ends tree.here c = gives (λ e. tt)
meaning_ends (tree.path e ss) c = after_any _ (λ v. after_any _ (λ ns. after_any _ (λ ms. gives (λ e. tt))))

-- ---- Predicates

keeps_same : {N : Type 0} (v : Value N) → IsNoNumber v → (here there : ℕ) → keeps v here ≡ keeps v there
keeps_same (value.Number n) h here there = absurd h
keeps_same (value.Text t) h here there = refl
keeps_same (value.Boolean b) h here there = refl
keeps_same (value.Nodes ns) h here there = refl
keeps_same (value.Fragment s) h here there = refl

-- a predicate that reads no position keeps a node wherever it stands, or nowhere
pub kept_anywhere : {N : Type 0} (e : Expr) (c : Context N) (n : N) (count here number there : ℕ) → reads_no_position e ≡ true
    → is_kept e c count here n ≡ is_kept e c number there n
kept_anywhere e c n count here number there h =
    let parts = neither_of (seeks e) (may_count e) h in
    (λ i. caught (then (unmoved e c n here count there number parts.0 i) (λ v. Give (keeps v here))))
    ∙ ap caught (same_after (λ v. Give (keeps v here)) (λ v. Give (keeps v there)) (meaning_ends e (at_node c n there number))
    (λ v g. ap Give (keeps_same v (g parts.1) here there)))
