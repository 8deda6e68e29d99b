-- What an expression means where the content of an xsl:for-each stands, and where its template is run for the same node: the second is given its
-- position and size, and of the variables those that the content mentions.
use Rattle.std.proofs.Common.{◌≡◌, ℕ, ◌+◌, List, [], ◌∷◌, ◌++◌, length, Bool, true, false, cond, Option, None, Some, refl, subst}
use Rattle.spec_document.specs.declared.axis.Axis.{Axis}
use Rattle.spec_document.specs.Name.{Expanded}
use Rattle.spec_document.specs.Scope.{Scope}
use Rattle.spec_expression.specs.declared.Operator.{Operator}
use Rattle.spec_expression.specs.Syntax as tree
use Rattle.spec_expression.specs.Syntax.{Test, Expr, Exprs, no_exprs, expr, Links, no_links, link, Steps, no_steps, step}
use Rattle.spec_meaning.specs.declared.function.Function.{Function}
use Rattle.spec_meaning.specs.declared.function.Function.TheVariants.{OfContext, OfNodes, OfTexts, OfText, OfValue, Substring, Key}
use Rattle.spec_meaning.specs.declared.function.ContextFunction.{ContextFunction}
use Rattle.spec_meaning.specs.declared.function.ContextFunction.TheVariants as of_a_context
use Rattle.spec_meaning.specs.declared.function.TextFunction.{TextFunction}
use Rattle.spec_meaning.specs.declared.function.TextFunction.TheVariants as of_one_text
use Rattle.spec_meaning.specs.Value.{Value}
use Rattle.spec_meaning.specs.Question.{Question, Answer, Refusal, nodes_in}
use Rattle.spec_meaning.specs.Program.{Program, Give, Refuse, Ask, Need, Wanted, Position, Size, Global, Given, Counted, count_in, then}
use Rattle.spec_meaning.specs.Context.{Context, Bound, at_node, binding_of}
use Rattle.spec_meaning.specs.Convert.{to_text, to_nodes}
use Rattle.spec_meaning.specs.Operation.{is_decided, linked}
use Rattle.spec_meaning.specs.Function.{function_of}
use Rattle.spec_meaning.specs.Call.{value_or_node, known_or_needed, of_context, of_nodes, of_text, key_of, applied, called}
use Rattle.spec_meaning.specs.Meaning.{bound_or_global, keeps, kept, stepped, meaning, values_of, chained, kept_by, along}
use Rattle.spec_transform.specs.Numbering.{names_in, names_in_all, names_in_links, names_in_steps}
use Rattle.spec_items.proofs.Calm.{Calm, then_calm, counted_calm, to_text_calm, to_number_calm, to_nodes_calm, combined_calm, all_texts_calm}
use Rattle.spec_items.proofs.Calm.{arranged_calm, of_nodes_calm, of_value_calm, substring_calm, of_text_calm, key_of_calm}
use Rattle.spec_items.specs.Fits.{OfNoUnit}

-- how two instantiations stand to each other: at the same place; or the second runs an item of the first, at this position of so many
pub data View : Type 0 where
  own : View
  item : (position size : ℕ) → View

-- what both are given alike
abbrev pub Shares : View → Wanted → Type 0
Shares own w = Unit {0}
Shares (item p s) (Global name) = Unit {0}
Shares (item p s) _ = ⊥

-- what the second is given, and the first has at hand
abbrev pub Tells : View → Wanted → ℕ → Type 0
Tells (item p s) Position n = n ≡ p
Tells (item p s) Size n = n ≡ s
Tells _ w n = ⊥

pub shares_global : (W : View) (name : Expanded) → Shares W (Global name)
shares_global own name = tt
shares_global (item p s) name = tt

pub data Follow {N A : Type 0} (W : View) : Program N A → Program N A → Type 0 where
  gives : {a : A} → Follow W (Give a) (Give a)
  refuses : {why : Refusal} → Follow W (Refuse why) (Refuse why)
  asks : {q : Question N} {k l : Answer N → Program N A} → OfNoUnit q → ((x : Answer N) → Follow W (k x) (l x)) → Follow W (Ask q k) (Ask q l)
  needs : {w : Wanted} {k l : Given N → Program N A} → Shares W w → ((x : Given N) → Follow W (k x) (l x)) → Follow W (Need w k) (Need w l)
  knows : {w : Wanted} {p : Program N A} {l : Given N → Program N A} (n : ℕ) → Tells W w n → Follow W p (l (Counted n)) → Follow W p (Need w l)

pub then_follow : {N A B : Type 0} {W : View} {p q : Program N A} {k l : A → Program N B} → Follow W p q → ((a : A) → Follow W (k a) (l a))
    → Follow W (then p k) (then q l)
unfolding then
then_follow gives g = g _
then_follow refuses g = refuses
then_follow (asks h next) g = asks h (λ x. then_follow (next x) g)
then_follow (needs h next) g = needs h (λ x. then_follow (next x) g)
then_follow (knows n h f) g = knows n h (then_follow f g)

pub calm_follow : {N A : Type 0} {W : View} {p : Program N A} → Calm p → Follow W p p
calm_follow Calm.gives = gives
calm_follow Calm.refuses = refuses
calm_follow (Calm.asks h next) = asks h (λ x. calm_follow (next x))

pub either_follow : {N A : Type 0} {W : View} (b : Bool) {p q x y : Program N A} → Follow W p x → Follow W q y → Follow W (cond b p q) (cond b x y)
either_follow true h g = h
either_follow false h g = g

-- ---- contexts
-- positions, or sizes
pub data Counts (W : View) (w : Wanted) : Option ℕ → Option ℕ → Type 0 where
  said : {n : ℕ} → Counts W w (Some n) (Some n)
  both_want : Shares W w → Counts W w None None
  told : {n : ℕ} → Tells W w n → Counts W w (Some n) None

-- variables, as far as these names go
abbrev pub Agree : {N : Type 0} → List Expanded → List (Bound N) → List (Bound N) → Type 0
Agree [] bs ds = Unit {0}
Agree (name ∷ names) bs ds = (binding_of name bs ≡ binding_of name ds) × Agree names bs ds

pub agree_front : {N : Type 0} (names more : List Expanded) (bs ds : List (Bound N)) → Agree (names ++ more) bs ds → Agree names bs ds
agree_front [] more bs ds h = tt
agree_front (name ∷ names) more bs ds h = (h.0, agree_front names more bs ds h.1)

pub agree_back : {N : Type 0} (names more : List Expanded) (bs ds : List (Bound N)) → Agree (names ++ more) bs ds → Agree more bs ds
agree_back [] more bs ds h = h
agree_back (name ∷ names) more bs ds h = agree_back names more bs ds h.1

-- the same node, and all that does not count it among others
pub data Beside {N : Type 0} (names : List Expanded) : Context N → Context N → Type 0 where
  beside : {n current : N} {p q s t : Option ℕ} {bs ds : List (Bound N)} {scope : Scope} → Agree names bs ds
      → Beside names (record { node = n; current = current; position = p; size = s; bindings = bs; scope = scope })
      (record { node = n; current = current; position = q; size = t; bindings = ds; scope = scope })

pub data Stands {N : Type 0} (W : View) (names : List Expanded) : Context N → Context N → Type 0 where
  stands : {n current : N} {p q s t : Option ℕ} {bs ds : List (Bound N)} {scope : Scope} → Counts W Position p q → Counts W Size s t → Agree names bs ds
      → Stands W names (record { node = n; current = current; position = p; size = s; bindings = bs; scope = scope })
      (record { node = n; current = current; position = q; size = t; bindings = ds; scope = scope })

pub stands_front : {N : Type 0} {W : View} (names more : List Expanded) {c d : Context N} → Stands W (names ++ more) c d → Stands W names c d
stands_front names more (stands p s h) = stands p s (agree_front names more _ _ h)

pub stands_back : {N : Type 0} {W : View} (names more : List Expanded) {c d : Context N} → Stands W (names ++ more) c d → Stands W more c d
stands_back names more (stands p s h) = stands p s (agree_back names more _ _ h)

pub beside_front : {N : Type 0} (names more : List Expanded) {c d : Context N} → Beside (names ++ more) c d → Beside names c d
beside_front names more (beside h) = beside (agree_front names more _ _ h)

pub beside_back : {N : Type 0} (names more : List Expanded) {c d : Context N} → Beside (names ++ more) c d → Beside more c d
beside_back names more (beside h) = beside (agree_back names more _ _ h)

pub set_beside : {N : Type 0} {W : View} {names : List Expanded} {c d : Context N} → Stands W names c d → Beside names c d
set_beside (stands p s h) = beside h

-- at a node of a predicate, which knows its position and size
pub at_node_stands : {N : Type 0} {W : View} {names : List Expanded} {c d : Context N} → Beside names c d → (n : N) (position size : ℕ)
    → Stands W names (at_node c n position size) (at_node d n position size)
at_node_stands (beside h) n position size = stands said said h

-- ---- calls
known_follow : {N : Type 0} {W : View} {w : Wanted} {o p : Option ℕ} → Counts W w o p → Follow {N = N} W (known_or_needed w o) (known_or_needed w p)
known_follow (said {n = n}) = calm_follow (counted_calm n)
known_follow (both_want h) = needs h (λ x. calm_follow (counted_calm (count_in x)))
known_follow (told {n = n} h) = knows n h (calm_follow (counted_calm n))

of_context_follow : {N : Type 0} {W : View} {names : List Expanded} (f : ContextFunction) {c d : Context N} → Stands W names c d
    → Follow W (of_context f c) (of_context f d)
of_context_follow of_a_context.Last (stands p s h) = known_follow s
of_context_follow of_a_context.Position (stands p s h) = known_follow p
of_context_follow of_a_context.True h = gives
of_context_follow of_a_context.False h = gives
of_context_follow of_a_context.Current (stands p s h) = gives

value_same : {N : Type 0} {W : View} {names : List Expanded} {c d : Context N} → Stands W names c d → (vs : List (Value N))
    → value_or_node vs c ≡ value_or_node vs d
value_same (stands p s h) [] = refl
value_same (stands p s h) (v ∷ vs) = refl

of_text_follow : {N : Type 0} {W : View} {names : List Expanded} (f : TextFunction) {c d : Context N} → Stands W names c d → (t : List ℕ)
    → Follow W (of_text f c t) (of_text f d t)
of_text_follow of_one_text.StringLength {c = c} (stands p s h) t = calm_follow (of_text_calm of_one_text.StringLength c t)
of_text_follow of_one_text.NormalizeSpace {c = c} (stands p s h) t = gives
of_text_follow of_one_text.Lang {c = c} (stands p s h) t = calm_follow (of_text_calm of_one_text.Lang c t)
of_text_follow of_one_text.SystemProperty {c = c} (stands p s h) t = calm_follow (of_text_calm of_one_text.SystemProperty c t)
of_text_follow of_one_text.ElementAvailable {c = c} (stands p s h) t = calm_follow (of_text_calm of_one_text.ElementAvailable c t)
of_text_follow of_one_text.FunctionAvailable {c = c} (stands p s h) t = calm_follow (of_text_calm of_one_text.FunctionAvailable c t)
of_text_follow of_one_text.UnparsedEntityUri {c = c} (stands p s h) t = gives

key_of_follow : {N : Type 0} {W : View} {names : List Expanded} (vs : List (Value N)) {c d : Context N} → Stands W names c d
    → Follow W (key_of vs c) (key_of vs d)
key_of_follow vs {c = c} (stands p s h) = calm_follow (key_of_calm vs c)

-- what is done with the first value, or the node
with_value : {N A : Type 0} {W : View} {names : List Expanded} {c d : Context N} → Stands W names c d → (vs : List (Value N)) {f g : Value N → Program N A}
    → ((v : Value N) → Follow W (f v) (g v)) → Follow W (f (value_or_node vs c)) (g (value_or_node vs d))
with_value {W = W} {c = c} h vs {f = f} {g = g} k =
    subst (λ v. Follow W (f (value_or_node vs c)) (g v)) (value_same h vs) (k (value_or_node vs c))

applied_follow : {N : Type 0} {W : View} {names : List Expanded} (f : Function) (vs : List (Value N)) {c d : Context N} → Stands W names c d
    → Follow W (applied f vs c) (applied f vs d)
applied_follow (OfContext f) vs h = of_context_follow f h
applied_follow (OfNodes f) vs h =
    with_value h vs {f = λ v. then (to_nodes v) (of_nodes f)} {g = λ v. then (to_nodes v) (of_nodes f)}
    (λ v. calm_follow (then_calm (to_nodes_calm v) (of_nodes_calm f)))
applied_follow (OfTexts f) vs h = calm_follow (then_calm (all_texts_calm [] vs) (λ ts. Calm.gives))
applied_follow (OfText f) vs {c = c} {d = d} h =
    with_value h vs {f = λ v. then (to_text v) (of_text f c)} {g = λ v. then (to_text v) (of_text f d)}
    (λ v. then_follow (calm_follow (to_text_calm v)) (of_text_follow f h))
applied_follow (OfValue f) vs h = with_value h vs (λ v. calm_follow (of_value_calm f v))
applied_follow Substring vs h = calm_follow (substring_calm vs)
applied_follow Key vs h = key_of_follow vs h

called_follow : {N : Type 0} {W : View} {names : List Expanded} (f : Option Function) (vs : List (Value N)) {c d : Context N} → Stands W names c d
    → Follow W (called f vs c) (called f vs d)
called_follow None vs h = refuses
called_follow (Some f) vs h = applied_follow f vs h

-- ---- expressions
bound_follow : {N : Type 0} {W : View} (name : Expanded) {o p : Option (Value N)} → o ≡ p → Follow W (bound_or_global name o) (bound_or_global name p)
bound_follow {N = N} {W = W} name {o = o} e = subst (λ p. Follow W (bound_or_global name o) (bound_or_global name p)) e (by o)
  where
    by : (o : Option (Value N)) → Follow W (bound_or_global name o) (bound_or_global name o)
    by None = needs (shares_global W name) (λ x. gives)
    by (Some v) = gives

kept_follow : {N : Type 0} {W : View} {names : List Expanded} {f g : Context N → Program N (Value N)}
    → ((c d : Context N) → Stands W names c d → Follow W (f c) (g d)) → {c d : Context N} → Beside names c d → (size position : ℕ) (done ns : List N)
    → Follow W (kept f c size position done ns) (kept g d size position done ns)
kept_follow alike h size position done [] = gives
kept_follow alike h size position done (n ∷ ns) =
    then_follow (alike _ _ (at_node_stands h n position size)) (λ v.
    kept_follow alike h size (position + 1) (cond (keeps v position) (done ++ n ∷ []) done) ns)

stepped_follow : {N : Type 0} {W : View} {f g : List N → Program N (List N)} → ((xs : List N) → Follow W (f xs) (g xs)) → (axis : Axis) (test : Test)
    (done ns : List N) → Follow W (stepped f axis test done ns) (stepped g axis test done ns)
stepped_follow alike axis test done [] = gives
stepped_follow alike axis test done (n ∷ ns) =
    asks tt (λ x. then_follow (alike (nodes_in x)) (λ ms. stepped_follow alike axis test (done ++ ms) ns))

linked_follow : {N : Type 0} {W : View} (operator : Operator) (v : Value N) {p q : Program N (Value N)} → Follow W p q
    → Follow W (linked operator v p) (linked operator v q)
linked_follow operator v h = either_follow (is_decided operator v) gives (then_follow h (λ w. calm_follow (combined_calm operator v w)))

mutual
  pub meaning_follow : {N : Type 0} {W : View} (e : Expr) {c d : Context N} → Stands W (names_in e) c d → Follow W (meaning e c) (meaning e d)
  meaning_follow (tree.number n) h = calm_follow (counted_calm n)
  meaning_follow (tree.literal t) h = gives
  meaning_follow (tree.variable name) (stands p s h) = bound_follow name h.0
  meaning_follow (tree.call name arguments) h =
      then_follow (values_of_follow arguments h []) (λ vs. called_follow (function_of name (length vs)) vs h)
  meaning_follow (tree.chain e links) h =
      then_follow (meaning_follow e (stands_front (names_in e) (names_in_links links) h))
      (λ v. chained_follow links (stands_back (names_in e) (names_in_links links) h) v)
  meaning_follow (tree.negation signs e) h = then_follow (meaning_follow e h) (λ v. calm_follow (then_calm (to_number_calm v) (λ n. Calm.gives)))
  meaning_follow (tree.filter e predicates) h =
      then_follow (meaning_follow e (stands_front (names_in e) (names_in_all predicates) h))
      (λ v. then_follow (calm_follow (to_nodes_calm v)) (λ ns.
      then_follow (kept_by_follow predicates (set_beside (stands_back (names_in e) (names_in_all predicates) h)) ns) (λ ms. gives)))
  meaning_follow tree.root (stands p s h) = asks tt (λ x. gives)
  meaning_follow tree.here (stands p s h) = gives
  meaning_follow (tree.path e ss) h =
      then_follow (meaning_follow e (stands_front (names_in e) (names_in_steps ss) h))
      (λ v. then_follow (calm_follow (to_nodes_calm v)) (λ ns.
      then_follow (along_follow ss (set_beside (stands_back (names_in e) (names_in_steps ss) h)) ns) (λ ms. gives)))

  values_of_follow : {N : Type 0} {W : View} (es : Exprs) {c d : Context N} → Stands W (names_in_all es) c d → (done : List (Value N))
      → Follow W (values_of es c done) (values_of es d done)
  values_of_follow no_exprs h done = gives
  values_of_follow (expr e es) h done =
      then_follow (meaning_follow e (stands_front (names_in e) (names_in_all es) h))
      (λ v. values_of_follow es (stands_back (names_in e) (names_in_all es) h) (done ++ v ∷ []))

  chained_follow : {N : Type 0} {W : View} (links : Links) {c d : Context N} → Stands W (names_in_links links) c d → (v : Value N)
      → Follow W (chained links c v) (chained links d v)
  chained_follow no_links h v = gives
  chained_follow (link operator e more) h v =
      then_follow (linked_follow operator v (meaning_follow e (stands_front (names_in e) (names_in_links more) h)))
      (λ w. chained_follow more (stands_back (names_in e) (names_in_links more) h) w)

  pub kept_by_follow : {N : Type 0} {W : View} (ps : Exprs) {c d : Context N} → Beside (names_in_all ps) c d → (ns : List N)
      → Follow W (kept_by ps c ns) (kept_by ps d ns)
  kept_by_follow no_exprs h ns = gives
  kept_by_follow (expr p ps) h ns =
      then_follow (kept_follow (λ c d k. meaning_follow p k) (beside_front (names_in p) (names_in_all ps) h) (length ns) 1 [] ns)
      (λ ms. kept_by_follow ps (beside_back (names_in p) (names_in_all ps) h) ms)

  along_follow : {N : Type 0} {W : View} (ss : Steps) {c d : Context N} → Beside (names_in_steps ss) c d → (ns : List N)
      → Follow W (along ss c ns) (along ss d ns)
  along_follow no_steps h ns = gives
  along_follow (step axis test predicates more) h ns =
      then_follow (stepped_follow (λ xs. kept_by_follow predicates (beside_front (names_in_all predicates) (names_in_steps more) h) xs) axis test [] ns)
      (λ found. then_follow (calm_follow (arranged_calm ns axis found)) (λ ms.
      along_follow more (beside_back (names_in_all predicates) (names_in_steps more) h) ms))
