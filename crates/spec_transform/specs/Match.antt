-- Matching (XSLT 1.0, section 5.2): a node matches a pattern where some ancestor-or-self of it, as context, gives a node-set with it. So it
-- is asked from the last step up: the node passes the step's test and predicates, counted among those that the step gives from its parent,
-- and its parent, or an ancestor, matches what stands before. A refused predicate is false for its node, and a refused key() gives no node.
-- What a node is called is asked first, and once, for all that follows of it.
-- Where no predicate of a step reads a position, the nodes beside it are not asked for: they could change nothing of what is said of it.
use Rattle.std.specs.Prelude.{ℕ, ◌+◌, Bool, true, false, ◌&&◌, List, [], ◌∷◌, ◌++◌, length, reverse, Option, None, Some, if◌then◌else◌}
use Rattle.std.specs.List.{list_any}
use Rattle.spec_document.specs.Name.{Expanded, same_expanded}
use Rattle.spec_document.specs.declared.axis.Axis.{Axis}
use Rattle.spec_document.specs.declared.axis.Axis.TheVariants as axis
use Rattle.spec_document.specs.declared.kind.Kind.{Kind}
use Rattle.spec_document.specs.declared.kind.Kind.TheVariants as kind
use Rattle.spec_expression.specs.declared.NodeType.TheVariants as type
use Rattle.spec_expression.specs.Syntax.{Test, AnyName, InNamespace, Named, OfType, Instruction, Expr, Exprs, no_exprs, expr, Step}
use Rattle.spec_stylesheet.specs.declared.pattern.Separator.{Separator}
use Rattle.spec_stylesheet.specs.declared.pattern.Separator.TheVariants as separators
use Rattle.spec_stylesheet.specs.declared.pattern.Start.{Start}
use Rattle.spec_stylesheet.specs.declared.pattern.Start.TheVariants.{Anywhere, Root, Id, Key}
use Rattle.spec_stylesheet.specs.Pattern.{PatternStep, Alternative, Pattern}
use Rattle.spec_meaning.specs.Step.{is_attribute, is_principal, is_of_type, is_in_namespace, has_local}
use Rattle.spec_meaning.specs.Question as question
use Rattle.spec_meaning.specs.Question.{Answer, nodes_in}
use Rattle.spec_meaning.specs.Program.{Program, Give, Refuse, Ask, Need, ◌>>=◌}
use Rattle.spec_meaning.specs.Context.{Context, at_node}
use Rattle.spec_meaning.specs.Meaning.{meaning, keeps}
use Rattle.spec_transform.specs.Position.{read_no_position}

-- ---- The node test of a step, by a node's kind and name

-- the nodes that an axis of a pattern leads to: attributes, or children
abbrev pub is_child : Kind → Bool
is_child kind.Element = true
is_child kind.Text = true
is_child kind.Comment = true
is_child kind.Instruction = true
is_child _ = false

abbrev pub is_led_to : Axis → Kind → Bool
is_led_to axis.Attribute k = is_attribute k
is_led_to _ k = is_child k

abbrev pub passes_test : Axis → Test → Kind → Option Expanded → Bool
passes_test axis AnyName k name = is_principal axis k
passes_test axis (InNamespace uri) k name = is_principal axis k && is_in_namespace uri name
passes_test axis (Named wanted) k name = is_principal axis k && same_expanded (Some wanted) name
passes_test axis (OfType type) k name = is_of_type type k
passes_test axis (Instruction target) k name = is_of_type type.ProcessingInstruction k && has_local target name

abbrev pub passes : {N : Type 0} → Axis → Test → Answer N → Bool
passes axis test (question.Named k name written) = is_led_to axis k && passes_test axis test k name
passes axis test _ = false

-- ---- Predicates

-- what is refused is false
unfoldable pub caught : {N : Type 0} → Program N Bool → Program N Bool
caught (Give value) = Give value
caught (Refuse why) = Give false
caught (Ask asked next) = Ask asked (λ a. caught (next a))
caught (Need wanted next) = Need wanted (λ g. caught (next g))

-- whether a predicate keeps a node that has this position of so many
abbrev pub is_kept : {N : Type 0} → Expr → Context N → (size position : ℕ) → N → Program N Bool
is_kept predicate c size position n = caught (meaning predicate (at_node c n position size) >>= λ v. Give (keeps v position))

-- the nodes that it keeps, after those kept so far; the next one has this position of so many
abbrev pub all_kept : {N : Type 0} → Expr → Context N → (size position : ℕ) → List N → List N → Program N (List N)
all_kept predicate c size position done [] = Give done
all_kept predicate c size position done (n ∷ ns) =
    is_kept predicate c size position n >>= λ b. all_kept predicate c size (position + 1) (if b then done ++ n ∷ [] else done) ns

-- the position of a node among others, from this one on
abbrev pub position_of : {N : Type 0} → (N → N → Bool) → N → ℕ → List N → Option ℕ
position_of same n position [] = None
position_of same n position (m ∷ ms) = if same n m then Some position else position_of same n (position + 1) ms

abbrev pub is_kept_there : {N : Type 0} → Expr → Context N → ℕ → N → Option ℕ → Program N Bool
is_kept_there predicate c size n None = Give false
is_kept_there predicate c size n (Some position) = is_kept predicate c size position n

-- whether predicates keep a node that is one of these: of the last predicate the node alone is asked, of those before it all
abbrev pub keep : {N : Type 0} → (N → N → Bool) → Context N → N → Exprs → List N → Program N Bool
keep same c n no_exprs nodes = Give true
keep same c n (expr p no_exprs) nodes = is_kept_there p c (length nodes) n (position_of same n 1 nodes)
keep same c n (expr p (expr q ps)) nodes = all_kept p c (length nodes) 1 [] nodes >>= λ ms. keep same c n (expr q ps) ms

-- whether predicates that read no position keep a node, up to the first that does not. It is as if they were asked among the nodes that its
-- parent gives: it is one of these once, since it passes the step's test, and each predicate says of it, at its position there, what it says
-- of it as the only one. So it stands among those that the next predicate is asked for just where all before have kept it, and what is said of
-- the others, or refused at them, only moves positions that none of the predicates reads.
abbrev pub keep_alone : {N : Type 0} → Context N → N → Exprs → Program N Bool
keep_alone c n no_exprs = Give true
keep_alone c n (expr p ps) = is_kept p c 1 1 n >>= λ b. if b then keep_alone c n ps else Give false

-- ---- Steps

-- whether something holds of one of these nodes, asked in their order up to the first
abbrev pub holds_of_one : {N : Type 0} → (N → Program N Bool) → List N → Program N Bool
holds_of_one test [] = Give false
holds_of_one test (n ∷ ns) = test n >>= λ b. if b then Give true else holds_of_one test ns

-- the predicates of a step, with the node's parent as context
abbrev pub is_given_below : {N : Type 0} → (N → N → Bool) → Context N → Step → N → N → Program N Bool
is_given_below same c s n parent = Ask (question.Step parent s.axis s.test) (λ a. keep same c n s.predicates (nodes_in a))

abbrev pub passes_predicates : {N : Type 0} → (N → N → Bool) → Context N → Step → N → Program N Bool
passes_predicates same c s n =
    if read_no_position s.predicates then keep_alone c n s.predicates
    else Ask (question.Step n axis.Parent (OfType type.Node)) (λ a. holds_of_one (is_given_below same c s n) (nodes_in a))

-- whether a node that is called so passes a step
abbrev pub passes_step : {N : Type 0} → (N → N → Bool) → Context N → Step → N → Answer N → Program N Bool
passes_step same c s n called = if passes s.axis s.test called then passes_predicates same c s n else Give false

-- the nodes above that what stands before a step may match: its parent, or its ancestors, nearest first
abbrev pub axis_above : Separator → Axis
axis_above separators.Child = axis.Parent
axis_above separators.Descendant = axis.Ancestor

-- where an alternative starts: at the root; at a node that has a value in the keys of a name; at no node by an ID, since no element has one
abbrev pub is_root : {N : Type 0} → Answer N → Bool
is_root (question.Named kind.Root name written) = true
is_root _ = false

abbrev pub has_key : {N : Type 0} → (N → N → Bool) → Expanded → List ℕ → N → Program N Bool
has_key same name value n = Ask (question.Key name value) (λ a. Give (list_any (same n) (nodes_in a)))

abbrev pub starts_at : {N : Type 0} → (N → N → Bool) → Start (List ℕ) Expanded → N → Answer N → Program N Bool
starts_at same Anywhere n called = Give true
starts_at same Root n called = Give (is_root called)
starts_at same (Id text) n called = Give false
starts_at same (Key None value) n called = Give false
starts_at same (Key (Some name) value) n called = has_key same name value n

-- what is asked of a node, after what it is called
abbrev pub when_called : {N : Type 0} → (N → Answer N → Program N Bool) → N → Program N Bool
when_called test n = Ask (question.Name n) (λ called. test n called)

-- the first step of a pattern that starts anywhere asks nothing of what is above
abbrev pub is_free : Start (List ℕ) Expanded → List PatternStep → Bool
is_free Anywhere [] = true
is_free _ _ = false

-- whether what stands before a step holds of a node above
abbrev pub holds_above : {N : Type 0} → Bool → (N → Answer N → Program N Bool) → Separator → N → Program N Bool
holds_above free before separator n =
    if free then Give true
    else Ask (question.Step n (axis_above separator) (OfType type.Node)) (λ a. holds_of_one (when_called before) (nodes_in a))

-- whether a node matches steps, of which the last comes first
abbrev pub matches_steps : {N : Type 0} → (N → N → Bool) → Context N → Start (List ℕ) Expanded → List PatternStep → N → Answer N → Program N Bool
matches_steps same c start [] n called = starts_at same start n called
matches_steps same c start (s ∷ before) n called =
    passes_step same c s.step n called >>= λ b. if b
    then holds_above (is_free start before) (matches_steps same c start before) s.separator n
    else Give false

abbrev pub matches_alternative : {N : Type 0} → (N → N → Bool) → Context N → Alternative → N → Answer N → Program N Bool
matches_alternative same c a n called = matches_steps same c a.start (reverse a.steps) n called

-- a pattern matches where one of its alternatives does
abbrev pub matches_one : {N : Type 0} → (N → N → Bool) → Context N → List Alternative → N → Answer N → Program N Bool
matches_one same c [] n called = Give false
matches_one same c (a ∷ more) n called = matches_alternative same c a n called >>= λ b. if b then Give true else matches_one same c more n called

abbrev pub matches : {N : Type 0} → (N → N → Bool) → Context N → Pattern → N → Program N Bool
matches same c pattern n = when_called (matches_one same c pattern.alternatives) n
