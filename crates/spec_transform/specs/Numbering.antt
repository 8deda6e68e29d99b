-- Numbers (XSLT 1.0, section 7.7): the list of numbers that an xsl:number counts, or that is its value, and the text of that by its format.
-- In the source each step asks what it needs, the nearest nodes first: the variables that the patterns name; the nodes before the one that is
-- numbered; whether they match `from`, up to the first that does; and whether those that are left match `count`.
use Rattle.std.specs.Prelude.{ℕ, pos, ◌+◌, Bool, true, false, ◌&&◌, List, [], ◌∷◌, ◌++◌, reverse, Option, None, Some, if◌then◌else◌}
use Rattle.std.specs.List.{flat_map}
use Rattle.spec_document.specs.Name.{Expanded, same_name}
use Rattle.spec_document.specs.declared.axis.Axis.{Axis}
use Rattle.spec_document.specs.declared.axis.Axis.TheVariants as axis
use Rattle.spec_document.specs.declared.kind.Kind.{Kind}
use Rattle.spec_document.specs.declared.kind.Kind.TheVariants as kind
use Rattle.spec_expression.specs.declared.NodeType.TheVariants as type
use Rattle.spec_expression.specs.Syntax.{OfType, Expr, number, literal, variable, call, chain, negation, filter, root, here, path, Exprs, no_exprs, expr, Links, no_links, link, Steps, no_steps, step}
use Rattle.spec_expression.specs.Number.{Number, whole}
use Rattle.spec_format.specs.Format.{Grouping, grouping_size, split, written}
use Rattle.spec_stylesheet.specs.declared.number_level.NumberLevel.{NumberLevel}
use Rattle.spec_stylesheet.specs.declared.number_level.NumberLevel.TheVariants.{Single, Multiple, Any}
use Rattle.spec_stylesheet.specs.Pattern.{Alternative, Pattern}
use Rattle.spec_stylesheet.specs.ValueTemplate.{Avt}
use Rattle.spec_stylesheet.specs.Instruction.{Count, NumberSource, FromValue, FromCount, Numbering}
use Rattle.spec_meaning.specs.Question as question
use Rattle.spec_meaning.specs.Question.{Answer, nodes_in}
use Rattle.spec_meaning.specs.Program.{Program, Give, Ask, ◌>>=◌}
use Rattle.spec_meaning.specs.Context.{Context}
use Rattle.spec_meaning.specs.Convert.{given, to_number}
use Rattle.spec_meaning.specs.Meaning.{meaning}
use Rattle.spec_transform.specs.Match.{matches}
use Rattle.spec_transform.specs.Expansion.{expanded}

-- ---- The variables that stand in a pattern, in the order of its text

abbrev mutual
  pub names_in : Expr → List Expanded
  names_in (number n) = []
  names_in (literal text) = []
  names_in (variable name) = name ∷ []
  names_in (call name arguments) = names_in_all arguments
  names_in (chain e more) = names_in e ++ names_in_links more
  names_in (negation signs e) = names_in e
  names_in (filter e predicates) = names_in e ++ names_in_all predicates
  names_in root = []
  names_in here = []
  names_in (path e steps) = names_in e ++ names_in_steps steps

  pub names_in_all : Exprs → List Expanded
  names_in_all no_exprs = []
  names_in_all (expr e es) = names_in e ++ names_in_all es

  pub names_in_links : Links → List Expanded
  names_in_links no_links = []
  names_in_links (link operator e more) = names_in e ++ names_in_links more

  pub names_in_steps : Steps → List Expanded
  names_in_steps no_steps = []
  names_in_steps (step axis test predicates more) = names_in_all predicates ++ names_in_steps more

abbrev pub names_in_alternative : Alternative → List Expanded
names_in_alternative a = flat_map (λ s. names_in_all s.step.predicates) a.steps

abbrev pub names_in_pattern : Option Pattern → List Expanded
names_in_pattern None = []
names_in_pattern (Some pattern) = flat_map names_in_alternative pattern.alternatives

-- they are referred to, whether or not a node is asked that reads them; what they are is no matter here
abbrev pub referred_to : {N : Type 0} → List Expanded → Context N → Program N (Unit {0})
referred_to [] c = Give tt
referred_to (name ∷ names) c = meaning (variable name) c >>= λ v. referred_to names c

-- ---- Whether a node is counted

-- where a pattern stands when a node is asked: the current node stays so, and position and size are those of its predicates alone
abbrev pub at_asked : {N : Type 0} → Context N → N → Context N
at_asked c n = record { node = n; current = c.current; position = None; size = None; bindings = c.bindings; scope = c.scope }

abbrev pub matches_there : {N : Type 0} → (N → N → Bool) → Context N → Pattern → N → Program N Bool
matches_there same c pattern n = matches same (at_asked c n) pattern n

abbrev pub same_kind : Kind → Kind → Bool
same_kind kind.Root kind.Root = true
same_kind kind.Element kind.Element = true
same_kind kind.Attribute kind.Attribute = true
same_kind kind.Namespace kind.Namespace = true
same_kind kind.Text kind.Text = true
same_kind kind.Comment kind.Comment = true
same_kind kind.Instruction kind.Instruction = true
same_kind _ _ = false

abbrev pub same_if_named : Option Expanded → Option Expanded → Bool
same_if_named None None = true
same_if_named (Some a) (Some b) = same_name a b
same_if_named _ _ = false

-- of one kind, and of one expanded-name where they have any
abbrev pub called_alike : {N : Type 0} → Answer N → Answer N → Bool
called_alike (question.Named k name written) (question.Named l other also) = same_kind k l && same_if_named name other
called_alike _ _ = false

-- what is counted: the nodes that match `count`; without it those that are called as the node that is numbered
pub data Counted (N : Type 0) : Type 0 where
  Matching : (pattern : Pattern) → Counted N
  CalledAs : (called : Answer N) → Counted N

abbrev pub is_counted : {N : Type 0} → (N → N → Bool) → Context N → Counted N → N → Program N Bool
is_counted same c (Matching pattern) n = matches_there same c pattern n
is_counted same c (CalledAs called) n = Ask (question.Name n) (λ a. Give (called_alike called a))

-- the node that is numbered is asked once what it is called
abbrev pub counted_by : {N : Type 0} → Option Pattern → Context N → Program N (Counted N)
counted_by None c = Ask (question.Name c.node) (λ a. Give (CalledAs a))
counted_by (Some pattern) c = Give (Matching pattern)

-- ---- Which nodes may be counted, the nearest first

-- those before the first of which something holds, which are asked up to that; after those so far
abbrev pub up_to : {N : Type 0} → (N → Program N Bool) → List N → List N → Program N (List N)
up_to test done [] = Give done
up_to test done (n ∷ ns) = test n >>= λ b. if b then Give done else up_to test (done ++ n ∷ []) ns

-- those that are nearer than the nearest that matches `from`; without such a one, and without `from`, all
abbrev pub cut_by : {N : Type 0} → (N → N → Bool) → Context N → Option Pattern → List N → Program N (List N)
cut_by same c None ns = Give ns
cut_by same c (Some from) ns = up_to (matches_there same c from) [] ns

abbrev pub on_axis : {N : Type 0} → Axis → N → Program N (List N)
on_axis axis n = Ask (question.Step n axis (OfType type.Node)) (λ a. Give (nodes_in a))

-- for single and multiple the node and its ancestors, below the nearest ancestor that matches `from`
abbrev pub upward : {N : Type 0} → (N → N → Bool) → Context N → Option Pattern → Program N (List N)
upward same c from = on_axis axis.Ancestor c.node >>= λ above. cut_by same c from above >>= λ ns. Give (c.node ∷ ns)

-- nodes in document order, the last one first; their order is of no matter where all are counted
abbrev pub nearest_first : {N : Type 0} → Option Pattern → List N → Program N (List N)
nearest_first None ns = Give ns
nearest_first (Some from) ns = Ask (question.Order ns) (λ a. Give (reverse (nodes_in a)))

-- for any the node, its ancestors and the nodes before it, after the nearest of these that matches `from`
abbrev pub backward : {N : Type 0} → (N → N → Bool) → Context N → Option Pattern → Program N (List N)
backward same c from =
    on_axis axis.Ancestor c.node >>= λ above. on_axis axis.Preceding c.node >>= λ before. nearest_first from (above ++ before) >>= λ all.
    cut_by same c from all >>= λ ns. Give (c.node ∷ ns)

-- ---- The numbers

-- how many of these nodes are counted, after so many
abbrev pub how_many : {N : Type 0} → (N → Program N Bool) → ℕ → List N → Program N ℕ
how_many test k [] = Give k
how_many test k (n ∷ ns) = test n >>= λ b. how_many test (if b then k + 1 else k) ns

-- a node is one more than the siblings before it that are counted
abbrev pub number_among : {N : Type 0} → (N → Program N Bool) → N → Program N Number
number_among test n = on_axis axis.PrecedingSibling n >>= λ before. how_many test 1 before >>= λ k. given (whole (pos k))

-- the number of the first node that is counted
abbrev pub of_first : {N : Type 0} → (N → Program N Bool) → List N → Program N (List Number)
of_first test [] = Give []
of_first test (n ∷ ns) = test n >>= λ b. if b then (number_among test n >>= λ m. Give (m ∷ [])) else of_first test ns

-- the numbers of all nodes that are counted, those of the further ones in front
abbrev pub of_all : {N : Type 0} → (N → Program N Bool) → List Number → List N → Program N (List Number)
of_all test done [] = Give done
of_all test done (n ∷ ns) = test n >>= λ b. if b then (number_among test n >>= λ m. of_all test (m ∷ done) ns) else of_all test done ns

-- how many are counted; this is a number even where none is
abbrev pub of_count : {N : Type 0} → (N → Program N Bool) → List N → Program N (List Number)
of_count test ns = how_many test 0 ns >>= λ k. given (whole (pos k)) >>= λ m. Give (m ∷ [])

abbrev pub at_level : {N : Type 0} → (N → N → Bool) → Context N → NumberLevel → Option Pattern → (N → Program N Bool) → Program N (List Number)
at_level same c Single from test = upward same c from >>= λ ns. of_first test ns
at_level same c Multiple from test = upward same c from >>= λ ns. of_all test [] ns
at_level same c Any from test = backward same c from >>= λ ns. of_count test ns

abbrev pub numbers : {N : Type 0} → (N → N → Bool) → Count → Context N → Program N (List Number)
numbers same count c =
    referred_to (names_in_pattern count.count ++ names_in_pattern count.from) c >>= λ done.
    counted_by count.count c >>= λ counted. at_level same c count.level count.from (is_counted same c counted)

-- ---- The text

abbrev pub numbers_meant : {N : Type 0} → (N → N → Bool) → NumberSource → Context N → Program N (List Number)
numbers_meant same (FromValue e) c = meaning e c >>= λ v. to_number v >>= λ n. Give (n ∷ [])
numbers_meant same (FromCount count) c = numbers same count c

-- where it is there
abbrev pub expanded_if : {N : Type 0} → Option Avt → Context N → Program N (Option (List ℕ))
expanded_if None c = Give None
expanded_if (Some avt) c = expanded avt c >>= λ text. Give (Some text)

-- digits are grouped where both are there and the size is one
abbrev pub grouping_with : List ℕ → Option ℕ → Option Grouping
grouping_with separator None = None
grouping_with separator (Some size) = Some (record { separator = separator; size = size })

abbrev pub grouping_by : Option (List ℕ) → Option (List ℕ) → Option Grouping
grouping_by (Some separator) (Some size) = grouping_with separator (grouping_size size)
grouping_by _ _ = None

abbrev pub number_meant : {N : Type 0} → (N → N → Bool) → Numbering → Context N → Program N (List ℕ)
number_meant same n c =
    numbers_meant same n.source c >>= λ ns. expanded n.format c >>= λ format. expanded_if n.grouping_separator c >>= λ separator.
    expanded_if n.grouping_size c >>= λ size. Give (written (split format) ns (grouping_by separator size))
