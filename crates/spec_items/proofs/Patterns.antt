-- Patterns, numbers, texts and keys, where the content of an xsl:for-each stands and where its template is run.
use Rattle.std.proofs.Common.{◌≡◌, ℕ, ◌+◌, List, [], ◌∷◌, ◌++◌, length, Bool, cond, Option, None, Some, refl, sym, subst, not}
use Rattle.std.specs.Prelude.{◌||◌, pos, reverse, bytes_eq, codes}
use mathlib.Core.List.{reverse_aux}
use Rattle.spec_document.specs.declared.axis.Axis.{Axis}
use Rattle.spec_document.specs.declared.axis.Axis.TheVariants as axis
use Rattle.spec_document.specs.Name.{Expanded, QName, is_ncname, qname_of}
use Rattle.spec_document.specs.Scope.{Scope}
use Rattle.spec_document.specs.Declaration.{element_name, attribute_name, is_reserved_target}
use Rattle.spec_expression.specs.Number.{Number, whole, number_of}
use Rattle.spec_expression.specs.Syntax as tree
use Rattle.spec_expression.specs.Syntax.{Expr, Exprs, no_exprs, expr, Step}
use Rattle.spec_stylesheet.specs.declared.number_level.NumberLevel.{NumberLevel}
use Rattle.spec_stylesheet.specs.declared.number_level.NumberLevel.TheVariants.{Single, Multiple, Any}
use Rattle.spec_stylesheet.specs.declared.pattern.Start.{Start}
use Rattle.spec_stylesheet.specs.declared.pattern.Start.TheVariants.{Anywhere, Root, Id, Key}
use Rattle.spec_stylesheet.specs.Pattern.{Pattern, PatternStep, Alternative}
use Rattle.spec_stylesheet.specs.ValueTemplate as template
use Rattle.spec_stylesheet.specs.ValueTemplate.{Avt, AvtPart}
use Rattle.spec_stylesheet.specs.Instruction.{MadeName, SortKey, Count, NumberSource, FromValue, FromCount, Numbering}
use Rattle.spec_meaning.specs.Question.{Answer, nodes_in}
use Rattle.spec_meaning.specs.Program.{Program, then}
use Rattle.spec_meaning.specs.Context.{Context}
use Rattle.spec_transform.specs.Expansion.{part_text, joined}
use Rattle.spec_transform.specs.Match.{passes, caught, is_kept, all_kept, position_of, is_kept_there, keep, keep_alone, holds_of_one}
use Rattle.spec_transform.specs.Match.{passes_predicates, passes_step, starts_at, is_free, matches_steps}
use Rattle.spec_transform.specs.Match.{matches_one, matches}
use Rattle.spec_transform.specs.Position.{read_no_position}
use Rattle.spec_transform.specs.Sorted.{Criterion, second_of, criterion_meant, key_of_text, key_meant}
use Rattle.spec_transform.specs.Numbering as numbering
use Rattle.spec_transform.specs.Numbering.{names_in, names_in_all, names_in_alternative, names_in_pattern, referred_to, at_asked, matches_there, Counted}
use Rattle.spec_transform.specs.Numbering.{Matching, CalledAs, is_counted, counted_by, up_to, cut_by, on_axis, upward, nearest_first, backward, how_many}
use Rattle.spec_transform.specs.Numbering.{number_among, of_all, of_count, at_level, numbers, numbers_meant, expanded_if, number_meant}
use Rattle.spec_run.specs.Names.{namespace_meant, element_in, element_called, is_barred, element_meant, attribute_in, has_xmlns, attribute_called}
use Rattle.spec_run.specs.Names.{attribute_meant, instruction_meant}
use Rattle.spec_run.specs.Content.{text_meant, nodes_meant, truth_meant}
use Rattle.spec_items.specs.Mentioned.{names_in_part, names_in_parts, names_in_avt, names_if_avt, names_in_source, names_in_numbering, names_in_made}
use Rattle.spec_items.proofs.Calm.{Calm, then_calm, either_calm, given_calm, to_text_calm, to_number_calm, to_nodes_calm}
use Rattle.spec_items.proofs.Follow.{View, Follow, gives, refuses, asks, needs, knows, then_follow, calm_follow, either_follow, Beside, beside, Stands}
use Rattle.spec_items.proofs.Follow.{stands, stands_front, stands_back, beside_front, beside_back, at_node_stands, meaning_follow}

-- ---- predicates
caught_follow : {N : Type 0} {W : View} {p q : Program N Bool} → Follow W p q → Follow W (caught p) (caught q)
unfolding caught
caught_follow gives = gives
caught_follow refuses = gives
caught_follow (asks h next) = asks h (λ x. caught_follow (next x))
caught_follow (needs h next) = needs h (λ x. caught_follow (next x))
caught_follow (knows n h f) = knows n h (caught_follow f)

is_kept_follow : {N : Type 0} {W : View} (p : Expr) {c d : Context N} → Beside (names_in p) c d → (size position : ℕ) (n : N)
    → Follow W (is_kept p c size position n) (is_kept p d size position n)
is_kept_follow p h size position n = caught_follow (then_follow (meaning_follow p (at_node_stands h n position size)) (λ v. gives))

all_kept_follow : {N : Type 0} {W : View} (p : Expr) {c d : Context N} → Beside (names_in p) c d → (size position : ℕ) (done ns : List N)
    → Follow W (all_kept p c size position done ns) (all_kept p d size position done ns)
all_kept_follow p h size position done [] = gives
all_kept_follow p h size position done (n ∷ ns) =
    then_follow (is_kept_follow p h size position n) (λ b. all_kept_follow p h size (position + 1) (cond b (done ++ n ∷ []) done) ns)

there_follow : {N : Type 0} {W : View} (p : Expr) {c d : Context N} → Beside (names_in p) c d → (size : ℕ) (n : N) (o : Option ℕ)
    → Follow W (is_kept_there p c size n o) (is_kept_there p d size n o)
there_follow p h size n None = gives
there_follow p h size n (Some position) = is_kept_follow p h size position n

keep_follow : {N : Type 0} {W : View} (same : N → N → Bool) {c d : Context N} (n : N) (ps : Exprs) → Beside (names_in_all ps) c d → (ns : List N)
    → Follow W (keep same c n ps ns) (keep same d n ps ns)
keep_follow same n no_exprs h ns = gives
keep_follow same n (expr p no_exprs) h ns = there_follow p (beside_front (names_in p) [] h) (length ns) n (position_of same n 1 ns)
keep_follow same n (expr p (expr q ps)) h ns =
    then_follow (all_kept_follow p (beside_front (names_in p) (names_in_all (expr q ps)) h) (length ns) 1 [] ns)
    (λ ms. keep_follow same n (expr q ps) (beside_back (names_in p) (names_in_all (expr q ps)) h) ms)

alone_follow : {N : Type 0} {W : View} {c d : Context N} (n : N) (ps : Exprs) → Beside (names_in_all ps) c d
    → Follow W (keep_alone c n ps) (keep_alone d n ps)
alone_follow n no_exprs h = gives
alone_follow n (expr p ps) h =
    then_follow (is_kept_follow p (beside_front (names_in p) (names_in_all ps) h) 1 1 n)
    (λ b. either_follow b (alone_follow n ps (beside_back (names_in p) (names_in_all ps) h)) gives)

-- ---- steps
holds_follow : {N : Type 0} {W : View} {f g : N → Program N Bool} → ((n : N) → Follow W (f n) (g n)) → (ns : List N)
    → Follow W (holds_of_one f ns) (holds_of_one g ns)
holds_follow alike [] = gives
holds_follow alike (n ∷ ns) = then_follow (alike n) (λ b. either_follow b gives (holds_follow alike ns))

predicates_follow : {N : Type 0} {W : View} (same : N → N → Bool) {c d : Context N} (s : Step) → Beside (names_in_all s.predicates) c d → (n : N)
    → Follow W (passes_predicates same c s n) (passes_predicates same d s n)
predicates_follow same s h n =
    either_follow (read_no_position s.predicates) (alone_follow n s.predicates h)
    (asks tt (λ x. holds_follow (λ parent. asks tt (λ y. keep_follow same n s.predicates h (nodes_in y))) (nodes_in x)))

step_follow : {N : Type 0} {W : View} (same : N → N → Bool) {c d : Context N} (s : Step) → Beside (names_in_all s.predicates) c d → (n : N) (called : Answer N)
    → Follow W (passes_step same c s n called) (passes_step same d s n called)
step_follow same s h n called = either_follow (passes s.axis s.test called) (predicates_follow same s h n) gives

-- ---- patterns
starts_calm : {N : Type 0} (same : N → N → Bool) (start : Start (List ℕ) Expanded) (n : N) (called : Answer N) → Calm (starts_at same start n called)
starts_calm same Anywhere n called = Calm.gives
starts_calm same Root n called = Calm.gives
starts_calm same (Id id) n called = Calm.gives
starts_calm same (Key None value) n called = Calm.gives
starts_calm same (Key (Some name) value) n called = Calm.asks tt (λ x. Calm.gives)

-- the predicates of all steps
abbrev BesideSteps : {N : Type 0} → Context N → Context N → List PatternStep → Type 0
BesideSteps c d [] = Unit {0}
BesideSteps c d (s ∷ ss) = Beside (names_in_all s.step.predicates) c d × BesideSteps c d ss

besides_turned : {N : Type 0} (c d : Context N) (ss before : List PatternStep) → BesideSteps c d ss → BesideSteps c d before
    → BesideSteps c d (reverse_aux ss before)
besides_turned c d [] before h g = g
besides_turned c d (s ∷ ss) before h g = besides_turned c d ss (s ∷ before) h.1 (h.0, g)

all_besides : {N : Type 0} {c d : Context N} (a : Alternative) (ss : List PatternStep)
    → Beside (names_in_alternative (record { start = a.start; steps = ss })) c d → BesideSteps c d ss
all_besides a [] h = tt
all_besides a (s ∷ ss) h =
    let rest = names_in_alternative (record { start = a.start; steps = ss }) in
    (beside_front (names_in_all s.step.predicates) rest h, all_besides a ss (beside_back (names_in_all s.step.predicates) rest h))

-- a test of a node that is called so
abbrev TestsFollow : {N : Type 0} → View → (N → Answer N → Program N Bool) → (N → Answer N → Program N Bool) → Type 0
TestsFollow {N = N} W test other = (n : N) (called : Answer N) → Follow W (test n called) (other n called)

steps_follow : {N : Type 0} {W : View} (same : N → N → Bool) (c d : Context N) (start : Start (List ℕ) Expanded) (ss : List PatternStep) → BesideSteps c d ss
    → TestsFollow W (matches_steps same c start ss) (matches_steps same d start ss)
steps_follow same c d start [] h n called = calm_follow (starts_calm same start n called)
steps_follow same c d start (s ∷ before) h n called =
    then_follow (step_follow same s.step h.0 n called)
    (λ b. either_follow b
    (either_follow (is_free start before) gives
    (asks tt (λ x. holds_follow (λ m. asks tt (λ y. steps_follow same c d start before h.1 m y)) (nodes_in x))))
    gives)

one_follow : {N : Type 0} {W : View} (same : N → N → Bool) {c d : Context N} (alternatives : List Alternative)
    → Beside (names_in_pattern (Some (record { alternatives = alternatives }))) c d
    → TestsFollow W (matches_one same c alternatives) (matches_one same d alternatives)
one_follow same [] h n called = gives
one_follow same {c = c} {d = d} (a ∷ more) h n called =
    let rest = names_in_pattern (Some (record { alternatives = more })) in
    then_follow (steps_follow same c d a.start (reverse a.steps)
    (besides_turned c d a.steps [] (all_besides a a.steps (beside_front (names_in_alternative a) rest h)) tt) n called)
    (λ b. either_follow b gives (one_follow same more (beside_back (names_in_alternative a) rest h) n called))

pub matches_follow : {N : Type 0} {W : View} (same : N → N → Bool) {c d : Context N} (pattern : Pattern) → Beside (names_in_pattern (Some pattern)) c d → (n : N)
    → Follow W (matches same c pattern n) (matches same d pattern n)
matches_follow same pattern h n = asks tt (λ called. one_follow same pattern.alternatives h n called)

-- ---- numbers
referred_follow : {N : Type 0} {W : View} (names : List Expanded) {c d : Context N} → Stands W names c d → Follow W (referred_to names c) (referred_to names d)
referred_follow [] h = gives
referred_follow (name ∷ names) h =
    then_follow (meaning_follow (tree.variable name) (stands_front (name ∷ []) names h)) (λ v. referred_follow names (stands_back (name ∷ []) names h))

asked_beside : {N : Type 0} {W : View} {names : List Expanded} {c d : Context N} → Stands W names c d → (n : N) → Beside names (at_asked c n) (at_asked d n)
asked_beside (stands p s h) n = beside h

there_matches : {N : Type 0} {W : View} (same : N → N → Bool) (pattern : Pattern) {c d : Context N} → Stands W (names_in_pattern (Some pattern)) c d → (n : N)
    → Follow W (matches_there same c pattern n) (matches_there same d pattern n)
there_matches same pattern h n = matches_follow same pattern (asked_beside h n) n

node_same : {N : Type 0} {W : View} {names : List Expanded} {c d : Context N} → Stands W names c d → c.node ≡ d.node
node_same (stands p s h) = refl

scope_same : {N : Type 0} {W : View} {names : List Expanded} {c d : Context N} → Stands W names c d → c.scope ≡ d.scope
scope_same (stands p s h) = refl

-- what is counted, where `count` is this
abbrev IsOf : {N : Type 0} → Option Pattern → Counted N → Type 0
IsOf None (Matching pattern) = ⊥
IsOf None (CalledAs called) = Unit {0}
IsOf (Some count) (Matching pattern) = pattern ≡ count
IsOf (Some count) (CalledAs called) = ⊥

is_counted_follow : {N : Type 0} {W : View} (same : N → N → Bool) (count : Option Pattern) {c d : Context N} → Stands W (names_in_pattern count) c d → (x : Counted N)
    → IsOf count x → (n : N) → Follow W (is_counted same c x n) (is_counted same d x n)
is_counted_follow same None h (Matching pattern) e n = absurd e
is_counted_follow {W = W} same (Some count) {c = c} {d = d} h (Matching pattern) e n =
    there_matches same pattern (subst (λ p. Stands W (names_in_pattern (Some p)) c d) (sym e) h) n
is_counted_follow same count h (CalledAs called) e n = asks tt (λ x. gives)

up_to_follow : {N : Type 0} {W : View} {f g : N → Program N Bool} → ((n : N) → Follow W (f n) (g n)) → (done ns : List N)
    → Follow W (up_to f done ns) (up_to g done ns)
up_to_follow alike done [] = gives
up_to_follow alike done (n ∷ ns) = then_follow (alike n) (λ b. either_follow b gives (up_to_follow alike (done ++ n ∷ []) ns))

cut_by_follow : {N : Type 0} {W : View} (same : N → N → Bool) (from : Option Pattern) {c d : Context N} → Stands W (names_in_pattern from) c d → (ns : List N)
    → Follow W (cut_by same c from ns) (cut_by same d from ns)
cut_by_follow same None h ns = gives
cut_by_follow same (Some from) h ns = up_to_follow (there_matches same from h) [] ns

on_axis_calm : {N : Type 0} (axis : Axis) (n : N) → Calm (on_axis axis n)
on_axis_calm axis n = Calm.asks tt (λ x. Calm.gives)

upward_follow : {N : Type 0} {W : View} (same : N → N → Bool) (from : Option Pattern) {c d : Context N} → Stands W (names_in_pattern from) c d
    → Follow W (upward same c from) (upward same d from)
upward_follow same from (stands {n = n} p s h) =
    then_follow (calm_follow (on_axis_calm axis.Ancestor _)) (λ above. then_follow (cut_by_follow same from (stands {n = n} p s h) above) (λ ns. gives))

nearest_calm : {N : Type 0} (from : Option Pattern) (ns : List N) → Calm (nearest_first from ns)
nearest_calm None ns = Calm.gives
nearest_calm (Some from) ns = Calm.asks tt (λ x. Calm.gives)

backward_follow : {N : Type 0} {W : View} (same : N → N → Bool) (from : Option Pattern) {c d : Context N} → Stands W (names_in_pattern from) c d
    → Follow W (backward same c from) (backward same d from)
backward_follow same from (stands {n = n} p s h) =
    then_follow (calm_follow (on_axis_calm axis.Ancestor _)) (λ above. then_follow (calm_follow (on_axis_calm axis.Preceding _)) (λ before.
    then_follow (calm_follow (nearest_calm from (above ++ before))) (λ all.
    then_follow (cut_by_follow same from (stands {n = n} p s h) all) (λ ns. gives))))

how_many_follow : {N : Type 0} {W : View} {f g : N → Program N Bool} → ((n : N) → Follow W (f n) (g n)) → (k : ℕ) (ns : List N)
    → Follow W (how_many f k ns) (how_many g k ns)
how_many_follow alike k [] = gives
how_many_follow alike k (n ∷ ns) = then_follow (alike n) (λ b. how_many_follow alike (cond b (k + 1) k) ns)

number_among_follow : {N : Type 0} {W : View} {f g : N → Program N Bool} → ((n : N) → Follow W (f n) (g n)) → (n : N)
    → Follow W (number_among f n) (number_among g n)
number_among_follow alike n =
    then_follow (calm_follow (on_axis_calm axis.PrecedingSibling n)) (λ before.
    then_follow (how_many_follow alike 1 before) (λ k. calm_follow (given_calm (whole (pos k)))))

of_first_follow : {N : Type 0} {W : View} {f g : N → Program N Bool} → ((n : N) → Follow W (f n) (g n)) → (ns : List N)
    → Follow W (numbering.of_first f ns) (numbering.of_first g ns)
of_first_follow alike [] = gives
of_first_follow alike (n ∷ ns) =
    then_follow (alike n) (λ b. either_follow b (then_follow (number_among_follow alike n) (λ m. gives)) (of_first_follow alike ns))

of_all_follow : {N : Type 0} {W : View} {f g : N → Program N Bool} → ((n : N) → Follow W (f n) (g n)) → (done : List Number) (ns : List N)
    → Follow W (of_all f done ns) (of_all g done ns)
of_all_follow alike done [] = gives
of_all_follow alike done (n ∷ ns) =
    then_follow (alike n) (λ b.
    either_follow b (then_follow (number_among_follow alike n) (λ m. of_all_follow alike (m ∷ done) ns)) (of_all_follow alike done ns))

of_count_follow : {N : Type 0} {W : View} {f g : N → Program N Bool} → ((n : N) → Follow W (f n) (g n)) → (ns : List N)
    → Follow W (of_count f ns) (of_count g ns)
of_count_follow alike ns =
    then_follow (how_many_follow alike 0 ns) (λ k. calm_follow (then_calm (given_calm (whole (pos k))) (λ m. Calm.gives)))

at_level_follow : {N : Type 0} {W : View} (same : N → N → Bool) (level : NumberLevel) (from : Option Pattern) {c d : Context N} → Stands W (names_in_pattern from) c d
    → {f g : N → Program N Bool} → ((n : N) → Follow W (f n) (g n)) → Follow W (at_level same c level from f) (at_level same d level from g)
at_level_follow same Single from h tests = then_follow (upward_follow same from h) (λ ns. of_first_follow tests ns)
at_level_follow same Multiple from h tests = then_follow (upward_follow same from h) (λ ns. of_all_follow tests [] ns)
at_level_follow same Any from h tests = then_follow (backward_follow same from h) (λ ns. of_count_follow tests ns)

-- by what is counted
counted_follow : {N A : Type 0} {W : View} (count : Option Pattern) {c d : Context N} → Stands W (names_in_pattern count) c d → {f g : Counted N → Program N A}
    → ((x : Counted N) → IsOf count x → Follow W (f x) (g x)) → Follow W (then (counted_by count c) f) (then (counted_by count d) g)
unfolding then
counted_follow None (stands p s h) k = asks tt (λ x. k (CalledAs x) tt)
counted_follow (Some pattern) h k = k (Matching pattern) refl

numbers_follow : {N : Type 0} {W : View} (same : N → N → Bool) (count : Count) {c d : Context N}
    → Stands W (names_in_pattern count.count ++ names_in_pattern count.from) c d → Follow W (numbers same count c) (numbers same count d)
numbers_follow same count h =
    let of_count = stands_front (names_in_pattern count.count) (names_in_pattern count.from) h in
    then_follow (referred_follow (names_in_pattern count.count ++ names_in_pattern count.from) h) (λ done.
    counted_follow count.count of_count (λ x e.
    at_level_follow same count.level count.from (stands_back (names_in_pattern count.count) (names_in_pattern count.from) h)
    (is_counted_follow same count.count of_count x e)))

-- ---- texts
pub text_meant_follow : {N : Type 0} {W : View} (e : Expr) {c d : Context N} → Stands W (names_in e) c d → Follow W (text_meant e c) (text_meant e d)
text_meant_follow e h = then_follow (meaning_follow e h) (λ v. calm_follow (to_text_calm v))

pub nodes_meant_follow : {N : Type 0} {W : View} (e : Expr) {c d : Context N} → Stands W (names_in e) c d → Follow W (nodes_meant e c) (nodes_meant e d)
nodes_meant_follow e h = then_follow (meaning_follow e h) (λ v. calm_follow (to_nodes_calm v))

pub truth_meant_follow : {N : Type 0} {W : View} (e : Expr) {c d : Context N} → Stands W (names_in e) c d → Follow W (truth_meant e c) (truth_meant e d)
truth_meant_follow e h = then_follow (meaning_follow e h) (λ v. gives)

part_follow : {N : Type 0} {W : View} (part : AvtPart) {c d : Context N} → Stands W (names_in_part part) c d → Follow W (part_text part c) (part_text part d)
part_follow (template.Text t) h = gives
part_follow (template.Value e) h = text_meant_follow e h

pub joined_follow : {N : Type 0} {W : View} (parts : List AvtPart) {c d : Context N} → Stands W (names_in_parts parts) c d
    → Follow W (joined parts c) (joined parts d)
unfolding joined
joined_follow [] h = gives
joined_follow (part ∷ parts) h =
    then_follow (part_follow part (stands_front (names_in_part part) (names_in_parts parts) h)) (λ t.
    then_follow (joined_follow parts (stands_back (names_in_part part) (names_in_parts parts) h)) (λ rest. gives))

if_follow : {N : Type 0} {W : View} (avt : Option Avt) {c d : Context N} → Stands W (names_if_avt avt) c d
    → Follow W (expanded_if avt c) (expanded_if avt d)
if_follow None h = gives
if_follow (Some avt) h = then_follow (joined_follow avt.parts h) (λ text. gives)

source_follow : {N : Type 0} {W : View} (same : N → N → Bool) (source : NumberSource) {c d : Context N} → Stands W (names_in_source source) c d
    → Follow W (numbers_meant same source c) (numbers_meant same source d)
source_follow same (FromValue e) h = then_follow (meaning_follow e h) (λ v. calm_follow (then_calm (to_number_calm v) (λ n. Calm.gives)))
source_follow same (FromCount count) h = numbers_follow same count h

pub number_follow : {N : Type 0} {W : View} (same : N → N → Bool) (n : Numbering) {c d : Context N} → Stands W (names_in_numbering n) c d
    → Follow W (number_meant same n c) (number_meant same n d)
number_follow same n h =
    let texts = names_in_avt n.format ++ (names_if_avt n.grouping_separator ++ names_if_avt n.grouping_size) in
    let last = names_if_avt n.grouping_separator ++ names_if_avt n.grouping_size in
    let behind = stands_back (names_in_source n.source) texts h in
    let grouped = stands_back (names_in_avt n.format) last behind in
    then_follow (source_follow same n.source (stands_front (names_in_source n.source) texts h)) (λ ns.
    then_follow (joined_follow n.format.parts (stands_front (names_in_avt n.format) last behind)) (λ format.
    then_follow (if_follow n.grouping_separator (stands_front (names_if_avt n.grouping_separator) (names_if_avt n.grouping_size) grouped)) (λ separator.
    then_follow (if_follow n.grouping_size (stands_back (names_if_avt n.grouping_separator) (names_if_avt n.grouping_size) grouped)) (λ size. gives))))

-- ---- names that are made
namespace_follow : {N : Type 0} {W : View} (uri : Option Avt) {c d : Context N} → Stands W (names_if_avt uri) c d
    → Follow W (namespace_meant uri c) (namespace_meant uri d)
namespace_follow None h = gives
namespace_follow (Some avt) h = then_follow (joined_follow avt.parts h) (λ uri. gives)

element_in_calm : {N : Type 0} (name : List ℕ) (expanded : Option Expanded) → Calm {N = N} (element_in name expanded)
element_in_calm name None = Calm.refuses
element_in_calm name (Some expanded) = Calm.gives

element_called_calm : {N : Type 0} (scope : Scope) (name : List ℕ) (q : Option QName) (uri : Option (List ℕ)) → Calm {N = N} (element_called scope name q uri)
element_called_calm scope name None uri = Calm.gives
element_called_calm scope name (Some q) None = element_in_calm name (element_name scope q)
element_called_calm scope name (Some q) (Some uri) = Calm.gives

attribute_in_calm : {N : Type 0} (name : List ℕ) (expanded : Option Expanded) → Calm {N = N} (attribute_in name expanded)
attribute_in_calm name None = Calm.refuses
attribute_in_calm name (Some expanded) = Calm.gives

attribute_called_calm : {N : Type 0} (scope : Scope) (name : List ℕ) (q : Option QName) (uri : Option (List ℕ))
    → Calm {N = N} (attribute_called scope name q uri)
attribute_called_calm scope name None (Some uri) = Calm.gives
attribute_called_calm scope name (Some q) (Some uri) = Calm.gives
attribute_called_calm scope name None None = Calm.gives
attribute_called_calm scope name (Some q) None = either_calm (has_xmlns q) Calm.gives (attribute_in_calm name (attribute_name scope q))

-- what is done with the namespaces in scope
by_scope : {N A : Type 0} {W : View} {names : List Expanded} {c d : Context N} → Stands W names c d → (f : Scope → Program N A) → ((s : Scope) → Calm (f s))
    → Follow W (f c.scope) (f d.scope)
by_scope {W = W} {c = c} h f k = subst (λ s. Follow W (f c.scope) (f s)) (scope_same h) (calm_follow (k c.scope))

pub element_follow : {N : Type 0} {W : View} (made : MadeName) {c d : Context N} → Stands W (names_in_made made) c d
    → Follow W (element_meant made c) (element_meant made d)
element_follow made h =
    then_follow (joined_follow made.name.parts (stands_front (names_in_avt made.name) (names_if_avt made.namespace) h)) (λ name.
    then_follow (namespace_follow made.namespace (stands_back (names_in_avt made.name) (names_if_avt made.namespace) h)) (λ uri.
    either_follow (is_barred uri) refuses (by_scope h (λ scope. element_called scope name (qname_of name) uri) (λ scope. element_called_calm scope name (qname_of name) uri))))

pub attribute_follow : {N : Type 0} {W : View} (made : MadeName) {c d : Context N} → Stands W (names_in_made made) c d
    → Follow W (attribute_meant made c) (attribute_meant made d)
attribute_follow made h =
    then_follow (joined_follow made.name.parts (stands_front (names_in_avt made.name) (names_if_avt made.namespace) h)) (λ name.
    then_follow (namespace_follow made.namespace (stands_back (names_in_avt made.name) (names_if_avt made.namespace) h)) (λ uri.
    either_follow (is_barred uri) refuses (by_scope h (λ scope. attribute_called scope name (qname_of name) uri) (λ scope. attribute_called_calm scope name (qname_of name) uri))))

pub instruction_follow : {N : Type 0} {W : View} (target : Avt) {c d : Context N} → Stands W (names_in_avt target) c d
    → Follow W (instruction_meant target c) (instruction_meant target d)
instruction_follow target h =
    then_follow (joined_follow target.parts h) (λ name. either_follow (not (is_ncname name) || is_reserved_target name) refuses gives)

-- ---- sorting
second_calm : {N : Type 0} (first second word : List ℕ) → Calm {N = N} (second_of first second word)
second_calm first second word = either_calm (bytes_eq word first) Calm.gives (either_calm (bytes_eq word second) Calm.gives Calm.refuses)

pub criterion_follow : {N : Type 0} {W : View} (key : SortKey) {c d : Context N} → Stands W (names_in_avt key.data_type ++ names_in_avt key.order) c d
    → Follow W (criterion_meant key c) (criterion_meant key d)
criterion_follow key h =
    then_follow (then_follow (joined_follow key.data_type.parts (stands_front (names_in_avt key.data_type) (names_in_avt key.order) h))
    (λ t. calm_follow (second_calm (codes "text") (codes "number") t))) (λ n.
    then_follow (then_follow (joined_follow key.order.parts (stands_back (names_in_avt key.data_type) (names_in_avt key.order) h))
    (λ t. calm_follow (second_calm (codes "ascending") (codes "descending") t))) (λ descends. gives))

key_text_calm : {N : Type 0} (is_number : Bool) (t : List ℕ) → Calm {N = N} (key_of_text is_number t)
key_text_calm is_number t = either_calm is_number (then_calm (given_calm (number_of t)) (λ n. Calm.gives)) Calm.gives

pub key_follow : {N : Type 0} {W : View} (key : SortKey) (criterion : Criterion) {c d : Context N} → Stands W (names_in key.select) c d
    → Follow W (key_meant key criterion c) (key_meant key criterion d)
key_follow key criterion h =
    then_follow (meaning_follow key.select h) (λ v. then_follow (calm_follow (to_text_calm v)) (λ t. calm_follow (key_text_calm criterion.is_number t)))
