-- What a number is, and the text of it, never looks at the name of a node, where names are told apart alike.
use Rattle.std.proofs.Common.{◌≡◌, ℕ, ◌+◌, List, [], ◌∷◌, ◌++◌, Bool, Option, None, Some, Result, Ok, Err, refl}
use Rattle.std.specs.Prelude.{pos, if◌then◌else◌}
use Rattle.spec_document.specs.declared.axis.Axis.{Axis}
use Rattle.spec_document.specs.declared.axis.Axis.TheVariants as axis
use Rattle.spec_document.specs.Name.{Expanded}
use Rattle.spec_expression.specs.Number.{Number, Fault, whole, number_of}
use Rattle.spec_expression.specs.Syntax as tree
use Rattle.spec_stylesheet.specs.declared.number_level.NumberLevel.{NumberLevel}
use Rattle.spec_stylesheet.specs.declared.number_level.NumberLevel.TheVariants.{Single, Multiple, Any}
use Rattle.spec_stylesheet.specs.Pattern.{Pattern}
use Rattle.spec_stylesheet.specs.ValueTemplate.{Avt}
use Rattle.spec_stylesheet.specs.Instruction.{Count, NumberSource, FromValue, FromCount, Numbering}
use Rattle.spec_meaning.specs.Value.{Value}
use Rattle.spec_meaning.specs.Question.{Answer}
use Rattle.spec_meaning.specs.Program.{Program}
use Rattle.spec_meaning.specs.Context.{Context}
use Rattle.spec_meaning.specs.Convert.{given, first_text, to_number}
use Rattle.spec_meaning.specs.Related.{Each, none, more, steps, texts, names, orders, Answers, gone, refused, some_nodes, some_text, named, chosen, copied}
use Rattle.spec_meaning.specs.Related.{some_unit, passed, Values, number, text, boolean, nodes, fragment, Contexts, context, Match, gives, refuses, asks}
use Rattle.spec_meaning.proofs.Matching.{Same, then_match, each_append, in_axis_order_match, meaning_match}
use Rattle.spec_transform.specs.Numbering.{referred_to, matches_there, called_alike, Counted, Matching, CalledAs, is_counted, counted_by, up_to, cut_by, on_axis}
use Rattle.spec_transform.specs.Numbering.{upward, nearest_first, backward, how_many, number_among, of_first, of_all, of_count, at_level, names_in_pattern, numbers}
use Rattle.spec_transform.specs.Numbering.{numbers_meant, expanded_if, number_meant}
use Rattle.spec_run.proofs.Asking.{then_same, either_match, nodes_match, text_match, joined_match}
use Rattle.spec_run.proofs.Chosen.{TellAlike, matches_match}

-- ---- whether a node is counted
node_match : {N M : Type 0} {R : N → M → Type 0} {c : Context N} {d : Context M} → Contexts R c d → R c.node d.node
node_match (context h own bs) = h

referred_match : {N M : Type 0} {R : N → M → Type 0} (called : List Expanded) {c : Context N} {d : Context M} → Contexts R c d
    → Match R Same (referred_to called c) (referred_to called d)
referred_match [] h = gives refl
referred_match (name ∷ called) h = then_match (meaning_match (tree.variable name) h) (λ v w e. referred_match called h)

there_match : {N M : Type 0} {R : N → M → Type 0} (same : N → N → Bool) (like : M → M → Bool) → TellAlike R same like → {c : Context N} {d : Context M} → Contexts R c d
    → (pattern : Pattern) (n : N) (m : M) → R n m → Match R Same (matches_there same c pattern n) (matches_there like d pattern m)
there_match same like alike (context h own bs) pattern n m k = matches_match same like alike (context {position = None} {size = None} k own bs) pattern n m k

called_match : {N M : Type 0} {R : N → M → Type 0} {x z : Answer N} {y w : Answer M} → Answers R x y → Answers R z w → called_alike x z ≡ called_alike y w
called_match named gone = refl
called_match named refused = refl
called_match named (some_nodes h) = refl
called_match named some_text = refl
called_match named named = refl
called_match named (chosen h) = refl
called_match named copied = refl
called_match named (some_unit h) = refl
called_match named passed = refl
called_match gone e = refl
called_match refused e = refl
called_match (some_nodes h) e = refl
called_match some_text e = refl
called_match (chosen h) e = refl
called_match copied e = refl
called_match (some_unit h) e = refl
called_match passed e = refl

data BothCounted {N M : Type 0} (R : N → M → Type 0) : Counted N → Counted M → Type 0 where
  both_matching : {pattern : Pattern} → BothCounted R (Matching pattern) (Matching pattern)
  both_called : {x : Answer N} {y : Answer M} → Answers R x y → BothCounted R (CalledAs x) (CalledAs y)

-- what is asked of a node, in both worlds
abbrev AskAlike : {N M : Type 0} → (N → M → Type 0) → (N → Program N Bool) → (M → Program M Bool) → Type 0
AskAlike {N = N} {M = M} R test other = (n : N) (m : M) → R n m → Match R Same (test n) (other m)

is_counted_match : {N M : Type 0} {R : N → M → Type 0} (same : N → N → Bool) (like : M → M → Bool) → TellAlike R same like → {c : Context N} {d : Context M} → Contexts R c d
    → {x : Counted N} {y : Counted M} → BothCounted R x y → AskAlike R (is_counted same c x) (is_counted like d y)
is_counted_match same like alike h (both_matching {pattern = pattern}) n m k = there_match same like alike h pattern n m k
is_counted_match same like alike h (both_called e) n m k = asks (names k) (λ x y f. gives (called_match e f))

counted_by_match : {N M : Type 0} {R : N → M → Type 0} (count : Option Pattern) {c : Context N} {d : Context M} → Contexts R c d
    → Match R (BothCounted R) (counted_by count c) (counted_by count d)
counted_by_match None h = asks (names (node_match h)) (λ x y e. gives (both_called e))
counted_by_match (Some pattern) h = gives both_matching

-- ---- which nodes may be counted
up_to_match : {N M : Type 0} {R : N → M → Type 0} {f : N → Program N Bool} {g : M → Program M Bool} → AskAlike R f g → {done ns : List N} {also ms : List M}
    → Each R done also → Each R ns ms → Match R (Each R) (up_to f done ns) (up_to g also ms)
up_to_match alike sofar none = gives sofar
up_to_match alike sofar (more k ks) =
    then_same (alike _ _ k) (λ b. either_match b (gives sofar) (up_to_match alike (each_append sofar (more k none)) ks))

cut_by_match : {N M : Type 0} {R : N → M → Type 0} (same : N → N → Bool) (like : M → M → Bool) → TellAlike R same like → {c : Context N} {d : Context M} → Contexts R c d
    → (from : Option Pattern) {ns : List N} {ms : List M} → Each R ns ms → Match R (Each R) (cut_by same c from ns) (cut_by like d from ms)
cut_by_match same like alike h None g = gives g
cut_by_match same like alike h (Some from) g = up_to_match (there_match same like alike h from) none g

on_axis_match : {N M : Type 0} {R : N → M → Type 0} (axis : Axis) {n : N} {m : M} → R n m → Match R (Each R) (on_axis axis n) (on_axis axis m)
on_axis_match axis h = asks (steps h) (λ x y e. gives (nodes_match e))

upward_match : {N M : Type 0} {R : N → M → Type 0} (same : N → N → Bool) (like : M → M → Bool) → TellAlike R same like → {c : Context N} {d : Context M} → Contexts R c d
    → (from : Option Pattern) → Match R (Each R) (upward same c from) (upward like d from)
upward_match same like alike h from =
    then_match (on_axis_match axis.Ancestor (node_match h)) (λ ns ms e.
    then_match (cut_by_match same like alike h from e) (λ ns ms e. gives (more (node_match h) e)))

nearest_match : {N M : Type 0} {R : N → M → Type 0} (from : Option Pattern) {ns : List N} {ms : List M} → Each R ns ms
    → Match R (Each R) (nearest_first from ns) (nearest_first from ms)
nearest_match None h = gives h
nearest_match (Some from) h = asks (orders h) (λ x y e. gives (in_axis_order_match axis.Ancestor (nodes_match e)))

backward_match : {N M : Type 0} {R : N → M → Type 0} (same : N → N → Bool) (like : M → M → Bool) → TellAlike R same like → {c : Context N} {d : Context M} → Contexts R c d
    → (from : Option Pattern) → Match R (Each R) (backward same c from) (backward like d from)
backward_match same like alike h from =
    then_match (on_axis_match axis.Ancestor (node_match h)) (λ ns ms above.
    then_match (on_axis_match axis.Preceding (node_match h)) (λ ns ms before.
    then_match (nearest_match from (each_append above before)) (λ ns ms all.
    then_match (cut_by_match same like alike h from all) (λ ns ms e. gives (more (node_match h) e)))))

-- ---- the numbers
given_match : {N M : Type 0} {R : N → M → Type 0} (r : Result Number Fault) → Match R Same (given r) (given r)
given_match (Ok n) = gives refl
given_match (Err fault) = refuses

how_many_match : {N M : Type 0} {R : N → M → Type 0} {f : N → Program N Bool} {g : M → Program M Bool} → AskAlike R f g → (k : ℕ) {ns : List N} {ms : List M}
    → Each R ns ms → Match R Same (how_many f k ns) (how_many g k ms)
how_many_match alike k none = gives refl
how_many_match alike k (more h hs) = then_same (alike _ _ h) (λ b. how_many_match alike (if b then k + 1 else k) hs)

number_among_match : {N M : Type 0} {R : N → M → Type 0} {f : N → Program N Bool} {g : M → Program M Bool} → AskAlike R f g → {n : N} {m : M} → R n m
    → Match R Same (number_among f n) (number_among g m)
number_among_match alike h =
    then_match (on_axis_match axis.PrecedingSibling h) (λ ns ms e. then_same (how_many_match alike 1 e) (λ k. given_match (whole (pos k))))

of_first_match : {N M : Type 0} {R : N → M → Type 0} {f : N → Program N Bool} {g : M → Program M Bool} → AskAlike R f g → {ns : List N} {ms : List M}
    → Each R ns ms → Match R Same (of_first f ns) (of_first g ms)
of_first_match alike none = gives refl
of_first_match alike (more h hs) =
    then_same (alike _ _ h) (λ b. either_match b (then_same (number_among_match alike h) (λ m. gives refl)) (of_first_match alike hs))

of_all_match : {N M : Type 0} {R : N → M → Type 0} {f : N → Program N Bool} {g : M → Program M Bool} → AskAlike R f g → (done : List Number) {ns : List N} {ms : List M}
    → Each R ns ms → Match R Same (of_all f done ns) (of_all g done ms)
of_all_match alike done none = gives refl
of_all_match alike done (more h hs) =
    then_same (alike _ _ h) (λ b.
    either_match b (then_same (number_among_match alike h) (λ m. of_all_match alike (m ∷ done) hs)) (of_all_match alike done hs))

of_count_match : {N M : Type 0} {R : N → M → Type 0} {f : N → Program N Bool} {g : M → Program M Bool} → AskAlike R f g → {ns : List N} {ms : List M}
    → Each R ns ms → Match R Same (of_count f ns) (of_count g ms)
of_count_match alike h = then_same (how_many_match alike 0 h) (λ k. then_same (given_match (whole (pos k))) (λ m. gives refl))

at_level_match : {N M : Type 0} {R : N → M → Type 0} (same : N → N → Bool) (like : M → M → Bool) → TellAlike R same like → {c : Context N} {d : Context M} → Contexts R c d
    → (level : NumberLevel) (from : Option Pattern) {f : N → Program N Bool} {g : M → Program M Bool} → AskAlike R f g
    → Match R Same (at_level same c level from f) (at_level like d level from g)
at_level_match same like alike h Single from tests = then_match (upward_match same like alike h from) (λ ns ms e. of_first_match tests e)
at_level_match same like alike h Multiple from tests = then_match (upward_match same like alike h from) (λ ns ms e. of_all_match tests [] e)
at_level_match same like alike h Any from tests = then_match (backward_match same like alike h from) (λ ns ms e. of_count_match tests e)

pub numbers_match : {N M : Type 0} {R : N → M → Type 0} (same : N → N → Bool) (like : M → M → Bool) → TellAlike R same like → (count : Count)
    {c : Context N} {d : Context M} → Contexts R c d → Match R Same (numbers same count c) (numbers like count d)
numbers_match same like alike count h =
    then_match (referred_match (names_in_pattern count.count ++ names_in_pattern count.from) h) (λ a b e.
    then_match (counted_by_match count.count h) (λ x y e. at_level_match same like alike h count.level count.from (is_counted_match same like alike h e)))

-- ---- the text
first_text_match : {N M : Type 0} {R : N → M → Type 0} {ns : List N} {ms : List M} → Each R ns ms → Match R Same (first_text ns) (first_text ms)
first_text_match none = gives refl
first_text_match (more h hs) = asks (texts h) (λ x y e. gives (text_match e))

to_number_match : {N M : Type 0} {R : N → M → Type 0} {v : Value N} {w : Value M} → Values R v w → Match R Same (to_number v) (to_number w)
to_number_match number = gives refl
to_number_match text = given_match _
to_number_match boolean = gives refl
to_number_match (nodes h) = then_same (first_text_match h) (λ t. given_match (number_of t))
to_number_match fragment = given_match _

source_match : {N M : Type 0} {R : N → M → Type 0} (same : N → N → Bool) (like : M → M → Bool) → TellAlike R same like → (source : NumberSource)
    {c : Context N} {d : Context M} → Contexts R c d → Match R Same (numbers_meant same source c) (numbers_meant like source d)
source_match same like alike (FromValue e) h = then_match (meaning_match e h) (λ v w k. then_same (to_number_match k) (λ n. gives refl))
source_match same like alike (FromCount count) h = numbers_match same like alike count h

expanded_if_match : {N M : Type 0} {R : N → M → Type 0} (avt : Option Avt) {c : Context N} {d : Context M} → Contexts R c d
    → Match R Same (expanded_if avt c) (expanded_if avt d)
expanded_if_match None h = gives refl
expanded_if_match (Some avt) h = then_same (joined_match avt.parts h) (λ text. gives refl)

pub number_meant_match : {N M : Type 0} {R : N → M → Type 0} (same : N → N → Bool) (like : M → M → Bool) → TellAlike R same like → (numbering : Numbering)
    {c : Context N} {d : Context M} → Contexts R c d → Match R Same (number_meant same numbering c) (number_meant like numbering d)
number_meant_match same like alike numbering h =
    then_same (source_match same like alike numbering.source h) (λ ns. then_same (joined_match numbering.format.parts h) (λ format.
    then_same (expanded_if_match numbering.grouping_separator h) (λ separator. then_same (expanded_if_match numbering.grouping_size h) (λ size. gives refl))))
