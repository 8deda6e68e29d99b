-- The choice of a template rule never looks at the name of a node, where names are told apart alike.
use Rattle.std.proofs.Common.{◌≡◌, ℕ, ◌+◌, List, [], ◌∷◌, length, Bool, true, false, cond, Option, None, Some, refl, subst}
use Rattle.std.specs.Prelude.{◌||◌, reverse}
use Rattle.std.specs.List.{list_any}
use Rattle.spec_document.specs.declared.axis.Axis.{Axis}
use Rattle.spec_document.specs.Name.{Expanded}
use Rattle.spec_expression.specs.Syntax.{Test, Expr, Exprs, no_exprs, expr, Step}
use Rattle.spec_stylesheet.specs.declared.pattern.Separator.{Separator}
use Rattle.spec_stylesheet.specs.declared.pattern.Start.{Start}
use Rattle.spec_stylesheet.specs.declared.pattern.Start.TheVariants.{Anywhere, Root, Id, Key}
use Rattle.spec_stylesheet.specs.Pattern.{Pattern, PatternStep, Alternative}
use Rattle.spec_stylesheet.specs.Sheet as sheet
use Rattle.spec_stylesheet.specs.Sheet.{Rule}
use Rattle.spec_meaning.specs.Value.{Value}
use Rattle.spec_meaning.specs.Question.{Answer, Candidates}
use Rattle.spec_meaning.specs.Program.{Program}
use Rattle.spec_meaning.specs.Context.{Context}
use Rattle.spec_meaning.specs.Meaning.{keeps}
use Rattle.spec_meaning.specs.Related.{Each, none, more, steps, names, keys, Answers, gone, refused, some_nodes, some_text, named, chosen, copied, some_unit, passed}
use Rattle.spec_meaning.specs.Related.{Values, number, text, boolean, nodes, fragment, Contexts, context, Match, gives, refuses, asks, needs}
use Rattle.spec_meaning.proofs.Matching.{Same, then_match, each_append, each_length, meaning_match}
use Rattle.spec_transform.specs.Match.{passes, caught, is_kept, all_kept, position_of, is_kept_there, keep, keep_alone, holds_of_one, is_given_below}
use Rattle.spec_transform.specs.Match.{passes_predicates, passes_step, is_root, starts_at, when_called, is_free, holds_above, matches_steps}
use Rattle.spec_transform.specs.Match.{matches_one, matches}
use Rattle.spec_transform.specs.Position.{read_no_position}
use Rattle.spec_transform.specs.Choice as choice
use Rattle.spec_transform.specs.Choice.{may_be_chosen, context_for, first_that_matches}
use Rattle.spec_run.proofs.Asking.{then_same, either_match, nodes_match, to_boolean_match}

-- two tests that tell names apart alike
abbrev pub TellAlike : {N M : Type 0} → (N → M → Type 0) → (N → N → Bool) → (M → M → Bool) → Type 0
TellAlike {N = N} {M = M} R same like = (n o : N) (m p : M) → R n m → R o p → same n o ≡ like m p

-- ---- predicates
passes_match : {N M : Type 0} {R : N → M → Type 0} (axis : Axis) (test : Test) {x : Answer N} {y : Answer M} → Answers R x y → passes axis test x ≡ passes axis test y
passes_match axis test gone = refl
passes_match axis test refused = refl
passes_match axis test (some_nodes h) = refl
passes_match axis test some_text = refl
passes_match axis test named = refl
passes_match axis test (chosen h) = refl
passes_match axis test copied = refl
passes_match axis test (some_unit h) = refl
passes_match axis test passed = refl

caught_match : {N M : Type 0} {R : N → M → Type 0} {p : Program N Bool} {q : Program M Bool} → Match R Same p q → Match R Same (caught p) (caught q)
unfolding caught
caught_match (gives h) = gives h
caught_match refuses = gives refl
caught_match (asks h next) = asks h (λ x y e. caught_match (next x y e))
caught_match (needs next) = needs (λ x y e. caught_match (next x y e))

keeps_match : {N M : Type 0} {R : N → M → Type 0} {v : Value N} {w : Value M} → Values R v w → (position : ℕ) → keeps v position ≡ keeps w position
keeps_match number position = refl
keeps_match text position = refl
keeps_match boolean position = refl
keeps_match (nodes h) position = to_boolean_match (nodes h)
keeps_match fragment position = refl

is_kept_match : {N M : Type 0} {R : N → M → Type 0} (predicate : Expr) {c : Context N} {d : Context M} → Contexts R c d → (size position : ℕ) {n : N} {m : M} → R n m
    → Match R Same (is_kept predicate c size position n) (is_kept predicate d size position m)
is_kept_match predicate (context h own bs) size position k =
    caught_match (then_match (meaning_match predicate (context {position = Some position} {size = Some size} k own bs)) (λ v w e. gives (keeps_match e position)))

pub either_each : {A B : Type 0} {R : A → B → Type 0} (b : Bool) {p q : List A} {x y : List B} → Each R p x → Each R q y → Each R (cond b p q) (cond b x y)
either_each true h g = h
either_each false h g = g

all_kept_match : {N M : Type 0} {R : N → M → Type 0} (predicate : Expr) {c : Context N} {d : Context M} → Contexts R c d → (size position : ℕ)
    {done ns : List N} {also ms : List M} → Each R done also → Each R ns ms
    → Match R (Each R) (all_kept predicate c size position done ns) (all_kept predicate d size position also ms)
all_kept_match predicate h size position sofar none = gives sofar
all_kept_match predicate h size position sofar (more k ks) =
    then_same (is_kept_match predicate h size position k) (λ b. all_kept_match predicate h size (position + 1) (either_each b (each_append sofar (more k none)) sofar) ks)

position_match : {N M : Type 0} {R : N → M → Type 0} (same : N → N → Bool) (like : M → M → Bool) → TellAlike R same like → {n : N} {m : M} → R n m → (position : ℕ)
    {ns : List N} {ms : List M} → Each R ns ms → position_of same n position ns ≡ position_of like m position ms
position_match same like alike h position none = refl
position_match same like alike h position (more k ks) =
    λ i. cond (alike _ _ _ _ h k i) (Some position) (position_match same like alike h (position + 1) ks i)

there_match : {N M : Type 0} {R : N → M → Type 0} (predicate : Expr) {c : Context N} {d : Context M} → Contexts R c d → {size also : ℕ} → size ≡ also → {n : N} {m : M} → R n m
    → {o p : Option ℕ} → o ≡ p → Match R Same (is_kept_there predicate c size n o) (is_kept_there predicate d also m p)
there_match {R = R} predicate {c = c} {d = d} h {size = size} same {n = n} {m = m} k {o = o} {p = p} e =
    subst (λ s. Match R Same (is_kept_there predicate c size n o) (is_kept_there predicate d s m p)) same
    (subst (λ p. Match R Same (is_kept_there predicate c size n o) (is_kept_there predicate d size m p)) e (by o))
  where
    by : (o : Option ℕ) → Match R Same (is_kept_there predicate c size n o) (is_kept_there predicate d size m o)
    by None = gives refl
    by (Some position) = is_kept_match predicate h size position k

all_kept_alike : {N M : Type 0} {R : N → M → Type 0} (predicate : Expr) {c : Context N} {d : Context M} → Contexts R c d → {ns : List N} {ms : List M} → Each R ns ms
    → Match R (Each R) (all_kept predicate c (length ns) 1 [] ns) (all_kept predicate d (length ms) 1 [] ms)
all_kept_alike {R = R} predicate {c = c} {d = d} h {ns = ns} {ms = ms} g =
    subst (λ s. Match R (Each R) (all_kept predicate c (length ns) 1 [] ns) (all_kept predicate d s 1 [] ms)) (each_length g)
    (all_kept_match predicate h (length ns) 1 none g)

keep_match : {N M : Type 0} {R : N → M → Type 0} (same : N → N → Bool) (like : M → M → Bool) → TellAlike R same like → {c : Context N} {d : Context M} → Contexts R c d
    → {n : N} {m : M} → R n m → (predicates : Exprs) {ns : List N} {ms : List M} → Each R ns ms
    → Match R Same (keep same c n predicates ns) (keep like d m predicates ms)
keep_match same like alike h k no_exprs g = gives refl
keep_match same like alike h k (expr p no_exprs) g = there_match p h (each_length g) k (position_match same like alike k 1 g)
keep_match same like alike h k (expr p (expr q ps)) g = then_match (all_kept_alike p h g) (λ ns ms e. keep_match same like alike h k (expr q ps) e)

-- of a node alone
alone_match : {N M : Type 0} {R : N → M → Type 0} {c : Context N} {d : Context M} → Contexts R c d → {n : N} {m : M} → R n m → (predicates : Exprs)
    → Match R Same (keep_alone c n predicates) (keep_alone d m predicates)
alone_match h k no_exprs = gives refl
alone_match h k (expr p ps) = then_same (is_kept_match p h 1 1 k) (λ b. either_match b (alone_match h k ps) (gives refl))

-- ---- steps
holds_match : {N M : Type 0} {R : N → M → Type 0} {f : N → Program N Bool} {g : M → Program M Bool} → ((n : N) (m : M) → R n m → Match R Same (f n) (g m))
    → {ns : List N} {ms : List M} → Each R ns ms → Match R Same (holds_of_one f ns) (holds_of_one g ms)
holds_match alike none = gives refl
holds_match alike (more h hs) = then_same (alike _ _ h) (λ b. either_match b (gives refl) (holds_match alike hs))

given_below_match : {N M : Type 0} {R : N → M → Type 0} (same : N → N → Bool) (like : M → M → Bool) → TellAlike R same like → {c : Context N} {d : Context M} → Contexts R c d
    → (s : Step) (n : N) (m : M) → R n m → (o : N) (p : M) → R o p → Match R Same (is_given_below same c s n o) (is_given_below like d s m p)
given_below_match same like alike h s n m k o p g = asks (steps g) (λ x y e. keep_match same like alike h k s.predicates (nodes_match e))

predicates_match : {N M : Type 0} {R : N → M → Type 0} (same : N → N → Bool) (like : M → M → Bool) → TellAlike R same like → {c : Context N} {d : Context M} → Contexts R c d
    → (s : Step) (n : N) (m : M) → R n m → Match R Same (passes_predicates same c s n) (passes_predicates like d s m)
predicates_match same like alike h s n m k =
    either_match (read_no_position s.predicates) (alone_match h k s.predicates)
    (asks (steps k) (λ x y e. holds_match (given_below_match same like alike h s n m k) (nodes_match e)))

step_match : {N M : Type 0} {R : N → M → Type 0} (same : N → N → Bool) (like : M → M → Bool) → TellAlike R same like → {c : Context N} {d : Context M} → Contexts R c d
    → (s : Step) (n : N) (m : M) → R n m → {x : Answer N} {y : Answer M} → Answers R x y → Match R Same (passes_step same c s n x) (passes_step like d s m y)
step_match same like alike h s n m k {y = y} e =
    rw (passes_match s.axis s.test e) (either_match (passes s.axis s.test y) (predicates_match same like alike h s n m k) (gives refl))

-- ---- patterns
any_match : {N M : Type 0} {R : N → M → Type 0} (same : N → N → Bool) (like : M → M → Bool) → TellAlike R same like → {n : N} {m : M} → R n m
    → {ns : List N} {ms : List M} → Each R ns ms → list_any (same n) ns ≡ list_any (like m) ms
any_match same like alike h none = refl
any_match same like alike h (more k ks) = λ i. alike _ _ _ _ h k i || any_match same like alike h ks i

root_match : {N M : Type 0} {R : N → M → Type 0} {x : Answer N} {y : Answer M} → Answers R x y → is_root x ≡ is_root y
root_match gone = refl
root_match refused = refl
root_match (some_nodes h) = refl
root_match some_text = refl
root_match named = refl
root_match (chosen h) = refl
root_match copied = refl
root_match (some_unit h) = refl
root_match passed = refl

starts_match : {N M : Type 0} {R : N → M → Type 0} (same : N → N → Bool) (like : M → M → Bool) → TellAlike R same like → (start : Start (List ℕ) Expanded)
    (n : N) (m : M) → R n m → {x : Answer N} {y : Answer M} → Answers R x y → Match R Same (starts_at same start n x) (starts_at like start m y)
starts_match same like alike Anywhere n m h e = gives refl
starts_match same like alike Root n m h e = gives (root_match e)
starts_match same like alike (Id id) n m h e = gives refl
starts_match same like alike (Key None value) n m h e = gives refl
starts_match same like alike (Key (Some name) value) n m h e = asks keys (λ x y s. gives (any_match same like alike h (nodes_match s)))

-- what is asked of a node, after what it is called, in both worlds
abbrev TestAlike : {N M : Type 0} → (N → M → Type 0) → (N → Answer N → Program N Bool) → (M → Answer M → Program M Bool) → Type 0
TestAlike {N = N} {M = M} R test other = (n : N) (m : M) → R n m → (x : Answer N) (y : Answer M) → Answers R x y → Match R Same (test n x) (other m y)

called_match : {N M : Type 0} {R : N → M → Type 0} {test : N → Answer N → Program N Bool} {other : M → Answer M → Program M Bool} → TestAlike R test other
    → (n : N) (m : M) → R n m → Match R Same (when_called test n) (when_called other m)
called_match alike n m h = asks (names h) (λ x y e. alike n m h x y e)

above_match : {N M : Type 0} {R : N → M → Type 0} (free : Bool) {test : N → Answer N → Program N Bool} {other : M → Answer M → Program M Bool} → TestAlike R test other
    → (separator : Separator) (n : N) (m : M) → R n m → Match R Same (holds_above free test separator n) (holds_above free other separator m)
above_match free alike separator n m h =
    either_match free (gives refl) (asks (steps h) (λ x y e. holds_match (called_match alike) (nodes_match e)))

steps_match : {N M : Type 0} {R : N → M → Type 0} (same : N → N → Bool) (like : M → M → Bool) → TellAlike R same like → {c : Context N} {d : Context M} → Contexts R c d
    → (start : Start (List ℕ) Expanded) (ss : List PatternStep) → TestAlike R (matches_steps same c start ss) (matches_steps like d start ss)
steps_match same like alike h start [] n m k x y e = starts_match same like alike start n m k e
steps_match same like alike h start (s ∷ before) n m k x y e =
    then_same (step_match same like alike h s.step n m k e) (λ b.
    either_match b (above_match (is_free start before) (steps_match same like alike h start before) s.separator n m k) (gives refl))

one_match : {N M : Type 0} {R : N → M → Type 0} (same : N → N → Bool) (like : M → M → Bool) → TellAlike R same like → {c : Context N} {d : Context M} → Contexts R c d
    → (alternatives : List Alternative) → TestAlike R (matches_one same c alternatives) (matches_one like d alternatives)
one_match same like alike h [] n m k x y e = gives refl
one_match same like alike h (a ∷ rest) n m k x y e =
    then_same (steps_match same like alike h a.start (reverse a.steps) n m k x y e) (λ b. either_match b (gives refl) (one_match same like alike h rest n m k x y e))

pub matches_match : {N M : Type 0} {R : N → M → Type 0} (same : N → N → Bool) (like : M → M → Bool) → TellAlike R same like → {c : Context N} {d : Context M} → Contexts R c d
    → (pattern : Pattern) (n : N) (m : M) → R n m → Match R Same (matches same c pattern n) (matches like d pattern m)
matches_match same like alike h pattern n m k = called_match (one_match same like alike h pattern.alternatives) n m k

-- ---- rules
first_match : {N M : Type 0} {R : N → M → Type 0} (same : N → N → Bool) (like : M → M → Bool) → TellAlike R same like → (us : List sheet.Unit)
    (mode : Option Expanded) (candidates : Candidates) (at : ℕ) (rules : List Rule) (n : N) (m : M) → R n m → (x : Answer N) (y : Answer M) → Answers R x y
    → Match R Same (first_that_matches same (context_for us n) mode candidates at rules n x) (first_that_matches like (context_for us m) mode candidates at rules m y)
first_match same like alike us mode candidates at [] n m k x y e = gives refl
first_match same like alike us mode candidates at (rule ∷ rules) n m k x y e =
    then_same (either_match (may_be_chosen mode candidates rule) (one_match same like alike (context {position = None} {size = None} k k none) rule.pattern.alternatives n m k x y e) (gives refl)) (λ b.
    either_match b (gives refl) (first_match same like alike us mode candidates (at + 1) rules n m k x y e))

-- the same rule is chosen
pub chosen_match : {N M : Type 0} {R : N → M → Type 0} (same : N → N → Bool) (like : M → M → Bool) → TellAlike R same like → (us : List sheet.Unit)
    (mode : Option Expanded) (candidates : Candidates) (rules : List Rule) (n : N) (m : M) → R n m
    → Match R Same (choice.chosen same (context_for us n) n mode candidates rules) (choice.chosen like (context_for us m) m mode candidates rules)
chosen_match same like alike us mode candidates rules n m k = asks (names k) (λ x y e. first_match same like alike us mode candidates 0 rules n m k x y e)
