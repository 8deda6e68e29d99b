-- Numbers: the single one is the last of many, and they are refused where one is too wide alone.
use Rattle.std.proofs.Common.{◌≡◌, ℕ, ◌+◌, Bool, true, false, List, [], ◌∷◌, ◌++◌, Option, None, Some, Ok, Err, sym, ap, ◌∙◌}
use Rattle.std.specs.Prelude.{ℤ, pos, if◌then◌else◌}
use Rattle.spec_document.specs.Name.{Expanded}
use Rattle.spec_document.specs.declared.axis.Axis.{Axis}
use Rattle.spec_expression.specs.Number.{Number, Whole, is_in_range}
use Rattle.spec_expression.specs.Number as number
use Rattle.spec_expression.specs.declared.code.DynCode.TheVariants.{Wide}
use Rattle.spec_stylesheet.specs.declared.number_level.NumberLevel.{NumberLevel}
use Rattle.spec_stylesheet.specs.declared.number_level.NumberLevel.TheVariants.{Single, Multiple, Any}
use Rattle.spec_stylesheet.specs.Pattern.{Pattern}
use Rattle.spec_stylesheet.specs.Instruction.{Count}
use Rattle.spec_meaning.specs.Context.{Context, binding_of}
use Rattle.spec_meaning.specs.Convert.{given}
use Rattle.spec_meaning.specs.Meaning.{bound_or_global, last_of}
use Rattle.spec_meaning.specs.Question.{Question, Answer, Refusal, Here}
use Rattle.spec_meaning.specs.Value.{Value}
use Rattle.spec_meaning.specs.Program.{Wanted, Given, Program, Give, Refuse, Ask, Need, Supply, Said, Gives, Refuses, Lacks, if_given, outcome_of, then}
use Rattle.spec_transform.specs.Numbering as definition
use Rattle.spec_transform.specs.Numbering.{Counted, Matching, CalledAs, number_among, of_first, of_all, numbers, is_counted, referred_to, counted_by, upward, names_in_pattern}
use Rattle.spec_transform.proofs.Greatest.{said_then, outcome-then}
use Rattle.spec_transform.proofs.Unrefused as unrefused
use Rattle.spec_transform.proofs.Unrefused.{Unrefused, matches_one}

-- ---- The last of many

-- what the first of two programs gives comes from a value of the first part
came : {N A B P : Type 0} (ask : Question N → Answer N) (supply : Supply N) (p : Program N A) (f : A → Program N B) (v : B)
    → ((a : A) → outcome_of ask supply (f a) ≡ Gives v → P) → outcome_of ask supply ((then) p f) ≡ Gives v → P
came {A = A} {P = P} ask supply p f v h e = go (outcome_of ask supply p) (sym (outcome-then ask supply p f) ∙ e)
  where
    go : (o : Said A) → said_then (λ a. outcome_of ask supply (f a)) o ≡ Gives v → P
    go (Gives a) e = h a e
    go (Refuses w) e = absurd (cc)
    go (Lacks w) e = absurd (cc)

-- two programs that begin alike
begun_alike : {N A B C : Type 0} (ask : Question N → Answer N) (supply : Supply N) (p : Program N A) (f : A → Program N B) (g : A → Program N C) (v : B) (w : C)
    → ((a : A) → outcome_of ask supply (f a) ≡ Gives v → outcome_of ask supply (g a) ≡ Gives w)
    → outcome_of ask supply ((then) p f) ≡ Gives v → outcome_of ask supply ((then) p g) ≡ Gives w
begun_alike {A = A} ask supply p f g v w h e = outcome-then ask supply p g ∙ go (outcome_of ask supply p) (sym (outcome-then ask supply p f) ∙ e)
  where
    go : (o : Said A) → said_then (λ a. outcome_of ask supply (f a)) o ≡ Gives v → said_then (λ a. outcome_of ask supply (g a)) o ≡ Gives w
    go (Gives a) e = h a e
    go (Refuses w) e = absurd (cc)
    go (Lacks w) e = absurd (cc)

given_alike : {A : Type 0} {x y : A} → Gives x ≡ Gives y → x ≡ y
given_alike e = cc

-- further numbers stand in front
stays_last : {N : Type 0} (ask : Question N → Answer N) (supply : Supply N) (test : N → Program N Bool) (m : Number) (done : List Number) (nodes : List N) (ns : List Number)
    → outcome_of ask supply (of_all test (m ∷ done) nodes) ≡ Gives ns → last_of ns ≡ last_of (m ∷ done)
stays_last ask supply test m done [] ns e = ap last_of (sym (given_alike e))
stays_last ask supply test m done (n ∷ nodes) ns e =
    came ask supply (test n) _ ns (by (λ k g. stays_last ask supply test k (m ∷ done) nodes ns g) (λ g. stays_last ask supply test m done nodes ns g)) e
  where
    by : ((k : Number) → outcome_of ask supply (of_all test (k ∷ m ∷ done) nodes) ≡ Gives ns → last_of ns ≡ last_of (m ∷ done))
        → (outcome_of ask supply (of_all test (m ∷ done) nodes) ≡ Gives ns → last_of ns ≡ last_of (m ∷ done)) → (b : Bool)
        → outcome_of ask supply (if b then (then) (number_among test n) (λ k. of_all test (k ∷ m ∷ done) nodes) else of_all test (m ∷ done) nodes) ≡ Gives ns
        → last_of ns ≡ last_of (m ∷ done)
    by one_more as_before true h = came ask supply (number_among test n) _ ns one_more h
    by one_more as_before false h = as_before h

first_is_last : {N : Type 0} (ask : Question N → Answer N) (supply : Supply N) (test : N → Program N Bool) (nodes : List N) (ns : List Number)
    → outcome_of ask supply (of_all test [] nodes) ≡ Gives ns → outcome_of ask supply (of_first test nodes) ≡ Gives (last_of ns)
first_is_last ask supply test [] ns e = ap (λ l. Gives (last_of l)) (given_alike e)
first_is_last ask supply test (n ∷ nodes) ns e =
    begun_alike ask supply (test n) _ _ ns (last_of ns) (by (λ g. first_is_last ask supply test nodes ns g)) e
  where
    by : (outcome_of ask supply (of_all test [] nodes) ≡ Gives ns → outcome_of ask supply (of_first test nodes) ≡ Gives (last_of ns)) → (b : Bool)
        → outcome_of ask supply (if b then (then) (number_among test n) (λ k. of_all test (k ∷ []) nodes) else of_all test [] nodes) ≡ Gives ns
        → outcome_of ask supply (if b then (then) (number_among test n) (λ k. Give (k ∷ [])) else of_first test nodes) ≡ Gives (last_of ns)
    by further true h = begun_alike ask supply (number_among test n) _ _ ns (last_of ns) (λ k g. ap Gives (sym (stays_last ask supply test k [] nodes ns g))) h
    by further false h = further h

pub single_is_last : {N : Type 0} (same : N → N → Bool) (count from : Option Pattern) (c : Context N) (ask : Question N → Answer N) (supply : Supply N) (ns : List Number)
    → outcome_of ask supply (numbers same (record { level = Multiple; count = count; from = from }) c) ≡ Gives ns
    → outcome_of ask supply (numbers same (record { level = Single; count = count; from = from }) c) ≡ Gives (last_of ns)
single_is_last same count from c ask supply ns e =
    begun_alike ask supply (referred_to (names_in_pattern count ++ names_in_pattern from) c) _ _ ns (last_of ns)
    (λ done g. begun_alike ask supply (counted_by count c) _ _ ns (last_of ns)
    (λ counted h. begun_alike ask supply (upward same c from) _ _ ns (last_of ns)
    (λ nodes k. first_is_last ask supply (is_counted same c counted) nodes ns k) h) g) e

-- ---- What is refused

-- programs that refuse a number that is too wide, and nothing else
data WideAlone {N A : Type 0} : Program N A → Type 0 where
  gives : {v : A} → WideAlone (Give v)
  wide : WideAlone (Refuse (Here Wide))
  asks : {q : Question N} {next : Answer N → Program N A} → ((a : Answer N) → WideAlone (next a)) → WideAlone (Ask q next)
  needs : {w : Wanted} {next : Given N → Program N A} → ((g : Given N) → WideAlone (next g)) → WideAlone (Need w next)

and_then : {N A B : Type 0} {p : Program N A} {k : A → Program N B} → WideAlone p → ((v : A) → WideAlone (k v)) → WideAlone ((then) p k)
unfolding then
and_then (gives {v = v}) h = h v
and_then wide h = wide
and_then (asks g) h = asks (λ a. and_then (g a) h)
and_then (needs g) h = needs (λ x. and_then (g x) h)

either : {N A : Type 0} (b : Bool) {p q : Program N A} → WideAlone p → WideAlone q → WideAlone (if b then p else q)
either true h g = h
either false h g = g

-- what refuses nothing
nothing : {N A : Type 0} {p : Program N A} → Unrefused p → WideAlone p
nothing unrefused.gives = gives
nothing (unrefused.asks h) = asks (λ a. nothing (h a))
nothing (unrefused.needs h) = needs (λ g. nothing (h g))

in_range : {N : Type 0} (z : ℤ) (b : Bool) → WideAlone {N = N} (given (if b then Ok (Whole z) else Err number.Wide))
in_range z true = gives
in_range z false = wide

variable_is : {N : Type 0} (name : Expanded) (o : Option (Value N)) → WideAlone (bound_or_global name o)
variable_is name (Some v) = gives
variable_is name None = needs (λ g. gives)

referred : {N : Type 0} (names : List Expanded) (c : Context N) → WideAlone (referred_to names c)
referred [] c = gives
referred (name ∷ names) c = and_then (variable_is name (binding_of name c.bindings)) (λ v. referred names c)

matching : {N : Type 0} (same : N → N → Bool) (c : Context N) (pattern : Pattern) (n : N) → WideAlone (definition.matches_there same c pattern n)
matching same c pattern n = asks (λ called. nothing (matches_one same (definition.at_asked c n) pattern.alternatives n called))

counted : {N : Type 0} (same : N → N → Bool) (c : Context N) (what : Counted N) (n : N) → WideAlone (is_counted same c what n)
counted same c (Matching pattern) n = matching same c pattern n
counted same c (CalledAs called) n = asks (λ a. gives)

what_is_counted : {N : Type 0} (count : Option Pattern) (c : Context N) → WideAlone (counted_by count c)
what_is_counted None c = asks (λ a. gives)
what_is_counted (Some pattern) c = gives

up_to : {N : Type 0} (test : N → Program N Bool) → ((n : N) → WideAlone (test n)) → (done ns : List N) → WideAlone (definition.up_to test done ns)
up_to test h done [] = gives
up_to test h done (n ∷ ns) = and_then (h n) (λ b. either b gives (up_to test h (done ++ n ∷ []) ns))

cut : {N : Type 0} (same : N → N → Bool) (c : Context N) (from : Option Pattern) (ns : List N) → WideAlone (definition.cut_by same c from ns)
cut same c None ns = gives
cut same c (Some from) ns = up_to (definition.matches_there same c from) (matching same c from) [] ns

axis_is : {N : Type 0} (axis : Axis) (n : N) → WideAlone (definition.on_axis axis n)
axis_is axis n = asks (λ a. gives)

up : {N : Type 0} (same : N → N → Bool) (c : Context N) (from : Option Pattern) → WideAlone (upward same c from)
up same c from = and_then (axis_is _ c.node) (λ above. and_then (cut same c from above) (λ ns. gives))

nearest : {N : Type 0} (from : Option Pattern) (ns : List N) → WideAlone (definition.nearest_first from ns)
nearest None ns = gives
nearest (Some from) ns = asks (λ a. gives)

back : {N : Type 0} (same : N → N → Bool) (c : Context N) (from : Option Pattern) → WideAlone (definition.backward same c from)
back same c from =
    and_then (axis_is _ c.node) (λ above. and_then (axis_is _ c.node) (λ before. and_then (nearest from (above ++ before)) (λ all.
    and_then (cut same c from all) (λ ns. gives))))

many : {N : Type 0} (test : N → Program N Bool) → ((n : N) → WideAlone (test n)) → (k : ℕ) (ns : List N) → WideAlone (definition.how_many test k ns)
many test h k [] = gives
many test h k (n ∷ ns) = and_then (h n) (λ b. many test h (if b then k + 1 else k) ns)

number_is : {N : Type 0} (test : N → Program N Bool) → ((n : N) → WideAlone (test n)) → (n : N) → WideAlone (number_among test n)
number_is test h n = and_then (axis_is _ n) (λ before. and_then (many test h 1 before) (λ k. in_range (pos k) (is_in_range (pos k))))

first : {N : Type 0} (test : N → Program N Bool) → ((n : N) → WideAlone (test n)) → (ns : List N) → WideAlone (of_first test ns)
first test h [] = gives
first test h (n ∷ ns) = and_then (h n) (λ b. either b (and_then (number_is test h n) (λ m. gives)) (first test h ns))

all : {N : Type 0} (test : N → Program N Bool) → ((n : N) → WideAlone (test n)) → (done : List Number) (ns : List N) → WideAlone (of_all test done ns)
all test h done [] = gives
all test h done (n ∷ ns) = and_then (h n) (λ b. either b (and_then (number_is test h n) (λ m. all test h (m ∷ done) ns)) (all test h done ns))

count_is : {N : Type 0} (test : N → Program N Bool) → ((n : N) → WideAlone (test n)) → (ns : List N) → WideAlone (definition.of_count test ns)
count_is test h ns = and_then (many test h 0 ns) (λ k. and_then (in_range (pos k) (is_in_range (pos k))) (λ m. gives))

level_is : {N : Type 0} (same : N → N → Bool) (c : Context N) (level : NumberLevel) (from : Option Pattern) (test : N → Program N Bool) → ((n : N) → WideAlone (test n))
    → WideAlone (definition.at_level same c level from test)
level_is same c Single from test h = and_then (up same c from) (λ ns. first test h ns)
level_is same c Multiple from test h = and_then (up same c from) (λ ns. all test h [] ns)
level_is same c Any from test h = and_then (back same c from) (λ ns. count_is test h ns)

counting : {N : Type 0} (same : N → N → Bool) (count : Count) (c : Context N) → WideAlone (numbers same count c)
counting same count c =
    and_then (referred (names_in_pattern count.count ++ names_in_pattern count.from) c) (λ done. and_then (what_is_counted count.count c)
    (λ what. level_is same c count.level count.from (is_counted same c what) (counted same c what)))

refused_so : {N A : Type 0} (ask : Question N → Answer N) (supply : Supply N) (why : Refusal) {p : Program N A} → WideAlone p
    → outcome_of ask supply p ≡ Refuses why → why ≡ Here Wide
refused_so ask supply why gives e = absurd (cc)
refused_so ask supply why wide e = cc
refused_so ask supply why (asks {q = q} h) e = refused_so ask supply why (h (ask q)) e
refused_so {N = N} {A = A} ask supply why (needs {w = w} {next = next} h) e = go (supply w) (λ g. refused_so ask supply why (h g)) e
  where
    go : (o : Option (Given N)) → ((g : Given N) → outcome_of ask supply (next g) ≡ Refuses why → why ≡ Here Wide)
        → if_given (λ g. outcome_of ask supply (next g)) (Lacks w) o ≡ Refuses why → why ≡ Here Wide
    go None f h = absurd (cc)
    go (Some g) f h = f g h

pub refused_for_width : {N : Type 0} (same : N → N → Bool) (count : Count) (c : Context N) (ask : Question N → Answer N) (supply : Supply N) (why : Refusal)
    → outcome_of ask supply (numbers same count c) ≡ Refuses why → why ≡ Here Wide
refused_for_width same count c ask supply why = refused_so ask supply why (counting same count c)
