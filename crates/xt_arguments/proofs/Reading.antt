-- What clap makes of words, computed.
use Rattle.std.proofs.Common.{◌≡◌, ℕ, Bool, true, false, List, [], ◌∷◌, ◌++◌, drop, fold, Option, None, Some, refl, sym, ap, ◌∙◌, subst, if◌then◌else◌, append-nil, append_assoc, codes, ◌==◌, inl, inr}
use Rattle.std.specs.Prelude.{◌⊎◌, is_some, length, slice_get, encode_utf8}
use Rattle.std.specs.Str.{bytes_eq, chars}
use Rattle.clap.specs.Lexer.{long_of, long_of_rest, short_of, short_of_rest, strip_byte}
use Rattle.std.proofs.lemmas.Bool.{eqb-true}
use Rattle.clap.specs.Walk.{Held, Names, Row, Rule, Text, Walk, idle, trailing, value, walked, nothing_held, word_met, subcommand_met, subcommand_or_other, long_or_other, arg_by_long, arg_by_short, arg_by_index, bundle_met, to_positional, short_or_plain, after_step, after_flag, short_word, bundle, bundle_step, plain, Outcome}
use Rattle.clap.specs.Simple.{App, HasMatchesOf, Shape, built, is_simple, new_shape, subcommand_of, subcommand_rows_of}
use Rattle.std.proofs.lemmas.Slice.Eq.{bytes_eq-Decides}
use Rattle.std.specs.Prelude.{unwrap_or}
use Rattle.clap.specs.Faults.{walk_fault, settle_fault, defaults_fault, check_fault}
use Rattle.clap.specs.Walk.{settled, finished}
use Rattle.clap.specs.Kinds.{HasKind, IsAmong, Kinds, or_else}
use Rattle.clap.specs.Faults.{is_simple_and_free}
use Rattle.clap.specs.Values.{kind_of}
use Rattle.clap.specs.declared.ArgMatches.{ArgMatches}
use Rattle.clap.specs.declared.Error.{Error}
use Rattle.clap.specs.declared.error.ErrorKind.{ErrorKind}
use Rattle.clap.specs.declared.error.ErrorKind.TheVariants.{OutOfMemory}
use Rattle.std.specs.Prelude.{◌≢◌}
use Rattle.std.specs.Option.{option_map_or, option_and_then}
use Rattle.clap.specs.Faults.{bundle_fault, bundle_step_fault, fault_of, flags_fault, flag_word_fault, long_fault, other_fault, step_fault, turn_fault, word_fault, short_fault}
use Rattle.clap.proofs.OnLiterals.{clap_on_literals}
use Rattle.clap.proofs.FaultLemmas.{stopped_fault}
use Rattle.spec_session.specs.declared.kinds.Asked.{Asked}
use Rattle.spec_session.specs.declared.kinds.Asked.TheVariants.{Session, Demonstration, Nothing}
use Rattle.spec_session.specs.Asked.{asked_of, asked_by, values_in, is_size, session_of_values, demonstration_of_values}
use Rattle.spec_session.specs.Request.{number_from}
use Rattle.clap.specs.Simple.{entered, names_of}
use Rattle.clap.specs.Faults.{entered_fault}
use Rattle.std.proofs.lemmas.Bool.Decides.{same_from_decides}
use Rattle.xt_arguments.specs.Words.{app, asked_by_clap, asked_in, size_in, where_none}

-- ---- A walk that a subcommand has stopped

stopped_walk : (c : List Rule) (names : Names) (w : Walk) (name : Text) (before words : List Text)
    → fold (walked c names) (record w { stopped = Some (name, before) }) words ≡ record w { stopped = Some (name, before ++ words) }
unfolding walked
stopped_walk c names w name before [] = ap (λ (xs : List Text). record w { stopped = Some (name, xs) }) (sym (append-nil before))
stopped_walk c names w name before (x ∷ xs) =
    stopped_walk c names w name (before ++ x ∷ []) xs ∙ ap (λ (ys : List Text). record w { stopped = Some (name, ys) }) (append_assoc before (x ∷ []) xs)

-- ---- A word that is no `--`

-- where nothing waits for a value
abbrev at : Held → ℕ → Walk
at h p = record { held = h; waiting = idle; position = p; is_trailing = false; stopped = None }

abbrev with_skip : List Row → Option (Text × List Text) → Held
with_skip rows pending = record { rows = rows; pending = pending; skip = 0 }

-- there is a fault
abbrev Fails : Kinds → Type 0
Fails [] = ⊥
Fails (k ∷ ks) = Unit {0}

first_stays : (a b : Kinds) → Fails a → Fails (or_else a b)
first_stays [] b e = absurd e
first_stays (k ∷ ks) b e = tt

second_stays : (a b : Kinds) → Fails b → Fails (or_else a b)
second_stays [] b e = e
second_stays (k ∷ ks) b e = tt

nothing_asked : (a : Kinds) (asked : Asked) → Fails a → where_none a asked ≡ Nothing
nothing_asked [] asked e = absurd e
nothing_asked (k ∷ ks) asked e = refl

as_fails : (a b : Kinds) → a ≡ b → Fails b → Fails a
as_fails a b e f = subst (λ (ks : Kinds). Fails ks) (sym e) f

-- no argument is a flag
record HasNoFlags (c : List Rule) : Type 0 where
  long : (name : Text) → arg_by_long c name ≡ None
  short : (x : ℕ) → arg_by_short c x ≡ None

abbrev dashes : Text
dashes = codes "--"

met_is : (c : List Rule) (names : Names) (h : Held) (p : ℕ) (word : Text) (o : Option (Text × Option Text)) → subcommand_met names idle word ≡ None → bytes_eq word dashes ≡ false
    → long_of word ≡ o → word_met c names false idle p word h ≡ long_or_other c idle word o h
met_is c names h p word o m d l =
    ap (λ (s : Option Text). subcommand_or_other c s idle p word h) m ∙ (λ i. if d i then (h, trailing p) else long_or_other c idle word (l i) h)

fault_is : (s : Shape) (names : Names) (h : Held) (word : Text) (o : Option (Text × Option Text)) → subcommand_met names idle word ≡ None → bytes_eq word dashes ≡ false
    → long_of word ≡ o → word_fault s names false idle word h ≡ flag_word_fault s.rules s.args_override_self o word h
fault_is s names h word o m d l =
    ap (λ (n : Option Text). other_fault s n word h) m ∙ (λ i. if d i then [] else flag_word_fault s.rules s.args_override_self (l i) word h)

-- the word is a flag, and is refused
flag_fails : (s : Shape) (names : Names) (h : Held) (p : ℕ) (word : Text) (q : Text × Option Text) → HasNoFlags s.rules → subcommand_met names idle word ≡ None
    → bytes_eq word dashes ≡ false → long_of word ≡ Some q → Fails (turn_fault s names (at h p) word)
flag_fails s names h p word q none m d l =
    let fault = fault_is s names h word (Some q) m d l ∙ ap (λ (a : Option Rule). long_fault s.rules s.args_override_self a q.1 h) (none.long q.0) in
    first_stays _ (step_fault s p (word_met s.rules names false idle p word h).0 (word_met s.rules names false idle p word h).1) (as_fails _ _ fault tt)

-- the word is no flag
plain_turn : (s : Shape) (names : Names) (h : Held) (p : ℕ) (word : Text) → subcommand_met names idle word ≡ None → bytes_eq word dashes ≡ false → long_of word ≡ None
    → short_of word ≡ None → turn_fault s names (at h p) word ≡ step_fault s p h value
plain_turn s names h p word m d l n =
    let met = met_is s.rules names h p word None m d l ∙ ap (λ (f : Option Text). short_or_plain s.rules idle word f h) n in
    let fault = fault_is s names h word None m d l ∙ ap (λ (f : Option Text). option_map_or (λ flags. bundle_fault s.rules s.args_override_self flags h) f []) n in
    λ i. or_else (fault i) (step_fault s p (met i).0 (met i).1)

plain_walked : (c : List Rule) (names : Names) (h : Held) (p : ℕ) (word : Text) → subcommand_met names idle word ≡ None → bytes_eq word dashes ≡ false → long_of word ≡ None
    → short_of word ≡ None → walked c names (at h p) word ≡ to_positional c (arg_by_index c p) word (at h p) h
unfolding walked
plain_walked c names h p word m d l n =
    let met = met_is c names h p word None m d l ∙ ap (λ (f : Option Text). short_or_plain c idle word f h) n in
    λ i. after_step c word (at h p) (met i).0 (met i).1

-- the word is plain: it goes to the positional at the place
record IsPlain (s : Shape) (names : Names) (h : Held) (p : ℕ) (word : Text) : Type 0 where
  turn : turn_fault s names (at h p) word ≡ step_fault s p h value
  then_walks : walked s.rules names (at h p) word ≡ to_positional s.rules (arg_by_index s.rules p) word (at h p) h

-- the word is a flag, of which the command has none
record IsFlag (s : Shape) (names : Names) (h : Held) (p : ℕ) (word : Text) : Type 0 where
  fails : Fails (turn_fault s names (at h p) word)
  no_size : is_size word ≡ false

abbrev IsRead : Shape → Names → Held → ℕ → Text → Type 0
IsRead s names h p word = IsFlag s names h p word ⊎ IsPlain s names h p word

-- the first character of a bundle is no flag, where it has one
bundle_fails : (c : List Rule) (again : Bool) (h : Held) (y : ℕ) (zs : Text) (x : ℕ) → HasNoFlags c → h.skip ≡ 0 → slice_get (chars (y ∷ zs)) 0 ≡ Some x
    → Fails (bundle_fault c again (y ∷ zs) h)
unfolding flags_fault
bundle_fails c again h y zs x none skip first =
    let rest = drop (length (encode_utf8 x)) (y ∷ zs) in
    let next = flags_fault c again (length zs) rest 0 in
    as_fails _ _ ((λ i. bundle_step_fault c again (first i) (y ∷ zs) (skip i) (record h { skip = 0 }) (flags_fault c again (length zs)))
    ∙ ap (λ (a : Option Rule). short_fault c again a rest (record h { skip = 0 }) next) (none.short x)) tt

bundle_nothing : (c : List Rule) (again : Bool) (h : Held) (y : ℕ) (zs : Text) → slice_get (chars (y ∷ zs)) 0 ≡ None
    → bundle_fault c again (y ∷ zs) h ≡ []
unfolding flags_fault
bundle_nothing c again h y zs first =
    λ i. bundle_step_fault c again (first i) (y ∷ zs) h.skip (record h { skip = 0 }) (flags_fault c again (length zs))

bundle_plain : (c : List Rule) (h : Held) (y : ℕ) (zs : Text) → slice_get (chars (y ∷ zs)) 0 ≡ None
    → bundle c (y ∷ zs) h ≡ (record h { skip = 0 }, plain)
unfolding bundle_met
bundle_plain c h y zs first =
    λ i. bundle_step c (first i) (y ∷ zs) h.skip plain (record h { skip = 0 }) (bundle_met c (length zs))

bundle_turn : (s : Shape) (names : Names) (rows : List Row) (pending : Option (Text × List Text)) (p : ℕ) (word : Text) (y : ℕ) (zs : Text) → HasNoFlags s.rules
    → subcommand_met names idle word ≡ None → bytes_eq word dashes ≡ false → long_of word ≡ None → short_of word ≡ Some (y ∷ zs) → is_size word ≡ false
    → IsRead s names (with_skip rows pending) p word
unfolding walked
bundle_turn s names rows pending p word y zs none m d l n e = go (slice_get (chars (y ∷ zs)) 0) refl
  where
    h : Held
    h = with_skip rows pending

    met : word_met s.rules names false idle p word h ≡ short_word s.rules idle word (y ∷ zs) h
    met = met_is s.rules names h p word None m d l ∙ ap (λ (f : Option Text). short_or_plain s.rules idle word f h) n

    fault : word_fault s names false idle word h ≡ bundle_fault s.rules s.args_override_self (y ∷ zs) h
    fault = fault_is s names h word None m d l ∙ ap (λ (f : Option Text). option_map_or (λ flags. bundle_fault s.rules s.args_override_self flags h) f []) n

    go : (o : Option ℕ) → slice_get (chars (y ∷ zs)) 0 ≡ o → IsRead s names h p word
    go (Some x) first = inl (record {
      fails = first_stays _ (step_fault s p (word_met s.rules names false idle p word h).0 (word_met s.rules names false idle p word h).1)
          (as_fails _ _ fault (bundle_fails s.rules s.args_override_self h y zs x none refl first));
      no_size = e;
    })
    go None first =
        let is = met ∙ ap (λ (b : Held × Outcome). after_flag s.rules idle word b.0 b.1) (bundle_plain s.rules h y zs first) in
        let none_there = fault ∙ bundle_nothing s.rules s.args_override_self h y zs first in
        inr (record {
          turn = λ i. or_else (none_there i) (step_fault s p (is i).0 (is i).1);
          then_walks = λ i. after_step s.rules word (at h p) (is i).0 (is i).1;
        })

-- whatever the word is, but `--` and the name of a subcommand
abbrev Reads : Shape → Names → List Row → Option (Text × List Text) → ℕ → Text → Type 0
Reads s names rows pending p word = subcommand_met names idle word ≡ None → bytes_eq word dashes ≡ false → IsRead s names (with_skip rows pending) p word

plain_read : (s : Shape) (names : Names) (rows : List Row) (pending : Option (Text × List Text)) (p : ℕ) (word : Text) → long_of word ≡ None → short_of word ≡ None
    → Reads s names rows pending p word
plain_read s names rows pending p word l n m d = inr (record {
  turn = plain_turn s names (with_skip rows pending) p word m d l n;
  then_walks = plain_walked s.rules names (with_skip rows pending) p word m d l n;
})

-- behind a hyphen
hyphen_read : (s : Shape) (names : Names) (rows : List Row) (pending : Option (Text × List Text)) (p : ℕ) (y : ℕ) (zs : Text) → HasNoFlags s.rules
    → Reads s names rows pending p (45 ∷ y ∷ zs)
hyphen_read s names rows pending p y zs none = go (y == 45) refl
  where
    long : (zs : Text) → Reads s names rows pending p (45 ∷ 45 ∷ zs)
    long [] m d = absurd (cc)
    long (z ∷ zs) m d =
        inl (record { fails = flag_fails s names (with_skip rows pending) p (45 ∷ 45 ∷ z ∷ zs) _ none m d refl; no_size = refl })

    go : (b : Bool) → (y == 45) ≡ b → Reads s names rows pending p (45 ∷ y ∷ zs)
    go true e m d = subst (λ (x : ℕ). Reads s names rows pending p (45 ∷ x ∷ zs)) (sym (eqb-true y 45 e)) (long zs) m d
    go false e m d =
        bundle_turn s names rows pending p (45 ∷ y ∷ zs) y zs none m d (λ i. option_and_then long_of_rest (if e i then Some zs else None))
        (λ i. if e i then None else Some (y ∷ zs)) refl

read_word : (s : Shape) (names : Names) (rows : List Row) (pending : Option (Text × List Text)) (p : ℕ) (word : Text) → HasNoFlags s.rules
    → Reads s names rows pending p word
read_word s names rows pending p [] none = plain_read s names rows pending p [] refl refl
read_word s names rows pending p (x ∷ xs) none = go (x == 45) refl
  where
    hyphen : (xs : Text) → Reads s names rows pending p (45 ∷ xs)
    hyphen [] = plain_read s names rows pending p (45 ∷ []) refl refl
    hyphen (y ∷ zs) = hyphen_read s names rows pending p y zs none

    go : (b : Bool) → (x == 45) ≡ b → Reads s names rows pending p (x ∷ xs)
    go true e = subst (λ (y : ℕ). Reads s names rows pending p (y ∷ xs)) (sym (eqb-true x 45 e)) (hyphen xs)
    go false e =
        plain_read s names rows pending p (x ∷ xs) (λ i. option_and_then long_of_rest (option_and_then (strip_byte 45) (if e i then Some xs else None)))
        (λ i. option_and_then short_of_rest (if e i then Some xs else None))

-- ---- One command

-- the command's rest from a place of the walk, and the faults in it
abbrev walked_over : Shape → Names → Walk → List Text → Walk
walked_over s names w words = fold (walked s.rules names) w words

abbrev faults_from : Shape → Walk → List Text → Kinds
faults_from s w words =
    let end = (walked_over s [] w words).held in
    or_else (walk_fault s [] w words) (or_else [] (or_else (settle_fault s.rules s.args_override_self end)
    (or_else (defaults_fault (settled s.rules end).rows s.rules) (check_fault s (finished s.rules end) false))))

abbrev rows_from : Shape → Walk → List Text → List Row
rows_from s w words = finished s.rules (walked_over s [] w words).held

fails_at_once : (s : Shape) (w : Walk) (word : Text) (words : List Text) → Fails (turn_fault s [] w word) → Fails (faults_from s w (word ∷ words))
unfolding walk_fault
fails_at_once s w word words f = first_stays _ _ (first_stays _ _ f)

one_passed : (s : Shape) (w next : Walk) (word : Text) (words : List Text) (asked : List Row → Asked) → turn_fault s [] w word ≡ [] → walked s.rules [] w word ≡ next
    → where_none (faults_from s w (word ∷ words)) (asked (rows_from s w (word ∷ words))) ≡ where_none (faults_from s next words) (asked (rows_from s next words))
unfolding walk_fault
one_passed s w next word words asked turn walks =
    λ i. let end = walked_over s [] (walks i) words in
    where_none (or_else (or_else (turn i) (walk_fault s [] (walks i) words)) (or_else [] (or_else (settle_fault s.rules s.args_override_self end.held)
    (or_else (defaults_fault (settled s.rules end.held).rows s.rules) (check_fault s (finished s.rules end.held) false)))))
    (asked (finished s.rules end.held))

abbrev no_shape : Shape
no_shape = new_shape []

-- the two commands, built
abbrev session_built : Shape
session_built = unwrap_or (slice_get (built app).subs 0) no_shape

abbrev demonstration_built : Shape
demonstration_built = unwrap_or (slice_get (built app).subs 1) no_shape

no_session_flags : HasNoFlags session_built.rules
no_session_flags = record { long = λ name. refl; short = λ x. refl }

no_demonstration_flags : HasNoFlags demonstration_built.rules
no_demonstration_flags = record { long = λ name. refl; short = λ x. refl }

is_dashes : (word : Text) → bytes_eq word dashes ≡ true → word ≡ dashes
is_dashes word e = (bytes_eq-Decides word dashes).0 e

abbrev session_by_clap : List Text → Asked
session_by_clap words = where_none (faults_from session_built (at nothing_held 1) words) Session

session_reads : (words : List Text) → session_by_clap words ≡ session_of_values (values_in words)
unfolding clap_on_literals
session_reads [] = refl
session_reads (w ∷ ws) = go (bytes_eq w dashes) refl
  where
    trail : (ws : List Text) → session_by_clap (dashes ∷ ws) ≡ session_of_values (values_in (dashes ∷ ws))
    trail [] = refl
    trail (v ∷ vs) = refl

    fails : bytes_eq w dashes ≡ false → IsRead session_built [] nothing_held 1 w → Fails (turn_fault session_built [] (at nothing_held 1) w)
    fails e (inl flag) = flag.fails
    fails e (inr other) = as_fails _ _ other.turn tt

    go : (b : Bool) → bytes_eq w dashes ≡ b → session_by_clap (w ∷ ws) ≡ session_of_values (values_in (w ∷ ws))
    go true e = subst (λ (x : Text). session_by_clap (x ∷ ws) ≡ session_of_values (values_in (x ∷ ws))) (sym (is_dashes w e)) (trail ws)
    go false e =
        nothing_asked _ Session (fails_at_once session_built (at nothing_held 1) w ws (fails e (read_word session_built [] [] None 1 w no_session_flags refl e)))
        ∙ (λ i. session_of_values (if sym e i then ws else w ∷ values_in ws))

-- ---- `demo`

abbrev size_from : Walk → List Text → Asked
size_from w words = where_none (faults_from demonstration_built w words) (size_in (rows_from demonstration_built w words))

-- behind the size
abbrev behind_size : Text → Walk
behind_size word = at (with_skip [] (Some (codes "N", word ∷ []))) 2

behind_reads : (size : Text) (words : List Text) → size_from (behind_size size) words ≡ demonstration_of_values (size ∷ values_in words)
unfolding clap_on_literals
behind_reads size [] = refl
behind_reads size (w ∷ ws) = go (bytes_eq w dashes) refl
  where
    trail : (ws : List Text) → size_from (behind_size size) (dashes ∷ ws) ≡ demonstration_of_values (size ∷ values_in (dashes ∷ ws))
    trail [] = refl
    trail (v ∷ vs) = refl

    fails : IsRead demonstration_built [] (behind_size size).held 2 w → Fails (turn_fault demonstration_built [] (behind_size size) w)
    fails (inl flag) = flag.fails
    fails (inr other) = as_fails _ _ other.turn tt

    go : (b : Bool) → bytes_eq w dashes ≡ b → size_from (behind_size size) (w ∷ ws) ≡ demonstration_of_values (size ∷ values_in (w ∷ ws))
    go true e =
        subst (λ (x : Text). size_from (behind_size size) (x ∷ ws) ≡ demonstration_of_values (size ∷ values_in (x ∷ ws))) (sym (is_dashes w e)) (trail ws)
    go false e =
        nothing_asked _ (size_in (rows_from demonstration_built (behind_size size) (w ∷ ws)))
        (fails_at_once demonstration_built (behind_size size) w ws
        (fails (read_word demonstration_built [] [] (Some (codes "N", size ∷ [])) 2 w no_demonstration_flags refl e)))
        ∙ (λ i. demonstration_of_values (size ∷ (if sym e i then ws else w ∷ values_in ws)))

-- a word that is no size
no_size : (word : Text) (more : List Text) → is_size word ≡ false → demonstration_of_values (word ∷ more) ≡ Nothing
no_size word [] e = λ i. if e i then Demonstration (number_from 0 word) else Nothing
no_size word (next ∷ more) e = refl

demonstration_reads : (words : List Text) → size_from (at nothing_held 1) words ≡ demonstration_of_values (values_in words)
unfolding clap_on_literals
demonstration_reads [] = refl
demonstration_reads (w ∷ ws) = go (bytes_eq w dashes) refl
  where
    trail : (ws : List Text) → size_from (at nothing_held 1) (dashes ∷ ws) ≡ demonstration_of_values (values_in (dashes ∷ ws))
    trail [] = refl
    trail (v ∷ []) = refl
    trail (v ∷ u ∷ us) = refl

    read : IsRead demonstration_built [] nothing_held 1 w → size_from (at nothing_held 1) (w ∷ ws) ≡ demonstration_of_values (w ∷ values_in ws)
    read (inl flag) =
        nothing_asked _ (size_in (rows_from demonstration_built (at nothing_held 1) (w ∷ ws))) (fails_at_once demonstration_built (at nothing_held 1) w ws flag.fails)
        ∙ sym (no_size w (values_in ws) flag.no_size)
    read (inr other) =
        one_passed demonstration_built (at nothing_held 1) (behind_size w) w ws size_in other.turn other.then_walks ∙ behind_reads w ws

    go : (b : Bool) → bytes_eq w dashes ≡ b → size_from (at nothing_held 1) (w ∷ ws) ≡ demonstration_of_values (values_in (w ∷ ws))
    go true e = subst (λ (x : Text). size_from (at nothing_held 1) (x ∷ ws) ≡ demonstration_of_values (values_in (x ∷ ws))) (sym (is_dashes w e)) (trail ws)
    go false e =
        read (read_word demonstration_built [] [] None 1 w no_demonstration_flags refl e)
        ∙ (λ i. demonstration_of_values (if sym e i then ws else w ∷ values_in ws))

-- ---- All words

abbrev top : Shape
top = (built app).top

abbrev names : Names
names = names_of (built app)

no_top_flags : HasNoFlags top.rules
no_top_flags = record { long = λ name. refl; short = λ x. refl }

-- what is asked where the walk over the words of the top ends here, with these faults on the way
abbrev asked_at : Walk → Kinds → Asked
asked_at end faults =
    where_none (or_else faults (or_else (entered_fault (built app) end.stopped) (or_else (settle_fault top.rules top.args_override_self end.held)
    (or_else (defaults_fault (settled top.rules end.held).rows top.rules) (check_fault top (finished top.rules end.held) (is_some (entered (built app) end.stopped)))))))
    (asked_in (entered (built app) end.stopped))

abbrev from_here : Walk → List Text → Asked
from_here w words = asked_at (fold (walked top.rules names) w words) (walk_fault top names w words)

without_more : (faults : Kinds) (asked : Asked) → where_none (or_else faults []) asked ≡ where_none faults asked
without_more [] asked = refl
without_more (k ∷ ks) asked = refl

-- behind the name of a command
abbrev entering : Text → Walk
entering name = record { held = nothing_held; waiting = idle; position = 1; is_trailing = false; stopped = Some (name, []) }

enters : (name : Text) (words : List Text) → from_here (entering name) words ≡ asked_at (record (entering name) { stopped = Some (name, words) }) []
enters name words =
    λ i. asked_at (stopped_walk top.rules names (at nothing_held 1) name [] words i) (stopped_fault top names (at nothing_held 1) (name, []) words i)

flipped : (a b : Text) → bytes_eq a b ≡ false → bytes_eq b a ≡ false
flipped a b e = sym (same_from_decides (bytes_eq a b) (bytes_eq b a) (bytes_eq-Decides a b) (λ t. sym ((bytes_eq-Decides b a).0 t), λ t. (bytes_eq-Decides b a).1 (sym t))) ∙ e

command_reads : (name command : Text) (words : List Text) → asked_by_clap (name ∷ command ∷ words) ≡ asked_by command words
unfolding clap_on_literals
command_reads name command words = go (bytes_eq command (codes "session")) refl (bytes_eq command (codes "demo")) refl
  where
    session : asked_by_clap (name ∷ codes "session" ∷ words) ≡ asked_by (codes "session") words
    session = enters (codes "session") words ∙ without_more (faults_from session_built (at nothing_held 1) words) Session ∙ session_reads words

    demonstration : asked_by_clap (name ∷ codes "demo" ∷ words) ≡ asked_by (codes "demo") words
    demonstration =
        enters (codes "demo") words
        ∙ without_more (faults_from demonstration_built (at nothing_held 1) words) (size_in (rows_from demonstration_built (at nothing_held 1) words))
        ∙ demonstration_reads words

    trail : (words : List Text) → asked_by_clap (name ∷ dashes ∷ words) ≡ Nothing
    trail [] = refl
    trail (v ∷ vs) = refl

    fails : IsRead top names nothing_held 1 command → Fails (turn_fault top names (at nothing_held 1) command)
    fails (inl flag) = flag.fails
    fails (inr other) = as_fails _ _ other.turn tt

    other : subcommand_met names idle command ≡ None → (b : Bool) → bytes_eq command dashes ≡ b → asked_by_clap (name ∷ command ∷ words) ≡ Nothing
    other m true e = subst (λ (x : Text). asked_by_clap (name ∷ x ∷ words) ≡ Nothing) (sym (is_dashes command e)) (trail words)
    other m false e =
        nothing_asked _ (asked_in (subcommand_of app (name ∷ command ∷ words)))
        (first_stays _ _ (first_stays _ _ (fails (read_word top names [] None 1 command no_top_flags m e))))

    go : (x : Bool) → bytes_eq command (codes "session") ≡ x → (y : Bool) → bytes_eq command (codes "demo") ≡ y
        → asked_by_clap (name ∷ command ∷ words) ≡ asked_by command words
    go true e y f = subst (λ (w : Text). asked_by_clap (name ∷ w ∷ words) ≡ asked_by w words) (sym ((bytes_eq-Decides command (codes "session")).0 e)) session
    go false e true f = subst (λ (w : Text). asked_by_clap (name ∷ w ∷ words) ≡ asked_by w words) (sym ((bytes_eq-Decides command (codes "demo")).0 f)) demonstration
    go false e false f =
        let m : subcommand_met names idle command ≡ None = rw (flipped command (codes "session") e, flipped command (codes "demo") f) refl in
        other m (bytes_eq command dashes) refl
        ∙ (λ i. if sym e i then session_of_values (values_in words) else (if sym f i then demonstration_of_values (values_in words) else Nothing))

pub clap_reads : (words : List Text) → asked_by_clap words ≡ asked_of words
unfolding clap_on_literals
clap_reads [] = refl
clap_reads (name ∷ []) = refl
clap_reads (name ∷ command ∷ words) = command_reads name command words

-- ---- What a parse answers

-- it matches the words
pub matched : (a : App) (words : List Text) (m : ArgMatches) (asked : Asked) → a ≡ app → HasMatchesOf a words m → (is_simple_and_free a ≡ true → fault_of a words ≡ [])
    → asked ≡ asked_in (subcommand_rows_of m) → asked ≡ asked_by_clap words
unfolding clap_on_literals
matched a words m asked e has none is =
    let simple : is_simple a ≡ true = ap is_simple e in
    let free : is_simple_and_free a ≡ true = ap is_simple_and_free e in
    is ∙ ap asked_in ((has simple).1 ∙ ap (λ (x : App). subcommand_of x words) e)
    ∙ ap (λ (faults : Kinds). where_none faults (asked_in (subcommand_of app words))) (sym (none free) ∙ ap (λ (x : App). fault_of x words) e)

among_fails : (kind : ErrorKind) (faults : Kinds) → IsAmong kind faults → Fails faults
among_fails kind [] among = absurd among
among_fails kind (k ∷ ks) among = tt

-- it refuses them, and memory is not wanting
pub refused : (a : App) (words : List Text) (error : Error) → a ≡ app → (is_simple_and_free a ≡ true → HasKind (fault_of a words) error) → kind_of error ≢ OutOfMemory
    → Nothing ≡ asked_by_clap words
unfolding clap_on_literals
refused a words error e has other = go (has (ap is_simple_and_free e))
  where
    go : HasKind (fault_of a words) error → Nothing ≡ asked_by_clap words
    go (inl memory) = absurd (other memory)
    go (inr among) = sym (nothing_asked (fault_of app words) (asked_in (subcommand_of app words))
        (subst (λ (x : App). Fails (fault_of x words)) e (among_fails (kind_of error) (fault_of a words) among)))
