-- A step whose predicates read no position says of a node alone what it says of it among all that it leads to.
use Rattle.std.proofs.Common.{◌≡◌, ℕ, ◌+◌, Bool, true, false, cond, List, [], ◌∷◌, ◌++◌, length, None, Some, refl, sym, ap, subst, ◌∙◌, append_assoc}
use Rattle.std.proofs.lemmas.List.{append-nil}
use Rattle.std.specs.Prelude.{◌&&◌, ◌||◌}
use Rattle.spec_document.specs.declared.axis.Axis.TheVariants as axis
use Rattle.spec_expression.specs.Syntax.{Expr, Exprs, no_exprs, expr, Step}
use Rattle.spec_meaning.specs.Question.{Question, Answer}
use Rattle.spec_meaning.specs.Program.{Program, Give, Supply, Said, Gives, Refuses, Lacks, outcome_of, then}
use Rattle.spec_meaning.specs.Context.{Context}
use Rattle.spec_transform.specs.Match.{is_kept, all_kept, position_of, is_kept_there, keep, keep_alone, is_given_below, holds_of_one, passes_predicates}
use Rattle.spec_transform.specs.Position.{reads_no_position, read_no_position}
use Rattle.spec_transform.proofs.Greatest.{said_then, outcome-then}
use Rattle.spec_matching.specs.Asked.{TellsApart, is_among, nodes_on, led_to, passes_among}
use Rattle.spec_matching.proofs.Unmoved.{kept_anywhere}

-- ---- What is said after what was said

-- what is said first gave a value, where something is given in the end
pub gave_first : {A B : Type 0} (next : A → Said B) (o : Said A) (b : B) → said_then next o ≡ Gives b → (a : A) × (o ≡ Gives a) × (next a ≡ Gives b)
gave_first next (Gives a) b h = (a, refl, h)
gave_first next (Refuses why) b h = absurd (cc)
gave_first next (Lacks w) b h = absurd (cc)

pub then_gave : {N A B : Type 0} (ask : Question N → Answer N) (supply : Supply N) (p : Program N A) (k : A → Program N B) (b : B)
    → outcome_of ask supply (then p k) ≡ Gives b → (a : A) × (outcome_of ask supply p ≡ Gives a) × (outcome_of ask supply (k a) ≡ Gives b)
then_gave ask supply p k b h = gave_first (λ a. outcome_of ask supply (k a)) (outcome_of ask supply p) b (sym (outcome-then ask supply p k) ∙ h)

pub then_gives : {N A B : Type 0} (ask : Question N → Answer N) (supply : Supply N) (p : Program N A) (k : A → Program N B) (a : A) (o : Said B)
    → outcome_of ask supply p ≡ Gives a → outcome_of ask supply (k a) ≡ o → outcome_of ask supply (then p k) ≡ o
then_gives ask supply p k a o h g = outcome-then ask supply p k ∙ ap (said_then (λ x. outcome_of ask supply (k x))) h ∙ g

-- ---- The nodes that a predicate keeps

-- which of some nodes are kept, by what is said of each at its position, from this one on
pub data Picked {N : Type 0} (says : ℕ → N → Said Bool) : ℕ → List N → List N → Type 0 where
  none : {k : ℕ} → Picked says k [] []
  kept : {k : ℕ} {n : N} {ns ms : List N} → says k n ≡ Gives true → Picked says (k + 1) ns ms → Picked says k (n ∷ ns) (n ∷ ms)
  left : {k : ℕ} {n : N} {ns ms : List N} → says k n ≡ Gives false → Picked says (k + 1) ns ms → Picked says k (n ∷ ns) ms

abbrev pub said_at : {N : Type 0} → (Question N → Answer N) → Supply N → Expr → Context N → (size : ℕ) → ℕ → N → Said Bool
said_at ask supply p c size position n = outcome_of ask supply (is_kept p c size position n)

abbrev AfterThese : {N : Type 0} → (ℕ → N → Said Bool) → ℕ → (done ns ms : List N) → Type 0
AfterThese {N = N} says position done ns ms = (more : List N) × (ms ≡ done ++ more) × Picked says position ns more

one_picked : {N : Type 0} (says : ℕ → N → Said Bool) (position : ℕ) (done : List N) (n : N) (ns ms : List N) (b : Bool) → says position n ≡ Gives b
    → AfterThese says (position + 1) (cond b (done ++ n ∷ []) done) ns ms → AfterThese says position done (n ∷ ns) ms
one_picked says position done n ns ms true h after = (n ∷ after.0, after.1 ∙ append_assoc done (n ∷ []) after.0, kept h after.2)
one_picked says position done n ns ms false h after = (after.0, after.1, left h after.2)

picked_after : {N : Type 0} (ask : Question N → Answer N) (supply : Supply N) (p : Expr) (c : Context N) (size position : ℕ) (done ns ms : List N)
    → outcome_of ask supply (all_kept p c size position done ns) ≡ Gives ms → AfterThese (said_at ask supply p c size) position done ns ms
picked_after ask supply p c size position done [] ms h = let same : done ≡ ms = cc in ([], sym same ∙ sym (append-nil done), none)
picked_after ask supply p c size position done (n ∷ ns) ms h =
    let next = then_gave ask supply (is_kept p c size position n)
    (λ b. all_kept p c size (position + 1) (cond b (done ++ n ∷ []) done) ns) ms h in
    one_picked (said_at ask supply p c size) position done n ns ms next.0 next.1
    (picked_after ask supply p c size (position + 1) (cond next.0 (done ++ n ∷ []) done) ns ms next.2)

pub picked : {N : Type 0} (ask : Question N → Answer N) (supply : Supply N) (p : Expr) (c : Context N) (size : ℕ) (ns ms : List N)
    → outcome_of ask supply (all_kept p c size 1 [] ns) ≡ Gives ms → Picked (said_at ask supply p c size) 1 ns ms
picked {N} ask supply p c size ns ms h =
    let all = picked_after ask supply p c size 1 [] ns ms h in
    subst (λ (xs : List N). Picked (said_at ask supply p c size) 1 ns xs) (sym all.1) all.2

-- ---- A node among those that a predicate is asked of

-- what is said at some position of a node that is among them
asked_of_it : {N : Type 0} (same : N → N → Bool) → TellsApart same → (says : ℕ → N → Said Bool) (n : N) (k : ℕ) (ns ms : List N) → Picked says k ns ms
    → is_among same n ns ≡ true → (j : ℕ) × (b : Bool) × (says j n ≡ Gives b)
asked_of_it same apart says n k _ _ none h = absurd (cc)
asked_of_it {N} same apart says n k _ _ (kept {n = m} {ns = ns} {ms = ms} s more) h =
    go (same n m) refl h (λ g. asked_of_it same apart says n (k + 1) ns ms more g)
  where
    go : (t : Bool) → same n m ≡ t → (t || is_among same n ns) ≡ true → (is_among same n ns ≡ true → (j : ℕ) × (b : Bool) × (says j n ≡ Gives b))
        → (j : ℕ) × (b : Bool) × (says j n ≡ Gives b)
    go true e g rest = (k, true, subst (λ (x : N). says k x ≡ Gives true) (sym ((apart n m).1 e)) s)
    go false e g rest = rest g
asked_of_it {N} same apart says n k _ _ (left {n = m} {ns = ns} {ms = ms} s more) h =
    go (same n m) refl h (λ g. asked_of_it same apart says n (k + 1) ns ms more g)
  where
    go : (t : Bool) → same n m ≡ t → (t || is_among same n ns) ≡ true → (is_among same n ns ≡ true → (j : ℕ) × (b : Bool) × (says j n ≡ Gives b))
        → (j : ℕ) × (b : Bool) × (says j n ≡ Gives b)
    go true e g rest = (k, false, subst (λ (x : N). says k x ≡ Gives false) (sym ((apart n m).1 e)) s)
    go false e g rest = rest g

-- what is said true of wherever it stands is kept
kept_if_true : {N : Type 0} (same : N → N → Bool) → TellsApart same → (says : ℕ → N → Said Bool) (n : N) (k : ℕ) (ns ms : List N) → Picked says k ns ms
    → ((j : ℕ) → says j n ≡ Gives true) → is_among same n ns ≡ true → is_among same n ms ≡ true
kept_if_true same apart says n k _ _ none so h = h
kept_if_true same apart says n k _ _ (kept {n = m} {ns = ns} {ms = ms} s more) so h =
    go (same n m) h (kept_if_true same apart says n (k + 1) ns ms more so)
  where
    go : (t : Bool) → (t || is_among same n ns) ≡ true → (is_among same n ns ≡ true → is_among same n ms ≡ true) → (t || is_among same n ms) ≡ true
    go true g rest = refl
    go false g rest = rest g
kept_if_true {N} same apart says n k _ _ (left {n = m} {ns = ns} {ms = ms} s more) so h =
    go (same n m) refl h (kept_if_true same apart says n (k + 1) ns ms more so)
  where
    go : (t : Bool) → same n m ≡ t → (t || is_among same n ns) ≡ true → (is_among same n ns ≡ true → is_among same n ms ≡ true) → is_among same n ms ≡ true
    go true e g rest =
        let false_of_it = subst (λ (x : N). says k x ≡ Gives false) (sym ((apart n m).1 e)) s in
        let true_of_it = so k in absurd (cc)
    go false e g rest = rest g

left_if_false : {N : Type 0} (same : N → N → Bool) → TellsApart same → (says : ℕ → N → Said Bool) (n : N) (k : ℕ) (ns ms : List N) → Picked says k ns ms
    → ((j : ℕ) → says j n ≡ Gives false) → is_among same n ms ≡ false
left_if_false same apart says n k _ _ none so = refl
left_if_false {N} same apart says n k _ _ (kept {n = m} {ns = ns} {ms = ms} s more) so =
    go (same n m) refl (left_if_false same apart says n (k + 1) ns ms more so)
  where
    go : (t : Bool) → same n m ≡ t → is_among same n ms ≡ false → (t || is_among same n ms) ≡ false
    go true e rest =
        let true_of_it = subst (λ (x : N). says k x ≡ Gives true) (sym ((apart n m).1 e)) s in
        let false_of_it = so k in absurd (cc)
    go false e rest = rest
left_if_false same apart says n k _ _ (left {ns = ns} {ms = ms} s more) so = left_if_false same apart says n (k + 1) ns ms more so

-- what was not among them is not kept
pub none_of_others : {N : Type 0} (same : N → N → Bool) (says : ℕ → N → Said Bool) (n : N) (k : ℕ) (ns ms : List N) → Picked says k ns ms
    → is_among same n ns ≡ false → is_among same n ms ≡ false
none_of_others same says n k _ _ none h = h
none_of_others same says n k _ _ (kept {n = m} {ns = ns} {ms = ms} s more) h =
    go (same n m) h (none_of_others same says n (k + 1) ns ms more)
  where
    go : (t : Bool) → (t || is_among same n ns) ≡ false → (is_among same n ns ≡ false → is_among same n ms ≡ false) → (t || is_among same n ms) ≡ false
    go true g rest = g
    go false g rest = rest g
none_of_others same says n k _ _ (left {n = m} {ns = ns} {ms = ms} s more) h =
    go (same n m) h (none_of_others same says n (k + 1) ns ms more)
  where
    go : (t : Bool) → (t || is_among same n ns) ≡ false → (is_among same n ns ≡ false → is_among same n ms ≡ false) → is_among same n ms ≡ false
    go true g rest = absurd (cc)
    go false g rest = rest g

-- ---- Its position

position_found : {N : Type 0} (same : N → N → Bool) (n : N) (from : ℕ) (ns : List N) → is_among same n ns ≡ true
    → (k : ℕ) × (position_of same n from ns ≡ Some k)
position_found same n from [] h = absurd (cc)
position_found same n from (m ∷ ms) h = go (same n m) h (position_found same n (from + 1) ms)
  where
    go : (t : Bool) → (t || is_among same n ms) ≡ true → (is_among same n ms ≡ true → (k : ℕ) × (position_of same n (from + 1) ms ≡ Some k))
        → (k : ℕ) × (cond t (Some from) (position_of same n (from + 1) ms) ≡ Some k)
    go true g rest = (from, refl)
    go false g rest = rest g

pub no_position : {N : Type 0} (same : N → N → Bool) (n : N) (from : ℕ) (ns : List N) → is_among same n ns ≡ false → position_of same n from ns ≡ None
no_position same n from [] h = refl
no_position same n from (m ∷ ms) h = go (same n m) h (no_position same n (from + 1) ms)
  where
    go : (t : Bool) → (t || is_among same n ms) ≡ false → (is_among same n ms ≡ false → position_of same n (from + 1) ms ≡ None)
        → cond t (Some from) (position_of same n (from + 1) ms) ≡ None
    go true g rest = absurd (cc)
    go false g rest = rest g

-- ---- All predicates

-- a node that is not among them is not kept
keep_of_others : {N : Type 0} (same : N → N → Bool) (c : Context N) (n : N) (ask : Question N → Answer N) (supply : Supply N) (p : Expr) (ps : Exprs)
    (ns : List N) (b : Bool) → is_among same n ns ≡ false → outcome_of ask supply (keep same c n (expr p ps) ns) ≡ Gives b → b ≡ false
keep_of_others same c n ask supply p no_exprs ns b h g =
    let none_there = ap (λ o. outcome_of ask supply (is_kept_there p c (length ns) n o)) (no_position same n 1 ns h) in
    let says_false = sym none_there ∙ g in cc
keep_of_others same c n ask supply p (expr q ps) ns b h g =
    let next = then_gave ask supply (all_kept p c (length ns) 1 [] ns) (λ ms. keep same c n (expr q ps) ms) b g in
    keep_of_others same c n ask supply q ps next.0 b
    (none_of_others same (said_at ask supply p c (length ns)) n 1 ns next.0 (picked ask supply p c (length ns) ns next.0 next.1) h) next.2

both_true : (a b : Bool) → (a && b) ≡ true → (a ≡ true) × (b ≡ true)
both_true true b h = (refl, h)
both_true false b h = absurd (cc)

-- what is said of it alone, where it is said at some position
said_alone : {N : Type 0} (ask : Question N → Answer N) (supply : Supply N) (p : Expr) (c : Context N) (n : N) (size position : ℕ) (o : Said Bool)
    → reads_no_position p ≡ true → said_at ask supply p c size position n ≡ o → said_at ask supply p c 1 1 n ≡ o
said_alone ask supply p c n size position o e h = ap (outcome_of ask supply) (sym (kept_anywhere p c n size position 1 1 e)) ∙ h

said_anywhere : {N : Type 0} (ask : Question N → Answer N) (supply : Supply N) (p : Expr) (c : Context N) (n : N) (size position : ℕ) (o : Said Bool)
    → reads_no_position p ≡ true → said_at ask supply p c 1 1 n ≡ o → said_at ask supply p c size position n ≡ o
said_anywhere ask supply p c n size position o e h = ap (outcome_of ask supply) (kept_anywhere p c n size position 1 1 e) ∙ h

go_on : {N : Type 0} (ask : Question N → Answer N) (supply : Supply N) (c : Context N) (n : N) (p : Expr) (ps : Exprs) (b : Bool) (o : Said Bool)
    → said_at ask supply p c 1 1 n ≡ Gives b → outcome_of ask supply (cond b (keep_alone c n ps) (Give false)) ≡ o
    → outcome_of ask supply (keep_alone c n (expr p ps)) ≡ o
go_on ask supply c n p ps b o h g = then_gives ask supply (is_kept p c 1 1 n) (λ b. cond b (keep_alone c n ps) (Give false)) b o h g

last_said : {N : Type 0} (ask : Question N → Answer N) (supply : Supply N) (c : Context N) (n : N) (b : Bool)
    → outcome_of ask supply (cond b (keep_alone c n no_exprs) (Give false)) ≡ Gives b
last_said ask supply c n true = refl
last_said ask supply c n false = refl

pub keep_alone_says : {N : Type 0} (same : N → N → Bool) → TellsApart same → (c : Context N) (n : N) (ask : Question N → Answer N) (supply : Supply N)
    (ps : Exprs) (ns : List N) (b : Bool) → read_no_position ps ≡ true → is_among same n ns ≡ true
    → outcome_of ask supply (keep same c n ps ns) ≡ Gives b → outcome_of ask supply (keep_alone c n ps) ≡ Gives b
keep_alone_says same apart c n ask supply no_exprs ns b e h g = g
keep_alone_says same apart c n ask supply (expr p no_exprs) ns b e h g =
    let parts = both_true (reads_no_position p) true e in
    let at = position_found same n 1 ns h in
    let there = ap (λ o. outcome_of ask supply (is_kept_there p c (length ns) n o)) at.1 in
    let said = said_alone ask supply p c n (length ns) at.0 (Gives b) parts.0 (sym there ∙ g) in
    go_on ask supply c n p no_exprs b (Gives b) said (last_said ask supply c n b)
keep_alone_says {N} same apart c n ask supply (expr p (expr q ps)) ns b e h g =
    let parts = both_true (reads_no_position p) (read_no_position (expr q ps)) e in
    let next = then_gave ask supply (all_kept p c (length ns) 1 [] ns) (λ ms. keep same c n (expr q ps) ms) b g in
    let says = said_at ask supply p c (length ns) in
    let kept_ones = picked ask supply p c (length ns) ns next.0 next.1 in
    let asked = asked_of_it same apart says n 1 ns next.0 kept_ones h in
    let alone = said_alone ask supply p c n (length ns) asked.0 (Gives asked.1) parts.0 asked.2 in
    go next.0 kept_ones next.2 asked.1 alone (λ i. keep_alone_says same apart c n ask supply (expr q ps) next.0 b parts.1 i next.2)
    (λ o i j. said_anywhere ask supply p c n (length ns) j o parts.0 i)
  where
    go : (ms : List N) → Picked (said_at ask supply p c (length ns)) 1 ns ms → outcome_of ask supply (keep same c n (expr q ps) ms) ≡ Gives b
        → (t : Bool) → said_at ask supply p c 1 1 n ≡ Gives t
        → (is_among same n ms ≡ true → outcome_of ask supply (keep_alone c n (expr q ps)) ≡ Gives b)
        → ((o : Said Bool) → said_at ask supply p c 1 1 n ≡ o → (j : ℕ) → said_at ask supply p c (length ns) j n ≡ o)
        → outcome_of ask supply (keep_alone c n (expr p (expr q ps))) ≡ Gives b
    go ms kept_ones rest true alone more anywhere =
        go_on ask supply c n p (expr q ps) true (Gives b) alone
        (more (kept_if_true same apart (said_at ask supply p c (length ns)) n 1 ns ms kept_ones (anywhere (Gives true) alone) h))
    go ms kept_ones rest false alone more anywhere =
        let gone = left_if_false same apart (said_at ask supply p c (length ns)) n 1 ns ms kept_ones (anywhere (Gives false) alone) in
        let is_false = keep_of_others same c n ask supply q ps ms b gone rest in
        go_on ask supply c n p (expr q ps) false (Gives b) alone (ap Gives (sym is_false))

-- ---- The step

one_parent_said : {N : Type 0} (ask : Question N → Answer N) (supply : Supply N) (test : N → Program N Bool) (parent : N) (b : Bool)
    → outcome_of ask supply (holds_of_one test (parent ∷ [])) ≡ Gives b → outcome_of ask supply (test parent) ≡ Gives b
one_parent_said ask supply test parent b h =
    let next = then_gave ask supply (test parent) (λ t. cond t (Give true) (holds_of_one test [])) b h in
    next.1 ∙ ends_as next.0 next.2
  where
    ends_as : (t : Bool) → outcome_of ask supply (cond t (Give true) (holds_of_one test [])) ≡ Gives b → Gives t ≡ Gives b
    ends_as true g = g
    ends_as false g = g

pub said_among_is_said_alone : {N : Type 0} (same : N → N → Bool) (c : Context N) (s : Step) (n parent : N) (ask : Question N → Answer N) (supply : Supply N)
    (b : Bool) → TellsApart same → read_no_position s.predicates ≡ true → nodes_on ask axis.Parent n ≡ parent ∷ []
    → is_among same n (led_to ask s parent) ≡ true
    → outcome_of ask supply (passes_among same c s n) ≡ Gives b → outcome_of ask supply (passes_predicates same c s n) ≡ Gives b
said_among_is_said_alone same c s n parent ask supply b apart e above among h =
    let from_parent = ap (λ ps. outcome_of ask supply (holds_of_one (is_given_below same c s n) ps)) above in
    let there = one_parent_said ask supply (is_given_below same c s n) parent b (sym from_parent ∙ h) in
    ap (λ t. outcome_of ask supply (cond t (keep_alone c n s.predicates) (passes_among same c s n))) e
    ∙ keep_alone_says same apart c n ask supply s.predicates (led_to ask s parent) b e among there
