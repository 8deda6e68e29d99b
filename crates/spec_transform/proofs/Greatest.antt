-- The first rule that matches, of rules that stand ranked, is the greatest.
use Rattle.std.proofs.Common.{◌≡◌, ℕ, zero, suc, ◌+◌, Bool, true, false, List, [], ◌∷◌, Option, None, Some, refl, sym, ap, ◌∙◌, subst, arith}
use Rattle.std.specs.Prelude.{ℤ, not, ◌&&◌, ◌==◌, nat_lt, int_lt, int_le, IsTrue, IsSomeAnd, slice_get, if◌then◌else◌}
use Rattle.std.specs.List.{list_all}
use Rattle.std.specs.Option.{ForSome}
use Rattle.spec_document.specs.Name.{Expanded}
use Rattle.spec_stylesheet.specs.Sheet.{Rule}
use Rattle.spec_meaning.specs.Context.{Context}
use Rattle.spec_meaning.specs.Question as question
use Rattle.spec_meaning.specs.Question.{Question, Answer, Candidates}
use Rattle.spec_meaning.specs.Program.{Given, Program, Give, Refuse, Ask, Need, Supply, Said, Gives, Refuses, Lacks, if_given, outcome_of, then}
use Rattle.spec_transform.specs.Choice.{may_be_chosen, is_chosen, first_that_matches, chosen, counts_more, IsRanked, CanBeChosen, IsGreatest}
use Rattle.spec_transform.specs.Match.{matches_one, matches}

-- how what follows ends, after what was said
abbrev pub said_then : {A B : Type 0} → (A → Said B) → Said A → Said B
said_then k (Gives v) = k v
said_then k (Refuses w) = Refuses w
said_then k (Lacks w) = Lacks w

pub outcome-then : {N A B : Type 0} (ask : Question N → Answer N) (supply : Supply N) (p : Program N A) (k : A → Program N B)
    → outcome_of ask supply ((then) p k) ≡ said_then (λ v. outcome_of ask supply (k v)) (outcome_of ask supply p)
unfolding then
outcome-then ask supply (Give v) k = refl
outcome-then ask supply (Refuse w) k = refl
outcome-then ask supply (Ask q next) k = outcome-then ask supply (next (ask q)) k
outcome-then {N = N} {B = B} ask supply (Need w next) k = go (supply w) (λ g. outcome-then ask supply (next g) k)
  where
    go : (o : Option (Given N)) → ((g : Given N) → outcome_of ask supply ((then) (next g) k) ≡ said_then (λ v. outcome_of ask supply (k v)) (outcome_of ask supply (next g)))
        → if_given (λ g. outcome_of ask supply ((then) (next g) k)) (Lacks w) o
        ≡ said_then (λ v. outcome_of ask supply (k v)) (if_given (λ g. outcome_of ask supply (next g)) (Lacks w) o)
    go None h = refl
    go (Some g) h = h g

-- where the first of a list is of which a test says true, and that it says false of those before it
pub data First {X : Type 0} (said : X → Said Bool) : List X → ℕ → Type 0 where
  here : {x : X} {xs : List X} → said x ≡ Gives true → First said (x ∷ xs) 0
  later : {x : X} {xs : List X} {k : ℕ} → said x ≡ Gives false → First said xs k → First said (x ∷ xs) (suc k)

pub data AllFalse {X : Type 0} (said : X → Said Bool) : List X → Type 0 where
  none : AllFalse said []
  one_more : {x : X} {xs : List X} → said x ≡ Gives false → AllFalse said xs → AllFalse said (x ∷ xs)

-- what is found from a number on
pub record Found {X : Type 0} (said : X → Said Bool) (xs : List X) (from number : ℕ) : Type 0 where
  pub index : ℕ
  pub first : First said xs index
  pub is : number ≡ from + index

found_later : {X : Type 0} (said : X → Said Bool) (x : X) (xs : List X) (from number : ℕ) → said x ≡ Gives false → Found said xs (from + 1) number → Found said (x ∷ xs) from number
found_later said x xs from number h f = record { index = suc f.index; first = later h f.first; is = f.is ∙ omega arith }

-- one more rule, by what is said of it
first_step : {X : Type 0} (said : X → Said Bool) (x : X) (xs : List X) (from number : ℕ) (rest : Said (Option ℕ))
    → (rest ≡ Gives (Some number) → Found said xs (from + 1) number) → (o : Said Bool) → said x ≡ o
    → said_then (λ b. if b then Gives (Some from) else rest) o ≡ Gives (Some number) → Found said (x ∷ xs) from number
first_step said x xs from number rest more (Gives true) e h = record { index = 0; first = here e; is = let same : from ≡ number = cc in omega (arith, same) }
first_step said x xs from number rest more (Gives false) e h = found_later said x xs from number e (more h)
first_step said x xs from number rest more (Refuses w) e h = absurd (cc)
first_step said x xs from number rest more (Lacks w) e h = absurd (cc)

none_step : {X : Type 0} (said : X → Said Bool) (x : X) (xs : List X) (from : ℕ) (rest : Said (Option ℕ))
    → (rest ≡ Gives None → AllFalse said xs) → (o : Said Bool) → said x ≡ o
    → said_then (λ b. if b then Gives (Some from) else rest) o ≡ Gives None → AllFalse said (x ∷ xs)
none_step said x xs from rest more (Gives true) e h = absurd (cc)
none_step said x xs from rest more (Gives false) e h = one_more e (more h)
none_step said x xs from rest more (Refuses w) e h = absurd (cc)
none_step said x xs from rest more (Lacks w) e h = absurd (cc)

abbrev pub said_of : {N : Type 0} → (N → N → Bool) → (Rule → Context N) → Option Expanded → Candidates → N → Answer N → (Question N → Answer N) → Supply N → Rule → Said Bool
said_of same c mode candidates n called ask supply rule = outcome_of ask supply (is_chosen same c mode candidates rule n called)

-- a branch of what follows
branch : {N : Type 0} (ask : Question N → Answer N) (supply : Supply N) (from : ℕ) (p : Program N (Option ℕ)) (o : Said Bool)
    → said_then (λ b. outcome_of ask supply (if b then Give (Some from) else p)) o ≡ said_then (λ b. if b then Gives (Some from) else outcome_of ask supply p) o
branch ask supply from p (Gives true) = refl
branch ask supply from p (Gives false) = refl
branch ask supply from p (Refuses w) = refl
branch ask supply from p (Lacks w) = refl

pub found : {N : Type 0} (same : N → N → Bool) (c : Rule → Context N) (mode : Option Expanded) (candidates : Candidates) (n : N) (called : Answer N)
    (ask : Question N → Answer N) (supply : Supply N) (number from : ℕ) (rules : List Rule)
    → outcome_of ask supply (first_that_matches same c mode candidates from rules n called) ≡ Gives (Some number)
    → Found (said_of same c mode candidates n called ask supply) rules from number
found same c mode candidates n called ask supply number from [] h = absurd (cc)
found same c mode candidates n called ask supply number from (rule ∷ rules) h =
    let said = said_of same c mode candidates n called ask supply in
    let p = first_that_matches same c mode candidates (from + 1) rules n called in
    first_step said rule rules from number (outcome_of ask supply p) (found same c mode candidates n called ask supply number (from + 1) rules) (said rule) refl
    (sym (branch ask supply from p (said rule)) ∙ sym (outcome-then ask supply (is_chosen same c mode candidates rule n called) (λ b. if b then Give (Some from) else p)) ∙ h)

pub none_found : {N : Type 0} (same : N → N → Bool) (c : Rule → Context N) (mode : Option Expanded) (candidates : Candidates) (n : N) (called : Answer N)
    (ask : Question N → Answer N) (supply : Supply N) (from : ℕ) (rules : List Rule)
    → outcome_of ask supply (first_that_matches same c mode candidates from rules n called) ≡ Gives None
    → AllFalse (said_of same c mode candidates n called ask supply) rules
none_found same c mode candidates n called ask supply from [] h = none
none_found same c mode candidates n called ask supply from (rule ∷ rules) h =
    let said = said_of same c mode candidates n called ask supply in
    let p = first_that_matches same c mode candidates (from + 1) rules n called in
    none_step said rule rules from (outcome_of ask supply p) (none_found same c mode candidates n called ask supply (from + 1) rules) (said rule) refl
    (sym (branch ask supply from p (said rule)) ∙ sym (outcome-then ask supply (is_chosen same c mode candidates rule n called) (λ b. if b then Give (Some from) else p)) ∙ h)

-- ---- Of rules that stand ranked

not_less : (n : ℕ) → nat_lt n n ≡ false
not_less n = grind arith

not_less_z : (z : ℤ) → int_lt z z ≡ false
not_less_z z = grind arith

no_more_than_itself : (rule : Rule) → counts_more rule rule ≡ false
no_more_than_itself rule = rw (not_less rule.precedence, not_less_z rule.priority, not_less rule.order) (last (rule.precedence == rule.precedence) (int_le rule.priority rule.priority))
  where
    last : (a b : Bool) → (a && (b && false)) ≡ false
    last true true = refl
    last true false = refl
    last false true = refl
    last false false = refl

both_true : (a b : Bool) → (not a && b) ≡ true → (a ≡ false) × (b ≡ true)
both_true false true h = (refl, refl)
both_true false false h = absurd (cc)
both_true true true h = absurd (cc)
both_true true false h = absurd (cc)

false_at : (test : Rule → Bool) (rules : List Rule) → IsTrue (list_all (λ other. not (test other)) rules) → (k : ℕ) → ForSome (slice_get rules k) (λ other. test other ≡ false)
false_at test [] h k other e = absurd (cc)
false_at test (rule ∷ rules) h zero other e =
    let same : rule ≡ other = cc in ap test (sym same) ∙ (both_true (test rule) (list_all (λ other. not (test other)) rules) h).0
false_at test (rule ∷ rules) h (suc k) other e = false_at test rules (both_true (test rule) (list_all (λ other. not (test other)) rules) h).1 k other e

-- a rule before them of which the test says false changes nothing
greatest_later : (said : Rule → Said Bool) (first : Rule) (rules : List Rule) → said first ≡ Gives false → (o : Option Rule)
    → IsSomeAnd o (IsGreatest (λ rule. said rule ≡ Gives true) rules) → IsSomeAnd o (IsGreatest (λ rule. said rule ≡ Gives true) (first ∷ rules))
greatest_later said first rules e None g = absurd g
greatest_later said first rules e (Some rule) g = (g.0, go)
  where
    go : (k : ℕ) → ForSome (slice_get (first ∷ rules) k) (λ other. said other ≡ Gives true → counts_more other rule ≡ false)
    go zero other is h = let same : first ≡ other = cc in let said_so : said first ≡ Gives true = ap said same ∙ h in absurd (cc)
    go (suc k) other is h = g.1 k other is h

-- the first is no less than any other of which the test says true
pub first_is_greatest : (said : Rule → Said Bool) (rules : List Rule) (k : ℕ) → IsRanked rules → First said rules k
    → IsSomeAnd (slice_get rules k) (IsGreatest (λ rule. said rule ≡ Gives true) rules)
first_is_greatest said [] k ranked f = elim f [ ]
first_is_greatest said (rule ∷ rules) zero ranked (here e) = (e, go)
  where
    go : (k : ℕ) → ForSome (slice_get (rule ∷ rules) k) (λ other. said other ≡ Gives true → counts_more other rule ≡ false)
    go zero other is h = let same : rule ≡ other = cc in ap (λ r. counts_more r rule) (sym same) ∙ no_more_than_itself rule
    go (suc k) other is h = false_at (λ o. counts_more o rule) rules ranked.0 k other is
first_is_greatest said (rule ∷ rules) (suc k) ranked (later e f) = greatest_later said rule rules e (slice_get rules k) (first_is_greatest said rules k ranked.1 f)

-- ---- What is said of a rule

-- what is said of a candidate is whether its pattern matches; of any other, that it does not
pub may_and_matches : (may : Bool) (said : Said Bool) → (if may then said else Gives false) ≡ Gives true → (may ≡ true) × (said ≡ Gives true)
may_and_matches true said h = (refl, h)
may_and_matches false said h = absurd (cc)

pub matches_and_may : (may : Bool) (said : Said Bool) → (may ≡ true) × (said ≡ Gives true) → (if may then said else Gives false) ≡ Gives true
matches_and_may true said h = h.1
matches_and_may false said h = absurd (cc)

pub is_said : {N : Type 0} (same : N → N → Bool) (c : Rule → Context N) (mode : Option Expanded) (candidates : Candidates) (n : N) (called : Answer N)
    (ask : Question N → Answer N) (supply : Supply N) (rule : Rule)
    → said_of same c mode candidates n called ask supply rule
    ≡ (if may_be_chosen mode candidates rule then outcome_of ask supply (matches_one same (c rule) rule.pattern.alternatives n called) else Gives false)
is_said same c mode candidates n called ask supply rule = go (may_be_chosen mode candidates rule)
  where
    go : (b : Bool) → outcome_of ask supply (if b then matches_one same (c rule) rule.pattern.alternatives n called else Give false)
        ≡ (if b then outcome_of ask supply (matches_one same (c rule) rule.pattern.alternatives n called) else Gives false)
    go true = refl
    go false = refl

-- the greatest by one description is the greatest by another that says the same
pub greatest_alike : (P Q : Rule → Type 0) (rules : List Rule) (o : Option Rule) → ((r : Rule) → P r → Q r) → ((r : Rule) → Q r → P r)
    → IsSomeAnd o (IsGreatest P rules) → IsSomeAnd o (IsGreatest Q rules)
greatest_alike P Q rules None there back g = absurd g
greatest_alike P Q rules (Some rule) there back g = (there rule g.0, λ k other is h. g.1 k other is (back other h))

pub false_there : (said : Rule → Said Bool) (rules : List Rule) → AllFalse said rules → (k : ℕ) → ForSome (slice_get rules k) (λ rule. said rule ≡ Gives false)
false_there said [] f k rule e = absurd (cc)
false_there said (first ∷ rules) (one_more h f) zero rule e = let same : first ≡ rule = cc in ap said (sym same) ∙ h
false_there said (first ∷ rules) (one_more h f) (suc k) rule e = false_there said rules f k rule e

pub may_then : (may : Bool) (said : Said Bool) → (if may then said else Gives false) ≡ Gives false → may ≡ true → said ≡ Gives false
may_then true said h is = h
may_then false said h is = absurd (cc)

-- ---- The two halves of the law

pub greatest_is_chosen : {N : Type 0} (same : N → N → Bool) (c : Rule → Context N) (n : N) (mode : Option Expanded) (candidates : Candidates) (rules : List Rule)
    (ask : Question N → Answer N) (supply : Supply N) (number : ℕ)
    → IsRanked rules → outcome_of ask supply (chosen same c n mode candidates rules) ≡ Gives (Some number)
    → IsSomeAnd (slice_get rules number) (IsGreatest (CanBeChosen same c n mode candidates ask supply) rules)
greatest_is_chosen same c n mode candidates rules ask supply number ranked h =
    let called = ask (question.Name n) in
    let said = said_of same c mode candidates n called ask supply in
    let f = found same c mode candidates n called ask supply number 0 rules h in
    let at : f.index ≡ number = let is = f.is in omega (arith, is) in
    let P : ℕ → Type 0 = λ k. IsSomeAnd (slice_get rules k) (IsGreatest (λ rule. said rule ≡ Gives true) rules) in
    greatest_alike (λ rule. said rule ≡ Gives true) (CanBeChosen same c n mode candidates ask supply) rules (slice_get rules number)
    (λ rule g. may_and_matches (may_be_chosen mode candidates rule) (outcome_of ask supply (matches same (c rule) rule.pattern n)) (sym (is_said same c mode candidates n called ask supply rule) ∙ g))
    (λ rule g. is_said same c mode candidates n called ask supply rule ∙ matches_and_may (may_be_chosen mode candidates rule) (outcome_of ask supply (matches same (c rule) rule.pattern n)) g)
    (subst P at (first_is_greatest said rules f.index ranked f.first))

pub none_is_chosen : {N : Type 0} (same : N → N → Bool) (c : Rule → Context N) (n : N) (mode : Option Expanded) (candidates : Candidates) (rules : List Rule)
    (ask : Question N → Answer N) (supply : Supply N) (k : ℕ)
    → outcome_of ask supply (chosen same c n mode candidates rules) ≡ Gives None
    → ForSome (slice_get rules k) (λ rule. may_be_chosen mode candidates rule ≡ true → outcome_of ask supply (matches same (c rule) rule.pattern n) ≡ Gives false)
none_is_chosen same c n mode candidates rules ask supply k h rule at may =
    let called = ask (question.Name n) in
    let said = said_of same c mode candidates n called ask supply in
    let falsely = false_there said rules (none_found same c mode candidates n called ask supply 0 rules h) k rule at in
    may_then (may_be_chosen mode candidates rule) (outcome_of ask supply (matches same (c rule) rule.pattern n)) (sym (is_said same c mode candidates n called ask supply rule) ∙ falsely) may
