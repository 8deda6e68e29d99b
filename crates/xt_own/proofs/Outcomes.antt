-- How programs end that come one after another.
use Rattle.std.proofs.Common.{◌≡◌, Option, None, Some, refl, sym, ap, ◌∙◌}
use Rattle.spec_meaning.specs.Question.{Question, Answer}
use Rattle.spec_meaning.specs.Program.{Given, Supply, Program, Give, Refuse, Ask, Need, Said, Gives, Refuses, Lacks, if_given, outcome_of, then}

-- what is said after that
abbrev pub said_then : {A B : Type 0} → Said A → (A → Said B) → Said B
said_then (Gives v) k = k v
said_then (Refuses w) k = Refuses w
said_then (Lacks w) k = Lacks w

outcome_then : {N A B : Type 0} (ask : Question N → Answer N) (supply : Supply N) (p : Program N A) (k : A → Program N B)
    → outcome_of ask supply (then p k) ≡ said_then (outcome_of ask supply p) (λ v. outcome_of ask supply (k v))
unfolding then
outcome_then ask supply (Give v) k = refl
outcome_then ask supply (Refuse w) k = refl
outcome_then ask supply (Ask q next) k = outcome_then ask supply (next (ask q)) k
outcome_then {N} {A} {B} ask supply (Need w next) k = go (supply w) (λ g. outcome_then ask supply (next g) k)
  where
    go : (o : Option (Given N)) → ((g : Given N) → outcome_of ask supply (then (next g) k) ≡ said_then (outcome_of ask supply (next g)) (λ v. outcome_of ask supply (k v)))
        → if_given (λ g. outcome_of ask supply (then (next g) k)) (Lacks w) o
        ≡ said_then (if_given (λ g. outcome_of ask supply (next g)) (Lacks w) o) (λ v. outcome_of ask supply (k v))
    go None h = refl
    go (Some g) h = h g

-- a program gives a value, and what follows of it another
pub record GivesOn {N A B : Type 0} (ask : Question N → Answer N) (supply : Supply N) (p : Program N A) (k : A → Program N B) (v : B) : Type 0 where
  pub value : A
  pub first : outcome_of ask supply p ≡ Gives value
  pub later : outcome_of ask supply (k value) ≡ Gives v

pub gives_first : {N A B : Type 0} (ask : Question N → Answer N) (supply : Supply N) (p : Program N A) (k : A → Program N B) (v : B)
    → outcome_of ask supply (then p k) ≡ Gives v → GivesOn ask supply p k v
gives_first {N} {A} {B} ask supply p k v h = by (outcome_of ask supply p) refl (sym (outcome_then ask supply p k) ∙ h)
  where
    by : (said : Said A) → outcome_of ask supply p ≡ said → said_then said (λ x. outcome_of ask supply (k x)) ≡ Gives v → GivesOn ask supply p k v
    by (Gives x) e g = record { value = x; first = e; later = g }
    by (Refuses w) e g = absurd (cc)
    by (Lacks w) e g = absurd (cc)

pub gives_then : {N A B : Type 0} (ask : Question N → Answer N) (supply : Supply N) (p : Program N A) (k : A → Program N B) (x : A) (v : B)
    → outcome_of ask supply p ≡ Gives x → outcome_of ask supply (k x) ≡ Gives v → outcome_of ask supply (then p k) ≡ Gives v
gives_then {N} {A} {B} ask supply p k x v e h = outcome_then ask supply p k ∙ ap (λ (s : Said A). said_then s (λ y. outcome_of ask supply (k y))) e ∙ h
