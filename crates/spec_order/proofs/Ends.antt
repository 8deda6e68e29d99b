-- How a program ends, whatever a world that answers in order answers, and whatever is at hand that is in order.
use Rattle.std.proofs.Common.{◌≡◌, Bool, true, false, cond, Option, None, Some, refl, subst}
use Rattle.spec_meaning.specs.Question.{Question, Answer, Refusal}
use Rattle.spec_meaning.specs.Program.{Program, Give, Refuse, Ask, Need, Wanted, Given, Supply, Said, Gives, Refuses, Lacks, then, if_given}
use Rattle.spec_meaning.specs.Program.{value_in, outcome_of}
use Rattle.spec_order.specs.NodeSet.{IsInOrder, AnswersInOrder, WorldIsInOrder, SuppliesAreInOrder}

pub data Ends {N A : Type 0} (before : N → N → Bool) (P : A → Type 0) : Program N A → Type 0 where
  gives : {a : A} → P a → Ends before P (Give a)
  refuses : {why : Refusal} → Ends before P (Refuse why)
  asks : {q : Question N} {k : Answer N → Program N A} → ((a : Answer N) → AnswersInOrder before q a → Ends before P (k a)) → Ends before P (Ask q k)
  needs : {w : Wanted} {k : Given N → Program N A} → ((g : Given N) → IsInOrder before (value_in g) → Ends before P (k g)) → Ends before P (Need w k)

pub then_ends : {N A B : Type 0} {before : N → N → Bool} {P : A → Type 0} {Q : B → Type 0} {p : Program N A} {k : A → Program N B}
    → Ends before P p → ((a : A) → P a → Ends before Q (k a)) → Ends before Q (then p k)
unfolding then
then_ends (gives h) g = g _ h
then_ends refuses g = refuses
then_ends (asks next) g = asks (λ a e. then_ends (next a e) g)
then_ends (needs next) g = needs (λ x e. then_ends (next x e) g)

-- where nothing is said of the value
abbrev pub Anything : {A : Type 0} → A → Type 0
Anything a = Unit {0}

-- what holds of all values holds of the one that it ends with
pub all_end : {N A : Type 0} {before : N → N → Bool} {P : A → Type 0} → ((a : A) → P a) → (p : Program N A) → Ends before P p
all_end h (Give a) = gives (h a)
all_end h (Refuse why) = refuses
all_end h (Ask q next) = asks (λ a e. all_end h (next a))
all_end h (Need w next) = needs (λ g e. all_end h (next g))

-- whatever the first gives
pub after_any : {N A B : Type 0} {before : N → N → Bool} {Q : B → Type 0} (p : Program N A) {k : A → Program N B}
    → ((a : A) → Ends before Q (k a)) → Ends before Q (then p k)
after_any p g = then_ends (all_end {P = Anything} (λ a. tt) p) (λ a h. g a)

pub either_ends : {N A : Type 0} {before : N → N → Bool} {P : A → Type 0} (b : Bool) {p q : Program N A} → Ends before P p → Ends before P q
    → Ends before P (cond b p q)
either_ends true h g = h
either_ends false h g = g

-- ---- in such a world
abbrev pub SaidSo : {A : Type 0} → (A → Type 0) → Said A → Type 0
SaidSo P (Gives a) = P a
SaidSo P (Refuses why) = Unit {0}
SaidSo P (Lacks w) = Unit {0}

needed : {N A : Type 0} (before : N → N → Bool) (P : A → Type 0) (says : Given N → Said A) (w : Wanted)
    → ((g : Given N) → IsInOrder before (value_in g) → SaidSo P (says g)) → (o : Option (Given N))
    → ((g : Given N) → o ≡ Some g → IsInOrder before (value_in g)) → SaidSo P (if_given says (Lacks w) o)
needed before P says w next None h = tt
needed before P says w next (Some g) h = next g (h g refl)

pub said : {N A : Type 0} (before : N → N → Bool) (P : A → Type 0) (ask : Question N → Answer N) (supply : Supply N) → WorldIsInOrder before ask
    → SuppliesAreInOrder before supply → (p : Program N A) → Ends before P p → SaidSo P (outcome_of ask supply p)
said before P ask supply w s _ (gives h) = h
said before P ask supply w s _ refuses = tt
said before P ask supply w s _ (asks {q = q} next) = said before P ask supply w s _ (next (ask q) (w q))
said before P ask supply w s _ (needs {w = wanted} {k = k} next) =
    needed before P (λ g. outcome_of ask supply (k g)) wanted (λ g e. said before P ask supply w s _ (next g e)) (supply wanted) (s wanted)

pub gave : {A : Type 0} (P : A → Type 0) {o : Said A} {a : A} → SaidSo P o → o ≡ Gives a → P a
gave P h e = subst (λ (o : Said _). SaidSo P o) e h
