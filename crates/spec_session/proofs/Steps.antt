-- The machine has a step at each command in each state that it comes to, and but for want of memory and the counts only one.
use Rattle.std.proofs.Common.{◌≡◌, ℕ, true, List, Option, None, Some, Ok, refl, sym, ◌∙◌, ap, subst, arith, lit<, inl, inr}
use Rattle.std.specs.Prelude.{◌≢◌, ◌<◌}
use Rattle.spec_document.specs.Forest.{Plain}
use Rattle.spec_session.specs.Command.{Command}
use Rattle.spec_session.specs.Request.{Statistics, request_of}
use Rattle.spec_session.specs.Reply.{Reply, OkDone, OkRefused, OkPending, OkDropped, Refused, Shown, Written, Counted, No}
use Rattle.spec_document.specs.Name.{Expanded}
use Rattle.spec_stylesheet.specs.declared.method.Method.{Method}
use Rattle.spec_stylesheet.specs.declared.method.Method.TheVariants as method
use Rattle.spec_structure.specs.Modules.{is_among}
use Rattle.spec_run.specs.Documents.{Documents}
use Rattle.spec_run.specs.Outcome.{Outcome, Done, Failed, IsOutcome}
use Rattle.spec_session.specs.Machine.{State, Answer, Refuses, Changes, Pends, Drops, ShowsResult, WritesResult, ShowsMessages, ShowsDocument, TellsCounts}
use Rattle.spec_session.specs.Machine.{Gives, Step, IsFreeAt, IsFreeFor, TellsNumbers}
use Rattle.spec_expression.specs.declared.code.Code.{Code}
use Rattle.spec_expression.specs.declared.code.Code.TheVariants.{Static, Dynamic}
use Rattle.spec_session.specs.Machine.{change_reply, result_reply, written_by, written_reply, messages_reply, answer_of}
use Rattle.spec_session.proofs.Counts.{no_counts}

number_in : Reply → ℕ
number_in (No number) = number
number_in OkDone = 0
number_in (OkRefused why) = 0
number_in OkPending = 0
number_in OkDropped = 0
number_in (Refused why) = 0
number_in (Shown lines) = 0
number_in (Written text) = 0
number_in (Counted ran asked did) = 0

-- what is given and is not for want of memory: it cannot be that nothing is
abbrev pub HasReply : State → Answer → Type 0
HasReply old answer = ¬ (¬ ((reply : Reply) × (new : State) × Gives old answer reply new × (reply ≢ No 1)))

-- the modules are finitely many: these are names among which each name of a module is
abbrev pub AreAmong : Documents → List (List ℕ) → Type 0
AreAmong documents names = (name : List ℕ) (its : Plain) → documents.modules name ≡ Some its → is_among name names ≡ true

pub record AreFinite (documents : Documents) : Type 0 where
  pub names : List (List ℕ)
  pub all : AreAmong documents names

abbrev pub ArePendingFinite : Option Documents → Type 0
ArePendingFinite None = Unit {0}
ArePendingFinite (Some documents) = AreFinite documents

-- so they are among the present documents of a state, and among the pending ones
pub record HasFinite (state : State) : Type 0 where
  pub present : AreFinite state.documents
  pub pending : ArePendingFinite state.pending

-- documents do not lack an outcome, and have one
abbrev pub NoWant : Type 0
NoWant = (documents : Documents) (names : List (List ℕ)) → AreAmong documents names → ¬ (¬ ((outcome : Outcome) × IsOutcome documents outcome))

abbrev pub OneOutcome : Type 0
OneOutcome = (documents : Documents) (one other : Outcome) → IsOutcome documents one → IsOutcome documents other → one ≡ other

-- no answer refuses by the number of want of memory, and none leads to more than finitely many modules
abbrev pub IsOther : Answer → Type 0
IsOther (Refuses number) = 1 < number
IsOther (Changes next) = HasFinite next
IsOther (Pends next) = HasFinite next
IsOther (Drops next) = HasFinite next
IsOther ShowsResult = Unit {0}
IsOther WritesResult = Unit {0}
IsOther ShowsMessages = Unit {0}
IsOther (ShowsDocument tree) = Unit {0}
IsOther TellsCounts = Unit {0}

above : (n : ℕ) → 1 < n → n ≡ 1 → ⊥
above n h e = omega arith

change_differs : (o : Outcome) → change_reply o ≢ No 1
change_differs (Done result method messages) = λ h. cc
change_differs (Failed why messages) = λ h. cc

result_differs : (o : Outcome) → result_reply o ≢ No 1
result_differs (Done result method messages) = λ h. cc
result_differs (Failed why messages) = λ h. cc

by_differs : (m : Option (Method Expanded)) (result : Plain) → written_by m result ≢ No 1
by_differs None result = λ h. cc
by_differs (Some method.Text) result = λ h. cc
by_differs (Some method.Xml) result = λ h. cc
by_differs (Some method.Html) result = λ h. cc
by_differs (Some (method.Other name)) result = λ h. cc

written_differs : (o : Outcome) → written_reply o ≢ No 1
written_differs (Done result m messages) = by_differs m result
written_differs (Failed why messages) = λ h. cc

-- all three numbers may be 0 in any case
free_at : (code : Code) → IsFreeAt code 0 0 0
free_at (Static code) = (refl, refl, refl)
free_at (Dynamic code) = tt

free_for : (o : Outcome) → IsFreeFor o 0 0 0
free_for (Done result m messages) = tt
free_for (Failed why messages) = free_at why.code

none_told : (o : Outcome) → TellsNumbers o (Counted 0 0 0)
none_told o = record {
  ran = 0;
  asked = 0;
  did = 0;
  ran_fits = lit< tt;
  asked_fits = lit< tt;
  did_fits = lit< tt;
  free = free_for o;
  is = refl;
}

pub gives : NoWant → (old : State) → HasFinite old → (answer : Answer) → IsOther answer → HasReply old answer
unfolding number_in
gives some old finite (Refuses number) h none = none (No number, old, (refl, refl), λ e. above number h (ap number_in e))
gives some old finite (Changes next) h none =
    some next.documents h.present.names h.present.all (λ o. none (change_reply o.0, next, ((o.0, o.1, refl), refl), change_differs o.0))
gives some old finite (Pends next) h none = none (OkPending, next, (refl, refl), λ e. cc)
gives some old finite (Drops next) h none = none (OkDropped, next, (refl, refl), λ e. cc)
gives some old finite ShowsResult h none =
    some old.documents finite.present.names finite.present.all (λ o. none (result_reply o.0, old, ((o.0, o.1, refl), refl), result_differs o.0))
gives some old finite WritesResult h none =
    some old.documents finite.present.names finite.present.all (λ o. none (written_reply o.0, old, ((o.0, o.1, refl), refl), written_differs o.0))
gives some old finite ShowsMessages h none =
    some old.documents finite.present.names finite.present.all (λ o. none (messages_reply o.0, old, ((o.0, o.1, refl), refl), λ e. cc))
gives some old finite (ShowsDocument tree) h none = none (Shown _, old, (refl, refl), λ e. cc)
gives some old finite TellsCounts h none =
    some old.documents finite.present.names finite.present.all
    (λ o. none (Counted 0 0 0, old, ((o.0, o.1, none_told o.0), refl), λ e. cc))

-- what one answer gives is one state, and one reply but for the counts
one_state : (old : State) (answer : Answer) (reply other : Reply) (new another : State) → Gives old answer reply new → Gives old answer other another
    → new ≡ another
one_state old (Refuses number) reply other new another g h = g.1 ∙ sym h.1
one_state old (Changes next) reply other new another g h = g.1 ∙ sym h.1
one_state old (Pends next) reply other new another g h = g.1 ∙ sym h.1
one_state old (Drops next) reply other new another g h = g.1 ∙ sym h.1
one_state old ShowsResult reply other new another g h = g.1 ∙ sym h.1
one_state old WritesResult reply other new another g h = g.1 ∙ sym h.1
one_state old ShowsMessages reply other new another g h = g.1 ∙ sym h.1
one_state old (ShowsDocument tree) reply other new another g h = g.1 ∙ sym h.1
one_state old TellsCounts reply other new another g h = g.1 ∙ sym h.1

one_reply : OneOutcome → (old : State) (answer : Answer) (reply other : Reply) (new another : State) → answer ≢ TellsCounts → Gives old answer reply new
    → Gives old answer other another → reply ≡ other
one_reply same old (Refuses number) reply other new another n g h = g.0 ∙ sym h.0
one_reply same old (Changes next) reply other new another n g h =
    g.0.2 ∙ ap change_reply (same next.documents g.0.0 h.0.0 g.0.1 h.0.1) ∙ sym h.0.2
one_reply same old (Pends next) reply other new another n g h = g.0 ∙ sym h.0
one_reply same old (Drops next) reply other new another n g h = g.0 ∙ sym h.0
one_reply same old ShowsResult reply other new another n g h =
    g.0.2 ∙ ap result_reply (same old.documents g.0.0 h.0.0 g.0.1 h.0.1) ∙ sym h.0.2
one_reply same old WritesResult reply other new another n g h =
    g.0.2 ∙ ap written_reply (same old.documents g.0.0 h.0.0 g.0.1 h.0.1) ∙ sym h.0.2
one_reply same old ShowsMessages reply other new another n g h =
    g.0.2 ∙ ap messages_reply (same old.documents g.0.0 h.0.0 g.0.1 h.0.1) ∙ sym h.0.2
one_reply same old (ShowsDocument tree) reply other new another n g h = g.0 ∙ sym h.0
one_reply same old TellsCounts reply other new another n g h = absurd (n refl)

pub states_agree : (old : State) (command : Command) (reply other : Reply) (new another : State) → Step old command reply new
    → Step old command other another → reply ≢ No 1 → other ≢ No 1 → new ≡ another
states_agree old command reply other new another (inl g) (inl h) m n = one_state old (answer_of old command) reply other new another g h
states_agree old command reply other new another (inr g) h m n = absurd (m g.0)
states_agree old command reply other new another (inl g) (inr h) m n = absurd (n h.0)

pub replies_agree : OneOutcome → (old : State) (command : Command) (reply other : Reply) (new another : State) → request_of command ≢ Ok Statistics
    → Step old command reply new → Step old command other another → reply ≢ No 1 → other ≢ No 1 → reply ≡ other
replies_agree same old command reply other new another differs (inl g) (inl h) m n =
    one_reply same old (answer_of old command) reply other new another (no_counts old (request_of command) differs) g h
replies_agree same old command reply other new another differs (inr g) h m n = absurd (m g.0)
replies_agree same old command reply other new another differs (inl g) (inr h) m n = absurd (n h.0)

-- ---- States that a run comes to

same_state : (old new : State) → HasFinite old → new ≡ old → HasFinite new
same_state old new finite e = subst HasFinite (sym e) finite

-- what is held after an answer
pub finite_after : (old : State) → HasFinite old → (answer : Answer) → IsOther answer → (reply : Reply) (new : State) → Gives old answer reply new
    → HasFinite new
finite_after old finite (Refuses number) h reply new g = same_state old new finite g.1
finite_after old finite (Changes next) h reply new g = same_state next new h g.1
finite_after old finite (Pends next) h reply new g = same_state next new h g.1
finite_after old finite (Drops next) h reply new g = same_state next new h g.1
finite_after old finite ShowsResult h reply new g = same_state old new finite g.1
finite_after old finite WritesResult h reply new g = same_state old new finite g.1
finite_after old finite ShowsMessages h reply new g = same_state old new finite g.1
finite_after old finite (ShowsDocument tree) h reply new g = same_state old new finite g.1
finite_after old finite TellsCounts h reply new g = same_state old new finite g.1
