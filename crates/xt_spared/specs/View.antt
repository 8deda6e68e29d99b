-- What the types of this crate stand for, and which questions need not be asked again.
--     IsSpared      after no change since must it be asked, or it is of a value in a key that stays which is answered as before, or it is a choice and this is so of each question that was asked for it
--     IsSparedBy    the same, by a value of the program
--     by_own_reads  the questions whose answers rest on what was asked for them
--     Agrees        two worlds answer alike what need be asked after no change
--     KeysStay      they answer alike what is asked of these keys, but for the values in which each does not stay
--     Spares        they answer alike what is spared
use Rattle.std.specs.Prelude.{◌≡◌, ◌⊎◌, ℕ, Bool, true, false, not, ◌||◌, ◌&&◌, bytes_eq, List, [], ◌∷◌, ◌++◌, map, Option, None, Some}
use Rattle.std.specs.List.{list_all, list_any}
use Rattle.std.specs.Borrow.{Bor}
use Rattle.spec_document.specs.Name.{Expanded, same_name}
use Rattle.spec_meaning.specs.Question.{Question, Answer, Step, Text, Name, Place, Order, Key, Choice, Copy, Unit, External}
use Rattle.spec_node.specs.declared.node_ref.NodeRef.{NodeRef}
use Rattle.spec_touch.specs.Marks.{WorldChange, any_asks}
use Rattle.xt_questions.specs.View.{question_of}
use Rattle.xt_questions.specs.declared.question.Question.{Question as CodeQuestion}
use Rattle.xt_touch.specs.View.{since_of}
use Rattle.xt_spared.specs.declared.choices.OwnChoice.{OwnChoice}
use Rattle.xt_spared.specs.declared.choices.OwnChoices.{OwnChoices}
use Rattle.xt_spared.specs.declared.spared.KeyThatStays.{KeyThatStays}
use Rattle.xt_spared.specs.declared.spared.Spared.{Spared}

-- what a world answers
abbrev pub Ask : Type 0
Ask = Question NodeRef → Answer NodeRef

-- ---- A choice, with what was asked for it

pub record Own : Type 0 where
  pub question : Question NodeRef
  pub reads : List (Question NodeRef)

abbrev pub questions_of : List CodeQuestion → List (Question NodeRef)
questions_of questions = map question_of questions

abbrev pub own_of : OwnChoice → Own
own_of own = record { question = question_of own.question; reads = questions_of own.reads.items }

abbrev pub owns_of : OwnChoices → List Own
owns_of choices = map (λ own. own_of own.value) choices.list.items

-- those of the choices, where there are any
abbrev pub owns_in : Option (Bor OwnChoices) → List Own
owns_in None = []
owns_in (Some choices) = owns_of choices.now

abbrev pub IsAmong : Own → List Own → Type 0
IsAmong own [] = ⊥
IsAmong own (other ∷ owns) = (own ≡ other) ⊎ IsAmong own owns

-- ---- What need not be asked again

abbrev pub is_text_among : List ℕ → List (List ℕ) → Bool
is_text_among text texts = list_any (λ t. bytes_eq t text) texts

-- the key is of this name, and this value of it is answered as before
abbrev pub stays_at : Expanded → List ℕ → KeyThatStays → Bool
stays_at name text key = same_name name key.name && not (is_text_among text key.but.items)

-- it is asked of one of these keys, and of a value that is answered as before
abbrev pub is_key_among : List KeyThatStays → Question NodeRef → Bool
is_key_among keys (Step node axis test) = false
is_key_among keys (Text node) = false
is_key_among keys (Name node) = false
is_key_among keys (Place node) = false
is_key_among keys (Order nodes) = false
is_key_among keys (Key name value) = list_any (stays_at name value) keys
is_key_among keys (Choice node mode candidates) = false
is_key_among keys (Copy node) = false
is_key_among keys (Unit element) = false
is_key_among keys (External name) = false

-- the answer is made of what is asked for it, and may be found to be the same by that
abbrev pub by_own_reads : Question NodeRef → Bool
by_own_reads (Step node axis test) = false
by_own_reads (Text node) = false
by_own_reads (Name node) = false
by_own_reads (Place node) = false
by_own_reads (Order nodes) = false
by_own_reads (Key name value) = true
by_own_reads (Choice node mode candidates) = true
by_own_reads (Copy node) = false
by_own_reads (Unit element) = false
by_own_reads (External name) = false

-- after none of these changes must it be asked, or it is asked of a value in which a key stays
abbrev pub stays : List WorldChange → List KeyThatStays → Question NodeRef → Bool
stays changes keys question = not (any_asks changes question) || is_key_among keys question

abbrev pub all_stay : List WorldChange → List KeyThatStays → List (Question NodeRef) → Bool
all_stay changes keys questions = list_all (stays changes keys) questions

pub data IsSpared (changes : List WorldChange) (keys : List KeyThatStays) (owns : List Own) (question : Question NodeRef) : Type 0 where
  by_itself : stays changes keys question ≡ true → IsSpared changes keys owns question
  -- it is a choice, and each question that was asked for it stays
  by_reads : (own : Own) → IsAmong own owns → own.question ≡ question → all_stay changes keys own.reads ≡ true → IsSpared changes keys owns question

-- by the choices that were found before, and by those that were made only now
abbrev pub owns_by : Spared → List Own
owns_by spared = owns_in spared.choices ++ owns_of spared.made_now

abbrev pub IsSparedBy : Spared → Question NodeRef → Type 0
IsSparedBy spared question = IsSpared (since_of spared.since.now) spared.keys.items (owns_by spared) question

-- ---- Two worlds: `was` answers as in the last finished run, `ask` as now

abbrev pub Agrees : (was ask : Ask) → List WorldChange → Type 0
Agrees was ask changes = (question : Question NodeRef) → any_asks changes question ≡ false → ask question ≡ was question

abbrev pub KeysStay : (was ask : Ask) → List KeyThatStays → Type 0
KeysStay was ask keys = (question : Question NodeRef) → is_key_among keys question ≡ true → ask question ≡ was question

abbrev pub Spares : (was ask : Ask) → Spared → Type 0
Spares was ask spared = (question : Question NodeRef) → IsSparedBy spared question → ask question ≡ was question
