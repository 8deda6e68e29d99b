-- The questions among what was read.
use Rattle.std.proofs.Common.{◌≡◌, ◌<◌, ◌+◌, ℕ, Bool, List, [], ◌∷◌, ◌++◌, Result, Ok, Err, true, length, map, take, drop, get_or, refl, sym, ap, ◌∙◌, subst}
use Rattle.std.specs.Prelude.{IfOk}
use Rattle.std.proofs.lemmas.List.{at_drop_more, map-append, take_more}
use Rattle.xt_text.specs.declared.memory.Memory.{Memory}
use Rattle.xt_questions.specs.View.{question_of, read_of}
use Rattle.xt_questions.specs.declared.question.Question.{Question as CodeQuestion}
use Rattle.xt_questions.specs.declared.read.Read.{Read as CodeRead}
use Rattle.spec_meaning.specs.Question.{Question, Answer}
use Rattle.spec_meaning.specs.Program.{Wanted, Given, Read, Asked, Saw}
use Rattle.spec_node.specs.declared.node_ref.NodeRef.{NodeRef}
use Rattle.xt_spared.specs.View.{Ask, questions_of}
use Rattle.xt_own.specs.Keys.{AgreeOn}
use Rattle.xt_own.specs.View.{AgreeOnReads, AreAsked, AreOfSource, is_of_source}

of_source_and : (reads : List (Read NodeRef)) (read : Read NodeRef) → AreOfSource reads → AreOfSource (read ∷ []) → AreOfSource (reads ++ read ∷ [])
of_source_and [] read are is = is
of_source_and (Asked q a ∷ reads) read are is = (are.0, of_source_and reads read are.1 is)
of_source_and (Saw w d g ∷ reads) read are is = of_source_and reads read are is

agree_and : (other was : Ask) (reads : List (Read NodeRef)) (read : Read NodeRef) → AgreeOnReads other was reads → AgreeOnReads other was (read ∷ [])
    → AgreeOnReads other was (reads ++ read ∷ [])
agree_and other was [] read are is = is
agree_and other was (Asked q a ∷ reads) read are is = (are.0, agree_and other was reads read are.1 is)
agree_and other was (Saw w d g ∷ reads) read are is = agree_and other was reads read are is

-- nothing was asked
pub with_saw : {questions : List (Question NodeRef)} (reads : List (Read NodeRef)) (w : Wanted) (depth : ℕ) (g : Given NodeRef) → AreAsked questions reads
    → AreAsked questions (reads ++ Saw w depth g ∷ [])
with_saw reads w depth g asked = record {
  of_source = of_source_and reads (Saw w depth g) asked.of_source tt;
  all = λ other was h. agree_and other was reads (Saw w depth g) (asked.all other was h) tt;
}

-- a question was asked, which is among the new ones
pub with_asked : {questions more : List (Question NodeRef)} (reads : List (Read NodeRef)) (q : Question NodeRef) (a : Answer NodeRef)
    → is_of_source q ≡ true
    → ((other was : Ask) → AgreeOn other was more → AgreeOn other was questions × (other q ≡ was q))
    → AreAsked questions reads → AreAsked more (reads ++ Asked q a ∷ [])
with_asked reads q a is both asked = record {
  of_source = of_source_and reads (Asked q a) asked.of_source (is, tt);
  all = λ other was h. agree_and other was reads (Asked q a) (asked.all other was (both other was h).0) ((both other was h).1, tt);
}

-- one more question
pub parts : (other was : Ask) (questions : List (Question NodeRef)) (q : Question NodeRef) → AgreeOn other was (questions ++ q ∷ [])
    → AgreeOn other was questions × (other q ≡ was q)
parts other was [] q h = (tt, h.0)
parts other was (x ∷ xs) q h = ((h.0, (parts other was xs q h.1).0), (parts other was xs q h.1).1)

pub questions_and : (questions : List CodeQuestion) (q : CodeQuestion) → questions_of (questions ++ q ∷ []) ≡ questions_of questions ++ question_of q ∷ []
questions_and [] q = refl
questions_and (x ∷ xs) q = ap (λ qs. question_of x ∷ qs) (questions_and xs q)

-- a turn of the questions
pub next_known : (other was : Ask) (questions : List CodeQuestion) (i : ℕ) (known : CodeQuestion) → i < length questions
    → AgreeOn other was (questions_of (drop i questions))
    → (other (question_of (get_or questions i known)) ≡ was (question_of (get_or questions i known))) × AgreeOn other was (questions_of (drop (i + 1) questions))
next_known other was questions i known l h =
    subst (λ (xs : List CodeQuestion). AgreeOn other was (questions_of xs)) (at_drop_more (λ xs. xs) questions i known l) h

-- a turn of the reads
pub next_read : {questions : List (Question NodeRef)} (reads : List CodeRead) (i : ℕ) (read : CodeRead) → i < length reads → read ≡ get_or reads i read
    → AreAsked questions (map read_of (take i reads) ++ read_of read ∷ []) → AreAsked questions (map read_of (take (i + 1) reads))
next_read {questions = questions} reads i read l is h =
    subst (λ (rs : List (Read NodeRef)). AreAsked questions rs)
    (ap (λ r. map read_of (take i reads) ++ read_of r ∷ []) is ∙ sym (map-append read_of (take i reads) (get_or reads i read ∷ []))
    ∙ ap (map read_of) (sym (take_more reads i read l))) h

-- what is told of a question that was asked
pub told_of_asked : (r : Result Bool Memory) (questions more : List (Question NodeRef)) (q : Question NodeRef) (a : Answer NodeRef)
    → IfOk r (λ b. b ≡ true → (is_of_source q ≡ true) × ((other was : Ask) → AgreeOn other was more → AgreeOn other was questions × (other q ≡ was q)))
    → IfOk r (λ b. b ≡ true → (reads : List (Read NodeRef)) → AreAsked questions reads → AreAsked more (reads ++ Asked q a ∷ []))
told_of_asked (Ok b) questions more q a h = λ yes reads asked. with_asked reads q a (h yes).0 (h yes).1 asked
told_of_asked (Err e) questions more q a h = tt
