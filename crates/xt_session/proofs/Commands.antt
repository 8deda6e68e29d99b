-- How taking a command goes on and ends, between two commands and inside a body.
use Rattle.std.proofs.Common.{◌≡◌, ℕ, Bool, true, false, List, [], ◌∷◌, ◌++◌, Option, refl, sym, ◌∙◌, ap, subst, inl, inr}
use Rattle.spec_lines.specs.Lines.{Reader, GivesLine, IsFinished, IsOver, TakesUpTo, head_of}
use Rattle.spec_session.specs.declared.kinds.LineKind.{LineKind}
use Rattle.spec_session.specs.declared.kinds.LineKind.TheVariants.{Empty, Quit as QuitLine, WithBody, Alone}
use Rattle.spec_session.specs.declared.kinds.Ending.TheVariants.{Finished, Quit, Unfinished}
use Rattle.spec_session.specs.Command.{Command, Session, session_of, session_with, after, ended, kind_of, is_end}
use Rattle.xt_session.specs.declared.command.Taken.{Taken}
use Rattle.xt_session.specs.declared.command.Taken.TheVariants.{Command as Whole, Skipped, Stopped, Failed}
use Rattle.xt_session.specs.Progress.{GivesCommand, IsDone, IsCut, FailsInLine, Took, IsAlone}
use Rattle.xt_session.proofs.Giving.{takes_one}
use Rattle.xt_session.proofs.Taking.{GoesOn, goes_at_start, goes_line, whole_with, done_at_end, done_at_limit, done_at_quit, cut_in_line}

-- ---- Between two commands

-- what a line does there
session-empty : (line : List ℕ) → kind_of (head_of line) ≡ Empty → (rest : List (List ℕ)) → session_of (line ∷ rest) ≡ session_of rest
session-empty line e rest = rw (e, session_of) refl

session-quit : (line : List ℕ) → kind_of (head_of line) ≡ QuitLine → (rest : List (List ℕ)) → session_of (line ∷ rest) ≡ ended Quit
session-quit line e rest = rw (e, session_of) refl

session-body : (line : List ℕ) → kind_of (head_of line) ≡ WithBody → (rest : List (List ℕ))
    → session_of (line ∷ rest) ≡ session_with line [] rest
session-body line e rest = rw (e, session_of) refl

session-alone : (line : List ℕ) → kind_of (head_of line) ≡ Alone → (rest : List (List ℕ))
    → session_of (line ∷ rest) ≡ after (record { line = line; body = [] }) (session_of rest)
session-alone line e rest = rw (e, session_of) refl

-- a head tells what its line would
head-head : (line : List ℕ) → head_of (head_of line) ≡ head_of line
head-head (a ∷ b ∷ c ∷ d ∷ e ∷ f ∷ g ∷ rest) = refl
head-head [] = refl
head-head (a ∷ []) = refl
head-head (a ∷ b ∷ []) = refl
head-head (a ∷ b ∷ c ∷ []) = refl
head-head (a ∷ b ∷ c ∷ d ∷ []) = refl
head-head (a ∷ b ∷ c ∷ d ∷ e ∷ []) = refl
head-head (a ∷ b ∷ c ∷ d ∷ e ∷ f ∷ []) = refl

-- what a line is, by the line or by its head
pub kind_by_line : {line bytes : List ℕ} {kind : LineKind} → bytes ≡ line → kind ≡ kind_of (head_of bytes) → kind_of (head_of line) ≡ kind
kind_by_line e k = ap (λ (l : List ℕ). kind_of (head_of l)) (sym e) ∙ sym k

pub kind_by_head : (line : List ℕ) {head bytes : List ℕ} {kind : LineKind}
    → head ≡ head_of line → bytes ≡ head → kind ≡ kind_of (head_of bytes) → kind_of (head_of line) ≡ kind
kind_by_head line h e k = ap kind_of (sym (head-head line)) ∙ ap (λ (l : List ℕ). kind_of (head_of l)) (sym h ∙ sym e) ∙ sym k

pub goes_empty : {a b c : Reader} {p q r : Option (List ℕ)} {line : List ℕ}
    → GoesOn session_of a p session_of b q → GivesLine b q line c r → TakesUpTo 0 b q c r → kind_of (head_of line) ≡ Empty
    → GoesOn session_of a p session_of c r
goes_empty {line = line} on gives takes e = goes_line on gives takes (session-empty line e)

pub goes_body : {a b c : Reader} {p q r : Option (List ℕ)} {line : List ℕ}
    → GoesOn session_of a p session_of b q → GivesLine b q line c r → TakesUpTo 0 b q c r → kind_of (head_of line) ≡ WithBody
    → GoesOn session_of a p (session_with line []) c r
goes_body {line = line} on gives takes e = goes_line on gives takes (session-body line e)

pub done_quit : {b c : Reader} {q r : Option (List ℕ)} {line : List ℕ}
    → GivesLine b q line c r → TakesUpTo 0 b q c r → kind_of (head_of line) ≡ QuitLine → IsDone session_of b q 0 c r
done_quit {line = line} gives takes e = done_at_quit gives (takes_one takes) (session-quit line e)

pub alone_whole : {b c : Reader} {q r : Option (List ℕ)} {line : List ℕ}
    → GivesLine b q line c r → TakesUpTo 0 b q c r → kind_of (head_of line) ≡ Alone
    → GivesCommand session_of b q (record { line = line; body = [] }) c r
alone_whole {line = line} gives takes e = whole_with gives takes (session-alone line e)

-- the command of a line that has no body
pub alone_took : {b c : Reader} {q r : Option (List ℕ)} {line : List ℕ} (taken : Taken)
    → IsAlone line taken → GivesLine b q line c r → TakesUpTo 0 b q c r → kind_of (head_of line) ≡ Alone → Took session_of b q taken c r
alone_took {b = b} {c = c} {q = q} {r = r} (Whole command) is gives takes e =
    subst (λ (made : Command). GivesCommand session_of b q made c r) (sym is) (alone_whole gives takes e)
alone_took Skipped is gives takes e = absurd is
alone_took (Stopped status) is gives takes e = absurd is
alone_took Failed is gives takes e = absurd is

pub done_finished : {b c : Reader} {q r : Option (List ℕ)} → IsFinished b q → TakesUpTo 0 b q c r → IsDone session_of b q 0 c r
done_finished h takes = done_at_end session_of Finished refl refl (inl refl) h (takes_one takes)

pub done_over : {b c : Reader} {q r : Option (List ℕ)} → IsOver b q → TakesUpTo 1 b q c r → IsDone session_of b q 5 c r
done_over h takes = done_at_limit session_of Finished refl refl h takes

pub done_fails : {b c : Reader} {q r : Option (List ℕ)} → FailsInLine b q r → TakesUpTo 0 b q c r → IsCut session_of b q c r
done_fails h takes = cut_in_line session_of Finished refl (λ quit. cc) h takes

-- ---- Inside a body

-- what a line does there
body-end : (line : List ℕ) (body : List (List ℕ)) (next : List ℕ) → is_end next ≡ true → (rest : List (List ℕ))
    → session_with line body (next ∷ rest) ≡ after (record { line = line; body = body }) (session_of rest)
body-end line body next e rest = rw (e, session_with) refl

body-more : (line : List ℕ) (body : List (List ℕ)) (next : List ℕ) → is_end next ≡ false → (rest : List (List ℕ))
    → session_with line body (next ∷ rest) ≡ session_with line (body ++ next ∷ []) rest
body-more line body next e rest = rw (e, session_with) refl

is_end-head : (line : List ℕ) → is_end (head_of line) ≡ is_end line
is_end-head [] = refl
is_end-head (a ∷ []) = refl
is_end-head (a ∷ b ∷ rest) = refl

-- the test for the end of a body, by the line or by its head
pub end_by_line : {next bytes : List ℕ} {found tested : Bool} → bytes ≡ next → found ≡ is_end bytes → found ≡ tested → is_end next ≡ tested
end_by_line e f h = ap is_end (sym e) ∙ sym f ∙ h

pub end_by_head : (next : List ℕ) {head bytes : List ℕ} {found tested : Bool}
    → head ≡ head_of next → bytes ≡ head → found ≡ is_end bytes → found ≡ tested → is_end next ≡ tested
end_by_head next k e f h = sym (is_end-head next) ∙ ap is_end (sym k) ∙ ap is_end (sym e) ∙ sym f ∙ h

pub body_whole : {line : List ℕ} {body : List (List ℕ)} {b c : Reader} {q r : Option (List ℕ)} {next : List ℕ}
    → GivesLine b q next c r → TakesUpTo 0 b q c r → is_end next ≡ true
    → GivesCommand (session_with line body) b q (record { line = line; body = body }) c r
body_whole {line = line} {body = body} {next = next} gives takes e = whole_with gives takes (body-end line body next e)

pub body_more : {f : List (List ℕ) → Session} {line : List ℕ} {body : List (List ℕ)} {a b c : Reader} {p q r : Option (List ℕ)} {next : List ℕ}
    → GoesOn f a p (session_with line body) b q → GivesLine b q next c r → TakesUpTo 0 b q c r → is_end next ≡ false
    → GoesOn f a p (session_with line (body ++ next ∷ [])) c r
body_more {line = line} {body = body} {next = next} on gives takes e = goes_line on gives takes (body-more line body next e)

pub body_finished : (line : List ℕ) (body : List (List ℕ)) {b c : Reader} {q r : Option (List ℕ)}
    → IsFinished b q → TakesUpTo 0 b q c r → IsDone (session_with line body) b q 4 c r
body_finished line body h takes = done_at_end (session_with line body) Unfinished refl refl (inr (inl refl)) h (takes_one takes)

pub body_over : (line : List ℕ) (body : List (List ℕ)) {b c : Reader} {q r : Option (List ℕ)}
    → IsOver b q → TakesUpTo 1 b q c r → IsDone (session_with line body) b q 5 c r
body_over line body h takes = done_at_limit (session_with line body) Unfinished refl refl h takes

pub body_fails : (line : List ℕ) (body : List (List ℕ)) {b c : Reader} {q r : Option (List ℕ)}
    → FailsInLine b q r → TakesUpTo 0 b q c r → IsCut (session_with line body) b q c r
body_fails line body h takes = cut_in_line (session_with line body) Unfinished refl (λ quit. cc) h takes

-- skipping a body, whatever its command and its lines so far
abbrev pub Skips : Reader → Option (List ℕ) → Reader → Option (List ℕ) → Type 0
Skips a p b q = (line : List ℕ) (body : List (List ℕ)) → (now : List (List ℕ)) × GoesOn (session_with line body) a p (session_with line now) b q

pub skips_at_start : (a : Reader) (p : Option (List ℕ)) → Skips a p a p
skips_at_start a p line body = (body, goes_at_start (session_with line body) a p)

pub skips_more : (a : Reader) (p : Option (List ℕ)) {b c : Reader} {q r : Option (List ℕ)} {next : List ℕ}
    → Skips a p b q → GivesLine b q next c r → TakesUpTo 0 b q c r → is_end next ≡ false → Skips a p c r
skips_more a p {next = next} skips gives takes e line body =
    let on = skips line body in
    (on.0 ++ next ∷ [], body_more on.1 gives takes e)
