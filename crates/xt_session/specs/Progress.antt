-- How the parts of a session are read, and how far it has come.
use Rattle.std.specs.Prelude.{ℕ, ◌≡◌, ◌≢◌, ◌<◌, ◌≤◌, ◌⊎◌, false, List, [], ◌++◌, length, nat_lt, Option, IfSome, IsSomeAnd}
use Rattle.spec_lines.specs.Lines.{lines_within, ended_lines, Reader, ahead, allowance, HasNoNewline, GivesLine, IsFinished, IsOver, IsKept, head_of}
use Rattle.spec_lines.specs.Lines.{TakesUpTo}
use Rattle.spec_session.specs.Command.{Command, Session, session_of, after, status_of}
use Rattle.spec_session.specs.declared.kinds.Ending.TheVariants.{Quit}
use Rattle.spec_lines.specs.Outside.{HasRisen}
use Rattle.xt_session.specs.declared.meet.Met.{Met}
use Rattle.xt_session.specs.declared.meet.Met.TheVariants.{Line, Head, End, Over, Failed as LineFailed}
use Rattle.xt_session.specs.declared.command.Taken.{Taken}
use Rattle.xt_session.specs.declared.command.Taken.TheVariants.{Command as Whole, Skipped, Stopped, Failed}

-- the bytes begin with these lines, each ended by an LF, and then comes the rest
pub record BeginsWithLines (bytes : List ℕ) (lines : List (List ℕ)) (rest : List ℕ) : Type 0 where
  pub front : List ℕ
  pub cut : bytes ≡ front ++ rest
  pub lines_are : (more : List ℕ) → ended_lines (front ++ more) ≡ lines ++ ended_lines more

-- the source failed before the next line was whole; its bytes may be lost
pub record FailsInLine (old : Reader) (before left : Option (List ℕ)) : Type 0 where
  pub reader : Reader
  pub between : Option (List ℕ)
  pub kept : IsKept old before reader between
  pub asked : reader.at_end ≡ false
  pub open_line : IfSome between (λ bytes. IsSomeAnd left (λ rest. (taken : List ℕ) × (bytes ≡ taken ++ rest) × HasNoNewline (reader.kept ++ taken)))

-- what was met where the next line is
abbrev pub Meets : Reader → Option (List ℕ) → Met → Reader → Option (List ℕ) → Type 0
Meets old before (Line line) new left = GivesLine old before line new left
Meets old before (Head head) new left = (line : List ℕ) × (head ≡ head_of line) × GivesLine old before line new left
Meets old before End new left = IsFinished old before
Meets old before Over new left = IsOver old before
Meets old before LineFailed new left = FailsInLine old before left

-- how many bytes may be taken past the room that was left: one, to see whether the source goes on
abbrev pub met_extra : Met → ℕ
met_extra (Line line) = 0
met_extra (Head head) = 0
met_extra End = 0
met_extra Over = 1
met_extra LineFailed = 0

-- a fault of the source has its cause, and at any other answer there was none
abbrev pub HasMetCause : ℕ → ℕ → Met → Type 0
HasMetCause before now (Line line) = now ≡ before
HasMetCause before now (Head head) = now ≡ before
HasMetCause before now End = now ≡ before
HasMetCause before now Over = now ≡ before
HasMetCause before now LineFailed = HasRisen before now

-- lines were given, one after another
pub record GivesLines (old : Reader) (before : Option (List ℕ)) (lines : List (List ℕ)) (new : Reader) (after : Option (List ℕ)) : Type 0 where
  pub told : IfSome (ahead old before) (λ bytes. IsSomeAnd (ahead new after) (λ rest.
      (lines_within (allowance old) bytes ≡ lines ++ lines_within (allowance new) rest)
      × (nat_lt (allowance old) (length bytes) ≡ nat_lt (allowance new) (length rest))
      × (new.at_end ≡ false → BeginsWithLines bytes lines rest)))
  pub not_at_end : new.at_end ≡ false → old.at_end ≡ false
  pub no_more : allowance new ≤ allowance old

-- the lines given are the rest of this command
pub record GivesCommand (session : List (List ℕ) → Session) (old : Reader) (before : Option (List ℕ)) (command : Command) (new : Reader)
    (left : Option (List ℕ)) : Type 0 where
  pub lines : List (List ℕ)
  pub given : GivesLines old before lines new left
  pub is : (rest : List (List ℕ)) → session (lines ++ rest) ≡ after command (session_of rest)
  pub fewer : allowance new < allowance old
  pub takes : TakesUpTo 0 old before new left

-- after some lines no whole command is ahead, and this is the status; one byte more may be taken, to see whether the source goes on
pub record IsDone (session : List (List ℕ) → Session) (old : Reader) (before : Option (List ℕ)) (status : ℕ) (new : Reader)
    (left : Option (List ℕ)) : Type 0 where
  pub lines : List (List ℕ)
  pub reader : Reader
  pub between : Option (List ℕ)
  pub given : GivesLines old before lines reader between
  pub end : IfSome (ahead reader between) (λ rest. let all : Session = session (lines ++ lines_within (allowance reader) rest) in
      (all.commands ≡ []) × (status ≡ status_of (nat_lt (allowance reader) (length rest)) all.ending))
  pub kind : (status ≡ 0) ⊎ ((status ≡ 4) ⊎ (status ≡ 5))
  pub takes : TakesUpTo 1 old before new left

-- after some lines, which `quit` does not end, the source failed before the next was whole, and no command was
pub record IsCut (session : List (List ℕ) → Session) (old : Reader) (before : Option (List ℕ)) (new : Reader) (left : Option (List ℕ)) : Type 0 where
  pub lines : List (List ℕ)
  pub reader : Reader
  pub between : Option (List ℕ)
  pub given : GivesLines old before lines reader between
  pub none : (session lines).commands ≡ []
  pub goes_on : (session lines).ending ≢ Quit
  pub asked : reader.at_end ≡ false
  pub open_line : IfSome between (λ bytes. IsSomeAnd left (λ rest. (taken : List ℕ) × (bytes ≡ taken ++ rest) × HasNoNewline (reader.kept ++ taken)))
  pub takes : TakesUpTo 0 old before new left

-- What was taken where the session read so far goes on by `session`: a whole command; one for which there was no
-- memory; nothing more, with the status that this gives; or a fault of the source came before the command was whole.
abbrev pub Took : (List (List ℕ) → Session) → Reader → Option (List ℕ) → Taken → Reader → Option (List ℕ) → Type 0
Took session old before (Whole command) new left = GivesCommand session old before command new left
Took session old before Skipped new left = (command : Command) × GivesCommand session old before command new left
Took session old before (Stopped status) new left = IsDone session old before status new left
Took session old before Failed new left = IsCut session old before new left

-- the command of this line without a body
abbrev pub IsAlone : List ℕ → Taken → Type 0
IsAlone line (Whole command) = command ≡ record { line = line; body = [] }
IsAlone line Skipped = ⊥
IsAlone line (Stopped status) = ⊥
IsAlone line Failed = ⊥

-- a fault of the source has its cause, and at any other answer there was none
abbrev pub HasTakenCause : ℕ → ℕ → Taken → Type 0
HasTakenCause before now (Whole command) = now ≡ before
HasTakenCause before now Skipped = now ≡ before
HasTakenCause before now (Stopped status) = now ≡ before
HasTakenCause before now Failed = HasRisen before now
