-- Worked examples of the generated session and of the words of a command line. Each line is a fact whose two sides the check computes.
use Rattle.std.specs.Prelude.{◌≡◌, refl, ℕ, List, [], ◌∷◌, length, map, codes}
use Rattle.std.specs.Fmt.{digits}
use lib.Utf8.{encode}
use Rattle.spec_run.specs.Outcome.{no_source}
use Rattle.spec_session.specs.declared.kinds.Asked.{Asked}
use Rattle.spec_session.specs.declared.kinds.Asked.TheVariants.{Session, Demonstration, Nothing}
use Rattle.spec_session.specs.Reply.{OkDone, OkRefused, Shown, No}
use Rattle.spec_session.specs.Generated.{generated, rows_lines, summary}
use Rattle.spec_session.specs.Asked.{asked_of}

-- ---- The generated session of size 1

pub generated_count : length (generated 1) ≡ 13
unfolding digits
generated_count = refl

pub generated_lines : map (λ command. command.line) (generated 1)
    ≡ codes "module main" ∷ codes "source"
    ∷ codes "text source /1/7/1/1 578" ∷ codes "insert source /1/16" ∷ codes "delete source /1/7"
    ∷ codes "text source /1/15/1/1 931" ∷ codes "insert source /1/6" ∷ codes "delete source /1/12"
    ∷ codes "text source /1/5/1/1 705" ∷ codes "insert source /1/15" ∷ codes "delete source /1/9"
    ∷ codes "text source /1/8/1/1 254" ∷ codes "show" ∷ []
unfolding digits
generated_lines = refl

-- the source has a line for its root, five for each of its 20 rows, and one more
pub generated_bodies : map (λ command. length command.body) (generated 1) ≡ 20 ∷ 102 ∷ 0 ∷ 5 ∷ 0 ∷ 0 ∷ 5 ∷ 0 ∷ 0 ∷ 5 ∷ 0 ∷ 0 ∷ 0 ∷ []
unfolding digits
generated_bodies = refl

pub first_rows : rows_lines 2 1
    ≡ codes "(r" ∷ codes "(v" ∷ codes "-738" ∷ codes ")v" ∷ codes ")r" ∷ codes "(r" ∷ codes "(v" ∷ codes "-458" ∷ codes ")v" ∷ codes ")r" ∷ []
unfolding digits
first_rows = refl

pub summarized : summary 7 (OkRefused no_source ∷ OkDone ∷ No 1 ∷ Shown (codes "(out" ∷ codes ")out" ∷ []) ∷ []) ≡ codes "demo 7 ok 2 no 1 bytes 42\n"
unfolding encode digits
summarized = refl

-- ---- What the words of a command line ask

abbrev asked_with : List (List ℕ) → Asked
asked_with words = asked_of (codes "xt" ∷ words)

pub sessions_asked : map asked_with ((codes "session" ∷ []) ∷ (codes "session" ∷ codes "--" ∷ []) ∷ []) ≡ Session ∷ Session ∷ []
sessions_asked = refl

pub sizes_asked : map asked_with ((codes "demo" ∷ codes "1" ∷ []) ∷ (codes "demo" ∷ codes "0010" ∷ []) ∷ (codes "demo" ∷ codes "--" ∷ codes "1000" ∷ [])
    ∷ (codes "demo" ∷ codes "7" ∷ codes "--" ∷ []) ∷ [])
    ≡ Demonstration 1 ∷ Demonstration 10 ∷ Demonstration 1000 ∷ Demonstration 7 ∷ []
sizes_asked = refl

pub no_sizes : map asked_with ((codes "demo" ∷ []) ∷ (codes "demo" ∷ codes "0" ∷ []) ∷ (codes "demo" ∷ codes "1001" ∷ []) ∷ (codes "demo" ∷ codes "00001" ∷ [])
    ∷ (codes "demo" ∷ codes "x" ∷ []) ∷ (codes "demo" ∷ codes "-1" ∷ []) ∷ (codes "demo" ∷ codes "1" ∷ codes "2" ∷ []) ∷ [])
    ≡ Nothing ∷ Nothing ∷ Nothing ∷ Nothing ∷ Nothing ∷ Nothing ∷ Nothing ∷ []
no_sizes = refl

pub other_words : asked_of [] ∷ map asked_with ([] ∷ (codes "Session" ∷ []) ∷ (codes "session" ∷ codes "x" ∷ []) ∷ (codes "session" ∷ codes "--help" ∷ [])
    ∷ (codes "--help" ∷ []) ∷ (codes "-h" ∷ []) ∷ (codes "help" ∷ []) ∷ (codes "--" ∷ codes "session" ∷ []) ∷ [])
    ≡ Nothing ∷ Nothing ∷ Nothing ∷ Nothing ∷ Nothing ∷ Nothing ∷ Nothing ∷ Nothing ∷ Nothing ∷ []
other_words = refl
