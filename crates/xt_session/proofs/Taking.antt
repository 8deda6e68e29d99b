-- Commands that are taken from lines.
use Rattle.std.proofs.Common.{◌≡◌, ℕ, ◌<◌, ◌⊎◌, true, false, List, [], ◌∷◌, ◌++◌, length, take, Option, None}
use Rattle.std.proofs.Common.{Some, refl, sym, ◌∙◌}
use Rattle.std.proofs.Common.{ap, arith, append_assoc, inl, inr}
use Rattle.std.specs.Prelude.{◌≢◌, nat_lt, IfSome}
use Rattle.std.proofs.lemmas.Bool.Decides.{nat_tests}
use Rattle.spec_lines.specs.Lines.{GivesLine, lines_within, Reader, ahead, allowance, HasNoNewline, IsFinished, IsOver, TakesUpTo}
use Rattle.spec_lines.proofs.Reading.{lines_within-nil, lines_within-over}
use Rattle.spec_session.specs.declared.kinds.Ending.{Ending}
use Rattle.spec_session.specs.declared.kinds.Ending.TheVariants.{Quit}
use Rattle.spec_session.specs.Command.{Command, Session, session_of, after, ended, status_of}
use Rattle.xt_session.specs.declared.command.Taken.{Taken}
use Rattle.xt_session.specs.declared.command.Taken.TheVariants.{Command as Whole, Skipped, Stopped, Failed}
use Rattle.xt_session.specs.Progress.{FailsInLine, GivesLines, GivesCommand, IsDone, IsCut, Took}
use Rattle.xt_session.proofs.Giving.{one_given, then_given, none_given, kept_by_itself, takes_nothing, takes_then}

-- Lines were given after which the session that f reads is the one that g reads.
pub record GoesOn (f : List (List ℕ) → Session) (a : Reader) (p : Option (List ℕ)) (g : List (List ℕ) → Session) (b : Reader)
    (q : Option (List ℕ)) : Type 0 where
  pub lines : List (List ℕ)
  pub given : GivesLines a p lines b q
  pub same : (rest : List (List ℕ)) → f (lines ++ rest) ≡ g rest
  pub takes : TakesUpTo 0 a p b q

pub goes_at_start : (f : List (List ℕ) → Session) (a : Reader) (p : Option (List ℕ)) → GoesOn f a p f a p
goes_at_start f a p = record { lines = []; given = none_given (kept_by_itself a p); same = λ rest. refl; takes = takes_nothing a p }

pub goes_line : {f g h : List (List ℕ) → Session} {a b c : Reader} {p q r : Option (List ℕ)} {line : List ℕ}
    → GoesOn f a p g b q → GivesLine b q line c r → TakesUpTo 0 b q c r → ((rest : List (List ℕ)) → g (line ∷ rest) ≡ h rest)
    → GoesOn f a p h c r
goes_line {f = f} {line = line} on gives takes is = record {
  lines = on.lines ++ line ∷ [];
  given = then_given on.given (one_given gives);
  same = λ rest. ap f (append_assoc on.lines (line ∷ []) rest) ∙ on.same (line ∷ rest) ∙ is rest;
  takes = takes_then on.takes takes;
}

-- what was taken then, taken from the start
pub goes_whole : {f g : List (List ℕ) → Session} {a b c : Reader} {p q r : Option (List ℕ)} {command : Command}
    → GoesOn f a p g b q → GivesCommand g b q command c r → GivesCommand f a p command c r
goes_whole {f = f} on h = record {
  lines = on.lines ++ h.lines;
  given = then_given on.given h.given;
  is = λ rest. ap f (append_assoc on.lines h.lines rest) ∙ on.same (h.lines ++ rest) ∙ h.is rest;
  fewer = omega (arith, on.given.no_more, h.fewer);
  takes = takes_then on.takes h.takes;
}

-- no whole command is ahead, whose lines are these and the rest
abbrev pub EndsWith : (List (List ℕ) → Session) → List (List ℕ) → Reader → ℕ → List ℕ → Type 0
EndsWith session lines reader status rest =
    let all : Session = session (lines ++ lines_within (allowance reader) rest) in
    (all.commands ≡ []) × (status ≡ status_of (nat_lt (allowance reader) (length rest)) all.ending)

pub goes_done : {f g : List (List ℕ) → Session} {a b c : Reader} {p q r : Option (List ℕ)} {status : ℕ}
    → GoesOn f a p g b q → IsDone g b q status c r → IsDone f a p status c r
goes_done {f = f} {g = g} {status = status} on h = record {
  lines = on.lines ++ h.lines;
  reader = h.reader;
  between = h.between;
  given = then_given on.given h.given;
  end = go (ahead h.reader h.between) h.end;
  kind = h.kind;
  takes = takes_then on.takes h.takes;
}
  where
    go : (o : Option (List ℕ)) → IfSome o (EndsWith g h.lines h.reader status) → IfSome o (EndsWith f (on.lines ++ h.lines) h.reader status)
    go None e = tt
    go (Some rest) e =
        let more : List (List ℕ) = lines_within (allowance h.reader) rest in
        let is : f ((on.lines ++ h.lines) ++ more) ≡ g (h.lines ++ more) = ap f (append_assoc on.lines h.lines more) ∙ on.same (h.lines ++ more) in (
          ap (λ (s : Session). s.commands) is ∙ e.0,
          e.1
              ∙ ap (λ (s : Session). status_of (nat_lt (allowance h.reader) (length rest)) s.ending) (sym is),
        )

pub goes_cut : {f g : List (List ℕ) → Session} {a b c : Reader} {p q r : Option (List ℕ)} → GoesOn f a p g b q → IsCut g b q c r
    → IsCut f a p c r
goes_cut on h = record {
  lines = on.lines ++ h.lines;
  reader = h.reader;
  between = h.between;
  given = then_given on.given h.given;
  none = ap (λ (s : Session). s.commands) (on.same h.lines) ∙ h.none;
  goes_on = λ quit. h.goes_on (sym (ap (λ (s : Session). s.ending) (on.same h.lines)) ∙ quit);
  asked = h.asked;
  open_line = h.open_line;
  takes = takes_then on.takes h.takes;
}

pub goes_took : {f g : List (List ℕ) → Session} {a b : Reader} {p q : Option (List ℕ)} (taken : Taken) (c : Reader) (r : Option (List ℕ))
    → GoesOn f a p g b q → Took g b q taken c r → Took f a p taken c r
goes_took (Whole command) c r on h = goes_whole on h
goes_took Skipped c r on h = (h.0, goes_whole on h.1)
goes_took (Stopped status) c r on h = goes_done on h
goes_took Failed c r on h = goes_cut on h

-- a command is whole with this line
pub whole_with : {f : List (List ℕ) → Session} {a c : Reader} {p r : Option (List ℕ)} {line : List ℕ} {command : Command}
    → GivesLine a p line c r → TakesUpTo 0 a p c r → ((rest : List (List ℕ)) → f (line ∷ rest) ≡ after command (session_of rest))
    → GivesCommand f a p command c r
whole_with {line = line} gives takes is = record { lines = line ∷ []; given = one_given gives; is = is; fewer = gives.fewer; takes = takes }

-- nothing is ahead: the lines end
pub done_at_end : (f : List (List ℕ) → Session) (ending : Ending) {status : ℕ} {a c : Reader} {p r : Option (List ℕ)}
    → f [] ≡ ended ending → status ≡ status_of false ending → (status ≡ 0) ⊎ ((status ≡ 4) ⊎ (status ≡ 5))
    → IsFinished a p → TakesUpTo 1 a p c r → IsDone f a p status c r
done_at_end f ending {status = status} {a = a} {p = p} is s kind nothing takes = record {
  lines = [];
  reader = a;
  between = p;
  given = none_given (kept_by_itself a p);
  end = go (ahead a p) nothing;
  kind = kind;
  takes = takes;
}
  where
    go : (o : Option (List ℕ)) → IfSome o (λ bytes. bytes ≡ []) → IfSome o (EndsWith f [] a status)
    go None e = tt
    go (Some rest) e =
        let none : length rest ≡ 0 = ap length e in
        let short : nat_lt (allowance a) (length rest) ≡ false = grind (arith, nat_tests) in
        let all : f (lines_within (allowance a) rest) ≡ ended ending =
        ap (λ (bs : List ℕ). f (lines_within (allowance a) bs)) e ∙ ap f (lines_within-nil (allowance a)) ∙ is in
        (ap (λ (s : Session). s.commands) all, s ∙ rw short (ap (λ (s : Session). status_of false s.ending) (sym all)))

-- the next line is not whole in the allowance
pub done_at_limit : (f : List (List ℕ) → Session) (ending : Ending) {a c : Reader} {p r : Option (List ℕ)}
    → f [] ≡ ended ending → 5 ≡ status_of true ending → IsOver a p → TakesUpTo 1 a p c r → IsDone f a p 5 c r
done_at_limit f ending {a = a} {p = p} is s over takes = record {
  lines = [];
  reader = a;
  between = p;
  given = none_given (kept_by_itself a p);
  end = go (ahead a p) over;
  kind = inr (inr refl);
  takes = takes;
}
  where
    go : (o : Option (List ℕ)) → IfSome o (λ bytes. HasNoNewline (take (allowance a) bytes) × (allowance a < length bytes))
        → IfSome o (EndsWith f [] a 5)
    go None e = tt
    go (Some rest) e =
        let long : nat_lt (allowance a) (length rest) ≡ true = let l = e.1 in grind (arith, nat_tests) in
        let all : f (lines_within (allowance a) rest) ≡ ended ending = ap f (lines_within-over (allowance a) rest e.0 e.1) ∙ is in
        (ap (λ (s : Session). s.commands) all, s ∙ rw long (ap (λ (s : Session). status_of true s.ending) (sym all)))

-- `quit` is the next line
pub done_at_quit : {f : List (List ℕ) → Session} {a c : Reader} {p r : Option (List ℕ)} {line : List ℕ}
    → GivesLine a p line c r → TakesUpTo 1 a p c r → ((rest : List (List ℕ)) → f (line ∷ rest) ≡ ended Quit) → IsDone f a p 0 c r
done_at_quit {f = f} {c = c} {r = r} {line = line} gives takes is = record {
  lines = line ∷ [];
  reader = c;
  between = r;
  given = one_given gives;
  end = go (ahead c r);
  kind = inl refl;
  takes = takes;
}
  where
    go : (o : Option (List ℕ)) → IfSome o (EndsWith f (line ∷ []) c 0)
    go None = tt
    go (Some rest) =
        let all : f (line ∷ lines_within (allowance c) rest) ≡ ended Quit = is (lines_within (allowance c) rest) in
        (ap (λ (s : Session). s.commands) all, ap (λ (s : Session). status_of (nat_lt (allowance c) (length rest)) s.ending) (sym all))

-- the source failed before the next line was whole
pub cut_in_line : (f : List (List ℕ) → Session) (ending : Ending) {a c : Reader} {p r : Option (List ℕ)}
    → f [] ≡ ended ending → ending ≢ Quit → FailsInLine a p r → TakesUpTo 0 a p c r → IsCut f a p c r
cut_in_line f ending is not_quit h takes = record {
  lines = [];
  reader = h.reader;
  between = h.between;
  given = none_given h.kept;
  none = ap (λ (s : Session). s.commands) is;
  goes_on = λ quit. not_quit (sym (ap (λ (s : Session). s.ending) is) ∙ quit);
  asked = h.asked;
  open_line = h.open_line;
  takes = takes;
}
