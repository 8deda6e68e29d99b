-- Lines that a reader gives, one after another.
use Rattle.std.proofs.Common.{◌≡◌, ℕ, suc, ◌+◌, ◌≤◌, false, List, [], ◌∷◌, ◌++◌, length, Option, None, Some, refl, sym}
use Rattle.std.proofs.Common.{◌∙◌, ap, subst, arith, append_assoc, length-append, inl, inr}
use Rattle.std.specs.Prelude.{nat_lt, IfSome, IsSomeAnd}
use Rattle.std.proofs.lemmas.Bool.Decides.{nat_tests}
use Rattle.spec_lines.specs.Lines.{ended_lines, lines_within, BeginsWith, BeginsWithEnded, Reader, ahead, allowance, GivesLine, IsKept, TakesUpTo}
use Rattle.spec_lines.proofs.Reading.{ended_lines-ended, lines_within-ended, lines_within-last, lines_within-nil}
use Rattle.xt_session.specs.Progress.{BeginsWithLines, GivesLines}

-- what is told of what is ahead before and after
abbrev Told : Option (List ℕ) → Option (List ℕ) → (List ℕ → List ℕ → Type 0) → Type 0
Told before after P = IfSome before (λ bytes. IsSomeAnd after (λ rest. P bytes rest))

told_same : (P : List ℕ → List ℕ → Type 0) (o : Option (List ℕ)) → ((bytes : List ℕ) → P bytes bytes) → Told o o P
told_same P None f = tt
told_same P (Some bytes) f = f bytes

told_map : (P Q : List ℕ → List ℕ → Type 0) (o p : Option (List ℕ)) → ((bytes rest : List ℕ) → P bytes rest → Q bytes rest) → Told o p P
    → Told o p Q
told_map P Q None p f h = tt
told_map P Q (Some bytes) None f h = absurd h
told_map P Q (Some bytes) (Some rest) f h = f bytes rest h

told_then : (P Q R : List ℕ → List ℕ → Type 0) (o p q : Option (List ℕ))
    → ((bytes rest more : List ℕ) → P bytes rest → Q rest more → R bytes more) → Told o p P → Told p q Q → Told o q R
told_then P Q R None p q f g h = tt
told_then P Q R (Some bytes) None q f g h = absurd g
told_then P Q R (Some bytes) (Some rest) None f g h = absurd h
told_then P Q R (Some bytes) (Some rest) (Some more) f g h = f bytes rest more g h

-- of lines that were given between two readers
abbrev IsGiven : Reader → List (List ℕ) → Reader → List ℕ → List ℕ → Type 0
IsGiven old lines new bytes rest =
    (lines_within (allowance old) bytes ≡ lines ++ lines_within (allowance new) rest)
    × (nat_lt (allowance old) (length bytes) ≡ nat_lt (allowance new) (length rest))
    × (new.at_end ≡ false → BeginsWithLines bytes lines rest)

begins_with_none : (bytes : List ℕ) → BeginsWithLines bytes [] bytes
begins_with_none bytes = record { front = []; cut = refl; lines_are = λ more. refl }

-- nothing was given where all is as before
pub none_given : {old new : Reader} {before after : Option (List ℕ)} → IsKept old before new after → GivesLines old before [] new after
none_given {old = old} {new = new} {before = before} {after = after} kept = record {
  told = subst (λ (o : Option (List ℕ)). Told (ahead old before) o (IsGiven old [] new)) (sym kept.same)
      (told_same (IsGiven old [] new) (ahead old before) (λ bytes. rw kept.as_much (refl, refl, λ h. begins_with_none bytes)));
  not_at_end = kept.not_at_end;
  no_more = omega (arith, kept.as_much);
}

pub kept_by_itself : (reader : Reader) (left : Option (List ℕ)) → IsKept reader left reader left
kept_by_itself reader left = record { same = refl; as_much = refl; not_at_end = λ h. h }

-- one line
within_one : (a b : ℕ) (bytes line rest : List ℕ) → BeginsWith bytes line rest → length bytes + b ≡ length rest + a
    → (lines_within a bytes ≡ line ∷ lines_within b rest) × (nat_lt a (length bytes) ≡ nat_lt b (length rest))
within_one a b bytes line rest (inl e) count =
    let long : length bytes ≡ length e.raw + suc (length rest) = ap length e.cut ∙ length-append e.raw (10 ∷ rest) in
    let less : a ≡ length e.raw + 1 + b = omega arith in (
      ap (lines_within a) e.cut ∙ lines_within-ended a b e.raw rest e.one_line less
          ∙ ap (λ (l : List ℕ). l ∷ lines_within b rest) (sym e.line_is),
      grind (arith, nat_tests),
    )
within_one a b bytes line rest (inr e) count =
    let none : length rest ≡ 0 = ap length e.nothing in
    let fits : length bytes ≤ a = omega arith in
    (lines_within-last a bytes e.one_line e.some fits ∙ rw (← e.line_is, e.nothing, lines_within-nil) refl, grind (arith, nat_tests))

begins_with_one : (bytes line rest : List ℕ) → BeginsWithEnded bytes line rest → BeginsWithLines bytes (line ∷ []) rest
begins_with_one bytes line rest e = record {
  front = e.raw ++ 10 ∷ [];
  cut = e.cut ∙ sym (append_assoc e.raw (10 ∷ []) rest);
  lines_are = λ more.
      ap ended_lines (append_assoc e.raw (10 ∷ []) more) ∙ ended_lines-ended e.raw more e.one_line
      ∙ ap (λ (l : List ℕ). l ∷ ended_lines more) (sym e.line_is);
}

pub one_given : {old new : Reader} {before after : Option (List ℕ)} {line : List ℕ} → GivesLine old before line new after
    → GivesLines old before (line ∷ []) new after
one_given {old = old} {new = new} {before = before} {after = after} {line = line} g = record {
  told = one_told (ahead old before) (ahead new after) g.begins (λ h. (g.not_last h).1);
  not_at_end = λ h. (g.not_last h).0;
  no_more = omega (arith, g.fewer);
}
  where
    one_told : (o p : Option (List ℕ))
        → Told o p (λ bytes rest. BeginsWith bytes line rest × (length bytes + allowance new ≡ length rest + allowance old))
        → (new.at_end ≡ false → Told o p (λ bytes rest. BeginsWithEnded bytes line rest)) → Told o p (IsGiven old (line ∷ []) new)
    one_told None p h k = tt
    one_told (Some bytes) None h k = absurd h
    one_told (Some bytes) (Some rest) h k =
        let w = within_one (allowance old) (allowance new) bytes line rest h.0 h.1 in
        (w.0, w.1, λ e. begins_with_one bytes line rest (k e))

begins_with_both : (bytes rest last : List ℕ) (lines more : List (List ℕ))
    → BeginsWithLines bytes lines rest → BeginsWithLines rest more last → BeginsWithLines bytes (lines ++ more) last
begins_with_both bytes rest last lines more u v = record {
  front = u.front ++ v.front;
  cut = u.cut ∙ ap (λ (l : List ℕ). u.front ++ l) v.cut ∙ sym (append_assoc u.front v.front last);
  lines_are = λ x.
      ap ended_lines (append_assoc u.front v.front x) ∙ u.lines_are (v.front ++ x)
      ∙ ap (λ (l : List (List ℕ)). lines ++ l) (v.lines_are x) ∙ sym (append_assoc lines more _);
}

-- lines and then more lines
pub then_given : {a b c : Reader} {p q r : Option (List ℕ)} {lines more : List (List ℕ)}
    → GivesLines a p lines b q → GivesLines b q more c r → GivesLines a p (lines ++ more) c r
then_given {a = a} {b = b} {c = c} {p = p} {q = q} {r = r} {lines = lines} {more = more} g h = record {
  told = told_then (IsGiven a lines b) (IsGiven b more c) (IsGiven a (lines ++ more) c) (ahead a p) (ahead b q) (ahead c r)
      (λ x y z m n. (
        m.0 ∙ ap (λ (l : List (List ℕ)). lines ++ l) n.0 ∙ sym (append_assoc lines more _),
        m.1 ∙ n.1,
        λ e. begins_with_both x y z lines more (m.2 (h.not_at_end e)) (n.2 e),
      )) g.told h.told;
  not_at_end = λ e. g.not_at_end (h.not_at_end e);
  no_more = omega (arith, g.no_more, h.no_more);
}

-- what is taken from the source adds up
abbrev IsTaken : ℕ → Reader → Reader → List ℕ → List ℕ → Type 0
IsTaken extra old new left rest = (taken : List ℕ) × (left ≡ taken ++ rest) × (length taken + new.room ≤ old.room + extra)

pub takes_nothing : (a : Reader) (p : Option (List ℕ)) → TakesUpTo 0 a p a p
takes_nothing a p = record { bytes = told_same (IsTaken 0 a a) p (λ bytes. ([], refl, omega arith)) }

pub takes_both : {m n : ℕ} {a b c : Reader} {p q r : Option (List ℕ)} → TakesUpTo m a p b q → TakesUpTo n b q c r → TakesUpTo (m + n) a p c r
takes_both {m = m} {n = n} {a = a} {b = b} {c = c} {p = p} {q = q} {r = r} g h =
    record { bytes = told_then (IsTaken m a b) (IsTaken n b c) (IsTaken (m + n) a c) p q r (λ left rest more x y. both left rest more x y) g.bytes h.bytes }
  where
    both : (left rest more : List ℕ) → IsTaken m a b left rest → IsTaken n b c rest more → IsTaken (m + n) a c left more
    both left rest more x y =
        let few = x.2 in
        let more_few = y.2 in
        (x.0 ++ y.0, x.1 ∙ ap (λ (l : List ℕ). x.0 ++ l) y.1 ∙ sym (append_assoc x.0 y.0 more), rw length-append (omega arith))

-- bytes taken after none beyond the room
pub takes_then : {n : ℕ} {a b c : Reader} {p q r : Option (List ℕ)} → TakesUpTo 0 a p b q → TakesUpTo n b q c r → TakesUpTo n a p c r
takes_then {n = n} {a = a} {c = c} {p = p} {r = r} g h = subst (λ (m : ℕ). TakesUpTo m a p c r) same (takes_both g h)
  where
    same : 0 + n ≡ n
    same = omega arith

-- at most one byte beyond the room
pub takes_one : {a b : Reader} {p q : Option (List ℕ)} → TakesUpTo 0 a p b q → TakesUpTo 1 a p b q
takes_one {a = a} {b = b} {p = p} {q = q} g =
    record { bytes = told_map (IsTaken 0 a b) (IsTaken 1 a b) p q (λ left rest x. let few = x.2 in (x.0, x.1, omega arith)) g.bytes }
