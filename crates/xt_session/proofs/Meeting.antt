-- What a reader meets where the next line is.
use Rattle.std.proofs.Common.{◌≡◌, ℕ, ◌+◌, ◌<◌, false, List, [], ◌++◌, length, take, Option, None, Some, refl, sym, ◌∙◌, subst}
use Rattle.std.proofs.Common.{append-nil}
use Rattle.std.specs.Prelude.{IfSome, IsSomeAnd}
use Rattle.spec_lines.specs.Lines.{Reader, ahead, allowance, HasNoNewline, BeginsWith, BeginsWithEnded, GivesLine, IsOver, IsKept}
use Rattle.xt_session.specs.declared.meet.Met.{Met}
use Rattle.xt_session.specs.declared.meet.Met.TheVariants.{Line, Head, End, Over, Failed as LineFailed}
use Rattle.xt_session.specs.Progress.{FailsInLine, Meets}

kept_twice : {a b c : Reader} {p q r : Option (List ℕ)} → IsKept a p b q → IsKept b q c r → IsKept a p c r
kept_twice g h = record { same = h.same ∙ g.same; as_much = h.as_much ∙ g.as_much; not_at_end = λ e. g.not_at_end (h.not_at_end e) }

kept_then_line : {a b c : Reader} {p q r : Option (List ℕ)} {line : List ℕ} → IsKept a p b q → GivesLine b q line c r → GivesLine a p line c r
kept_then_line {a = a} {b = b} {c = c} {p = p} {q = q} {r = r} {line = line} kept g = record {
  begins = subst (λ (n : ℕ). begins (ahead a p) n) kept.as_much (subst (λ (o : Option (List ℕ)). begins o (allowance b)) kept.same g.begins);
  fewer = subst (λ (n : ℕ). allowance c < n) kept.as_much g.fewer;
  not_last = λ e.
      let h = g.not_last e in
      (kept.not_at_end h.0, subst (λ (o : Option (List ℕ)). ends o) kept.same h.1);
}
  where
    begins : Option (List ℕ) → ℕ → Type 0
    begins o n =
        IfSome o (λ bytes. IsSomeAnd (ahead c r) (λ rest. BeginsWith bytes line rest × (length bytes + allowance c ≡ length rest + n)))

    ends : Option (List ℕ) → Type 0
    ends o = IfSome o (λ bytes. IsSomeAnd (ahead c r) (λ rest. BeginsWithEnded bytes line rest))

kept_then_over : {a b : Reader} {p q : Option (List ℕ)} → IsKept a p b q → IsOver b q → IsOver a p
kept_then_over {a = a} {b = b} {p = p} {q = q} kept h =
    subst (λ (n : ℕ). is_over (ahead a p) n) kept.as_much (subst (λ (o : Option (List ℕ)). is_over o (allowance b)) kept.same h)
  where
    is_over : Option (List ℕ) → ℕ → Type 0
    is_over o n = IfSome o (λ bytes. HasNoNewline (take n bytes) × (n < length bytes))

kept_then_fails : {a b : Reader} {p q r : Option (List ℕ)} → IsKept a p b q → FailsInLine b q r → FailsInLine a p r
kept_then_fails kept h =
    record { reader = h.reader; between = h.between; kept = kept_twice kept h.kept; asked = h.asked; open_line = h.open_line }

-- what is met where all is kept before it
pub kept_then_meets : {a b : Reader} {p q : Option (List ℕ)} (met : Met) (c : Reader) (r : Option (List ℕ))
    → IsKept a p b q → Meets b q met c r → Meets a p met c r
kept_then_meets (Line line) c r kept m = kept_then_line kept m
kept_then_meets (Head head) c r kept m = (m.0, m.1, kept_then_line kept m.2)
kept_then_meets End c r kept m = subst (λ (o : Option (List ℕ)). IfSome o (λ bytes. bytes ≡ [])) kept.same m
kept_then_meets Over c r kept m = kept_then_over kept m
kept_then_meets LineFailed c r kept m = kept_then_fails kept m

-- a fault after which all that was read is kept
pub fails_kept : {a c : Reader} {p r : Option (List ℕ)} → IsKept a p c r → c.at_end ≡ false → HasNoNewline c.kept → FailsInLine a p r
fails_kept {c = c} {r = r} kept asked open_line = record { reader = c; between = r; kept = kept; asked = asked; open_line = go r }
  where
    go : (o : Option (List ℕ))
        → IfSome o (λ bytes. IsSomeAnd o (λ rest. (taken : List ℕ) × (bytes ≡ taken ++ rest) × HasNoNewline (c.kept ++ taken)))
    go None = tt
    go (Some bytes) = ([], refl, subst HasNoNewline (sym (append-nil c.kept)) open_line)

-- a fault after which the bytes of the line are lost
pub fails_lost : (a : Reader) (p r : Option (List ℕ)) → a.at_end ≡ false
    → IfSome p (λ bytes. IsSomeAnd r (λ rest. (taken : List ℕ) × (bytes ≡ taken ++ rest) × HasNoNewline (a.kept ++ taken))) → FailsInLine a p r
fails_lost a p r asked open_line =
    record { reader = a; between = p; kept = record { same = refl; as_much = refl; not_at_end = λ e. e }; asked = asked; open_line = open_line }
