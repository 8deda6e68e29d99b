-- What stands at the front of a text.
use Rattle.std.proofs.Common.{◌≡◌, ℕ, true, false, ◌==◌, inl, inr, List, [], Option, None, Some, ap, ◌∙◌, arith}
use Rattle.std.specs.Prelude.{MatchOption}
use Rattle.std.specs.Str.{chars}
use Rattle.std.proofs.lemmas.Str.{chars-nil}
use Rattle.std.proofs.lemmas.Bool.{cases_Bool}
use Rattle.std.proofs.lemmas.Bool.Decides.{nat_tests}

pub none_of : {X P : Type 0} (Q : X → Type 0) (o : Option X) → MatchOption o P Q → o ≡ None → P
none_of Q None h e = h
none_of Q (Some x) h e = absurd (cc)

pub empty_chars : (text : List ℕ) → text ≡ [] → chars text ≡ []
empty_chars text e = ap chars e ∙ chars-nil

pub equal : (a b : ℕ) → (a == b) ≡ true → a ≡ b
equal a b e = grind (arith, nat_tests)

pub unequal : (a b : ℕ) → (a ≡ b → ⊥) → (a == b) ≡ false
unequal a b n = elim (cases_Bool (a == b)) [ inl e ↦ absurd (n (equal a b e)) | inr e ↦ e ]
