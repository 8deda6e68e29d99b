-- Pieces written one after another.
use Rattle.std.proofs.Common.{ℕ, ◌+◌, List, [], ◌++◌, take, drop, length, ◌-◌, ◌≤◌, Option, Some, None, sym, ◌∙◌}
use Rattle.std.proofs.Common.{ap, subst, arith, append-nil, length-drop}
use Rattle.std.proofs.lemmas.List.{append_assoc, take_rest}
use Rattle.std.proofs.Math.Seq.{take-add}
use Rattle.spec_lines.specs.Outside.{Appends}

pub Appends-nothing : (written : Option (List ℕ)) → Appends written written []
Appends-nothing None = tt
Appends-nothing (Some bytes) = sym (append-nil bytes)

pub Appends-both : (a b c : Option (List ℕ)) (p q : List ℕ) → Appends a b p → Appends b c q → Appends a c (p ++ q)
Appends-both a b None p q h k = tt
Appends-both (Some x) (Some y) (Some z) p q h k = k ∙ ap (λ bytes. bytes ++ q) h ∙ append_assoc x p q
Appends-both None (Some y) (Some z) p q h k = h
Appends-both a None (Some z) p q h k = absurd k

-- a front of a piece, and then a front of the rest
pub Appends-front : (a b c : Option (List ℕ)) (done count : ℕ) (piece : List ℕ) → Appends a b (take done piece)
    → Appends b c (take count (drop done piece)) → Appends a c (take (done + count) piece)
Appends-front a b c done count piece h k = rw (take-add done count piece) (Appends-both a b c _ _ h k)

-- as many bytes of the rest as were written
pub Appends-rest : (a b c : Option (List ℕ)) (done count : ℕ) (piece : List ℕ) → Appends a b (take done piece)
    → Appends b c (take count (take (length piece - done) (drop done piece))) → Appends a c (take (done + count) piece)
Appends-rest a b c done count piece h k = Appends-front a b c done count piece h (subst (λ xs. Appends b c (take count xs)) (take_rest piece done) k)

pub within_rest : (done count : ℕ) (piece : List ℕ) → done ≤ length piece → count ≤ length (take (length piece - done) (drop done piece))
    → done + count ≤ length piece
within_rest done count piece le h = omega (arith, ap length (take_rest piece done), length-drop done piece)
