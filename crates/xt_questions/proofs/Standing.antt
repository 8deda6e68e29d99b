-- Reads that stand, one after another, and how many are asked.
use Rattle.std.proofs.Common.{◌≡◌, ℕ, zero, suc, ◌<◌, ◌≤◌, ◌+◌, List, [], ◌∷◌, map, take, drop, length, get_or, refl, ap, subst, arith}
use Rattle.spec_meaning.specs.Question.{Question, Answer}
use Rattle.spec_meaning.specs.Program.{Read, Asked, Saw}
use Rattle.spec_node.specs.declared.node_ref.NodeRef.{NodeRef}
use Rattle.xt_questions.specs.Change.{Stands, AllStand, Changes, FirstChanges, asked_by, asked_in}

pub stand_more : {X : Type 0} (truth : Question NodeRef → Answer NodeRef) (f : X → Read NodeRef) (xs : List X) (i : ℕ) (x : X) → i < length xs → x ≡ get_or xs i x
    → Stands truth (f x) → AllStand truth (map f (take i xs)) → AllStand truth (map f (take (suc i) xs))
stand_more truth f [] i x lt at s h = absurd (omega arith)
stand_more truth f (y ∷ ys) zero x lt at s h = let P : _ → Type 0 = λ z. Stands truth (f z) in (subst P at s, tt)
stand_more truth f (y ∷ ys) (suc i) x lt at s h = (h.0, stand_more truth f ys i x (omega arith) at s h.1)

pub change_at : {X : Type 0} (truth : Question NodeRef → Answer NodeRef) (f : X → Read NodeRef) (xs : List X) (i : ℕ) (x : X) → i < length xs → x ≡ get_or xs i x
    → Changes truth (f x) → FirstChanges truth (drop i (map f xs))
change_at truth f [] i x lt at c = absurd (omega arith)
change_at truth f (y ∷ ys) zero x lt at c = let P : _ → Type 0 = λ z. Changes truth (f z) in subst P at c
change_at truth f (y ∷ ys) (suc i) x lt at c = change_at truth f ys i x (omega arith) at c

pub take-map : {X Y : Type 0} (f : X → Y) (xs : List X) (i : ℕ) → map f (take i xs) ≡ take i (map f xs)
take-map f [] zero = refl
take-map f [] (suc i) = refl
take-map f (x ∷ xs) zero = refl
take-map f (x ∷ xs) (suc i) = ap (λ ys. f x ∷ ys) (take-map f xs i)

pub asked_more : {X : Type 0} (f : X → Read NodeRef) (xs : List X) (i : ℕ) (x : X) → i < length xs → x ≡ get_or xs i x
    → asked_in (map f (take (suc i) xs)) ≡ asked_in (map f (take i xs)) + asked_by (f x)
asked_more f [] i x lt at = absurd (omega arith)
asked_more f (y ∷ ys) zero x lt at = let same = ap (λ z. asked_by (f z)) at in omega (arith, same)
asked_more f (y ∷ ys) (suc i) x lt at = let more = asked_more f ys i x (omega arith) at in omega (arith, more)

pub few : (r : Read NodeRef) → asked_by r ≤ 1
few (Asked q a) = omega arith
few (Saw w d g) = omega arith
