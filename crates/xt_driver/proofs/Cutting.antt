-- How many holes there are up to the one at which a stream is cut.
use Rattle.std.proofs.Common.{◌≡◌, ℕ, zero, suc, ◌+◌, ◌-◌, ◌<◌, Bool, true, false, cond, refl, arith}
use Rattle.std.specs.Prelude.{nat_lt}
use Rattle.std.proofs.lemmas.Bool.{ltb-true, ltb-false}
use Rattle.spec_meaning.specs.Stream.{Stream, Ended, Element, Nameless, Attribute, Namespace, Text, Comment, Instruction, Message, Hole, holes}
use Rattle.spec_run.specs.Plan.{aside_of}
use Rattle.spec_run.specs.Cut.{cut}

inside_holes : (K : Stream → Stream → Stream) (j : ℕ) (k r : Stream) → j < holes k + holes r
    → ((s t : Stream) → holes (K s t) ≡ holes s + holes t)
    → (j < holes k → holes (cut j k) ≡ j + 1) → (j - holes k < holes r → holes (cut (j - holes k) r) ≡ j - holes k + 1)
    → holes (cond (nat_lt j (holes k)) (aside_of (cut j k)) (K k (cut (j - holes k) r))) ≡ j + 1
inside_holes K j k r h n f g = go (nat_lt j (holes k)) refl
  where
    go : (t : Bool) → nat_lt j (holes k) ≡ t → holes (cond t (aside_of (cut j k)) (K k (cut (j - holes k) r))) ≡ j + 1
    go true e =
        let inner = f (ltb-true j (holes k) e) in
        omega (arith, inner)
    go false e =
        let l = ltb-false j (holes k) e in
        let more = g (omega (arith, l, h)) in
        let both = n k (cut (j - holes k) r) in
        omega (arith, l, more, both)

pub cut_holes : (j : ℕ) (s : Stream) → j < holes s → holes (cut j s) ≡ j + 1
cut_holes j Ended h = absurd (omega (arith, h))
cut_holes j (Element n u ns k r) h = inside_holes (Element n u ns) j k r h (λ s t. refl) (cut_holes j k) (cut_holes (j - holes k) r)
cut_holes j (Nameless k r) h = inside_holes Nameless j k r h (λ s t. refl) (cut_holes j k) (cut_holes (j - holes k) r)
cut_holes j (Attribute n u k r) h = inside_holes (Attribute n u) j k r h (λ s t. refl) (cut_holes j k) (cut_holes (j - holes k) r)
cut_holes j (Comment k r) h = inside_holes Comment j k r h (λ s t. refl) (cut_holes j k) (cut_holes (j - holes k) r)
cut_holes j (Instruction x k r) h = inside_holes (Instruction x) j k r h (λ s t. refl) (cut_holes j k) (cut_holes (j - holes k) r)
cut_holes j (Message k r) h = inside_holes Message j k r h (λ s t. refl) (cut_holes j k) (cut_holes (j - holes k) r)
cut_holes j (Namespace p u r) h = cut_holes j r h
cut_holes j (Text x r) h = cut_holes j r h
cut_holes zero (Hole r) h = omega arith
cut_holes (suc j) (Hole r) h = let more = cut_holes (suc j - 1) r (omega (arith, h)) in omega (arith, more)
