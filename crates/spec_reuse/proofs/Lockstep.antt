-- What comes to its end in one world twice, where what is given and what is entered is the same wherever it comes to something both times, does the
-- same both times.
use Rattle.std.proofs.Common.{◌≡◌, ℕ, Bool, true, false, cond, refl, sym, ap, subst, ◌∙◌}
use Rattle.std.specs.Prelude.{nat_lt}
use Rattle.spec_stylesheet.specs.Place.{Place}
use Rattle.spec_meaning.specs.Stream.{Stream}
use Rattle.spec_meaning.specs.Question.{Question, Answer}
use Rattle.spec_meaning.specs.Program.{Wanted, Given}
use Rattle.spec_run.specs.Plan.{Call, Plan, End, Yield, Stop, Inquire, Use, Put, Begin, Wrap, Take, Deep, Enter}
use Rattle.spec_run.specs.Direct.{Supplied, Known, Failed, Ending, Finished, Gave, Halted, Outcome, too_deep}
use Rattle.spec_run.specs.Going.{Asked, Saw, Going, noted, put, begun, wrap, taken, aside, deepened, opened, given, Owned, owned, if_known}
use Rattle.spec_run.specs.Going.{unless_halted, own}
use Rattle.spec_run.specs.Hold.{GoesOn}

pub lockstep : {N : Type 0} (ask : Question N → Answer N) (one two : Wanted → ℕ → Place → Supplied N)
    (nested among : ℕ → Call N → Outcome N) (room left : ℕ)
    → ((w : Wanted) (d : ℕ) (l : Place) (u v : Given N) → one w d l ≡ Known u → two w d l ≡ Known v → u ≡ v)
    → ((d : ℕ) (c : Call N) → GoesOn (nested d c).ending → GoesOn (among d c).ending → among d c ≡ nested d c)
    → (p : Plan N) (g : Going N) → GoesOn (own ask one nested room p g).ending → GoesOn (own ask two among left p g).ending
    → own ask two among left p g ≡ own ask one nested room p g
lockstep ask one two nested among room left s n End g a b = refl
lockstep ask one two nested among room left s n (Yield v) g a b = refl
lockstep ask one two nested among room left s n (Stop w) g a b = refl
lockstep ask one two nested among room left s n (Inquire q next) g a b =
    lockstep ask one two nested among room left s n (next (ask q)) (noted (Asked q (ask q)) g) a b
lockstep {N = N} ask one two nested among room left s n (Use w d l next) g a b =
    go (one w d l) (two w d l) refl refl (λ v x y. lockstep ask one two nested among room left s n (next v) (noted (Saw w d l (Known v)) g) x y) a b
  where
    go : (x y : Supplied N) → one w d l ≡ x → two w d l ≡ y
        → ((v : Given N) → GoesOn (own ask one nested room (next v) (noted (Saw w d l (Known v)) g)).ending
        → GoesOn (own ask two among left (next v) (noted (Saw w d l (Known v)) g)).ending
        → own ask two among left (next v) (noted (Saw w d l (Known v)) g) ≡ own ask one nested room (next v) (noted (Saw w d l (Known v)) g))
        → GoesOn (if_known (λ v. own ask one nested room (next v) (noted (Saw w d l x) g)) (noted (Saw w d l x) g) x).ending
        → GoesOn (if_known (λ v. own ask two among left (next v) (noted (Saw w d l y) g)) (noted (Saw w d l y) g) y).ending
        → if_known (λ v. own ask two among left (next v) (noted (Saw w d l y) g)) (noted (Saw w d l y) g) y
        ≡ if_known (λ v. own ask one nested room (next v) (noted (Saw w d l x) g)) (noted (Saw w d l x) g) x
    go (Known u) (Known v) e f k h i =
        let same : u ≡ v = s w d l u v e f in
        let P : Given N → Type 0 = λ z. GoesOn (own ask two among left (next z) (noted (Saw w d l (Known z)) g)).ending in
        ap (λ z. own ask two among left (next z) (noted (Saw w d l (Known z)) g)) (sym same) ∙ k u h (subst P (sym same) i)
    go (Known u) (Failed y) e f k h i = absurd i
    go (Failed x) y e f k h i = absurd h
lockstep ask one two nested among room left s n (Put x next) g a b = lockstep ask one two nested among room left s n next (put x g) a b
lockstep ask one two nested among room left s n (Begin next) g a b = lockstep ask one two nested among room left s n next (begun g) a b
lockstep ask one two nested among room left s n (Wrap w next) g a b = lockstep ask one two nested among room left s n next (wrap w g) a b
lockstep ask one two nested among room left s n (Take next) g a b = lockstep ask one two nested among room left s n (next (taken g)) (aside g) a b
lockstep ask one two nested among room left s n (Deep d l next) g a b =
    go (nat_lt room d) (nat_lt left d) (lockstep ask one two nested among room left s n next (deepened d g)) a b
  where
    go : (x y : Bool)
        → (GoesOn (own ask one nested room next (deepened d g)).ending → GoesOn (own ask two among left next (deepened d g)).ending
        → own ask two among left next (deepened d g) ≡ own ask one nested room next (deepened d g))
        → GoesOn (cond x (owned g (Halted (too_deep l))) (own ask one nested room next (deepened d g))).ending
        → GoesOn (cond y (owned g (Halted (too_deep l))) (own ask two among left next (deepened d g))).ending
        → cond y (owned g (Halted (too_deep l))) (own ask two among left next (deepened d g))
        ≡ cond x (owned g (Halted (too_deep l))) (own ask one nested room next (deepened d g))
    go true y k h i = absurd h
    go false true k h i = absurd i
    go false false k h i = k h i
lockstep {N = N} ask one two nested among room left s n (Enter c d next) g a b =
    go (nested d c) (among d c) refl refl (λ x y z. lockstep ask one two nested among room left s n next (given x (opened c d g)) y z) a b
  where
    on : (o : Owned N) (h : Going N) (x : Ending N) → GoesOn (unless_halted o h x).ending → (GoesOn x) × (unless_halted o h x ≡ o)
    on o h Finished i = (tt, refl)
    on o h (Gave v) i = (tt, refl)
    on o h (Halted w) i = absurd i

    go : (o q : Outcome N) → nested d c ≡ o → among d c ≡ q
        → ((x : Stream) → GoesOn (own ask one nested room next (given x (opened c d g))).ending
        → GoesOn (own ask two among left next (given x (opened c d g))).ending
        → own ask two among left next (given x (opened c d g)) ≡ own ask one nested room next (given x (opened c d g)))
        → GoesOn (unless_halted (own ask one nested room next (given o.content (opened c d g))) (given o.content (opened c d g)) o.ending).ending
        → GoesOn (unless_halted (own ask two among left next (given q.content (opened c d g))) (given q.content (opened c d g)) q.ending).ending
        → unless_halted (own ask two among left next (given q.content (opened c d g))) (given q.content (opened c d g)) q.ending
        ≡ unless_halted (own ask one nested room next (given o.content (opened c d g))) (given o.content (opened c d g)) o.ending
    go o q e f k h i =
        let x = on (own ask one nested room next (given o.content (opened c d g))) (given o.content (opened c d g)) o.ending h in
        let y = on (own ask two among left next (given q.content (opened c d g))) (given q.content (opened c d g)) q.ending i in
        let G : Outcome N → Type 0 = λ z. GoesOn z.ending in
        let same : q ≡ o = sym f ∙ n d c (subst G (sym e) x.0) (subst G (sym f) y.0) ∙ e in
        let R : Owned N → Type 0 = λ z. GoesOn z.ending in
        let S : Outcome N → Type 0 = λ z. GoesOn (own ask two among left next (given z.content (opened c d g))).ending in
        y.1 ∙ ap (λ (z : Outcome N). own ask two among left next (given z.content (opened c d g))) same
        ∙ k o.content (subst R x.1 h) (subst S same (subst R y.1 i)) ∙ sym x.1
