-- How far a run has come with what is at hand, and that it comes as far again with more.
use Rattle.std.proofs.Common.{◌≡◌, ℕ, List, ◌++◌, Option, None, Some, refl, sym, subst, ◌∙◌}
use Rattle.spec_document.specs.Name.{Expanded}
use Rattle.spec_stylesheet.specs.Place.{Place}
use Rattle.spec_meaning.specs.Question.{Question, Answer}
use Rattle.spec_meaning.specs.Program.{Wanted, Global, Given}
use Rattle.spec_run.specs.Plan.{Plan, Use}
use Rattle.spec_run.specs.Direct.{Known}
use Rattle.spec_run.specs.Going.{Event, Saw, Going, noted}
use Rattle.spec_run.specs.Passes.{Passes, stays, asks, uses, puts, begins, wraps, takes, goes_deep, is_too_deep}
use Rattle.spec_run.specs.Trail.{Kept}
use Rattle.spec_run.specs.Meaning.{Setting}
use Rattle.spec_reuse.specs.Instantiation.{Instantiation, for_reference, entered}
use Rattle.spec_reuse.specs.Ledger.{nested_along, AllFound, IsMoreAtHand, IsStuck}
use Rattle.spec_reuse.proofs.Counting.{passes_served}

some_same : {V : Type 0} {x y : V} → Some x ≡ Some y → x ≡ y
some_same {V = V} {x = x} e = let P : Option V → Type 0 = λ o. elim o as (λ _. Type 0) [ None ↦ ⊥ | Some z ↦ (x ≡ z) ] in subst P e refl

-- from where it came with less it goes on to where it comes with more
pub passes_further : {N : Type 0} {ask : Question N → Answer N} {hand more : ℕ → Wanted → Option (Given N)} {room : ℕ} {p q r : Plan N}
    {g k h : Going N} → IsMoreAtHand hand more → Passes ask hand room p g q k → Passes ask more room p g r h → IsStuck more r
    → Passes ask more room q k r h
passes_further f stays b t = b
passes_further f (asks a) stays t = absurd t
passes_further f (asks a) (asks b) t = passes_further f a b t
passes_further {hand = hand} {more = more} f (uses {w = w} {depth = d} {x = x} e a) stays t =
    let never : None ≡ Some x = sym t ∙ f d w x e in absurd (cc)
passes_further {N = N} {ask = ask} {more = more} {room = room} {r = r} {h = h} f (uses {w = w} {depth = d} {place = l} {next = next} {x = x} {g = g} e a)
    (uses {x = y} i b) t =
    let same : y ≡ x = some_same (sym i ∙ f d w x e) in
    let P : Given N → Type 0 = λ z. Passes ask more room (next z) (noted (Saw w d l (Known z)) g) r h in
    passes_further f a (subst P same b) t
passes_further f (puts a) stays t = absurd t
passes_further f (puts a) (puts b) t = passes_further f a b t
passes_further f (begins a) stays t = absurd t
passes_further f (begins a) (begins b) t = passes_further f a b t
passes_further f (wraps a) stays t = absurd t
passes_further f (wraps a) (wraps b) t = passes_further f a b t
passes_further f (takes a) stays t = absurd t
passes_further f (takes a) (takes b) t = passes_further f a b t
passes_further f (goes_deep e a) stays t = absurd t
passes_further f (goes_deep e a) (goes_deep i b) t = passes_further f a b t
passes_further f (goes_deep e a) (is_too_deep i) t = absurd (cc)
passes_further f (is_too_deep e) stays t = absurd t
passes_further f (is_too_deep e) (goes_deep i b) t = absurd (cc)
passes_further f (is_too_deep e) (is_too_deep i) t = stays

-- what it lacked is given
pub passes_given : {N : Type 0} {ask : Question N → Answer N} {hand more : ℕ → Wanted → Option (Given N)} {room : ℕ} {p : Plan N} {g k : Going N}
    {w : Wanted} {d : ℕ} {l : Place} {next : Given N → Plan N} (x : Given N) → IsMoreAtHand hand more → Passes ask hand room p g (Use w d l next) k
    → more d w ≡ Some x → Passes ask more room p g (next x) (noted (Saw w d l (Known x)) k)
passes_given x f stays e = uses e stays
passes_given x f (asks a) e = asks (passes_given x f a e)
passes_given x f (uses {w = v} {depth = c} {x = y} i a) e = uses (f c v y i) (passes_given x f a e)
passes_given x f (puts a) e = puts (passes_given x f a e)
passes_given x f (begins a) e = begins (passes_given x f a e)
passes_given x f (wraps a) e = wraps (passes_given x f a e)
passes_given x f (takes a) e = takes (passes_given x f a e)
passes_given x f (goes_deep i a) e = goes_deep i (passes_given x f a e)

pub further_found : {N : Type 0} (s : Setting N) (i : Instantiation N) (records : List (Kept N)) (hand more : ℕ → Wanted → Option (Given N))
    (room : ℕ) (p q r : Plan N) (g k h : Going N) → IsMoreAtHand hand more → Passes s.ask hand room p g q k → Passes s.ask more room p g r h
    → IsStuck more r
    → ((name : Expanded) (depth : ℕ) (place : Place) (y : Given N) → more depth (Global name) ≡ Some y
    → AllFound s records (for_reference s (entered s i.below) i.past name depth place))
    → (es : List (Event N)) × (h.trace ≡ k.trace ++ es) × AllFound s records (nested_along s i es)
further_found s i records hand more room p q r g k h f a b t all =
    passes_served s i records more room q r k h all (passes_further f a b t)
