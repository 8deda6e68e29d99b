-- What the steps that a run takes by itself leave as it is.
use Rattle.std.proofs.Common.{◌≡◌, ℕ, ◌+◌, ◌≤◌, List, [], ◌∷◌, length, Option, Some, None, Bool, true, false, cond, refl, sym, ap, ◌∙◌, arith, length-append}
use Rattle.std.specs.Prelude.{nat_lt}
use Rattle.spec_stylesheet.specs.Place.{Place}
use Rattle.spec_meaning.specs.Stream.{Stream, Ended, Hole, followed, filled, holes}
use Rattle.spec_meaning.specs.Question.{Question, Answer}
use Rattle.spec_meaning.specs.Program.{Wanted, Given}
use Rattle.spec_run.specs.Plan.{Call, Wrapping, AsElement, AsNameless, AsAttribute, AsComment, AsInstruction, AsMessage, wrapped, aside_of, Plan, End, Yield, Stop, Inquire, Use, Put, Begin, Wrap, Take, Deep, Enter}
use Rattle.spec_run.specs.Direct.{Supplied, Known, Failed, Outcome, top_after, outer_after, closed_in}
use Rattle.spec_run.specs.Going.{Asked, Saw, Going, noted, put, begun, wrap, taken, aside, deepened, opened, given, closed, Owned, if_known, own}
use Rattle.spec_run.specs.Passes.{Passes, stays, asks, uses, puts, begins, wraps, takes, goes_deep, is_too_deep}
use Rattle.spec_run.proofs.Streams.{holes_followed, no_holes}
use Rattle.xt_driver.specs.Stands.{Agrees, missing, if_supplied, work, IsEven}

pub own_passes : {N : Type 0} (ask : Question N → Answer N) (supply : Wanted → ℕ → Place → Supplied N) (nested : ℕ → Call N → Outcome N) {hand : ℕ → Wanted → Option (Given N)} (room : ℕ) {p : Plan N} {g : Going N} {q : Plan N} {h : Going N}
    → Agrees supply hand → Passes ask hand room p g q h → own ask supply nested room p g ≡ own ask supply nested room q h
own_passes ask supply nested room a stays = refl
own_passes ask supply nested room a (asks s) = own_passes ask supply nested room a s
own_passes {N = N} ask supply nested room a (uses {w = w} {depth = d} {place = l} {next = next} {x = x} {g = g} e s) =
    let f : Supplied N → Owned N = λ y. if_known (λ v. own ask supply nested room (next v) (noted (Saw w d l y) g)) (noted (Saw w d l y) g) y in
    ap f (a w d l x e) ∙ own_passes ask supply nested room a s
own_passes ask supply nested room a (puts s) = own_passes ask supply nested room a s
own_passes ask supply nested room a (begins s) = own_passes ask supply nested room a s
own_passes ask supply nested room a (wraps s) = own_passes ask supply nested room a s
own_passes ask supply nested room a (takes s) = own_passes ask supply nested room a s
own_passes ask supply nested room a (goes_deep e s) = rw e (own_passes ask supply nested room a s)
own_passes ask supply nested room a (is_too_deep e) = rw e refl

pub passes_streams : {N : Type 0} {ask : Question N → Answer N} {hand : ℕ → Wanted → Option (Given N)} {room : ℕ} {p : Plan N} {g : Going N} {q : Plan N} {h : Going N} → Passes ask hand room p g q h → h.streams ≡ g.streams
passes_streams stays = refl
passes_streams (asks s) = passes_streams s
passes_streams (uses e s) = passes_streams s
passes_streams (puts s) = passes_streams s
passes_streams (begins s) = passes_streams s
passes_streams (wraps s) = passes_streams s
passes_streams (takes s) = passes_streams s
passes_streams (goes_deep e s) = passes_streams s
passes_streams (is_too_deep e) = refl

-- ---- Holes

abbrev all_holes : List Stream → ℕ
all_holes [] = 0
all_holes (o ∷ os) = holes o + all_holes os

holes_closed : (s : Stream) (os : List Stream) → holes (closed_in s os) ≡ holes s + all_holes os
holes_closed s [] = omega arith
holes_closed s (o ∷ os) =
    let i = holes_closed (followed o (aside_of s)) os in
    let h = holes_followed o (aside_of s) in
    omega (arith, i, h)

holes_wrapped : (how : Wrapping) (s : Stream) → holes (wrapped how s) ≡ holes s
holes_wrapped (AsElement n u ns) s = omega arith
holes_wrapped AsNameless s = omega arith
holes_wrapped (AsAttribute n u) s = omega arith
holes_wrapped AsComment s = omega arith
holes_wrapped (AsInstruction t) s = omega arith
holes_wrapped AsMessage s = omega arith

holes_ended : (k s : Stream) (os : List Stream) → holes k ≡ holes s → holes (closed_in (top_after k s os) (outer_after os)) ≡ holes (closed_in s os)
holes_ended k s [] e = refl
holes_ended k s (o ∷ os) e =
    let i = holes_closed (followed o k) os in
    let j = holes_closed s (o ∷ os) in
    let h = holes_followed o k in
    omega (arith, i, j, h, e)

pub holes_more : (s t : Stream) (os : List Stream) → holes t ≡ 0 → holes (closed_in (followed s t) os) ≡ holes (closed_in s os)
holes_more s t os n =
    let i = holes_closed (followed s t) os in
    let j = holes_closed s os in
    let h = holes_followed s t in
    omega (arith, i, j, h, n)

pub holes_put : (items s : Stream) (os : List Stream) → holes (closed_in (followed s (filled items [])) os) ≡ holes (closed_in s os)
holes_put items s os = holes_more s (filled items []) os (no_holes items)

pub holes_begun : (s : Stream) (os : List Stream) → holes (closed_in Ended (s ∷ os)) ≡ holes (closed_in s os)
holes_begun s os =
    let i = holes_closed Ended (s ∷ os) in
    let j = holes_closed s os in
    omega (arith, i, j)

pub holes_wrap : (how : Wrapping) (s : Stream) (os : List Stream) → holes (closed_in (top_after (wrapped how s) s os) (outer_after os)) ≡ holes (closed_in s os)
holes_wrap how s os = holes_ended (wrapped how s) s os (holes_wrapped how s)

pub holes_aside : (s : Stream) (os : List Stream) → holes (closed_in (top_after (aside_of s) s os) (outer_after os)) ≡ holes (closed_in s os)
holes_aside s os = holes_ended (aside_of s) s os (holes_wrapped (AsAttribute [] []) s)

passes_holes : {N : Type 0} {ask : Question N → Answer N} {hand : ℕ → Wanted → Option (Given N)} {room : ℕ} {p : Plan N} {g : Going N} {q : Plan N} {h : Going N} → Passes ask hand room p g q h → holes (closed h) ≡ holes (closed g)
passes_holes stays = refl
passes_holes (asks s) = passes_holes s
passes_holes (uses e s) = passes_holes s
passes_holes (puts {items = items} {g = g} s) = passes_holes s ∙ holes_put items g.top g.outer
passes_holes (begins {g = g} s) = passes_holes s ∙ holes_begun g.top g.outer
passes_holes (wraps {how = how} {g = g} s) = passes_holes s ∙ holes_wrap how g.top g.outer
passes_holes (takes {g = g} s) = passes_holes s ∙ holes_aside g.top g.outer
passes_holes (goes_deep e s) = passes_holes s
passes_holes (is_too_deep e) = refl

-- as many holes as streams
pub passes_even : {N : Type 0} {ask : Question N → Answer N} {hand : ℕ → Wanted → Option (Given N)} {room : ℕ} {p : Plan N} {g : Going N} {q : Plan N} {h : Going N} → Passes ask hand room p g q h → IsEven g → IsEven h
passes_even s e = passes_holes s ∙ e ∙ ap length (sym (passes_streams s))

pub entered_even : {N : Type 0} (c : Call N) (d : ℕ) (t : Stream) (g : Going N) → IsEven g → IsEven (given t (opened c d g))
entered_even c d t g e =
    let i = holes_closed (followed g.top (Hole Ended)) g.outer in
    let j = holes_closed g.top g.outer in
    let h = holes_followed g.top (Hole Ended) in
    let l = length-append g.streams (t ∷ []) in
    omega (arith, i, j, h, l, e)

-- ---- Work

pub work_passes : {N : Type 0} (ask : Question N → Answer N) (supply : Wanted → ℕ → Place → Supplied N) (nested : ℕ → Call N → Outcome N) {hand : ℕ → Wanted → Option (Given N)} (room : ℕ) {p : Plan N} {g : Going N} {q : Plan N} {h : Going N}
    → Agrees supply hand → Passes ask hand room p g q h → work ask supply nested room hand p g ≡ work ask supply nested room hand q h
work_passes ask supply nested room a stays = refl
work_passes ask supply nested room a (asks s) = work_passes ask supply nested room a s
work_passes ask supply nested room a (uses {w = w} {depth = d} {place = l} {x = x} e s) = let i = work_passes ask supply nested room a s in rw (a w d l x e, e) (omega (arith, i))
work_passes ask supply nested room a (puts s) = work_passes ask supply nested room a s
work_passes ask supply nested room a (begins s) = work_passes ask supply nested room a s
work_passes ask supply nested room a (wraps s) = work_passes ask supply nested room a s
work_passes ask supply nested room a (takes s) = work_passes ask supply nested room a s
work_passes ask supply nested room a (goes_deep e s) = rw e (work_passes ask supply nested room a s)
work_passes ask supply nested room a (is_too_deep e) = rw e refl

-- where more is at hand, the same steps are taken
pub passes_more : {N : Type 0} {ask : Question N → Answer N} {hand there : ℕ → Wanted → Option (Given N)} {room : ℕ} {p : Plan N} {g : Going N} {q : Plan N} {h : Going N} → ((d : ℕ) (w : Wanted) (x : Given N) → hand d w ≡ Some x → there d w ≡ Some x) → Passes ask hand room p g q h → Passes ask there room p g q h
passes_more f stays = stays
passes_more f (asks s) = asks (passes_more f s)
passes_more f (uses {w = w} {depth = d} {x = x} e s) = uses (f d w x e) (passes_more f s)
passes_more f (puts s) = puts (passes_more f s)
passes_more f (begins s) = begins (passes_more f s)
passes_more f (wraps s) = wraps (passes_more f s)
passes_more f (takes s) = takes (passes_more f s)
passes_more f (goes_deep e s) = goes_deep e (passes_more f s)
passes_more f (is_too_deep e) = is_too_deep e

missing_less : {V : Type 0} (a b : Option V) → ((v : V) → a ≡ Some v → b ≡ Some v) → missing b ≤ missing a
missing_less None None f = omega arith
missing_less None (Some v) f = omega arith
missing_less (Some v) b f = rw (f v refl) (omega arith)

-- and it pauses no more often
pub work_less : {N : Type 0} (ask : Question N → Answer N) (supply : Wanted → ℕ → Place → Supplied N) (nested : ℕ → Call N → Outcome N) (hand there : ℕ → Wanted → Option (Given N)) (room : ℕ) (p : Plan N) (g : Going N) → ((d : ℕ) (w : Wanted) (x : Given N) → hand d w ≡ Some x → there d w ≡ Some x)
    → work ask supply nested room there p g ≤ work ask supply nested room hand p g
work_less ask supply nested hand there room End g f = omega arith
work_less ask supply nested hand there room (Yield v) g f = omega arith
work_less ask supply nested hand there room (Stop why) g f = omega arith
work_less ask supply nested hand there room (Inquire q next) g f = work_less ask supply nested hand there room (next (ask q)) (noted (Asked q (ask q)) g) f
work_less {N = N} ask supply nested hand there room (Use w d l next) g f =
    go (supply w d l) (missing_less (hand d w) (there d w) (f d w)) (λ x. work_less ask supply nested hand there room (next x) (noted (Saw w d l (Known x)) g) f)
  where
    go : (o : Supplied N) → missing (there d w) ≤ missing (hand d w)
        → ((x : Given N) → work ask supply nested room there (next x) (noted (Saw w d l (Known x)) g) ≤ work ask supply nested room hand (next x) (noted (Saw w d l (Known x)) g))
        → if_supplied (λ x. missing (there d w) + work ask supply nested room there (next x) (noted (Saw w d l (Known x)) g)) o ≤ if_supplied (λ x. missing (hand d w) + work ask supply nested room hand (next x) (noted (Saw w d l (Known x)) g)) o
    go (Known x) m h = let i = h x in omega (arith, i, m)
    go (Failed why) m h = omega arith
work_less ask supply nested hand there room (Put s next) g f = work_less ask supply nested hand there room next (put s g) f
work_less ask supply nested hand there room (Begin next) g f = work_less ask supply nested hand there room next (begun g) f
work_less ask supply nested hand there room (Wrap w next) g f = work_less ask supply nested hand there room next (wrap w g) f
work_less ask supply nested hand there room (Take next) g f = work_less ask supply nested hand there room (next (taken g)) (aside g) f
work_less ask supply nested hand there room (Deep d l next) g f = go (nat_lt room d) (work_less ask supply nested hand there room next (deepened d g) f)
  where
    go : (b : Bool) → work ask supply nested room there next (deepened d g) ≤ work ask supply nested room hand next (deepened d g) → cond b 0 (work ask supply nested room there next (deepened d g)) ≤ cond b 0 (work ask supply nested room hand next (deepened d g))
    go true m = omega arith
    go false m = m
work_less ask supply nested hand there room (Enter c d next) g f = let i = work_less ask supply nested hand there room next (given (nested d c).content (opened c d g)) f in omega (arith, i)
