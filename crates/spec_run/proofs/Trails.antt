-- What was done goes the same way wherever it holds.
use Rattle.std.proofs.Common.{◌≡◌, ℕ, ◌+◌, ◌-◌, ◌≤◌, ◌<◌, List, [], ◌∷◌, ◌++◌, length, drop, Bool, true, false, cond, refl, sym, ap, subst, ◌∙◌, append_assoc, arith, length-append}
use Rattle.std.specs.Prelude.{nat_lt}
use Rattle.std.proofs.lemmas.Bool.{ltb-true, ltb-false, le-ltb}
use Rattle.std.proofs.lemmas.List.{append-nil}
use Rattle.spec_stylesheet.specs.Place.{Place}
use Rattle.spec_meaning.specs.Stream.{Stream, filled, holes}
use Rattle.spec_meaning.specs.Question.{Question, Answer}
use Rattle.spec_meaning.specs.Program.{Wanted, Given}
use Rattle.spec_run.specs.Plan.{Call, Plan, End, Yield, Stop, Inquire, Use, Put, Begin, Wrap, Take, Deep, Enter}
use Rattle.spec_run.specs.Direct.{quiet, Supplied, Known, Failed, Ending, Finished, Gave, Halted, Outcome, too_deep}
use Rattle.spec_run.specs.Going.{Event, Asked, Saw, Entered, Held, Going, at_start, noted, put, begun, wrap, of_top, taken, aside, higher, deepened, opened, given, Owned, owned, if_known, unless_halted, own}
use Rattle.spec_run.specs.Hold.{GoesOn, Hold, came, over}
use Rattle.spec_run.specs.Trail.{aside_with, Trail, finishes, gives, asks, uses, puts, begins, wraps, takes, deepens, enters}

-- all that is noted comes after what was
pub trail_trace : {N : Type 0} {p : Plan N} {g h : Going N} {es : List (Event N)} {e : Ending N} → Trail p g es h e → h.trace ≡ g.trace ++ es
trail_trace {g = g} finishes = sym (append-nil g.trace)
trail_trace {g = g} gives = sym (append-nil g.trace)
trail_trace {g = g} (asks {question = q} {answer = a} {es = es} t) = trail_trace t ∙ append_assoc g.trace (Asked q a ∷ []) es
trail_trace {g = g} (uses {wanted = w} {depth = d} {place = l} {x = x} {es = es} t) = trail_trace t ∙ append_assoc g.trace (Saw w d l (Known x) ∷ []) es
trail_trace (puts t) = trail_trace t
trail_trace (begins t) = trail_trace t
trail_trace (wraps t) = trail_trace t
trail_trace {g = g} (takes {first = j} {contents = xs} {es = es} k t) = trail_trace t ∙ append_assoc g.trace (Held j xs ∷ []) es
trail_trace (deepens t) = trail_trace t
trail_trace {g = g} (enters {call = c} {depth = d} {es = es} s t) = trail_trace t ∙ append_assoc g.trace (Entered c d ∷ []) es

pub higher_left : (h d : ℕ) → (h ≤ higher h d) × (d ≤ higher h d)
higher_left h d = go (nat_lt h d) refl
  where
    go : (b : Bool) → nat_lt h d ≡ b → (h ≤ cond b d h) × (d ≤ cond b d h)
    go true t = let l : h < d = ltb-true h d t in (omega arith, omega arith)
    go false t = let l : d ≤ h = ltb-false h d t in (omega arith, omega arith)

pub trail_height : {N : Type 0} {p : Plan N} {g h : Going N} {es : List (Event N)} {e : Ending N} → Trail p g es h e → g.height ≤ h.height
trail_height finishes = omega arith
trail_height gives = omega arith
trail_height (asks t) = trail_height t
trail_height (uses t) = trail_height t
trail_height (puts t) = trail_height t
trail_height (begins t) = trail_height t
trail_height (wraps t) = trail_height t
trail_height (takes k t) = trail_height t
trail_height {g = g} (deepens {depth = d} t) = let i = trail_height t in let j = higher_left g.height d in omega (arith, i, j.0)
trail_height (enters s t) = trail_height t

-- what was noted and holds leads to the same end, with the streams that come now
pub trail_goes : {N : Type 0} {p : Plan N} {g h : Going N} {es : List (Event N)} {e : Ending N} (ask : Question N → Answer N) (supply : Wanted → ℕ → Place → Supplied N) (nested : ℕ → Call N → Outcome N) (room : ℕ) (ss : List Stream)
    → Trail p g es h e → length ss ≡ length g.streams → Hold ask supply nested ss es → h.height ≤ room
    → own ask supply nested room p (over ss g) ≡ owned (over (ss ++ came nested es) h) e
trail_goes {g = g} ask supply nested room ss finishes l k r = ap (λ x. owned (over x g) Finished) (sym (append-nil ss))
trail_goes {g = g} ask supply nested room ss (gives {value = v}) l k r = ap (λ x. owned (over x g) (Gave v)) (sym (append-nil ss))
trail_goes {g = g} ask supply nested room ss (asks {question = q} {next = next} t) l k r =
    ap (λ a. own ask supply nested room (next a) (over ss (noted (Asked q a) g))) k.0 ∙ trail_goes ask supply nested room ss t l k.1 r
trail_goes {g = g} ask supply nested room ss (uses {wanted = w} {depth = d} {place = m} {next = next} t) l k r =
    ap (λ x. if_known (λ v. own ask supply nested room (next v) (over ss (noted (Saw w d m x) g))) (over ss (noted (Saw w d m x) g)) x) k.0
    ∙ trail_goes ask supply nested room ss t l k.1 r
trail_goes ask supply nested room ss (puts t) l k r = trail_goes ask supply nested room ss t l k r
trail_goes ask supply nested room ss (begins t) l k r = trail_goes ask supply nested room ss t l k r
trail_goes ask supply nested room ss (wraps t) l k r = trail_goes ask supply nested room ss t l k r
trail_goes {g = g} ask supply nested room ss (takes {first = j} {contents = xs} {next = next} i t) l k r =
    let f : length ss - holes g.top ≡ j = ap (λ n. n - holes g.top) l ∙ sym i in
    ap (λ n. own ask supply nested room (next (quiet (filled g.top (drop n ss)))) (over ss (aside_with n (drop n ss) g))) f
    ∙ ap (λ ys. own ask supply nested room (next (quiet (filled g.top ys))) (over ss (aside_with j ys g))) k.0
    ∙ trail_goes ask supply nested room ss t l k.1 r
trail_goes {g = g} ask supply nested room ss (deepens {depth = d} {next = next} t) l k r =
    let i = trail_height t in
    let j = higher_left g.height d in
    rw (le-ltb room d (omega (arith, i, j.1, r))) (trail_goes ask supply nested room ss t l k r)
trail_goes {N = N} {g = g} ask supply nested room ss (enters {call = c} {depth = d} {next = next} {h = h} {es = es} {e = e} s t) l k r =
    let new = (nested d c).content in
    let n : length (ss ++ new ∷ []) ≡ length (g.streams ++ s ∷ []) = length-append ss (new ∷ []) ∙ ap (λ m. m + 1) l ∙ sym (length-append g.streams (s ∷ [])) in
    goes_on (nested d c).ending k.0 ∙ trail_goes ask supply nested room (ss ++ new ∷ []) t n k.1 r ∙ ap (λ x. owned (over x h) e) (append_assoc ss (new ∷ []) (came nested es))
  where
    goes_on : (x : Ending N) → GoesOn x
        → unless_halted (own ask supply nested room next (given (nested d c).content (opened c d (over ss g)))) (given (nested d c).content (opened c d (over ss g))) x
        ≡ own ask supply nested room next (given (nested d c).content (opened c d (over ss g)))
    goes_on Finished y = refl
    goes_on (Gave v) y = refl
    goes_on (Halted w) y = absurd y

-- what an instantiation did in its own world, to its end
pub record Went {N : Type 0} (ask : Question N → Answer N) (supply : Wanted → ℕ → Place → Supplied N) (nested : ℕ → Call N → Outcome N) (room : ℕ) (p : Plan N) (g : Going N) (o : Owned N) : Type 0 where
  pub events : List (Event N)
  pub trail : Trail p g events o.going o.ending
  pub hold : Hold ask supply nested g.streams events
  pub fits : o.going.height ≤ room
  pub streams : o.going.streams ≡ g.streams ++ came nested events

higher_fits : (h d m : ℕ) → h ≤ m → d ≤ m → higher h d ≤ m
higher_fits h d m i j = go (nat_lt h d)
  where
    go : (b : Bool) → cond b d h ≤ m
    go true = j
    go false = i

pub own_went : {N : Type 0} (ask : Question N → Answer N) (supply : Wanted → ℕ → Place → Supplied N) (nested : ℕ → Call N → Outcome N) (room : ℕ) (p : Plan N) (g : Going N)
    → GoesOn (own ask supply nested room p g).ending → g.height ≤ room → Went ask supply nested room p g (own ask supply nested room p g)
own_went ask supply nested room End g h r = record { events = []; trail = finishes; hold = tt; fits = r; streams = sym (append-nil g.streams) }
own_went ask supply nested room (Yield v) g h r = record { events = []; trail = gives; hold = tt; fits = r; streams = sym (append-nil g.streams) }
own_went ask supply nested room (Stop w) g h r = absurd h
own_went ask supply nested room (Inquire q next) g h r =
    let m = own_went ask supply nested room (next (ask q)) (noted (Asked q (ask q)) g) h r in
    record { events = Asked q (ask q) ∷ m.events; trail = asks m.trail; hold = (refl, m.hold); fits = m.fits; streams = m.streams }
own_went {N = N} ask supply nested room (Use w d l next) g h r = go (supply w d l) refl (λ x k. own_went ask supply nested room (next x) (noted (Saw w d l (Known x)) g) k r) h
  where
    go : (x : Supplied N) → supply w d l ≡ x
        → ((v : Given N) → GoesOn (own ask supply nested room (next v) (noted (Saw w d l (Known v)) g)).ending
        → Went ask supply nested room (next v) (noted (Saw w d l (Known v)) g) (own ask supply nested room (next v) (noted (Saw w d l (Known v)) g)))
        → GoesOn (if_known (λ v. own ask supply nested room (next v) (noted (Saw w d l x) g)) (noted (Saw w d l x) g) x).ending
        → Went ask supply nested room (Use w d l next) g (if_known (λ v. own ask supply nested room (next v) (noted (Saw w d l x) g)) (noted (Saw w d l x) g) x)
    go (Known v) e f k = let m = f v k in record { events = Saw w d l (Known v) ∷ m.events; trail = uses m.trail; hold = (e, m.hold); fits = m.fits; streams = m.streams }
    go (Failed why) e f k = absurd k
own_went ask supply nested room (Put items next) g h r =
    let m = own_went ask supply nested room next (put items g) h r in
    record { events = m.events; trail = puts m.trail; hold = m.hold; fits = m.fits; streams = m.streams }
own_went ask supply nested room (Begin next) g h r =
    let m = own_went ask supply nested room next (begun g) h r in
    record { events = m.events; trail = begins m.trail; hold = m.hold; fits = m.fits; streams = m.streams }
own_went ask supply nested room (Wrap how next) g h r =
    let m = own_went ask supply nested room next (wrap how g) h r in
    record { events = m.events; trail = wraps m.trail; hold = m.hold; fits = m.fits; streams = m.streams }
own_went ask supply nested room (Take next) g h r =
    let m = own_went ask supply nested room (next (taken g)) (aside g) h r in
    record { events = Held (length g.streams - holes g.top) (of_top g) ∷ m.events; trail = takes refl m.trail; hold = (refl, m.hold); fits = m.fits; streams = m.streams }
own_went {N = N} ask supply nested room (Deep d l next) g h r = go (nat_lt room d) refl (λ k s. own_went ask supply nested room next (deepened d g) k s) h
  where
    go : (b : Bool) → nat_lt room d ≡ b
        → (GoesOn (own ask supply nested room next (deepened d g)).ending → higher g.height d ≤ room
        → Went ask supply nested room next (deepened d g) (own ask supply nested room next (deepened d g)))
        → GoesOn (cond b (owned g (Halted (too_deep l))) (own ask supply nested room next (deepened d g))).ending
        → Went ask supply nested room (Deep d l next) g (cond b (owned g (Halted (too_deep l))) (own ask supply nested room next (deepened d g)))
    go true e f k = absurd k
    go false e f k =
        let n = ltb-false room d e in
        let m = f k (higher_fits g.height d room r (omega (arith, n))) in
        record { events = m.events; trail = deepens m.trail; hold = m.hold; fits = m.fits; streams = m.streams }
own_went {N = N} ask supply nested room (Enter c d next) g h r =
    go (nested d c).ending refl (λ k. own_went ask supply nested room next (given (nested d c).content (opened c d g)) k r) h
  where
    entered_so : {x : Ending N} → (nested d c).ending ≡ x → GoesOn x
        → Went ask supply nested room next (given (nested d c).content (opened c d g)) (own ask supply nested room next (given (nested d c).content (opened c d g)))
        → Went ask supply nested room (Enter c d next) g (own ask supply nested room next (given (nested d c).content (opened c d g)))
    entered_so {x = x} e y m = record {
      events = Entered c d ∷ m.events;
      trail = enters (nested d c).content m.trail;
      hold = (subst GoesOn (sym e) y, m.hold);
      fits = m.fits;
      streams = m.streams ∙ append_assoc g.streams ((nested d c).content ∷ []) (came nested m.events);
    }

    go : (x : Ending N) → (nested d c).ending ≡ x
        → (GoesOn (own ask supply nested room next (given (nested d c).content (opened c d g))).ending
        → Went ask supply nested room next (given (nested d c).content (opened c d g)) (own ask supply nested room next (given (nested d c).content (opened c d g))))
        → GoesOn (unless_halted (own ask supply nested room next (given (nested d c).content (opened c d g))) (given (nested d c).content (opened c d g)) x).ending
        → Went ask supply nested room (Enter c d next) g (unless_halted (own ask supply nested room next (given (nested d c).content (opened c d g))) (given (nested d c).content (opened c d g)) x)
    go Finished e f k = entered_so e tt (f k)
    go (Gave v) e f k = entered_so e tt (f k)
    go (Halted why) e f k = absurd k

-- where all that it did holds, and the levels that it took are there, what came to its end comes to it in the same way
pub agreement : {N : Type 0} (ask other : Question N → Answer N) (supply there : Wanted → ℕ → Place → Supplied N) (nested among : ℕ → Call N → Outcome N) (room left : ℕ) (plan : Plan N)
    → GoesOn (own ask supply nested room plan at_start).ending → Hold other there among [] (own ask supply nested room plan at_start).going.trace
    → (own ask supply nested room plan at_start).going.height ≤ left
    → own other there among left plan at_start
    ≡ owned (over (came among (own ask supply nested room plan at_start).going.trace) (own ask supply nested room plan at_start).going) (own ask supply nested room plan at_start).ending
agreement {N = N} ask other supply there nested among room left plan e hold fits =
    let o = own ask supply nested room plan at_start in
    let m = own_went ask supply nested room plan at_start e (omega arith) in
    let same : o.going.trace ≡ m.events = trail_trace m.trail in
    let H : List (Event N) → Type 0 = Hold other there among [] in
    trail_goes other there among left [] m.trail refl (subst H same hold) fits ∙ ap (λ es. owned (over (came among es) o.going) o.ending) (sym same)
