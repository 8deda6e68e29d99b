-- Along a front of a record that holds, an instantiation does what the record says.
use Rattle.std.proofs.Common.{◌≡◌, ℕ, ◌+◌, ◌-◌, ◌≤◌, List, [], ◌∷◌, ◌++◌, length, drop, Bool, true, false, cond}
use Rattle.std.proofs.Common.{refl, sym, ap, subst, ◌∙◌, arith, append_assoc, length-append}
use Rattle.std.specs.Prelude.{nat_lt}
use Rattle.std.proofs.lemmas.Bool.{le-ltb}
use Rattle.std.proofs.lemmas.List.{append-nil}
use Rattle.spec_stylesheet.specs.Place.{Place}
use Rattle.spec_meaning.specs.Stream.{Stream, filled, holes}
use Rattle.spec_meaning.specs.Question.{Question, Answer}
use Rattle.spec_meaning.specs.Program.{Wanted, Given}
use Rattle.spec_run.specs.Plan.{Refused, Call, Plan, End, Yield, Stop, Inquire, Use, Put, Begin, Wrap, Take, Deep, Enter}
use Rattle.spec_run.specs.Direct.{quiet, Supplied, Known, Failed, Ending, Finished, Gave, Halted, Outcome, too_deep}
use Rattle.spec_run.specs.Going.{Event, Asked, Saw, Entered, Held, Going, at_start, noted, put, begun, wrap, of_top, taken, aside, deepened, opened}
use Rattle.spec_run.specs.Going.{given, Owned, owned, if_known, unless_halted, own}
use Rattle.spec_run.specs.Hold.{GoesOn, Hold, came, over}
use Rattle.spec_run.specs.Trail.{aside_with, Trail, finishes, gives, asks, uses, puts, begins, wraps, takes, deepens, enters, Kept}
use Rattle.spec_run.specs.Content.{plan_of}
use Rattle.spec_run.specs.Meaning.{Setting}
use Rattle.spec_run.proofs.Trails.{trail_height, higher_left, trail_goes}
use Rattle.spec_reuse.specs.Instantiation.{Instantiation, given_to, meant_below, own_of}
use Rattle.spec_reuse.specs.Serving.{ReadsHold, Fits, Serves}
use Rattle.spec_reuse.specs.Ledger.{nested_along, AllEnd, now_of, IsRefusedAt, GoesTo}
use Rattle.spec_reuse.proofs.Declared.{goes_along_call}
use Rattle.spec_reuse.proofs.Ends.{AllKnown, trail_known, known_front, front_ends}

-- ---- Where an event stands

-- behind this front of a list
data At {A : Type 0} : List A → A → List A → Type 0 where
  here : {x : A} {rest : List A} → At [] x (x ∷ rest)
  behind : {y x : A} {front es : List A} → At front x es → At (y ∷ front) x (y ∷ es)

at_parts : {A : Type 0} (front : List A) (x : A) (rest : List A) → At front x (front ++ x ∷ rest)
at_parts [] x rest = here
at_parts (y ∷ front) x rest = behind (at_parts front x rest)

abbrev IsSome : {A : Type 0} → List A → Type 0
IsSome [] = ⊥
IsSome (x ∷ xs) = Unit {0}

at_some : {A : Type 0} {front es : List A} {x : A} → At front x es → IsSome es
at_some here = tt
at_some (behind a) = tt

-- ---- What is noted from somewhere on

-- after what was noted before
abbrev pub Grows : {N : Type 0} → (before after : List (Event N)) → Type 0
Grows {N = N} before after = (more : List (Event N)) × (after ≡ before ++ more)

grows_more : {N : Type 0} (before after : List (Event N)) (e : Event N) → Grows (before ++ e ∷ []) after → Grows before after
grows_more before after e m = (e ∷ m.0, m.1 ∙ append_assoc before (e ∷ []) m.0)

pub own_grows : {N : Type 0} (ask : Question N → Answer N) (supply : Wanted → ℕ → Place → Supplied N) (nested : ℕ → Call N → Outcome N) (room : ℕ)
    (p : Plan N) (g : Going N) → Grows g.trace (own ask supply nested room p g).going.trace
own_grows ask supply nested room End g = ([], sym (append-nil g.trace))
own_grows ask supply nested room (Yield v) g = ([], sym (append-nil g.trace))
own_grows ask supply nested room (Stop w) g = ([], sym (append-nil g.trace))
own_grows ask supply nested room (Inquire q next) g =
    grows_more g.trace _ (Asked q (ask q)) (own_grows ask supply nested room (next (ask q)) (noted (Asked q (ask q)) g))
own_grows {N = N} ask supply nested room (Use w d l next) g =
    go (supply w d l) (λ v. own_grows ask supply nested room (next v) (noted (Saw w d l (Known v)) g))
  where
    go : (x : Supplied N)
        → ((v : Given N) → Grows (g.trace ++ Saw w d l (Known v) ∷ []) (own ask supply nested room (next v) (noted (Saw w d l (Known v)) g)).going.trace)
        → Grows g.trace (if_known (λ v. own ask supply nested room (next v) (noted (Saw w d l x) g)) (noted (Saw w d l x) g) x).going.trace
    go (Known v) f = grows_more g.trace _ (Saw w d l (Known v)) (f v)
    go (Failed why) f = (Saw w d l (Failed why) ∷ [], refl)
own_grows ask supply nested room (Put x next) g = own_grows ask supply nested room next (put x g)
own_grows ask supply nested room (Begin next) g = own_grows ask supply nested room next (begun g)
own_grows ask supply nested room (Wrap how next) g = own_grows ask supply nested room next (wrap how g)
own_grows ask supply nested room (Take next) g =
    grows_more g.trace _ (Held (length g.streams - holes g.top) (of_top g)) (own_grows ask supply nested room (next (taken g)) (aside g))
own_grows {N = N} ask supply nested room (Deep d l next) g = go (nat_lt room d) (own_grows ask supply nested room next (deepened d g))
  where
    go : (b : Bool) → Grows g.trace (own ask supply nested room next (deepened d g)).going.trace
        → Grows g.trace (cond b (owned g (Halted (too_deep l))) (own ask supply nested room next (deepened d g))).going.trace
    go true f = ([], sym (append-nil g.trace))
    go false f = f
own_grows {N = N} ask supply nested room (Enter c d next) g =
    go (nested d c).ending (own_grows ask supply nested room next (given (nested d c).content (opened c d g)))
  where
    go : (x : Ending N) → Grows (g.trace ++ Entered c d ∷ []) (own ask supply nested room next (given (nested d c).content (opened c d g))).going.trace
        → Grows g.trace (unless_halted (own ask supply nested room next (given (nested d c).content (opened c d g)))
        (given (nested d c).content (opened c d g)) x).going.trace
    go Finished f = grows_more g.trace _ (Entered c d) f
    go (Gave v) f = grows_more g.trace _ (Entered c d) f
    go (Halted w) f = (Entered c d ∷ [], refl)

-- ---- The first that may differ

-- after what was noted before: the front, and then this as it is now
record Next {N : Type 0} (s : Setting N) (i : Instantiation N) (before : List (Event N)) (ss : List Stream) (front : List (Event N))
    (event : Event N) (o : Owned N) : Type 0 where
  more : List (Event N)
  is : o.going.trace ≡ before ++ (front ++ now_of s i (ss ++ came (meant_below s i) front) event ∷ more)
  last : IsRefusedAt s i event → more ≡ []

-- the run from here on
abbrev own_from : {N : Type 0} → Setting N → Instantiation N → Plan N → Going N → Owned N
own_from s i p g = own s.ask (given_to s i) (meant_below s i) i.below p g

next_asked : {N : Type 0} (s : Setting N) (i : Instantiation N) (before : List (Event N)) (ss : List Stream) (q : Question N) (a : Answer N)
    (front : List (Event N)) (event : Event N) (o : Owned N) → Next s i (before ++ Asked q a ∷ []) ss front event o
    → Next s i before ss (Asked q a ∷ front) event o
next_asked s i before ss q a front event o n = record {
  more = n.more;
  is = n.is ∙ append_assoc before (Asked q a ∷ []) (front ++ now_of s i (ss ++ came (meant_below s i) front) event ∷ n.more);
  last = n.last;
}

next_seen : {N : Type 0} (s : Setting N) (i : Instantiation N) (before : List (Event N)) (ss : List Stream) (w : Wanted) (d : ℕ) (l : Place)
    (x : Supplied N) (front : List (Event N)) (event : Event N) (o : Owned N) → Next s i (before ++ Saw w d l x ∷ []) ss front event o
    → Next s i before ss (Saw w d l x ∷ front) event o
next_seen s i before ss w d l x front event o n = record {
  more = n.more;
  is = n.is ∙ append_assoc before (Saw w d l x ∷ []) (front ++ now_of s i (ss ++ came (meant_below s i) front) event ∷ n.more);
  last = n.last;
}

next_held : {N : Type 0} (s : Setting N) (i : Instantiation N) (before : List (Event N)) (ss : List Stream) (j : ℕ) (xs : List Stream)
    (front : List (Event N)) (event : Event N) (o : Owned N) → Next s i (before ++ Held j xs ∷ []) ss front event o
    → Next s i before ss (Held j xs ∷ front) event o
next_held s i before ss j xs front event o n = record {
  more = n.more;
  is = n.is ∙ append_assoc before (Held j xs ∷ []) (front ++ now_of s i (ss ++ came (meant_below s i) front) event ∷ n.more);
  last = n.last;
}

next_entered : {N : Type 0} (s : Setting N) (i : Instantiation N) (before : List (Event N)) (ss : List Stream) (c : Call N) (d : ℕ)
    (front : List (Event N)) (event : Event N) (o : Owned N)
    → Next s i (before ++ Entered c d ∷ []) (ss ++ (meant_below s i d c).content ∷ []) front event o
    → Next s i before ss (Entered c d ∷ front) event o
next_entered s i before ss c d front event o n =
    let new = (meant_below s i d c).content in
    let later = came (meant_below s i) front in record {
      more = n.more;
      is =
          n.is ∙ append_assoc before (Entered c d ∷ []) (front ++ now_of s i ((ss ++ new ∷ []) ++ later) event ∷ n.more)
          ∙ ap (λ us. before ++ (Entered c d ∷ (front ++ now_of s i us event ∷ n.more))) (append_assoc ss (new ∷ []) later);
      last = n.last;
    }

-- what was done first from here on, and that nothing is done behind it where it is refused
record First {N : Type 0} (before : List (Event N)) (event : Event N) (Refusal : Type 0) (o : Owned N) : Type 0 where
  more : List (Event N)
  is : o.going.trace ≡ before ++ (event ∷ more)
  last : Refusal → more ≡ []

first_grows : {N : Type 0} (before : List (Event N)) (event : Event N) (Refusal : Type 0) (o : Owned N) → ¬ Refusal
    → Grows (before ++ event ∷ []) o.going.trace → First before event Refusal o
first_grows before event Refusal o never m =
    record { more = m.0; is = m.1 ∙ append_assoc before (event ∷ []) m.0; last = λ x. absurd (never x) }

seen_first : {N : Type 0} (s : Setting N) (i : Instantiation N) (w : Wanted) (d : ℕ) (l : Place) (next : Given N → Plan N) (g : Going N)
    (x : Supplied N) → First g.trace (Saw w d l x) ((why : Refused) × (x ≡ Failed why))
    (if_known (λ v. own_from s i (next v) (noted (Saw w d l x) g)) (noted (Saw w d l x) g) x)
seen_first s i w d l next g (Known v) =
    first_grows g.trace (Saw w d l (Known v)) _ (own_from s i (next v) (noted (Saw w d l (Known v)) g))
    (λ z. let e = z.1 in absurd (cc)) (own_grows s.ask (given_to s i) (meant_below s i) i.below (next v) (noted (Saw w d l (Known v)) g))
seen_first s i w d l next g (Failed why) = record { more = []; is = refl; last = λ z. refl }

-- with what was entered: it goes on from here
entered_first : {N : Type 0} (s : Setting N) (i : Instantiation N) (c : Call N) (d : ℕ) (next : Plan N) (g h : Going N)
    → h.trace ≡ g.trace ++ Entered c d ∷ [] → (x : Ending N)
    → First g.trace (Entered c d) (¬ (GoesOn x)) (unless_halted (own_from s i next h) h x)
entered_first {N = N} s i c d next g h noted_so x = go x
  where
    grows : Grows (g.trace ++ Entered c d ∷ []) (own_from s i next h).going.trace
    grows =
        let P : List (Event N) → Type 0 = λ es. Grows es (own_from s i next h).going.trace in
        subst P noted_so (own_grows s.ask (given_to s i) (meant_below s i) i.below next h)

    go : (x : Ending N) → First g.trace (Entered c d) (¬ (GoesOn x)) (unless_halted (own_from s i next h) h x)
    go Finished = first_grows g.trace (Entered c d) _ (own_from s i next h) (λ z. z tt) grows
    go (Gave v) = first_grows g.trace (Entered c d) _ (own_from s i next h) (λ z. z tt) grows
    go (Halted why) = record { more = []; is = noted_so; last = λ z. refl }

entered_on : {N : Type 0} (P : Owned N → Type 0) (o : Owned N) (h : Going N) (x : Ending N) → GoesOn x → P o → P (unless_halted o h x)
entered_on P o h Finished y z = z
entered_on P o h (Gave v) y z = z
entered_on P o h (Halted w) y z = absurd y

next_goes : {N : Type 0} {p : Plan N} {g h : Going N} {es : List (Event N)} {e : Ending N} (s : Setting N) (i : Instantiation N) (ss : List Stream)
    (front : List (Event N)) (event : Event N) → Trail p g es h e → length ss ≡ length g.streams → At front event es
    → Hold s.ask (given_to s i) (meant_below s i) ss front → h.height ≤ i.below
    → Next s i g.trace ss front event (own_from s i p (over ss g))
next_goes s i ss front event finishes l a k r = absurd (at_some a)
next_goes s i ss front event gives l a k r = absurd (at_some a)
next_goes {g = g} s i ss front event (asks {question = q} {next = next} t) l here k r =
    let m = own_grows s.ask (given_to s i) (meant_below s i) i.below (next (s.ask q)) (noted (Asked q (s.ask q)) (over ss g)) in
    record { more = m.0; is = m.1 ∙ append_assoc g.trace (Asked q (s.ask q) ∷ []) m.0; last = λ x. absurd x }
next_goes {N = N} {g = g} s i ss front event (asks {question = q} {answer = b} {next = next} t) l (behind {front = fs} a) k r =
    let O : Answer N → Type 0 = λ z. Next s i g.trace ss (Asked q b ∷ fs) event (own_from s i (next z) (over ss (noted (Asked q z) g))) in
    subst O (sym k.0) (next_asked s i g.trace ss q b fs event _ (next_goes s i ss fs event t l a k.1 r))
next_goes {g = g} s i ss front event (uses {wanted = w} {depth = d} {place = m} {next = next} t) l here k r =
    let n = seen_first s i w d m next (over ss g) (given_to s i w d m) in record { more = n.more; is = n.is; last = n.last }
next_goes {N = N} {g = g} s i ss front event (uses {wanted = w} {depth = d} {place = m} {x = x} {next = next} t) l (behind {front = fs} a) k r =
    let O : Supplied N → Type 0 = λ z. Next s i g.trace ss (Saw w d m (Known x) ∷ fs) event
    (if_known (λ v. own_from s i (next v) (over ss (noted (Saw w d m z) g))) (over ss (noted (Saw w d m z) g)) z) in
    subst O (sym k.0) (next_seen s i g.trace ss w d m (Known x) fs event _ (next_goes s i ss fs event t l a k.1 r))
next_goes s i ss front event (puts t) l a k r = next_goes s i ss front event t l a k r
next_goes s i ss front event (begins t) l a k r = next_goes s i ss front event t l a k r
next_goes s i ss front event (wraps t) l a k r = next_goes s i ss front event t l a k r
next_goes {g = g} s i ss front event (takes {first = j} {contents = xs} {next = next} f t) l here k r =
    let n = length ss - holes g.top in
    let same : n ≡ j = ap (λ n. n - holes g.top) l ∙ sym f in
    let m = own_grows s.ask (given_to s i) (meant_below s i) i.below (next (quiet (filled g.top (drop n ss)))) (over ss (aside_with n (drop n ss) g)) in
    record {
      more = m.0;
      is =
          m.1 ∙ append_assoc g.trace (Held n (drop n ss) ∷ []) m.0
          ∙ ap (λ z. g.trace ++ (Held z (drop z ss) ∷ m.0)) same
          ∙ ap (λ us. g.trace ++ (Held j (drop j us) ∷ m.0)) (sym (append-nil ss));
      last = λ x. absurd x;
    }
next_goes {N = N} {g = g} s i ss front event (takes {first = j} {contents = xs} {next = next} f t) l (behind {front = fs} a) k r =
    let same : length ss - holes g.top ≡ j = ap (λ n. n - holes g.top) l ∙ sym f in
    let O : ℕ → Type 0 = λ n. Next s i g.trace ss (Held j xs ∷ fs) event
    (own_from s i (next (quiet (filled g.top (drop n ss)))) (over ss (aside_with n (drop n ss) g))) in
    let Q : List Stream → Type 0 = λ ys. Next s i g.trace ss (Held j xs ∷ fs) event
    (own_from s i (next (quiet (filled g.top ys))) (over ss (aside_with j ys g))) in
    subst O (sym same) (subst Q (sym k.0) (next_held s i g.trace ss j xs fs event _ (next_goes s i ss fs event t l a k.1 r)))
next_goes {g = g} s i ss front event (deepens {depth = d} {place = m} {next = next} t) l a k r =
    let x = trail_height t in
    let y = higher_left g.height d in
    let fits : nat_lt i.below d ≡ false = le-ltb i.below d (omega (arith, x, y.1, r)) in
    let P : Bool → Type 0 = λ b. Next s i g.trace ss front event
    (cond b (owned (over ss g) (Halted (too_deep m))) (own_from s i next (over ss (deepened d g)))) in
    subst P (sym fits) (next_goes s i ss front event t l a k r)
next_goes {g = g} s i ss front event (enters {call = c} {depth = d} {next = next} u t) l here k r =
    let o = meant_below s i d c in
    let n = entered_first s i c d next (over ss g) (given o.content (opened c d (over ss g))) refl o.ending in
    record { more = n.more; is = n.is; last = n.last }
next_goes {N = N} {g = g} s i ss front event (enters {call = c} {depth = d} {next = next} u t) l (behind {front = fs} a) k r =
    let o = meant_below s i d c in
    let n : length (ss ++ o.content ∷ []) ≡ length (g.streams ++ u ∷ []) =
    length-append ss (o.content ∷ []) ∙ ap (λ m. m + 1) l ∙ sym (length-append g.streams (u ∷ [])) in
    let P : Owned N → Type 0 = λ z. Next s i g.trace ss (Entered c d ∷ fs) event z in
    entered_on P (own_from s i next (given o.content (opened c d (over ss g)))) (given o.content (opened c d (over ss g))) o.ending k.0
    (next_entered s i g.trace ss c d fs event _ (next_goes s i (ss ++ o.content ∷ []) fs event t n a k.1 r))

-- ---- Along a record that fits

-- the trail of its plan, and the levels for it
record Path {N : Type 0} (s : Setting N) (i : Instantiation N) (k : Kept N) : Type 0 where
  end : Going N
  trail : Trail (plan_of s.same i.call) at_start k.trace end k.ending
  fits : end.height ≤ i.below
  trace : k.trace ≡ end.trace

path : {N : Type 0} (s : Setting N) (i : Instantiation N) (k : Kept N) → Fits s i k → Path s i k
path {N = N} s i k f =
    let height : k.height ≡ f.lasting.last.height = ap (λ (x : Kept N). x.height) f.lasting.is in
    let levels = f.levels in
    record {
      end = f.lasting.last;
      trail = goes_along_call s.same i.call k f.of_call f.lasting.trail;
      fits = omega (arith, levels, height);
      trace = ap (λ (x : Kept N). x.trace) f.lasting.is;
    }

pub front_next : {N : Type 0} (s : Setting N) (i : Instantiation N) (k : Kept N) (front : List (Event N)) (event : Event N) (rest : List (Event N))
    → Fits s i k → k.trace ≡ front ++ event ∷ rest → Hold s.ask (given_to s i) (meant_below s i) [] front → GoesTo s i front event
front_next {N = N} s i k front event rest f parts hold =
    let p = path s i k f in
    let A : List (Event N) → Type 0 = λ es. At front event es in
    let n = next_goes s i [] front event p.trail refl (subst A (sym parts) (at_parts front event rest)) hold p.fits in
    record { more = n.more; is = n.is; last = n.last }

pub whole_done : {N : Type 0} (s : Setting N) (i : Instantiation N) (k : Kept N) → Fits s i k
    → Hold s.ask (given_to s i) (meant_below s i) [] k.trace → (own_of s i).going.trace ≡ k.trace
whole_done {N = N} s i k f hold =
    let p = path s i k f in
    ap (λ (o : Owned N). o.going.trace) (trail_goes s.ask (given_to s i) (meant_below s i) i.below [] p.trail refl hold p.fits) ∙ sym p.trace

pub front_done : {N : Type 0} (s : Setting N) (i : Instantiation N) (k : Kept N) (front rest : List (Event N)) → Fits s i k
    → k.trace ≡ front ++ rest → Hold s.ask (given_to s i) (meant_below s i) [] front
    → (more : List (Event N)) × ((own_of s i).going.trace ≡ front ++ more)
front_done {N = N} s i k front [] f parts hold =
    let H : List (Event N) → Type 0 = λ es. Hold s.ask (given_to s i) (meant_below s i) [] es in
    ([], whole_done s i k f (subst H (sym (parts ∙ append-nil front)) hold) ∙ parts)
front_done s i k front (event ∷ rest) f parts hold =
    let n = front_next s i k front event rest f parts hold in (now_of s i (came (meant_below s i) front) event ∷ n.more, n.is)

pub front_ended : {N : Type 0} (s : Setting N) (i : Instantiation N) (k : Kept N) (front rest : List (Event N)) → Fits s i k
    → k.trace ≡ front ++ rest → Hold s.ask (given_to s i) (meant_below s i) [] front
    → AllEnd s (nested_along s i front)
front_ended {N = N} s i k front rest f parts hold =
    let p = path s i k f in
    let A : List (Event N) → Type 0 = λ es. AllKnown es in
    front_ends s i front (known_front front rest (subst A parts (trail_known p.trail))) hold

-- what is read behind it
reads_behind : {N : Type 0} (ask : Question N → Answer N) (supply : Wanted → ℕ → Place → Supplied N) (nested : ℕ → Call N → Outcome N)
    (ss : List Stream) (front rest : List (Event N)) → ReadsHold ask supply nested ss (front ++ rest) → Hold ask supply nested ss front
    → ReadsHold ask supply nested (ss ++ came nested front) rest
reads_behind ask supply nested ss [] rest r k =
    let R : List Stream → Type 0 = λ us. ReadsHold ask supply nested us rest in subst R (sym (append-nil ss)) r
reads_behind ask supply nested ss (Asked question answer ∷ es) rest r k = reads_behind ask supply nested ss es rest r.1 k.1
reads_behind ask supply nested ss (Saw wanted depth place x ∷ es) rest r k = reads_behind ask supply nested ss es rest r.1 k.1
reads_behind ask supply nested ss (Entered call depth ∷ es) rest r k =
    let new = (nested depth call).content in
    let R : List Stream → Type 0 = λ us. ReadsHold ask supply nested us rest in
    subst R (append_assoc ss (new ∷ []) (came nested es)) (reads_behind ask supply nested (ss ++ new ∷ []) es rest (r k.0) k.1)
reads_behind ask supply nested ss (Held first contents ∷ es) rest r k = reads_behind ask supply nested ss es rest r.1 k.1

pub front_reads : {N : Type 0} (s : Setting N) (i : Instantiation N) (k : Kept N) (front rest : List (Event N)) → Serves s i k
    → k.trace ≡ front ++ rest → Hold s.ask (given_to s i) (meant_below s i) [] front
    → ReadsHold s.ask (given_to s i) (meant_below s i) (came (meant_below s i) front) rest
front_reads {N = N} s i k front rest serves parts hold =
    let R : List (Event N) → Type 0 = λ es. ReadsHold s.ask (given_to s i) (meant_below s i) [] es in
    reads_behind s.ask (given_to s i) (meant_below s i) [] front rest (subst R parts serves.reads) hold

-- ---- What is served saw no refusal

known_append : {N : Type 0} (es more : List (Event N)) → AllKnown es → AllKnown more → AllKnown (es ++ more)
known_append [] more a b = b
known_append (Asked question answer ∷ es) more a b = known_append es more a b
known_append (Saw wanted depth place (Known x) ∷ es) more a b = known_append es more a b
known_append (Saw wanted depth place (Failed why) ∷ es) more a b = absurd a
known_append (Entered call depth ∷ es) more a b = known_append es more a b
known_append (Held first contents ∷ es) more a b = known_append es more a b

none_refused : {N : Type 0} (es : List (Event N)) (w : Wanted) (d : ℕ) (l : Place) (why : Refused) (more : List (Event N))
    → AllKnown (es ++ Saw w d l (Failed why) ∷ more) → ⊥
none_refused [] w d l why more a = a
none_refused (Asked question answer ∷ es) w d l why more a = none_refused es w d l why more a
none_refused (Saw wanted depth place (Known x) ∷ es) w d l why more a = none_refused es w d l why more a
none_refused (Saw wanted depth place (Failed because) ∷ es) w d l why more a = a
none_refused (Entered call depth ∷ es) w d l why more a = none_refused es w d l why more a
none_refused (Held first contents ∷ es) w d l why more a = none_refused es w d l why more a

-- from here on
abbrev SeesAll : {N : Type 0} → Owned N → Type 0
SeesAll o = AllKnown o.going.trace

served_known : {N : Type 0} {p : Plan N} {g h : Going N} {es : List (Event N)} {e : Ending N} (s : Setting N) (i : Instantiation N) (ss : List Stream)
    → Trail p g es h e → length ss ≡ length g.streams → ReadsHold s.ask (given_to s i) (meant_below s i) ss es → h.height ≤ i.below
    → AllKnown g.trace → SeesAll (own_from s i p (over ss g))
served_known s i ss finishes l k r a = a
served_known s i ss gives l k r a = a
served_known {N = N} {g = g} s i ss (asks {question = q} {answer = b} {next = next} t) l k r a =
    let P : Answer N → Type 0 = λ z. SeesAll (own_from s i (next z) (over ss (noted (Asked q z) g))) in
    subst P (sym k.0) (served_known s i ss t l k.1 r (known_append g.trace (Asked q b ∷ []) a tt))
served_known {N = N} {g = g} s i ss (uses {wanted = w} {depth = d} {place = m} {x = x} {next = next} t) l k r a =
    let P : Supplied N → Type 0 = λ z.
    SeesAll (if_known (λ v. own_from s i (next v) (over ss (noted (Saw w d m z) g))) (over ss (noted (Saw w d m z) g)) z) in
    subst P (sym k.0) (served_known s i ss t l k.1 r (known_append g.trace (Saw w d m (Known x) ∷ []) a tt))
served_known s i ss (puts t) l k r a = served_known s i ss t l k r a
served_known s i ss (begins t) l k r a = served_known s i ss t l k r a
served_known s i ss (wraps t) l k r a = served_known s i ss t l k r a
served_known {g = g} s i ss (takes {first = j} {contents = xs} {next = next} f t) l k r a =
    let same : length ss - holes g.top ≡ j = ap (λ n. n - holes g.top) l ∙ sym f in
    let P : ℕ → Type 0 = λ n. SeesAll (own_from s i (next (quiet (filled g.top (drop n ss)))) (over ss (aside_with n (drop n ss) g))) in
    let Q : List Stream → Type 0 = λ ys. SeesAll (own_from s i (next (quiet (filled g.top ys))) (over ss (aside_with j ys g))) in
    subst P (sym same) (subst Q (sym k.0) (served_known s i ss t l k.1 r (known_append g.trace (Held j xs ∷ []) a tt)))
served_known {g = g} s i ss (deepens {depth = d} {place = m} {next = next} t) l k r a =
    let x = trail_height t in
    let y = higher_left g.height d in
    let fits : nat_lt i.below d ≡ false = le-ltb i.below d (omega (arith, x, y.1, r)) in
    let P : Bool → Type 0 = λ b. SeesAll (cond b (owned (over ss g) (Halted (too_deep m))) (own_from s i next (over ss (deepened d g)))) in
    subst P (sym fits) (served_known s i ss t l k r a)
served_known {N = N} {g = g} s i ss (enters {call = c} {depth = d} {next = next} u t) l k r a =
    let new = (meant_below s i d c).content in
    let n : length (ss ++ new ∷ []) ≡ length (g.streams ++ u ∷ []) =
    length-append ss (new ∷ []) ∙ ap (λ m. m + 1) l ∙ sym (length-append g.streams (u ∷ [])) in
    let noted_so = known_append g.trace (Entered c d ∷ []) a tt in
    go (meant_below s i d c).ending (λ on. served_known s i (ss ++ new ∷ []) t n (k on) r noted_so) noted_so
  where
    go : (x : Ending N)
        → (GoesOn x → SeesAll (own_from s i next (given (meant_below s i d c).content (opened c d (over ss g)))))
        → AllKnown (g.trace ++ Entered c d ∷ [])
        → SeesAll (unless_halted (own_from s i next (given (meant_below s i d c).content (opened c d (over ss g))))
        (given (meant_below s i d c).content (opened c d (over ss g))) x)
    go Finished f b = f tt
    go (Gave v) f b = f tt
    go (Halted why) f b = b

pub none_serves_refused : {N : Type 0} (s : Setting N) (i : Instantiation N) (k : Kept N) (front more : List (Event N)) (w : Wanted) (d : ℕ)
    (l : Place) (why : Refused) → (own_of s i).going.trace ≡ front ++ Saw w d l (Failed why) ∷ more → Serves s i k → ⊥
none_serves_refused {N = N} s i k front more w d l why trace serves =
    let p = path s i k serves.fits in
    let A : List (Event N) → Type 0 = λ es. AllKnown es in
    none_refused front w d l why more (subst A trace (served_known s i [] p.trail refl serves.reads p.fits tt))
