-- What stood before a hole when it was opened stands before it in the end.
use Rattle.std.proofs.Common.{◌≡◌, ℕ, zero, suc, ◌+◌, ◌-◌, ◌≤◌, ◌<◌, List, [], ◌∷◌, length, Bool, true, false, cond, refl, sym, ap, ◌∙◌, arith, length-append}
use Rattle.std.specs.Prelude.{nat_lt}
use Rattle.std.proofs.lemmas.Bool.{ltb-true, ltb-false, lt-ltb, le-ltb}
use Rattle.spec_meaning.specs.Stream.{Stream, Ended, Element, Nameless, Attribute, Namespace, Text, Comment, Instruction, Message, Hole, followed, filled, holes}
use Rattle.spec_run.specs.Plan.{Call, Wrapping, AsElement, AsNameless, AsAttribute, AsComment, AsInstruction, AsMessage, wrapped, aside_of, Plan}
use Rattle.spec_run.specs.Direct.{Ending, top_after, outer_after, closed_in}
use Rattle.spec_run.specs.Going.{Event, Going, opened, given, closed}
use Rattle.spec_run.specs.Trail.{Trail, finishes, gives, asks, uses, puts, begins, wraps, takes, deepens, enters}
use Rattle.spec_run.specs.Cut.{cut}
use Rattle.spec_run.proofs.Streams.{holes_followed, no_holes}

-- ---- Two streams, one after another

within : (K : Stream → Stream → Stream) (j : ℕ) (k a b : Stream) → (nat_lt j (holes k) ≡ false → a ≡ b)
    → cond (nat_lt j (holes k)) (aside_of (cut j k)) (K k a) ≡ cond (nat_lt j (holes k)) (aside_of (cut j k)) (K k b)
within K j k a b f = go (nat_lt j (holes k)) f
  where
    go : (t : Bool) → (t ≡ false → a ≡ b) → cond t (aside_of (cut j k)) (K k a) ≡ cond t (aside_of (cut j k)) (K k b)
    go true g = refl
    go false g = ap (K k) (g refl)

past : (K : Stream → Stream → Stream) (j : ℕ) (k a b : Stream) → holes k ≤ j → a ≡ b → cond (nat_lt j (holes k)) (aside_of (cut j k)) (K k a) ≡ K k b
past K j k a b h e = rw (le-ltb j (holes k) h) (ap (K k) e)

inside : (j m n : ℕ) → nat_lt j m ≡ false → j < m + n → j - m < n
inside j m n f h = let g = ltb-false j m f in omega (arith, g, h)

-- within the first
pub cut_front : (j : ℕ) (a b : Stream) → j < holes a → cut j (followed a b) ≡ cut j a
cut_front j Ended b h = absurd (omega (arith, h))
cut_front j (Element n u ns k r) b h = within (Element n u ns) j k (cut (j - holes k) (followed r b)) (cut (j - holes k) r) (λ e. cut_front (j - holes k) r b (inside j (holes k) (holes r) e h))
cut_front j (Nameless k r) b h = within Nameless j k (cut (j - holes k) (followed r b)) (cut (j - holes k) r) (λ e. cut_front (j - holes k) r b (inside j (holes k) (holes r) e h))
cut_front j (Attribute n u k r) b h = within (Attribute n u) j k (cut (j - holes k) (followed r b)) (cut (j - holes k) r) (λ e. cut_front (j - holes k) r b (inside j (holes k) (holes r) e h))
cut_front j (Comment k r) b h = within Comment j k (cut (j - holes k) (followed r b)) (cut (j - holes k) r) (λ e. cut_front (j - holes k) r b (inside j (holes k) (holes r) e h))
cut_front j (Instruction t k r) b h = within (Instruction t) j k (cut (j - holes k) (followed r b)) (cut (j - holes k) r) (λ e. cut_front (j - holes k) r b (inside j (holes k) (holes r) e h))
cut_front j (Message k r) b h = within Message j k (cut (j - holes k) (followed r b)) (cut (j - holes k) r) (λ e. cut_front (j - holes k) r b (inside j (holes k) (holes r) e h))
cut_front j (Namespace p u r) b h = ap (Namespace p u) (cut_front j r b h)
cut_front j (Text t r) b h = ap (Text t) (cut_front j r b h)
cut_front zero (Hole r) b h = refl
cut_front (suc j) (Hole r) b h = ap Hole (cut_front (suc j - 1) r b (omega (arith, h)))

after_rest : (j : ℕ) (k r b : Stream) → cut (j - holes k) (followed r b) ≡ followed r (cut (j - holes k - holes r) b) → cut (j - holes k) (followed r b) ≡ followed r (cut (j - (holes k + holes r)) b)
after_rest j k r b e = let same : j - holes k - holes r ≡ j - (holes k + holes r) = omega arith in e ∙ ap (λ i. followed r (cut i b)) same

-- past the first
pub cut_back : (j : ℕ) (a b : Stream) → holes a ≤ j → cut j (followed a b) ≡ followed a (cut (j - holes a) b)
cut_back j Ended b h = let e : j ≡ j - 0 = omega arith in ap (λ i. cut i b) e
cut_back j (Element n u ns k r) b h =
    past (Element n u ns) j k (cut (j - holes k) (followed r b)) (followed r (cut (j - (holes k + holes r)) b)) (omega (arith, h)) (after_rest j k r b (cut_back (j - holes k) r b (omega (arith, h))))
cut_back j (Nameless k r) b h =
    past Nameless j k (cut (j - holes k) (followed r b)) (followed r (cut (j - (holes k + holes r)) b)) (omega (arith, h)) (after_rest j k r b (cut_back (j - holes k) r b (omega (arith, h))))
cut_back j (Attribute n u k r) b h =
    past (Attribute n u) j k (cut (j - holes k) (followed r b)) (followed r (cut (j - (holes k + holes r)) b)) (omega (arith, h)) (after_rest j k r b (cut_back (j - holes k) r b (omega (arith, h))))
cut_back j (Comment k r) b h =
    past Comment j k (cut (j - holes k) (followed r b)) (followed r (cut (j - (holes k + holes r)) b)) (omega (arith, h)) (after_rest j k r b (cut_back (j - holes k) r b (omega (arith, h))))
cut_back j (Instruction t k r) b h =
    past (Instruction t) j k (cut (j - holes k) (followed r b)) (followed r (cut (j - (holes k + holes r)) b)) (omega (arith, h)) (after_rest j k r b (cut_back (j - holes k) r b (omega (arith, h))))
cut_back j (Message k r) b h =
    past Message j k (cut (j - holes k) (followed r b)) (followed r (cut (j - (holes k + holes r)) b)) (omega (arith, h)) (after_rest j k r b (cut_back (j - holes k) r b (omega (arith, h))))
cut_back j (Namespace p u r) b h = ap (Namespace p u) (cut_back j r b h)
cut_back j (Text t r) b h = ap (Text t) (cut_back j r b h)
cut_back zero (Hole r) b h = absurd (omega (arith, h))
cut_back (suc j) (Hole r) b h =
    let e : suc j - 1 - holes r ≡ suc j - (1 + holes r) = omega arith in
    ap Hole (cut_back (suc j - 1) r b (omega (arith, h)) ∙ ap (λ i. followed r (cut i b)) e)

-- ---- A stream that goes on: what stands before a hole stays

pub record Extends (s t : Stream) : Type 0 where
  pub more : holes s ≤ holes t
  pub same : (j : ℕ) → j < holes s → cut j t ≡ cut j s

pub extends_same : (s : Stream) → Extends s s
extends_same s = record { more = omega arith; same = λ j h. refl }

pub extends_then : {a b c : Stream} → Extends a b → Extends b c → Extends a c
extends_then {a = a} {b = b} e f =
    let m = e.more in
    let n = f.more in
    record { more = omega (arith, m, n); same = λ j h. f.same j (omega (arith, m, h)) ∙ e.same j h }

pub extends_more : (s t : Stream) → Extends s (followed s t)
extends_more s t = let h = holes_followed s t in record { more = omega (arith, h); same = λ j k. cut_front j s t k }

-- an item whose content is a sink
open_as : (K : Stream → Stream → Stream) (s : Stream) → holes (K s Ended) ≡ holes s + 0 → ((j : ℕ) → cut j (K s Ended) ≡ cond (nat_lt j (holes s)) (aside_of (cut j s)) (K s Ended)) → Extends (aside_of s) (K s Ended)
open_as K s n c = record { more = omega (arith, n); same = λ j h. c j ∙ under j (omega (arith, h)) }
  where
    under : (j : ℕ) → j < holes s → cond (nat_lt j (holes s)) (aside_of (cut j s)) (K s Ended) ≡ cut j (aside_of s)
    under j h = let t : nat_lt j (holes s) ≡ true = lt-ltb j (holes s) h in rw t refl

-- a sink that is still open counts for its messages, until it is wrapped
open_in : (how : Wrapping) (s : Stream) → Extends (aside_of s) (wrapped how s)
open_in (AsElement n u ns) s = open_as (Element n u ns) s refl (λ j. refl)
open_in AsNameless s = open_as Nameless s refl (λ j. refl)
open_in (AsAttribute n u) s = open_as (Attribute n u) s refl (λ j. refl)
open_in AsComment s = open_as Comment s refl (λ j. refl)
open_in (AsInstruction t) s = open_as (Instruction t) s refl (λ j. refl)
open_in AsMessage s = open_as Message s refl (λ j. refl)

extends_aside : {s t : Stream} → Extends s t → Extends (aside_of s) (aside_of t)
extends_aside {s = s} {t = t} e =
    let m = e.more in
    record { more = omega (arith, m); same = λ j h. both j (omega (arith, h)) (omega (arith, h, m)) (e.same j (omega (arith, h))) }
  where
    both : (j : ℕ) → j < holes s → j < holes t → cut j t ≡ cut j s → cut j (aside_of t) ≡ cut j (aside_of s)
    both j h k c =
        let a : nat_lt j (holes s) ≡ true = lt-ltb j (holes s) h in
        let b : nat_lt j (holes t) ≡ true = lt-ltb j (holes t) k in
        rw (a, b) (ap aside_of c)

extends_followed : (o : Stream) {a b : Stream} → Extends a b → Extends (followed o a) (followed o b)
extends_followed o {a = a} {b = b} e =
    let m = e.more in
    let h = holes_followed o a in
    let i = holes_followed o b in
    record { more = omega (arith, m, h, i); same = λ j k. go j (nat_lt j (holes o)) refl (omega (arith, k, h)) }
  where
    go : (j : ℕ) (c : Bool) → nat_lt j (holes o) ≡ c → j < holes o + holes a → cut j (followed o b) ≡ cut j (followed o a)
    go j true t k = let l : j < holes o = ltb-true j (holes o) t in cut_front j o b l ∙ sym (cut_front j o a l)
    go j false t k = let l : holes o ≤ j = ltb-false j (holes o) t in cut_back j o b l ∙ ap (followed o) (e.same (j - holes o) (omega (arith, l, k))) ∙ sym (cut_back j o a l)

pub extends_closed : (os : List Stream) {s t : Stream} → Extends s t → Extends (closed_in s os) (closed_in t os)
extends_closed [] e = e
extends_closed (o ∷ os) e = extends_closed os (extends_followed o (extends_aside e))

wrapped_on : (how : Wrapping) (s : Stream) (os : List Stream) → Extends (closed_in s os) (closed_in (top_after (wrapped how s) s os) (outer_after os))
wrapped_on how s [] = extends_same s
wrapped_on how s (o ∷ os) = extends_closed os (extends_followed o (open_in how s))

aside_on : (s : Stream) (os : List Stream) → Extends (closed_in s os) (closed_in (top_after (aside_of s) s os) (outer_after os))
aside_on s [] = extends_same s
aside_on s (o ∷ os) = extends_same (closed_in s (o ∷ os))

-- what is closed now goes on to what is closed in the end
pub trail_extends : {N : Type 0} {p : Plan N} {g h : Going N} {es : List (Event N)} {e : Ending N} → Trail p g es h e → Extends (closed g) (closed h)
trail_extends {g = g} finishes = extends_same (closed g)
trail_extends {g = g} gives = extends_same (closed g)
trail_extends (asks t) = trail_extends t
trail_extends (uses t) = trail_extends t
trail_extends {g = g} (puts {items = s} t) = extends_then (extends_closed g.outer (extends_more g.top (filled s []))) (trail_extends t)
trail_extends {g = g} (begins t) = extends_then (extends_closed g.outer (extends_more g.top (aside_of Ended))) (trail_extends t)
trail_extends {g = g} (wraps {how = how} t) = extends_then (wrapped_on how g.top g.outer) (trail_extends t)
trail_extends {g = g} (takes i t) = extends_then (aside_on g.top g.outer) (trail_extends t)
trail_extends (deepens t) = trail_extends t
trail_extends {g = g} (enters s t) = extends_then (extends_closed g.outer (extends_more g.top (Hole Ended))) (trail_extends t)

-- ---- A hole for each stream

closed_more : (os : List Stream) (s t : Stream) (n : ℕ) → holes t ≡ holes s + n → holes (closed_in t os) ≡ holes (closed_in s os) + n
closed_more [] s t n e = e
closed_more (o ∷ os) s t n e =
    let h = holes_followed o (aside_of s) in
    let i = holes_followed o (aside_of t) in
    closed_more os (followed o (aside_of s)) (followed o (aside_of t)) n (omega (arith, h, i, e))

-- after what is put behind the innermost sink
pub closed_holes : (os : List Stream) (s t : Stream) → holes (closed_in (followed s t) os) ≡ holes (closed_in s os) + holes t
closed_holes os s t = closed_more os s (followed s t) (holes t) (holes_followed s t)

holes_of_wrapped : (how : Wrapping) (s : Stream) → holes (wrapped how s) ≡ holes s + 0
holes_of_wrapped (AsElement n u ns) s = refl
holes_of_wrapped AsNameless s = refl
holes_of_wrapped (AsAttribute n u) s = refl
holes_of_wrapped AsComment s = refl
holes_of_wrapped (AsInstruction t) s = refl
holes_of_wrapped AsMessage s = refl

pub wrapped_holes : (how : Wrapping) (s : Stream) (os : List Stream) → holes (closed_in (top_after (wrapped how s) s os) (outer_after os)) ≡ holes (closed_in s os)
wrapped_holes how s [] = refl
wrapped_holes how s (o ∷ os) =
    let a = holes_followed o (aside_of s) in
    let b = holes_followed o (wrapped how s) in
    let c = holes_of_wrapped how s in
    let h = closed_more os (followed o (aside_of s)) (followed o (wrapped how s)) 0 (omega (arith, a, b, c)) in
    omega (arith, h)

pub aside_holes : (s : Stream) (os : List Stream) → holes (closed_in (top_after (aside_of s) s os) (outer_after os)) ≡ holes (closed_in s os)
aside_holes s [] = refl
aside_holes s (o ∷ os) = refl

-- on a trail there is a hole for each stream, from its beginning on
pub trail_holes : {N : Type 0} {p : Plan N} {g h : Going N} {es : List (Event N)} {e : Ending N} → Trail p g es h e → holes (closed g) ≡ length g.streams → holes (closed h) ≡ length h.streams
trail_holes finishes n = n
trail_holes gives n = n
trail_holes (asks t) n = trail_holes t n
trail_holes (uses t) n = trail_holes t n
trail_holes {g = g} (puts {items = s} t) n =
    let h = closed_holes g.outer g.top (filled s []) in
    let i = no_holes s in
    trail_holes t (omega (arith, h, i, n))
trail_holes {g = g} (begins t) n = let h = closed_holes g.outer g.top (aside_of Ended) in trail_holes t (omega (arith, h, n))
trail_holes {g = g} (wraps {how = how} t) n = trail_holes t (wrapped_holes how g.top g.outer ∙ n)
trail_holes {g = g} (takes i t) n = trail_holes t (aside_holes g.top g.outer ∙ n)
trail_holes (deepens t) n = trail_holes t n
trail_holes {g = g} (enters s t) n =
    let h = closed_holes g.outer g.top (Hole Ended) in
    let i = length-append g.streams (s ∷ []) in
    trail_holes t (omega (arith, h, i, n))

-- ---- The last hole, which nothing stands behind

record IsLast (n : ℕ) (t : Stream) : Type 0 where
  lies : n < holes t
  same : cut n t ≡ t

last_closed : (os : List Stream) (s t : Stream) → IsLast (holes s) t → IsLast (holes (closed_in s os)) (closed_in t os)
last_closed [] s t l = l
last_closed (o ∷ os) s t l =
    let m = l.lies in
    let a = holes_followed o (aside_of s) in
    let b = holes_followed o (aside_of t) in
    let n = holes (followed o (aside_of s)) in
    let i : n - holes o ≡ holes s = omega (arith, a) in
    let j : nat_lt (holes s) (holes t) ≡ true = lt-ltb (holes s) (holes t) m in
    let inner : cut (holes s) (aside_of t) ≡ aside_of t = rw j (ap aside_of l.same) in
    last_closed os (followed o (aside_of s)) (followed o (aside_of t)) (record {
      lies = omega (arith, a, b, m);
      same = cut_back n o (aside_of t) (omega (arith, a)) ∙ ap (λ k. followed o (cut k (aside_of t))) i ∙ ap (followed o) inner;
    })

last_put : (s : Stream) → IsLast (holes s) (followed s (Hole Ended))
last_put s =
    let a = holes_followed s (Hole Ended) in
    let i : holes s - holes s ≡ 0 = omega arith in
    record {
      lies = omega (arith, a);
      same = cut_back (holes s) s (Hole Ended) (omega arith) ∙ ap (λ k. followed s (cut k (Hole Ended))) i;
    }

-- what stood before a hole when it had just been opened is what the finished stream has before it
pub cut_there : {N : Type 0} (p : Plan N) (g h : Going N) (es : List (Event N)) (e : Ending N) (c : Call N) (d : ℕ) (s : Stream)
    → Trail p (given s (opened c d g)) es h e → holes (closed g) ≡ length g.streams → cut (length g.streams) (closed h) ≡ closed (opened c d g)
cut_there p g h es e c d s t n =
    let m = closed_holes g.outer g.top (Hole Ended) in
    (trail_extends t).same (length g.streams) (omega (arith, n, m))
    ∙ ap (λ i. cut i (closed (opened c d g))) (sym n)
    ∙ (last_closed g.outer g.top (followed g.top (Hole Ended)) (last_put g.top)).same
