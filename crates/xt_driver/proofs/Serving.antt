-- Going along a record: how far its reads hold, here and wherever what is remembered holds.
use Rattle.std.proofs.Common.{◌≡◌, ℕ, zero, suc, ◌+◌, ◌-◌, ◌≤◌, List, [], ◌∷◌, ◌++◌, length, drop, refl, sym, ap, subst, ◌∙◌, arith, length-append}
use Rattle.std.specs.Prelude.{true, unwrap_or}
use Rattle.spec_document.specs.Name.{Expanded}
use Rattle.spec_stylesheet.specs.Place.{Place}
use Rattle.spec_meaning.specs.Stream.{Stream, Ended, Hole, filled, holes}
use Rattle.spec_meaning.specs.Value.{Value}
use Rattle.spec_meaning.specs.Question.{Question, Answer}
use Rattle.spec_meaning.specs.Program.{Wanted, Position, Size, Rule, Global, Counted, Ruled, Valued}
use Rattle.spec_run.specs.Plan.{Call, aside_of, Plan}
use Rattle.spec_run.specs.Direct.{Supplied, Known, Ending, Finished, Gave, Halted, Outcome}
use Rattle.spec_run.specs.Going.{Event, Asked, Saw, Entered, Held, Going, closed}
use Rattle.spec_run.specs.Hold.{GoesOn, Hold}
use Rattle.spec_run.specs.Cut.{cut}
use Rattle.spec_run.specs.Trail.{Trail, finishes, gives, asks, uses, puts, begins, wraps, takes, deepens, enters, Kept, IsTrue}
use Rattle.spec_run.specs.Meaning.{Setting, Past, current_by, settled, meaning}
use Rattle.spec_run.proofs.More.{meaning_at}
use Rattle.spec_run.proofs.Streams.{no_holes}
use Rattle.spec_run.proofs.Cuts.{closed_holes, wrapped_holes, aside_holes}
use Rattle.spec_node.specs.declared.node_ref.NodeRef.{NodeRef}
use Rattle.spec_reuse.specs.Instantiation.{Instantiation, given_to, meant_below}
use Rattle.spec_reuse.specs.Serving.{IsOf, ReadsHold, Serves, unless_refused, comes_along}
use Rattle.spec_reuse.proofs.Served.{served_means}
use Rattle.xt_driver.specs.Remembered.{Entry, Suits, Remembers, Keeps, Lasts, GivesAlways}
use Rattle.xt_record.specs.View.{AsksHold}
use Rattle.xt_driver.specs.Along.{halts}
use Rattle.xt_driver.specs.Followed.{entered_in, IsAlong, at_place, IsFollowed, cut_with, EndsWith}
use Rattle.xt_driver.proofs.Less.{referred_at}
use Rattle.xt_driver.proofs.Remembering.{keeps_all, keeps_on, suits_here, suits_more}

-- ---- As many holes as were entered

trail_holes : {p : Plan NodeRef} {g h : Going NodeRef} {es : List (Event NodeRef)} {e : Ending NodeRef} → Trail p g es h e
    → holes (closed h) ≡ holes (closed g) + entered_in es
trail_holes finishes = omega arith
trail_holes gives = omega arith
trail_holes (asks t) = trail_holes t
trail_holes (uses t) = trail_holes t
trail_holes {g = g} (puts {items = items} t) =
    let i = trail_holes t in
    let more = closed_holes g.outer g.top (filled items []) in
    let no_more = no_holes items in
    omega (arith, i, more, no_more)
trail_holes {g = g} (begins t) =
    let i = trail_holes t in
    let more = closed_holes g.outer g.top (aside_of Ended) in
    let no_more : holes (aside_of Ended) ≡ 0 = refl in
    omega (arith, i, more, no_more)
trail_holes {g = g} (wraps {how = how} {es = es} t) = trail_holes t ∙ ap (λ n. n + entered_in es) (wrapped_holes how g.top g.outer)
trail_holes {g = g} (takes {es = es} k t) = trail_holes t ∙ ap (λ n. n + entered_in es) (aside_holes g.top g.outer)
trail_holes (deepens t) = trail_holes t
trail_holes {g = g} (enters s t) =
    let i = trail_holes t in
    let more = closed_holes g.outer g.top (Hole Ended) in
    omega (arith, i, more)

pub true_holes : (s : Setting NodeRef) (k : Kept NodeRef) → IsTrue s.same k → holes k.content ≡ entered_in k.trace
true_holes s k h =
    let i = trail_holes h.trail in
    let content : k.content ≡ closed h.last = ap (λ (x : Kept NodeRef). x.content) h.is in
    let same = ap holes content in
    omega (arith, i, same)

-- ---- At one place

along_asked : {s : Setting NodeRef} {i : Instantiation NodeRef} {k : Kept NodeRef} {ss : List Stream} {q : Question NodeRef} {a : Answer NodeRef} {es : List (Event NodeRef)}
    → s.ask q ≡ a → IsAlong s i k ss (Asked q a ∷ es) → IsAlong s i k ss es
along_asked e h = record { reads = λ r. h.reads (e, r); comes = h.comes }

along_saw : {s : Setting NodeRef} {i : Instantiation NodeRef} {k : Kept NodeRef} {ss : List Stream} {w : Wanted} {d : ℕ} {p : Place} {x : Supplied NodeRef} {es : List (Event NodeRef)}
    → given_to s i w d p ≡ x → IsAlong s i k ss (Saw w d p x ∷ es) → IsAlong s i k ss es
along_saw e h = record { reads = λ r. h.reads (e, r); comes = h.comes }

along_held : {s : Setting NodeRef} {i : Instantiation NodeRef} {k : Kept NodeRef} {ss : List Stream} {first : ℕ} {contents : List Stream} {es : List (Event NodeRef)}
    → drop first ss ≡ contents → IsAlong s i k ss (Held first contents ∷ es) → IsAlong s i k ss es
along_held e h = record { reads = λ r. h.reads (e, r); comes = h.comes }

along_entered : {s : Setting NodeRef} {i : Instantiation NodeRef} {k : Kept NodeRef} {ss : List Stream} {c : Call NodeRef} {d : ℕ} {es : List (Event NodeRef)} (o : Outcome NodeRef)
    → meant_below s i d c ≡ o → GoesOn o.ending → IsAlong s i k ss (Entered c d ∷ es) → IsAlong s i k (ss ++ o.content ∷ []) es
along_entered {s = s} {i = i} {k = k} {ss = ss} {es = es} o e on h =
    let R : Outcome NodeRef → Type 0 = λ x. ReadsHold s.ask (given_to s i) (meant_below s i) (ss ++ x.content ∷ []) es in
    record { reads = λ r. h.reads (λ goes. subst R (sym e) r); comes = h.comes ∙ ap after e ∙ goes_on o.ending on }
  where
    after : Outcome NodeRef → Outcome NodeRef
    after x = unless_refused (comes_along k.content k.ending (meant_below s i) (ss ++ x.content ∷ []) es) (filled (cut (length ss) k.content) (ss ++ x.content ∷ [])) x.ending

    goes_on : (x : Ending NodeRef) → GoesOn x
        → unless_refused (comes_along k.content k.ending (meant_below s i) (ss ++ o.content ∷ []) es) (filled (cut (length ss) k.content) (ss ++ o.content ∷ [])) x
        ≡ comes_along k.content k.ending (meant_below s i) (ss ++ o.content ∷ []) es
    goes_on Finished y = refl
    goes_on (Gave v) y = refl
    goes_on (Halted why) y = absurd y

-- ---- Wherever what is remembered holds

pub followed_begun : (s : Setting NodeRef) (i : Instantiation NodeRef) (all : List (Entry NodeRef)) (spare : ℕ) (k : Kept NodeRef) {ss : List Stream}
    → Remembers s i.past all → AsksHold s.ask k.trace → IsTrue s.same k → ss ≡ [] → IsFollowed s i all all spare k ss k.trace
followed_begun s i all spare k h asked lasting none =
    let P : List Stream → Type 0 = λ x. IsFollowed s i all all spare k x k.trace in
    let many = true_holes s k lasting in
    subst P (sym none) (record {
      keeps = keeps_all h;
      along = λ below past low suits. record { reads = λ r. r; comes = refl };
      asks = asked;
      even = omega (arith, many);
    })

-- what is no read of what is entered, nor of a global
abbrev pub HoldsHere : Call NodeRef → List Stream → Event NodeRef → Type 0
HoldsHere c ss (Asked question answer) = Unit {0}
HoldsHere c ss (Saw Position depth place supplied) = Known (Counted (unwrap_or c.position 1)) ≡ supplied
HoldsHere c ss (Saw Size depth place supplied) = Known (Counted (unwrap_or c.size 1)) ≡ supplied
HoldsHere c ss (Saw Rule depth place supplied) = Known (Ruled (current_by c.ruling)) ≡ supplied
HoldsHere c ss (Saw (Global name) depth place supplied) = ⊥
HoldsHere c ss (Entered call depth) = ⊥
HoldsHere c ss (Held first contents) = drop first ss ≡ contents

pub followed_held : (s : Setting NodeRef) (i : Instantiation NodeRef) (first all : List (Entry NodeRef)) (spare : ℕ) (k : Kept NodeRef) (ss : List Stream)
    (e : Event NodeRef) (es : List (Event NodeRef))
    → IsFollowed s i first all spare k ss (e ∷ es) → HoldsHere i.call ss e → IsFollowed s i first all spare k ss es
followed_held s i first all spare k ss (Asked q a) es h here =
    let asked = h.asks in
    record { keeps = h.keeps; along = λ below past low suits. along_asked asked.0 (h.along below past low suits); asks = asked.1; even = h.even }
followed_held s i first all spare k ss (Saw Position d p x) es h here =
    record { keeps = h.keeps; along = λ below past low suits. along_saw here (h.along below past low suits); asks = h.asks; even = h.even }
followed_held s i first all spare k ss (Saw Size d p x) es h here =
    record { keeps = h.keeps; along = λ below past low suits. along_saw here (h.along below past low suits); asks = h.asks; even = h.even }
followed_held s i first all spare k ss (Saw Rule d p x) es h here =
    record { keeps = h.keeps; along = λ below past low suits. along_saw here (h.along below past low suits); asks = h.asks; even = h.even }
followed_held s i first all spare k ss (Saw (Global name) d p x) es h here = absurd here
followed_held s i first all spare k ss (Entered c d) es h here = absurd here
followed_held s i first all spare k ss (Held j xs) es h here =
    record { keeps = h.keeps; along = λ below past low suits. along_held here (h.along below past low suits); asks = h.asks; even = h.even }

-- what was entered goes on
pub followed_entered : (s : Setting NodeRef) (i : Instantiation NodeRef) (first all new : List (Entry NodeRef)) (spare fewer less : ℕ) (k : Kept NodeRef)
    (ss : List Stream) (c inner : Call NodeRef) (d left : ℕ) (o : Outcome NodeRef) (es : List (Event NodeRef))
    → IsFollowed s i first all spare k ss (Entered c d ∷ es) → Keeps s i.past all new → inner ≡ settled i.call c → left ≡ i.below - d
    → Lasts s i.past (left - less) new inner o → GoesOn o.ending
    → fewer ≤ spare → fewer ≤ less → IsFollowed s i first new fewer k (ss ++ o.content ∷ []) es
followed_entered s i first all new spare fewer less k ss c inner d left o es h kept same room lasts on m n =
    let even = h.even in
    let longer = length-append ss (o.content ∷ []) in
    record {
      keeps = keeps_on h.keeps kept;
      along = λ below past low suits. along_entered o
          (ap (meaning s below past d) (sym same) ∙ meaning_at s below past d inner ∙ lasts.so on (below - d) past (omega (arith, low, n, room)) suits)
          on (h.along below past (omega (arith, low, m)) (suits_more kept.more suits));
      asks = h.asks;
      even = omega (arith, even, longer);
    }

-- it is refused

pub no_end : (e : Ending NodeRef) → halts e ≡ true → GoesOn e → ⊥
no_end Finished h on = cc
no_end (Gave v) h on = cc
no_end (Halted why) h on = on

with_it : (o : Outcome NodeRef) (t : Stream) (e : Ending NodeRef) → halts e ≡ true → unless_refused o t e ≡ record { content = t; ending = e }
with_it o t Finished h = absurd (cc)
with_it o t (Gave v) h = absurd (cc)
with_it o t (Halted why) h = refl

pub followed_refused : (s : Setting NodeRef) (i : Instantiation NodeRef) (first all : List (Entry NodeRef)) (spare : ℕ) (k : Kept NodeRef)
    (ss : List Stream) (c inner : Call NodeRef) (d left : ℕ) (o : Outcome NodeRef) (es : List (Event NodeRef))
    → IsFollowed s i first all spare k ss (Entered c d ∷ es) → inner ≡ settled i.call c → left ≡ i.below - d
    → o ≡ meaning s left i.past 0 inner → halts o.ending ≡ true → EndsWith s i k (ss ++ o.content ∷ []) o.ending
followed_refused s i first all spare k ss c inner d left o es h same room is stops =
    let even = h.even in
    let longer = length-append ss (o.content ∷ []) in
    record { some = omega (arith, longer); fit = omega (arith, even, longer); stops = stops; means = means }
  where
    after : Outcome NodeRef → Outcome NodeRef
    after x = unless_refused (comes_along k.content k.ending (meant_below s i) (ss ++ x.content ∷ []) es) (filled (cut (length ss) k.content) (ss ++ x.content ∷ [])) x.ending

    means : IsTrue s.same k → IsOf i.call k → k.height ≤ i.below → meaning s (suc i.below) i.past 0 i.call ≡ cut_with k (ss ++ o.content ∷ []) o.ending
    means lasting of high =
        let x = at_place i i.below i.past in
        let a = h.along i.below i.past (omega arith) (suits_here h.keeps.remembers.fits) in
        let came : meant_below s x d c ≡ o
        = ap (meaning s i.below i.past d) (sym same) ∙ meaning_at s i.below i.past d inner ∙ ap (λ n. meaning s n i.past 0 inner) (sym room) ∙ sym is in
        let G : Outcome NodeRef → Type 0 = λ y. GoesOn y.ending in
        let serves : Serves s x k = record {
          fits = record { lasting = lasting; of_call = of; levels = high };
          reads = a.reads (λ on. absurd (no_end o.ending stops (subst G came on)));
        } in
        let longer = length-append ss (o.content ∷ []) in
        let last : length ss ≡ length (ss ++ o.content ∷ []) - 1 = omega (arith, longer) in
        served_means s x k serves ∙ a.comes ∙ ap after came ∙ with_it _ _ o.ending stops
        ∙ ap (λ n. record { content = filled (cut n k.content) (ss ++ o.content ∷ []); ending = o.ending }) last

-- the global has the value that was seen
pub followed_referred : (s : Setting NodeRef) (i : Instantiation NodeRef) (first all new : List (Entry NodeRef)) (spare fewer less : ℕ) (k : Kept NodeRef)
    (ss : List Stream) (name : Expanded) (d left : ℕ) (p : Place) (v : Value NodeRef) (es : List (Event NodeRef))
    → IsFollowed s i first all spare k ss (Saw (Global name) d p (Known (Valued v)) ∷ es) → Keeps s i.past all new → left ≡ i.below - d
    → GivesAlways s i.past.values new name (left - less) v
    → fewer ≤ spare → fewer ≤ less → IsFollowed s i first new fewer k ss es
followed_referred s i first all new spare fewer less k ss name d left p v es h kept room given m n = record {
  keeps = keeps_on h.keeps kept;
  along = λ below past low suits. along_saw (sym (referred_at s below past name d (below - d) p refl) ∙ given (below - d) past p (omega (arith, low, n, room)) suits)
      (h.along below past (omega (arith, low, m)) (suits_more kept.more suits));
  asks = h.asks;
  even = h.even;
}

-- ---- At the end

-- with these streams in its holes
abbrev pub filled_with : Kept NodeRef → List Stream → Outcome NodeRef
filled_with k ss = record { content = filled k.content ss; ending = k.ending }

served_there : (s : Setting NodeRef) (i : Instantiation NodeRef) (first all : List (Entry NodeRef)) (spare : ℕ) (k : Kept NodeRef) (ss : List Stream)
    → IsFollowed s i first all spare k ss [] → IsTrue s.same k → IsOf i.call k
    → (below : ℕ) (past : Past NodeRef) → i.below - spare ≤ below → k.height ≤ below → Suits i.past.values all past
    → meaning s (suc below) past zero i.call ≡ filled_with k ss
served_there s i first all spare k ss h lasting of below past low high suits =
    let x = at_place i below past in
    let a = h.along below past low suits in
    let serves : Serves s x k = record { fits = record { lasting = lasting; of_call = of; levels = high }; reads = a.reads tt } in
    served_means s x k serves ∙ a.comes

pub followed_means : (s : Setting NodeRef) (i : Instantiation NodeRef) (first all : List (Entry NodeRef)) (spare : ℕ) (k : Kept NodeRef) (ss : List Stream)
    → IsFollowed s i first all spare k ss [] → IsTrue s.same k → IsOf i.call k → k.height ≤ i.below
    → meaning s (suc i.below) i.past zero i.call ≡ filled_with k ss
followed_means s i first all spare k ss h lasting of high = served_there s i first all spare k ss h lasting of i.below i.past (omega arith) high (suits_here h.keeps.remembers.fits)

pub followed_lasts : (s : Setting NodeRef) (i : Instantiation NodeRef) (first all : List (Entry NodeRef)) (spare least : ℕ) (k : Kept NodeRef)
    (ss : List Stream) (o : Outcome NodeRef)
    → IsFollowed s i first all spare k ss [] → IsTrue s.same k → IsOf i.call k → k.height ≤ i.below → least ≤ spare → least ≤ i.below - k.height
    → o ≡ filled_with k ss → Lasts s i.past (suc i.below - least) all i.call o
followed_lasts s i first all spare least k ss o h lasting of high m n is = record { so = λ on r past low suits. at_room r past low suits }
  where
    at_room : (r : ℕ) (past : Past NodeRef) → suc i.below - least ≤ r → Suits i.past.values all past → meaning s r past zero i.call ≡ o
    at_room zero past low suits = absurd (omega (arith, low, n))
    at_room (suc below) past low suits =
        served_there s i first all spare k ss h lasting of below past (omega (arith, low, m)) (omega (arith, low, n, high)) suits ∙ sym is

-- ---- What an engine ran to its end

pub holds_asked : (ask : Question NodeRef → Answer NodeRef) (supply : Wanted → ℕ → Place → Supplied NodeRef) (nested : ℕ → Call NodeRef → Outcome NodeRef)
    (ss : List Stream) (es : List (Event NodeRef)) → Hold ask supply nested ss es → AsksHold ask es
holds_asked ask supply nested ss [] h = tt
holds_asked ask supply nested ss (Asked q a ∷ es) h = (h.0, holds_asked ask supply nested ss es h.1)
holds_asked ask supply nested ss (Saw w d p x ∷ es) h = holds_asked ask supply nested ss es h.1
holds_asked ask supply nested ss (Entered c d ∷ es) h = holds_asked ask supply nested (ss ++ (nested d c).content ∷ []) es h.1
holds_asked ask supply nested ss (Held j xs ∷ es) h = holds_asked ask supply nested ss es h.1
